-- Each tag of the general record stands at most once. Assumes nothing.
use mathlib.Core.Path.{◌≡◌, refl, sym, ap}
use mathlib.Core.Bool.{Bool, true, false}
use mathlib.Core.List.{List, [], ◌∷◌}
use mathlib.Core.Option.{Option, some, none}
use Prim.Native.Nat.{ℕ, zero, suc, ◌+◌, ◌≤◌}
use native.Mathlib.Omega.{arith}
use borrow.Author.Tests.{eqb-true, eq-eqb}
use lib.Dec.{eqb}
use lib.ListN.{length, get_or}
use Rattle.base.specs.Choice.{pick}
use Rattle.base.specs.Check.{pass}
use Rattle.base.specs.Lists.{each, gather, empty}
use Rattle.base.proofs.ListLaws.{none_long}
use Rattle.skeleton.specs.File.{Field}
use Rattle.rules.specs.Tags.{DSID, general_tags}
use Rattle.rules.specs.ByTag.{with_tag}
use Rattle.rules.specs.Kind.{Row, once, general_rows}
use Rattle.rules.specs.Grammar.{rows_after, on_rows, in_order}
use Rattle.rules.specs.General.{general_record, newer, merged}
use Rattle.rules.specs.declared.Mode.{Mode}
use Rattle.rules.specs.declared.Mode.TheVariants.{InUpdate}
use Rattle.following.specs.Merging.{general_parts}
use Rattle.following.proofs.PassedLaws.{Headed, headed, some_field}

-- ---- how often a tag stands

-- 1 where it is this tag, else 0
abbrev hit : ℕ → ℕ → ℕ
hit u t = pick (eqb u t) 1 0

-- how many of these tags it is
unfoldable times : ℕ → List ℕ → ℕ
times t [] = 0
times t (u ∷ us) = hit u t + times t us

-- the rows that a field leaves have its tag once less
left_fewer : (t u : ℕ) (ts : List ℕ) (left : List Row) → rows_after u (each (λ x. once x) ts) ≡ some left
    → (rest : List ℕ) × (left ≡ each (λ x. once x) rest) × (times t rest + hit u t ≤ times t ts)
unfolding rows_after each times
left_fewer t u [] left e = absurd (let z : ◌≡◌ {A = ℕ} 0 1 = cc in omega arith)
left_fewer t u (x ∷ ts) left e = go (λ y. left_fewer t u ts left y) (eqb x u) refl e
  where
    go : (rows_after u (each (λ y. once y) ts) ≡ some left → (rest : List ℕ) × (left ≡ each (λ y. once y) rest) × (times t rest + hit u t ≤ times t ts))
        → (b : Bool) → eqb x u ≡ b → pick b (some (each (λ y. once y) ts)) (rows_after u (each (λ y. once y) ts)) ≡ some left
        → (rest : List ℕ) × (left ≡ each (λ y. once y) rest) × (times t rest + hit u t ≤ hit x t + times t ts)
    go ih true q y =
        let z : each (λ y. once y) ts ≡ left = cc in
        let w : hit u t ≡ hit x t = ap (λ (m : ℕ). hit m t) (sym (eqb-true x u q)) in
        (ts, sym z, omega arith)
    go ih false q y = let r = ih y in let l = r.2 in (r.0, r.1, omega arith)

-- so a tag stands at most as often as rows have it
fewer : (t i : ℕ) (ts : List ℕ) (fs : List Field) → in_order (λ x. false) (each (λ x. once x) ts) i fs ≡ pass → length (with_tag t fs) ≤ times t ts
unfolding in_order with_tag
fewer t i ts [] e = omega arith
fewer t i ts (f ∷ fs) e = go (λ rest y. fewer t (i + 1) rest fs y) (rows_after f.tag (each (λ x. once x) ts)) refl e
  where
    one_more : (b : Bool) (gs : List Field) (k n : ℕ) → length gs ≤ k → k + pick b 1 0 ≤ n → length (pick b (f ∷ gs) gs) ≤ n
    one_more true gs k n l m = omega arith
    one_more false gs k n l m = omega arith

    go : ((rest : List ℕ) → in_order (λ x. false) (each (λ x. once x) rest) (i + 1) fs ≡ pass → length (with_tag t fs) ≤ times t rest)
        → (o : Option (List Row)) → rows_after f.tag (each (λ x. once x) ts) ≡ o
        → on_rows o i (λ left. in_order (λ x. false) left (i + 1) fs) ≡ pass → length (with_tag t (f ∷ fs)) ≤ times t ts
    go ih none q y = absurd (let z : ◌≡◌ {A = ℕ} 0 1 = cc in omega arith)
    go ih (some left) q y =
        let r = left_fewer t f.tag ts left q in
        let n = ih r.0 (rw r.1 at y) in
        one_more (eqb f.tag t) (with_tag t fs) (times t r.0) (times t ts) n r.2

-- ---- in a general record that has passed

passed_times : (m : Mode) (t : ℕ) (fs : List Field) → general_record m fs ≡ pass → length (with_tag t fs) ≤ times t general_parts
unfolding with_tag times general_rows
passed_times m t [] e = some_field m e
passed_times m t (f ∷ fs) e =
    let h = headed m f fs e in
    let n = first (eqb f.tag t) (with_tag t fs) (times t general_tags) (fewer t 2 general_tags fs h.ordered) in
    let w : hit f.tag t ≡ hit DSID t = ap (λ (u : ℕ). hit u t) h.tag in
    omega arith
  where
    first : (b : Bool) (gs : List Field) (n : ℕ) → length gs ≤ n → length (pick b (f ∷ gs) gs) ≤ pick b 1 0 + n
    first true gs n l = omega arith
    first false gs n l = omega arith

-- no tag is there twice
part_once : (j : ℕ) → times (get_or general_parts j 0) general_parts ≤ 1
unfolding times
part_once zero = omega arith
part_once (suc zero) = omega arith
part_once (suc (suc zero)) = omega arith
part_once (suc (suc (suc zero))) = omega arith
part_once (suc (suc (suc (suc zero)))) = omega arith
part_once (suc (suc (suc (suc (suc zero))))) = omega arith
part_once (suc (suc (suc (suc (suc (suc zero)))))) = omega arith
part_once (suc (suc (suc (suc (suc (suc (suc zero))))))) = omega arith
part_once (suc (suc (suc (suc (suc (suc (suc (suc j)))))))) = omega arith

-- a field of the general record stands at most once
pub once_there : (m : Mode) (j t : ℕ) (fs : List Field) → general_record m fs ≡ pass → t ≡ get_or general_parts j 0 → length (with_tag t fs) ≤ 1
once_there m j t fs e x =
    let a = passed_times m t fs e in
    let b : times t general_parts ≤ 1 = rw x (part_once j) in
    omega arith

-- ---- the general record of the result

-- the update's DSID is its only one, and its first field
dsid_alone : (f : Field) (fs : List Field) → Headed InUpdate f fs → with_tag DSID (f ∷ fs) ≡ f ∷ []
unfolding with_tag times general_rows
dsid_alone f fs h =
    let n : length (with_tag DSID fs) ≤ 0 = fewer DSID 2 general_tags fs h.ordered in
    simp (eq-eqb f.tag DSID h.tag, none_long (with_tag DSID fs) n)

pub merged_parts : (old new : List Field) → general_record InUpdate new ≡ pass → gather (newer old new) general_parts ≡ merged old new
unfolding gather newer merged empty
merged_parts old [] e = some_field InUpdate e
merged_parts old (f ∷ fs) e = rw (dsid_alone f fs (headed InUpdate f fs e))
