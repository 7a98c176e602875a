-- What the number in the answer of the code says: the refusal of the tree rule, whole; and how large it can be. Assumes nothing.
use mathlib.Core.Path.{◌≡◌, refl, sym, ap, ◌∙◌}
use mathlib.Core.List.{List}
use mathlib.Core.Bool.{Bool, true, false}
use mathlib.Core.Logic.{⊎_elim}
use Prim.Native.Nat.{ℕ, zero, suc, ◌+◌, ◌-◌, ◌≤◌, ◌<◌}
use native.Mathlib.Omega.{arith}
use lib.ListN.{length}
use lib.Dec.{ltb}
use borrow.Author.Tests.{lt-ltb, le-ltb, ltb-true}
use Rattle.std.specs.Prelude.{Result, Ok, Err}
use Rattle.base.specs.Check.{Check, ok, no, bind, fault, passed}
use Rattle.base.specs.Verdict.{first_fault}
use Rattle.base.proofs.CheckLaws.{refused, ok_no, faulty_first}
use Rattle.base.specs.declared.Fault.{Fault}
use Rattle.fields.specs.Table.{head_of, tuple_of}
use Rattle.fields.specs.Content.{fill}
use Rattle.fields.specs.declared.Format.TheVariants.{Attr, AttrNew}
use Rattle.forest.specs.Reader.{Read, read_up_to, read_run}
use Rattle.forest.proofs.Numbers.{lt_or_le}
use Rattle.forest.proofs.ReaderLaws.{Refusal, between_end, read_refused}
use Rattle.forest.proofs.FaultLaws.{tree_fault, acts_fault}
use Rattle.rules.specs.Content.{inas_format}
use Rattle.rules.specs.Trees.{attr_tree, attr_acts, inas_tree}
use Rattle.tree.specs.Source.{past, Spot, spot, tuples_in, said_by, run_at, remains}
use Rattle.tree.specs.Verdict.{faulty_tuple, verdict}
use Rattle.tree.proofs.CountLaws.{past_above}
use Rattle.tree.proofs.KnownLaws.{tuples_fall}
use Rattle.tree.proofs.WalkLaws.{remains_bad, remains_left, remains_none}
use Rattle.tree.proofs.FieldLaws.{Found, behind_head, behind_short, attr_tree_lem, attr_acts_lem, inas_tree_lem}

-- ---- the number is the refusal

-- a test whose refusals are 6 at a place
passed_verdict : {A : Type 0} (m : ℕ) (c : Check A) → ((f : Fault) → c ≡ no f → Refusal 1 m f) → passed c ≡ verdict (faulty_tuple c)
unfolding passed bind faulty_tuple verdict
passed_verdict m (ok a) says = refl
passed_verdict m (no f) says = go f.tuple refl (says f refl)
  where
    go : (n : ℕ) → f.tuple ≡ n → Refusal 1 m f → no f ≡ verdict f.tuple
    go zero e r = absurd (omega (arith, r.from))
    go (suc n) e r = ap no (r.six ∙ ap (fault 6 0) e) ∙ ap verdict (sym e)

-- of a stored ATTR
pub attr_verdict : (b : List ℕ) → passed (attr_tree b) ≡ verdict (faulty_tuple (attr_tree b))
unfolding attr_tree
attr_verdict b = passed_verdict _ _ (tree_fault _)

-- of a modify's ATTR
pub acts_verdict : (b : List ℕ) → passed (attr_acts b) ≡ verdict (faulty_tuple (attr_acts b))
unfolding attr_acts
acts_verdict b = passed_verdict _ _ (acts_fault _)

-- of an INAS
pub inas_verdict : (b : List ℕ) → passed (inas_tree b) ≡ verdict (faulty_tuple (inas_tree b))
unfolding inas_tree
inas_verdict b = passed_verdict _ _ (tree_fault _)

-- ---- the number is no larger than the field

-- places grow more slowly than offsets
even : (b : List ℕ) (whole : Bool) (s : Spot) → ltb s.offset (length b) ≡ true
    → (s.place < s.place + 1) × (s.place + 1 + (length b - past b s.offset) ≤ s.place + (length b - s.offset))
even b whole s h = (omega arith, omega (arith, past_above b s.offset, ltb-true s.offset (length b) h))

-- what the walk finds
found_within : (b : List ℕ) (whole : Bool) → Found b whole ≤ length b
unfolding run_at read_run bind remains
found_within b whole = go (read_up_to (tuples_in b whole) (length b - 0) 0 false (spot 0 1)) refl
  where
    first : (1 ≤ 1) × (1 + (length b - 0) ≤ 1 + length b)
    first = (omega arith, omega arith)

    go : (c : Check (Read Spot (Unit {0}))) → read_up_to (tuples_in b whole) (length b - 0) 0 false (spot 0 1) ≡ c → remains (length b) (bind c (λ r. ok r.end)) ≤ length b
    go (no f) e = let r = read_refused (tuples_in b whole) (tuples_fall b whole) (even b whole) 1 (1 + length b) _ 0 false (spot 0 1) f first e in omega (arith, r.below)
    go (ok r) e =
        let behind = between_end (tuples_in b whole) (tuples_fall b whole) (even b whole) 1 (1 + length b) _ 0 false (spot 0 1) r e first in
        ⊎_elim
        (λ (h : r.end.offset < length b). rw (lt-ltb r.end.offset (length b) h) (omega (arith, behind.1)))
        (λ (h : length b ≤ r.end.offset). rw (le-ltb r.end.offset (length b) h) (omega arith))
        (lt_or_le r.end.offset (length b))

-- of a stored ATTR
pub attr_within : (b : List ℕ) → fill (head_of AttrNew) (tuple_of AttrNew) b ≡ true → faulty_tuple (attr_tree b) ≤ length b
attr_within b e = omega (arith, attr_tree_lem b e, found_within b true)

-- of a modify's ATTR
pub acts_within : (b : List ℕ) → fill (head_of Attr) (tuple_of Attr) b ≡ true → faulty_tuple (attr_acts b) ≤ length b
acts_within b e = omega (arith, attr_acts_lem b e, found_within b false)

-- of an INAS
pub inas_within : (b : List ℕ) → fill (head_of (inas_format false b)) (tuple_of (inas_format false b)) b ≡ true → faulty_tuple (inas_tree b) ≤ length b
inas_within b e = omega (arith, inas_tree_lem b e, found_within (behind_head b) true, behind_short b)

-- ---- what the walk answers: a number that is not 0, where the rule is broken

-- the place that a walk ends at, or of the faulty tuple, is counted from 1
abbrev Counted : Check Spot → Type 0
Counted (ok s) = 1 ≤ s.place
Counted (no f) = 1 ≤ f.tuple

counted_bad : (v : Check Spot) → Counted v → (k : ℕ) → said_by (Err k) ≡ v → k ≡ 0 → ⊥
unfolding said_by remains
counted_bad (ok s) p k e z = refused e
counted_bad (no f) p k e z = let y : k ≡ f.tuple = ap (remains 0) e in omega (arith, p)

counted_end : (v : Check Spot) → Counted v → (at k : ℕ) → said_by (Ok (at, k)) ≡ v → k ≡ 0 → ⊥
unfolding said_by
counted_end (ok s) p at k e z = let y : spot at k ≡ s = cc in let x = ap (λ (t : Spot). t.place) y in omega (arith, p, x)
counted_end (no f) p at k e z = ok_no e

module _ (b : List ℕ) (whole : Bool) where
  counted : Counted (run_at b whole 0 0 1 false)
  unfolding run_at read_run bind
  counted = go (read_up_to (tuples_in b whole) (length b - 0) 0 false (spot 0 1)) refl
    where
      first : (1 ≤ 1) × (1 + (length b - 0) ≤ 1 + length b)
      first = (omega arith, omega arith)

      go : (c : Check (Read Spot (Unit {0}))) → read_up_to (tuples_in b whole) (length b - 0) 0 false (spot 0 1) ≡ c → Counted (bind c (λ r. ok r.end))
      go (no f) e = let r = read_refused (tuples_in b whole) (tuples_fall b whole) (even b whole) 1 (1 + length b) _ 0 false (spot 0 1) f first e in r.from
      go (ok r) e = let k = between_end (tuples_in b whole) (tuples_fall b whole) (even b whole) 1 (1 + length b) _ 0 false (spot 0 1) r e first in k.0

  module _ (w : Result (ℕ × ℕ) ℕ) (says : said_by w ≡ run_at b whole 0 0 1 false) where
    pub check_bad : (k : ℕ) → w ≡ Err k → Err k ≡ first_fault (Found b whole)
    check_bad k e = faulty_first k (counted_bad _ counted k (ap said_by (sym e) ∙ says)) ∙ ap first_fault (remains_bad (length b) k w _ e says)

    pub check_left : (at k : ℕ) → w ≡ Ok (at, k) → at < length b → Err k ≡ first_fault (Found b whole)
    check_left at k e h = faulty_first k (counted_end _ counted at k (ap said_by (sym e) ∙ says)) ∙ ap first_fault (remains_left (length b) at k w _ e says h)

    pub check_none : (at k : ℕ) → w ≡ Ok (at, k) → length b ≤ at → Ok tt ≡ first_fault (Found b whole)
    check_none at k e h = ap first_fault (remains_none (length b) at k w _ e says h)
