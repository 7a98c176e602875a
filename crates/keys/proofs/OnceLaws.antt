-- Laws of the keys so far. Assumes nothing.
use mathlib.Core.Path.{◌≡◌, refl, sym, ap, ◌∙◌}
use mathlib.Core.List.{List, [], ◌∷◌, ◌++◌}
use mathlib.Core.Bool.{Bool, true, false, true≢false}
use Prim.Native.Nat.{ℕ, suc, ◌+◌, ◌/◌, ◌%◌, ◌≤◌, ◌<◌}
use native.Mathlib.Omega.{arith}
use borrow.Author.Tests.{ne_eqb, le-leb, ltb-false, leb-true, eqb-true, eqb-false}
use lib.ListN.{length, take, drop}
use lib.Seq.{drop-cons}
use lib.Dec.{leb, ltb, eqb}
use Rattle.base.specs.Choice.{either, larger_of}
use Rattle.base.proofs.ChoiceLaws.{by_test, both_hold, larger_left, larger_right}
use Rattle.memory.specs.Hold.{zeros}
use Rattle.memory.proofs.HoldLaws.{length_zeros}
use Rattle.keys.specs.Listed.{keys_from, listed, seen_from}
use Rattle.keys.specs.Look.{Known}
use Rattle.keys.specs.Bits.{flag_of, raised}
use Rattle.keys.specs.Map.{kind_in, shared_flag, Marks}
use Rattle.keys.specs.Once.{none_above, Renewed, Once, Comes, Told}
use Rattle.keys.proofs.ListLaws.{listed_later, listed_none, listed_more, split_take}
use Rattle.keys.proofs.BitLaws.{raised_long, flag_same, flag_other}
use Rattle.keys.proofs.MapLaws.{zeros_all}

-- ---- the largest key

-- a key above all of them is none of them
above_new : (top k : ℕ) (l : List ℕ) → top < k → none_above top l ≡ true → listed k l ≡ false
unfolding none_above
above_new top k [] h e = listed_none k
above_new top k (x ∷ xs) h e =
    let b = both_hold (leb x top) (none_above top xs) e in
    let g : x ≤ top = leb-true x top b.0 in
    listed_later k x xs (λ z. omega arith) ∙ above_new top k xs h b.1

-- one more, and a top that is not below it
above_more : (top up k : ℕ) (l : List ℕ) → top ≤ up → k ≤ up → none_above top l ≡ true → none_above up (l ++ (k ∷ [])) ≡ true
unfolding none_above
above_more top up k [] h g e = simp (le-leb k up g)
above_more top up k (x ∷ xs) h g e =
    let b = both_hold (leb x top) (none_above top xs) e in
    let l : x ≤ top = leb-true x top b.0 in
    simp (le-leb x up (omega arith)) (above_more top up k xs h g b.1)

-- the larger of two is not below either, and of the kind of the second, where that is not before the first's
pub larger_least : (a b : ℕ) → (a ≤ larger_of a b) × (b ≤ larger_of a b) × (kind_in a ≤ kind_in b → kind_in (larger_of a b) ≡ kind_in b)
larger_least a b = (
  larger_left a b,
  larger_right a b,
  λ g. by_test (λ (r : ℕ). kind_in r ≡ kind_in b) (ltb a b) b a (λ e. refl) (λ e. let h = ltb-false a b e in omega arith),
)

-- ---- `stood`

module _ (f : List ℕ) (start m top k : ℕ) (t : List ℕ) (o : Once f start m top t) where
  pub stood_above : top < k → false ≡ seen_from f start m k
  unfolding seen_from
  stood_above h = sym (above_new top k (take m (keys_from f start)) h o.none_above)

  pub stood_clear : kind_in top ≤ kind_in k → k ≤ top → k % 262144 / 8 < length t → (b : Bool) → b ≡ flag_of t (k % 262144) → b ≡ false → false ≡ seen_from f start m k
  unfolding Marks seen_from
  stood_clear g l h b e x = go (listed k (take m (keys_from f start))) refl
    where
      go : (y : Bool) → listed k (take m (keys_from f start)) ≡ y → false ≡ y
      go true z = sym x ∙ e ∙ o.marks k (omega arith) z h
      go false z = refl

  pub stood_known : Known f start m
  stood_known = o.known

pub ruleset stood_ways = (stood_above, stood_clear, stood_known, arith)

-- ---- `renew`

pub renew_same : (kind kind' : ℕ) (t : List ℕ) → kind ≡ kind' → Renewed kind kind' t t
renew_same kind kind' t e = record { long = refl; same = λ _. refl; empty = λ n. absurd (n e) }

pub renew_empty : (kind kind' : ℕ) (t t' : List ℕ) → (kind ≡ kind' → ⊥) → t' ≡ zeros (length t) → Renewed kind kind' t t'
renew_empty kind kind' t t' n e =
    record { long = rw e (length_zeros (length t)); same = λ x. absurd (n x); empty = λ _ i. rw e (zeros_all (length t) i) }

pub ruleset renew_ways = (renew_same, renew_empty)

-- ---- the map

either_first : (b : Bool) → either b false ≡ true → b ≡ true
either_first true e = refl
either_first false e = e

-- of no keys
pub marks_none : (kind : ℕ) (t : List ℕ) → Marks [] kind t
unfolding Marks
marks_none kind t k x e h = absurd (true≢false (sym e ∙ listed_none k))

-- for the kind of the next key
marks_renewed : (l : List ℕ) (top kind' : ℕ) (t t' : List ℕ) → none_above top l ≡ true → Marks l (kind_in top) t → kind_in top ≤ kind'
    → Renewed (kind_in top) kind' t t' → Marks l kind' t'
unfolding Marks
marks_renewed l top kind' t t' na ms h rn = go (eqb (kind_in top) kind') refl
  where
    go : (b : Bool) → eqb (kind_in top) kind' ≡ b → (k : ℕ) → kind_in k ≡ kind' → listed k l ≡ true → shared_flag k / 8 < length t' → flag_of t' (shared_flag k) ≡ true
    go true e k x y g =
        let z : kind_in top ≡ kind' = eqb-true (kind_in top) kind' e in
        let same = rn.same z in
        rw same (ms k (x ∙ sym z) y (omega (arith, rn.long)))
    go false e k x y g =
        let z : kind_in top ≡ kind' → ⊥ = eqb-false (kind_in top) kind' e in
        let w : top < k = omega arith in
        absurd (true≢false (sym y ∙ above_new top k l w na))

-- with one key more
marks_more : (l : List ℕ) (k : ℕ) (t : List ℕ) → Marks l (kind_in k) t → Marks (l ++ (k ∷ [])) (kind_in k) (raised t (shared_flag k))
unfolding Marks
marks_more l k t ms j x y g = go (eqb (shared_flag j) (shared_flag k)) refl (omega (arith, raised_long t (shared_flag k)))
  where
    go : (b : Bool) → eqb (shared_flag j) (shared_flag k) ≡ b → shared_flag j / 8 < length t → flag_of (raised t (shared_flag k)) (shared_flag j) ≡ true
    go true e h =
        let z : shared_flag j ≡ shared_flag k = eqb-true _ _ e in
        ap (λ (i : ℕ). flag_of (raised t i) (shared_flag j)) (sym z) ∙ flag_same t (shared_flag j) h
    go false e h =
        let z : shared_flag j ≡ shared_flag k → ⊥ = eqb-false _ _ e in
        let n : k ≡ j → ⊥ = λ q. z (ap shared_flag (sym q)) in
        let was : listed j l ≡ true = either_first (listed j l) (rw (listed_more j k l, ne_eqb k j n) at y) in
        flag_other t (shared_flag j) (shared_flag k) z ∙ ms j x was h

-- ---- `repeats`

pub told_true : (f : List ℕ) (start m top k : ℕ) (t : List ℕ) (b : Bool) → b ≡ seen_from f start m k → b ≡ true → Told f start m top k t t true
told_true f start m top k t b e x = record { told = sym x ∙ e; long = refl; once = λ z. absurd (true≢false z) }

module _ (f : List ℕ) (start m top k : ℕ) (t : List ℕ) (o : Once f start m top t) (c : Comes f start m k) (h : kind_in top ≤ kind_in k)
    (b : Bool) (eb : b ≡ seen_from f start m k) (x : b ≡ false) (t' : List ℕ) (rn : Renewed (top / 4294967296) (k / 4294967296) t t') where
  marks_then : Marks (take m (keys_from f start)) (kind_in k) t'
  marks_then = marks_renewed (take m (keys_from f start)) top (kind_in k) t t' o.none_above o.marks h rn

  one_more : take (m + 1) (keys_from f start) ≡ take m (keys_from f start) ++ (k ∷ [])
  one_more =
      let s = drop-cons (keys_from f start) m 0 c.there ∙ ap (λ (y : ℕ). y ∷ drop (suc m) (keys_from f start)) c.next in
      split_take (keys_from f start) m k (drop (suc m) (keys_from f start)) s

  known_more : Known f start (m + 1)
  unfolding seen_from
  known_more =
      let l = c.there in
      let z = listed_more 0 k (take m (keys_from f start)) in
      let y = o.known.keyed in
      record { enough = omega arith; keyed = rw (one_more, z, y, ne_eqb k 0 c.keyed) refl }

  once_more : Once f start (m + 1) (larger_of top k) (raised t' (k % 262144))
  once_more =
      let l = larger_least top k in
      record {
        known = known_more;
        none_above = rw one_more (above_more top (larger_of top k) k (take m (keys_from f start)) l.0 l.1 o.none_above);
        marks = rw (one_more, l.2 h) (marks_more (take m (keys_from f start)) k t' marks_then);
      }

  pub told_false : (t'' : List ℕ) → t'' ≡ raised t' (k % 262144) → Told f start m top k t t'' false
  told_false t'' e = record { told = sym x ∙ eb; long = rw e (raised_long t' (k % 262144) ∙ rn.long); once = λ _. rw e once_more }

pub ruleset repeats_ways = (told_true, told_false, arith)
