-- What the tuples of a forest say: how many there are, and which parents they name. Assumes nothing.
use mathlib.Core.Path.{◌≡◌, refl, ap, ◌∙◌}
use mathlib.Core.List.{List, [], ◌∷◌, ◌++◌}
use Prim.Native.Nat.{ℕ, suc, ◌+◌, ◌≤◌, ◌<◌}
use native.Mathlib.Omega.{arith}
use lib.ListN.{length, length-append}
use borrow.Author.Tests.{eq-eqb, ne_eqb}
use Rattle.forest.specs.Forest.{Forest, nil, tree, Tup, size, tuples_from, tuples_of}
use Rattle.forest.specs.Rule.{codes_of}

-- ---- what was passed, the latest first

-- what was passed, after these
unfoldable pub onto : {A : Type 0} → List A → List A → List A
onto [] earlier = earlier
onto (t ∷ ts) earlier = onto ts (t ∷ earlier)

-- one list after the other
pub onto_append : {A : Type 0} (a b earlier : List A) → onto (a ++ b) earlier ≡ onto b (onto a earlier)
unfolding onto
onto_append [] b earlier = refl
onto_append (t ∷ a) b earlier = onto_append a b (t ∷ earlier)

-- as many more are passed
pub onto_length : {A : Type 0} (a earlier : List A) → length (onto a earlier) ≡ length a + length earlier
unfolding onto
onto_length [] earlier = omega arith
onto_length (t ∷ a) earlier = omega (arith, onto_length a (t ∷ earlier))

-- ---- how many tuples there are

-- a run has a tuple for each of its entries
pub from_length : (seen : List ℕ) (p k : ℕ) (f : Forest) → length (tuples_from seen p k f) ≡ size f
unfolding tuples_from size
from_length seen p k nil = refl
from_length seen p k (tree c v kids rest) =
    omega (arith, length-append (tuples_from [] k (suc k) kids) (tuples_from (c ∷ seen) p (suc (k + size kids)) rest), from_length [] k (suc k) kids, from_length (c ∷ seen) p (suc (k + size kids)) rest)

-- a forest has a tuple for each of its entries
pub tuples_length : (f : Forest) → length (tuples_of f) ≡ size f
unfolding tuples_of
tuples_length f = from_length [] 0 1 f

-- ---- which parents they name

-- a tuple of another parent adds no code
pub other_code : (q : ℕ) (t : Tup) (earlier : List Tup) → (t.paix ≡ q → ⊥) → codes_of q (t ∷ earlier) ≡ codes_of q earlier
unfolding codes_of
other_code q t earlier n = rw (ne_eqb t.paix q n)

-- a tuple of this parent adds its code
pub own_code : (q : ℕ) (t : Tup) (earlier : List Tup) → t.paix ≡ q → codes_of q (t ∷ earlier) ≡ t.natc ∷ codes_of q earlier
unfolding codes_of
own_code q t earlier e = rw (eq-eqb t.paix q e)

-- a run names no parent before its own
pub codes_below : (q : ℕ) (seen : List ℕ) (p k : ℕ) (f : Forest) (earlier : List Tup) → q < p → p < k → codes_of q (onto (tuples_from seen p k f) earlier) ≡ codes_of q earlier
unfolding tuples_from onto
codes_below q seen p k nil earlier h l = refl
codes_below q seen p k (tree c v kids rest) earlier h l =
    ap (codes_of q) (onto_append (tuples_from [] k (suc k) kids) _ _)
    ∙ codes_below q (c ∷ seen) p (suc (k + size kids)) rest _ h (omega arith)
    ∙ codes_below q [] k (suc k) kids _ (omega arith) (omega arith)
    ∙ other_code q _ earlier (λ e. omega (arith, e))

-- a run names no place behind it
pub codes_above : (q : ℕ) (seen : List ℕ) (p k : ℕ) (f : Forest) (earlier : List Tup) → p < k → k + size f ≤ q → codes_of q (onto (tuples_from seen p k f) earlier) ≡ codes_of q earlier
unfolding tuples_from onto size
codes_above q seen p k nil earlier h l = refl
codes_above q seen p k (tree c v kids rest) earlier h l =
    ap (codes_of q) (onto_append (tuples_from [] k (suc k) kids) _ _)
    ∙ codes_above q (c ∷ seen) p (suc (k + size kids)) rest _ (omega arith) (omega arith)
    ∙ codes_above q [] k (suc k) kids _ (omega arith) (omega arith)
    ∙ other_code q _ earlier (λ e. omega (arith, e))

-- ---- no tuple passed names a place that is yet to come

-- all of them name places already passed
abbrev pub Low : List Tup → Type 0
Low earlier = (q : ℕ) → length earlier < q → codes_of q earlier ≡ []

-- where none is passed
pub low_none : Low []
unfolding codes_of
low_none q h = refl

-- with one more
pub low_next : (earlier : List Tup) (t : Tup) → t.paix ≤ length earlier → Low earlier → Low (t ∷ earlier)
low_next earlier t h low q l = other_code q t earlier (λ e. omega (arith, e)) ∙ low q (omega arith)

-- with a run more
pub low_onto : (seen : List ℕ) (p : ℕ) (f : Forest) (earlier : List Tup) → p ≤ length earlier → Low earlier
    → Low (onto (tuples_from seen p (suc (length earlier)) f) earlier)
low_onto seen p f earlier h low q l =
    let n = onto_length (tuples_from seen p (suc (length earlier)) f) earlier in
    let m = from_length seen p (suc (length earlier)) f in
    codes_above q seen p (suc (length earlier)) f earlier (omega arith) (omega arith) ∙ low q (omega arith)
