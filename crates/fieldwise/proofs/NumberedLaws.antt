-- Laws of the search for the field of a number. Assumes nothing.
use mathlib.Core.Path.{◌≡◌, refl, sym, ap, ◌∙◌}
use mathlib.Core.List.{List, [], ◌∷◌}
use mathlib.Core.Option.{Option, some, none}
use mathlib.Core.Bool.{Bool, true, false}
use Prim.Native.Nat.{ℕ, ◌+◌, ◌-◌, ◌≤◌, ◌<◌}
use native.Mathlib.Omega.{arith}
use borrow.Author.Tests.{eq-eqb, ne_eqb, eqb-true, eqb-false}
use lib.Dec.{eqb}
use lib.ListN.{length}
use Rattle.std.specs.Prelude.{Option as StdOption, Some, None}
use Rattle.base.proofs.WalkLaws.{by_measure}
use Rattle.skeleton.specs.Directory.{Body}
use Rattle.skeleton.specs.declared.place.Place.{Place}
use Rattle.fieldwise.specs.Reader.{field_here, next_here, lying, passed_from}
use Rattle.fieldwise.specs.Numbered.{numbered, found_at, found_of, field_numbered}
use Rattle.fieldwise.specs.declared.numbered.Found.{Found}
use Rattle.fieldwise.proofs.ReaderLaws.{stands, passed_more, passed_done}

-- ---- the n-th of a list that begins with x

module _ {A : Type 0} (n : ℕ) (x : A) (xs : List A) where
  pub numbered_none : n ≡ 0 → numbered n (x ∷ xs) ≡ none
  unfolding numbered
  numbered_none e = simp (eq-eqb n 0 e)

  pub numbered_here : n ≡ 1 → numbered n (x ∷ xs) ≡ some x
  unfolding numbered
  numbered_here e = let z : n ≡ 0 → ⊥ = λ i. omega arith in simp (ne_eqb n 0 z, eq-eqb n 1 e)

  pub numbered_later : 1 < n → numbered n (x ∷ xs) ≡ numbered (n - 1) xs
  unfolding numbered
  numbered_later l =
      let z : n ≡ 0 → ⊥ = λ i. omega arith in
      let o : n ≡ 1 → ⊥ = λ i. omega arith in
      simp (ne_eqb n 0 z, ne_eqb n 1 o)

pub numbered_empty : {A : Type 0} (n : ℕ) → numbered {A = A} n [] ≡ none
unfolding numbered
numbered_empty n = refl

-- what holds of the n-th of two lists: there is none, or it is the first, or it is one of those after it
module _ {A B : Type 0} (R : Option A → Option B → Type 0) (n : ℕ) (x : A) (y : B) (xs : List A) (ys : List B)
    (no : R none none) (first : R (some x) (some y)) (later : R (numbered (n - 1) xs) (numbered (n - 1) ys)) where
  by_tests : (z o : Bool) → eqb n 0 ≡ z → eqb n 1 ≡ o → R (numbered n (x ∷ xs)) (numbered n (y ∷ ys))
  by_tests true o ez eo = let e = eqb-true n 0 ez in rw (numbered_none n x xs e, numbered_none n y ys e) no
  by_tests false true ez eo = let e = eqb-true n 1 eo in rw (numbered_here n x xs e, numbered_here n y ys e) first
  by_tests false false ez eo =
      let z = eqb-false n 0 ez in
      let o = eqb-false n 1 eo in
      rw (numbered_later n x xs (omega arith), numbered_later n y ys (omega arith)) later

  pub by_number : R (numbered n (x ∷ xs)) (numbered n (y ∷ ys))
  by_number = by_tests (eqb n 0) (eqb n 1) refl refl

-- ---- the search: each law takes `inv`, what the answer has to be

-- the body's 1E is where it was
end_is : (start end : ℕ) → start ≤ end → start + (end - start + 1) - 1 ≡ end
end_is start end l = omega arith

module _ (r : List ℕ) (at n : ℕ) (f : StdOption Found) (inv : found_of (numbered n (passed_from r at)) ≡ f) (p : StdOption Place) (e : p ≡ field_here r at) where
  -- behind the last field there is none
  pub turn_none : p ≡ None → None ≡ f
  turn_none x = sym (ap found_of (ap (numbered n) (passed_done r at p e x) ∙ numbered_empty n)) ∙ inv

  module _ (d : Place) (x : p ≡ Some d) where
    -- the field here is the one
    pub turn_here : n ≡ 1 → found_at d.tag d.start d.end ≡ f
    turn_here o =
        ap (found_at d.tag d.start) (sym (end_is d.start d.end (stands r at p e d x).runs))
        ∙ (sym (ap found_of (ap (numbered n) (passed_more r at p e d x) ∙ numbered_here n (lying d) (passed_from r d.next) o)) ∙ inv)

    -- it is behind it
    pub turn_on : 1 < n → found_of (numbered (n - 1) (passed_from r (next_here r at))) ≡ f
    unfolding next_here
    turn_on l = rw (← e, x) (sym (ap found_of (ap (numbered n) (passed_more r at p e d x) ∙ numbered_later n (lying d) (passed_from r d.next) l)) ∙ inv)

-- from the start
pub from_start : (r : List ℕ) (n : ℕ) → found_of (numbered n (passed_from r 24)) ≡ field_numbered r n
unfolding field_numbered
from_start r n = refl

-- there is no field of number 0
pub field_zero : (r : List ℕ) (n : ℕ) → n ≡ 0 → None ≡ field_numbered r n
unfolding field_numbered
field_zero r n e = go (passed_from r 24)
  where
    go : (bs : List Body) → None ≡ found_of (numbered n bs)
    go [] = sym (ap found_of (numbered_empty n))
    go (b ∷ bs) = sym (ap found_of (numbered_none n b bs e))

pub ruleset field_turn = (turn_none, turn_here, turn_on, from_start, field_zero)

-- ---- what is found lies in the record

-- its body and its 1E
abbrev Inside : List ℕ → StdOption Found → Type 0
Inside r (Some e) = (e.start ≤ e.end) × (e.end < length r)
Inside r None = Unit {0}

inside_at : (r : List ℕ) (n : ℕ) (p : Place) (bs : List Body) → p.start ≤ p.end → p.end < length r → Inside r (found_of (numbered (n - 1) bs))
    → Inside r (found_of (numbered n (lying p ∷ bs)))
inside_at r n p bs l i later =
    by_number (λ (o : Option Body) (_ : Option Body). Inside r (found_of o)) n (lying p) (lying p) bs bs tt (omega arith, omega arith) later

inside_by : (r : List ℕ) (at : ℕ) (p : StdOption Place) → p ≡ field_here r at
    → ((q : ℕ) → length r - q < length r - at → (n : ℕ) → Inside r (found_of (numbered n (passed_from r q)))) → (n : ℕ) → Inside r (found_of (numbered n (passed_from r at)))
inside_by r at (Some p) e later n =
    let k = stands r at _ e p refl in
    rw (passed_more r at _ e p refl)
    (inside_at r n p (passed_from r p.next) k.runs k.inside (later p.next k.further (n - 1)))
inside_by r at None e later n = rw (passed_done r at _ e refl, numbered_empty n) tt

inside_all : (r : List ℕ) (n : ℕ) → Inside r (field_numbered r n)
unfolding field_numbered
inside_all r n =
    by_measure (λ q. length r - q) (λ q. (n : ℕ) → Inside r (found_of (numbered n (passed_from r q)))) (λ q later. inside_by r q (field_here r q) refl later) 24 n

pub found_inside : (r : List ℕ) (n : ℕ) (e : StdOption Found) → e ≡ field_numbered r n → (d : Found) → e ≡ Some d → (d.start ≤ d.end) × (d.end < length r)
found_inside r n e x d y = let k : Inside r e = rw x (inside_all r n) in rw y at k
