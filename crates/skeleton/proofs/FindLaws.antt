-- Laws of the search for a tag. Assumes nothing.
use mathlib.Core.Path.{◌≡◌, refl, sym, ap, ◌∙◌}
use mathlib.Core.List.{List, [], ◌∷◌}
use mathlib.Core.Bool.{Bool, true, false}
use Prim.Native.Nat.{ℕ, ◌-◌, ◌≤◌, ◌<◌}
use native.Mathlib.Omega.{arith}
use borrow.Author.Tests.{eq-eqb, ne_eqb, eqb-true, eqb-false}
use lib.ListN.{length}
use lib.Dec.{eqb}
use Rattle.base.specs.Walk.{Got, follow, walk, Lower}
use Rattle.base.proofs.ChoiceLaws.{by_test}
use Rattle.base.proofs.WalkLaws.{walk_step, by_measure}
use Rattle.skeleton.specs.Place.{between, place_at, fields_at, seek, place_with, find_from, from_tag}
use Rattle.skeleton.specs.declared.directory.Shape.{Shape}
use Rattle.skeleton.specs.declared.place.Place.{Place}
use Rattle.std.specs.Prelude.{Option, Some, None}
use Rattle.skeleton.proofs.PlaceLaws.{Held, HeldAt, place_held, held, place_falls, fields_more, fields_done}

-- a step of the search leads further on
lower_of : (r : List ℕ) (h : Shape) (t p : ℕ) (e : Option Place) → HeldAt r h p e → Lower (λ (q : ℕ). length r - q) p (seek t p e)
lower_of r h t p (Some d) k = by_test (Lower (λ (q : ℕ). length r - q) p) (eqb d.tag t) _ _ (λ _. tt) (λ _. omega arith)
lower_of r h t p None k = tt

-- a turn of `find`, by the place e that was read at p
module _ (r : List ℕ) (h : Shape) (t p : ℕ) (f : Option Place) (inv : find_from r h t p ≡ f) (e : Option Place) (en : e ≡ place_at r h p) where
  turn : place_at r h (follow (seek t p e) (walk (λ q. seek t q (place_at r h q)) (λ q. length r - q))).ending ≡ f
  unfolding find_from place_with
  turn =
      rw en
      (sym (ap (λ (g : Got (Unit {0})). place_at r h g.ending)
      (walk_step (λ q. seek t q (place_at r h q)) (λ q. length r - q) (λ q. lower_of r h t q (place_at r h q) (place_held r h q)) p))
      ∙ inv)

  pub find_done : e ≡ None → None ≡ f
  find_done x = sym (sym en ∙ x) ∙ (simp x at turn)

  module _ (d : Place) (x : e ≡ Some d) where
    pub find_here : d.tag ≡ t → Some d ≡ f
    find_here z = sym (sym en ∙ x) ∙ (simp (x, eq-eqb d.tag t z) at turn)

    pub find_more : (d.tag ≡ t → ⊥) → find_from r h t d.next ≡ f
    unfolding find_from place_with
    find_more z = simp (x, ne_eqb d.tag t z) at turn

pub ruleset find_turn = (find_done, find_here, find_more, place_falls)

-- ---- what is found

-- of the fields from p on, the first with tag t is found with those after it, or there is none
abbrev Found : List ℕ → Shape → ℕ → ℕ → Option Place → Type 0
Found r h t p (Some d) =
    (d.tag ≡ t) × (length r - d.next < length r - p)
    × (from_tag t (fields_at r h p) ≡ record { tag = d.tag; body = between r d.start d.end } ∷ fields_at r h d.next)
Found r h t p None = from_tag t (fields_at r h p) ≡ []

-- what is found from the next place on is found from here on, where the field here has another tag
found_on : (r : List ℕ) (h : Shape) (t p next : ℕ) (e : Option Place) → length r - next < length r - p
    → from_tag t (fields_at r h p) ≡ from_tag t (fields_at r h next) → Found r h t next e → Found r h t p e
found_on r h t p next (Some d) l same k = (k.0, omega arith, same ∙ k.2)
found_on r h t p next None l same k = same ∙ k

-- what is found from p on, by what is found from later places on
module _ (r : List ℕ) (h : Shape) (t p : ℕ) (later : (q : ℕ) → length r - q < length r - p → Found r h t q (find_from r h t q)) where
  found_by : (d : Place) → Some d ≡ place_at r h p → (b : Bool) → eqb d.tag t ≡ b → Found r h t p (find_from r h t p)
  unfolding from_tag
  found_by d en true z =
      let all = fields_more r h p _ en d refl in
      let low = place_falls r h p _ en d refl in
      rw (← find_here r h t p _ refl _ en d refl (eqb-true d.tag t z)) (eqb-true d.tag t z, low, rw all (simp z))
  found_by d en false z =
      let all = fields_more r h p _ en d refl in
      let low = place_falls r h p _ en d refl in
      rw (← find_more r h t p _ refl _ en d refl (eqb-false d.tag t z))
      (found_on r h t p d.next (find_from r h t d.next) low (rw all (simp z)) (later d.next low))

  found_at : (e : Option Place) → e ≡ place_at r h p → Found r h t p (find_from r h t p)
  unfolding from_tag
  found_at None en = rw (← find_done r h t p _ refl None en refl) (rw (fields_done r h p _ en refl))
  found_at (Some d) en = found_by d en (eqb d.tag t) refl

found : (r : List ℕ) (h : Shape) (t p : ℕ) → Found r h t p (find_from r h t p)
found r h t p =
    by_measure (λ q. length r - q) (λ q. Found r h t q (find_from r h t q)) (λ q later. found_at r h t q later (place_at r h q) refl) p

-- by the place e that was found from p on
module _ (r : List ℕ) (h : Shape) (t p : ℕ) (e : Option Place) (en : e ≡ find_from r h t p) where
  finding : Found r h t p e
  finding = rw en (found r h t p)

  -- no field from p on has the tag
  pub found_none : e ≡ None → from_tag t (fields_at r h p) ≡ []
  found_none x = rw x at finding

  module _ (d : Place) (x : e ≡ Some d) where
    here : Found r h t p (Some d)
    here = rw x at finding

    pub found_tag : d.tag ≡ t
    found_tag = here.0

    pub found_falls : length r - d.next < length r - p
    found_falls = here.1

    -- this is the first one that has it
    pub found_first : from_tag t (fields_at r h p) ≡ record { tag = d.tag; body = between r d.start d.end } ∷ fields_at r h d.next
    found_first = here.2

    -- and it lies in the record
    in_record_lem : Held r h (place_with r h t p) d
    unfolding find_from
    in_record_lem = held r h (place_with r h t p) e en d x

    pub found_runs : d.start ≤ d.end
    found_runs = in_record_lem.body_runs

    pub found_in : d.end ≤ length r
    found_in = let k = in_record_lem in omega arith

-- what a caller of `find` wants besides the laws of its own definition
pub ruleset found_bounds = (found_tag, found_falls, found_runs, found_in)
