-- A loop over the fields of a record that counts them: the next field's place and number, and where the second stands. Assumes nothing.
use mathlib.Core.Path.{◌≡◌, refl}
use mathlib.Core.List.{List, [], ◌∷◌}
use Prim.Native.Nat.{ℕ, ◌+◌, ◌^◌, ◌≤◌, ◌<◌}
use native.Mathlib.Omega.{arith}
use lib.ListN.{length, get_or}
use Rattle.std.specs.Prelude.{Option, Some, None}
use Rattle.skeleton.specs.File.{Field}
use Rattle.skeleton.specs.Place.{between, place_at, fields_at}
use Rattle.skeleton.specs.RightFrom.{RightFrom}
use Rattle.skeleton.specs.declared.directory.Shape.{Shape}
use Rattle.skeleton.specs.declared.place.Place.{Place}
use Rattle.skeleton.proofs.PlaceLaws.{held, fields_more, fields_done, place_falls, place_runs, place_in_lem}
use Rattle.skeleton.proofs.RightLaws.{right_done, right_on}

module _ (r : List ℕ) (h : Shape) (p : ℕ) (e : Option Place) (en : e ≡ place_at r h p) (d : Place) (x : e ≡ Some d) where
  -- as each entry takes bytes, a count of them stays below their place
  pub step_counts : (i : ℕ) → i ≤ p → i + 1 ≤ d.next
  step_counts i l = let f = place_falls r h p e en d x in omega arith

  pub step_word : (i : ℕ) → i ≤ p → length r < 2 ^ 64 → i + 1 < 2 ^ 64
  step_word i l g = let f = place_falls r h p e en d x in omega arith

  pub step_second : 2 ≤ p → 2 ≤ d.next
  step_second l = let f = place_falls r h p e en d x in omega arith

-- the fields of a record that has one are that and those from the second entry on
pub second_entry : (r : List ℕ) (h : Shape) → (fields_at r h 24 ≡ [] → ⊥) → (f : Field) × (fields_at r h 24 ≡ f ∷ fields_at r h (28 + h.a + h.b))
second_entry r h some = by_place (place_at r h 24) refl
  where
    by_place : (e : Option Place) → e ≡ place_at r h 24 → (f : Field) × (fields_at r h 24 ≡ f ∷ fields_at r h (28 + h.a + h.b))
    by_place (Some d) en =
        let n : d.next ≡ 28 + h.a + h.b = let g = held r h 24 (Some d) en d refl in omega arith in
        (record { tag = d.tag; body = between r d.start d.end }, rw n at (fields_more r h 24 (Some d) en d refl))
    by_place None en = absurd (some (fields_done r h 24 None en refl))

-- and where its directory is right, it is so from the second entry on
pub second_right : (r : List ℕ) (h : Shape) → (fields_at r h 24 ≡ [] → ⊥) → RightFrom r h 24 → RightFrom r h (28 + h.a + h.b)
second_right r h some k =
    let o : get_or r 24 0 ≡ 30 → ⊥ = λ y. some (fields_done r h 24 None (right_done r h 24 k y) refl) in
    let z : 24 + (4 + h.a + h.b) ≡ 28 + h.a + h.b = omega arith in
    rw z at (right_on r h 24 k o)

-- what such a loop wants besides the laws of its own definition
pub ruleset step_bounds = (place_falls, place_runs, place_in_lem, step_counts, step_word, arith)
