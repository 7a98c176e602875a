-- FOIDs compared. Assumes nothing.
use Prim.Native.Nat.{ℕ, ◌+◌, ◌-◌, ◌≤◌}
use mathlib.Core.Path.{◌≡◌, refl, sym, ap, ◌∙◌, subst}
use mathlib.Core.Bool.{Bool, true, false}
use mathlib.Core.List.{List, [], ◌∷◌, append-nil}
use native.Mathlib.Omega.{arith}
use borrow.Author.Tests.{eq-eqb, ne_eqb}
use lib.Dec.{eqb}
use lib.ListN.{length, drop, length-take, length-drop}
use Rattle.base.specs.Choice.{both}
use Rattle.base.specs.Keys.{same}
use Rattle.base.specs.Lists.{gather, Each}
use Rattle.base.proofs.ChoiceLaws.{both_true}
use Rattle.skeleton.specs.Place.{between}
use Rattle.fields.specs.Bytes.{le}
use Rattle.fields.specs.Table.{head_of}
use Rattle.fields.specs.Content.{fill}
use Rattle.fields.specs.Values.{values, num_at}
use Rattle.fields.specs.declared.Format.TheVariants.{Foid}
use Rattle.fields.proofs.FieldLaws.{head_length_lem}
use Rattle.fields.proofs.ValueLaws.{head_number}
use Rattle.rules.specs.Record.{foid_of}
use Rattle.items.specs.Items.{source}
use Rattle.version.specs.Held.{RightFoid, foid_bodies}
use Rattle.version.specs.declared.Version.{Version}

-- ---- one FOID

foid_long : (b : List ℕ) → fill (head_of Foid) [] b ≡ true → length b ≡ 8
unfolding head_of
foid_long b e = head_length_lem (head_of Foid) b refl e

foid_numbers : (b : List ℕ) → fill (head_of Foid) [] b ≡ true
    → (num_at (values (head_of Foid) b) 0 ≡ le 2 (drop 0 b)) × (num_at (values (head_of Foid) b) 1 ≡ le 4 (drop 2 b)) × (num_at (values (head_of Foid) b) 2 ≡ le 2 (drop 6 b))
unfolding head_of
foid_numbers b e =
    ((head_number (head_of Foid) [] b e 0 0 2 refl refl).1, (head_number (head_of Foid) [] b e 1 2 4 refl refl).1, (head_number (head_of Foid) [] b e 2 6 2 refl refl).1)

foid_says : (b : List ℕ) → fill (head_of Foid) [] b ≡ true → foid_of b ≡ le 2 (drop 0 b) ∷ le 4 (drop 2 b) ∷ le 2 (drop 6 b) ∷ []
unfolding foid_of
foid_says b e = let (x, y, z) = foid_numbers b e in rw (x, y, z) refl

-- ---- `equal_foids`

module _ (a b : List ℕ) (pre : (fill (head_of Foid) [] a ≡ true) × (fill (head_of Foid) [] b ≡ true)) where
  pub equal_room_a : length a ≡ 8
  equal_room_a = foid_long a pre.0

  pub equal_room_b : length b ≡ 8
  equal_room_b = foid_long b pre.1

  same_is : same (foid_of a) (foid_of b)
      ≡ both (eqb (le 2 (drop 0 a)) (le 2 (drop 0 b))) (both (eqb (le 4 (drop 2 a)) (le 4 (drop 2 b))) (eqb (le 2 (drop 6 a)) (le 2 (drop 6 b))))
  unfolding same
  same_is =
      rw (foid_says a pre.0, foid_says b pre.1) (ap (λ (t : Bool). both (eqb (le 2 (drop 0 a)) (le 2 (drop 0 b))) (both (eqb (le 4 (drop 2 a)) (le 4 (drop 2 b))) t))
      (both_true (eqb (le 2 (drop 6 a)) (le 2 (drop 6 b)))))

  module _ (x y : ℕ) (ex : x ≡ le 2 (drop 0 a)) (ey : y ≡ le 2 (drop 0 b)) where
    pub other_agen : (x ≡ y → ⊥) → false ≡ same (foid_of a) (foid_of b)
    other_agen n = sym (same_is ∙ rw (← ex, ← ey, ne_eqb x y n) refl)

    module _ (q : x ≡ y) (z w : ℕ) (ez : z ≡ le 4 (drop 2 a)) (ew : w ≡ le 4 (drop 2 b)) where
      pub other_fidn : (z ≡ w → ⊥) → false ≡ same (foid_of a) (foid_of b)
      other_fidn n = sym (same_is ∙ rw (← ex, ← ey, eq-eqb x y q, ← ez, ← ew, ne_eqb z w n) refl)

      pub same_fids : z ≡ w → (s t : ℕ) → s ≡ le 2 (drop 6 a) → t ≡ le 2 (drop 6 b) → eqb s t ≡ same (foid_of a) (foid_of b)
      same_fids n s t es et = sym (same_is ∙ rw (← ex, ← ey, eq-eqb x y q, ← ez, ← ew, eq-eqb z w n, ← es, ← et) refl)

-- ---- `held_foid`

-- eight bytes that are there
eight_inside : (s : List ℕ) (i : ℕ) → length (between s i (i + 8)) ≡ 8 → i + 8 ≤ length s
eight_inside s i e = let l : length (between s i (i + 8)) ≤ length s - i = simp (length-take, length-drop) (omega arith) in omega (arith, l, e)

module _ (d u : List ℕ) (from to : ℕ) (v : Version) (pre : (from ≤ to) × (to ≤ length u) × (length d ≤ 16777216) × (length u ≤ 16777216)
    × (fill (head_of Foid) [] (between u from to) ≡ true) × Each RightFoid (foid_bodies d u v)) where
  pub held_none : v.foids ≡ 0 → false ≡ same (foid_of (between u from to)) (gather foid_of (foid_bodies d u v))
  unfolding foid_bodies gather foid_of same
  held_none z = rw z refl

  module _ (some : v.foids ≡ 0 → ⊥) (s : List ℕ) (is : source v.slice d u ≡ s) where
    bodies_are : foid_bodies d u v ≡ between s v.foid (v.foid + 8) ∷ []
    unfolding foid_bodies
    bodies_are = rw (ne_eqb v.foids 0 some, is) refl

    pub held_right : fill (head_of Foid) [] (between s v.foid (v.foid + 8)) ≡ true
    unfolding Each
    held_right = (subst (Each RightFoid) bodies_are pre.5).0.filled

    pub held_inside : v.foid + 8 ≤ length s
    held_inside = eight_inside s v.foid (foid_long (between s v.foid (v.foid + 8)) held_right)

    pub held_same : (r : Bool) → r ≡ same (foid_of (between u from to)) (foid_of (between s v.foid (v.foid + 8)))
        → r ≡ same (foid_of (between u from to)) (gather foid_of (foid_bodies d u v))
    unfolding gather
    held_same r e = e ∙ ap (same (foid_of (between u from to))) (sym (ap (gather foid_of) bodies_are ∙ append-nil (foid_of (between s v.foid (v.foid + 8)))))

  -- which slice it is
  pub slice_old : v.slice ≡ 0 → source v.slice d u ≡ d
  unfolding source
  slice_old z = rw z refl

  pub slice_new : (v.slice ≡ 0 → ⊥) → source v.slice d u ≡ u
  unfolding source
  slice_new z = rw (ne_eqb v.slice 0 z) refl
