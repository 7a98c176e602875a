-- The sizes that a version keeps are those of what the workspace holds. Assumes nothing.
use Prim.Native.Nat.{ℕ, zero, suc, ◌+◌, ◌-◌, ◌*◌, ◌≤◌}
use mathlib.Core.Path.{◌≡◌, refl, sym, ap, ◌∙◌, subst}
use mathlib.Core.Bool.{Bool, true, false}
use mathlib.Core.List.{List, [], ◌∷◌}
use native.Mathlib.Omega.{arith}
use lib.Dec.{eqb}
use lib.ListN.{length, drop, length-take, length-drop}
use Rattle.base.specs.Choice.{pick}
use Rattle.base.specs.Lists.{each}
use Rattle.skeleton.specs.Emit.{sizes}
use Rattle.fields.specs.Bytes.{run}
use Rattle.forest.specs.Forest.{Forest}
use Rattle.forest.specs.Flat.{flat}
use Rattle.rules.specs.Record.{Rec}
use Rattle.rules.specs.Written.{tree_bytes}
use Rattle.items.specs.Items.{text_from, offset_of, source_of, source, value_of, item_at, its}
use Rattle.items.proofs.ItemLaws.{its_end, its_more}
use Rattle.cells.specs.Cells.{start_of, slice_of, size_of as length_at, body_at, bodies_from, bodies_of, fields_size}
use Rattle.numbering.specs.Tuples.{size_of, Sized}
use Rattle.numbering.proofs.EmittingLaws.{forest_size}
use Rattle.version.specs.Areas.{list_area, inas_area}
use Rattle.version.specs.Held.{Held}
use Rattle.version.specs.declared.Version.{Version}
use Rattle.emission.specs.Bodies.{inas_fields}
use Rattle.emission.specs.Fields.{sizes_of, Measured}
use Rattle.emission.specs.declared.measuring.Sizes.{Sizes}

-- ---- INAS fields

pub fields_size_lem : (bs : List (List ℕ)) → fields_size bs ≡ sizes (inas_fields bs)
unfolding fields_size inas_fields each sizes
fields_size_lem [] = refl
fields_size_lem (b ∷ bs) = omega (arith, fields_size_lem bs)

-- ---- what stands in two slices

module _ (d u : List ℕ) (old : length d ≤ 16777216) (new : length u ≤ 16777216) where
  source_most : (x : ℕ) → length (source x d u) ≤ 16777216
  unfolding source
  source_most x = go (eqb x 0)
    where
      go : (t : Bool) → length (pick t d u) ≤ 16777216
      go true = old
      go false = new

  -- a body
  body_most : (c : List ℕ) (i : ℕ) → length (body_at d u c i) ≤ 16777216
  unfolding body_at
  body_most c i =
      let s = source (slice_of c i) d u in
      let o = start_of c i in
      omega (arith, length-take (o + length_at c i - o) (drop o s), length-drop o s, source_most (slice_of c i))

  bodies_most : (c : List ℕ) (n i : ℕ) → fields_size (bodies_from d u c i n) ≤ 16777217 * n
  unfolding bodies_from fields_size
  bodies_most c zero i = omega arith
  bodies_most c (suc n) i = omega (arith, body_most c i, bodies_most c n (i + 1))

  -- a value
  value_most : (w : List ℕ) (i : ℕ) → length (value_of d u w i) ≤ 16777216
  unfolding value_of text_from
  value_most w i =
      let s = source (source_of w i) d u in
      let o = offset_of w i in
      omega (arith, length-take (run (drop o s)) (drop o s), length-drop o s, source_most (source_of w i))

  items_most : (w : List ℕ) (n m i : ℕ) → i + m ≡ n → (8 * m ≤ size_of (its d u w i n)) × (size_of (its d u w i n) ≤ m * 16777224)
  unfolding size_of item_at
  items_most w n zero i e = let z = ap size_of (its_end d u w i n (omega arith)) in (omega arith, omega arith)
  items_most w n (suc m) i e =
      let z = ap size_of (its_more d u w i n (omega arith)) in
      let (a, b) = items_most w n m (i + 1) (omega arith) in
      (omega (arith, a), omega (arith, b, value_most w i))

  -- the tuples of a forest
  forest_sized : (w : List ℕ) (n : ℕ) (f : Forest) → its d u w 0 n ≡ flat 0 f → Sized d u w n (length (tree_bytes f))
  forest_sized w n f e =
      let s : length (tree_bytes f) ≡ size_of (its d u w 0 n) = forest_size d u w n f e in
      let (a, b) = items_most w n n 0 (omega arith) in
      record { sum = s; is = λ g x. s ∙ sym (forest_size d u w n g x); least = omega arith; most = omega arith }

-- ---- the version

pub held_measured : (d u w : List ℕ) (v : Version) → (length d ≤ 16777216) × (length u ≤ 16777216) × (400000 ≤ length w) → (r : Rec) → Held d u w v r
    → (m : Sizes) → m ≡ sizes_of v → Measured d u w v m
held_measured d u w v l r h m e =
    let p = h.parts in
    let bs = bodies_of d u (inas_area w) v.inas in
    rw e (record {
      attr_is = subst (Sized d u (list_area w) v.attr) (sym p.attr_sized) (forest_sized d u l.0 l.1 (list_area w) v.attr r.parts.attributes p.attributes);
      inas_is = p.inas_sized ∙ fields_size_lem bs;
      inas_small = omega (arith, p.inas_sized, p.inas_room, bodies_most d u l.0 l.1 (inas_area w) v.inas 0);
    })
