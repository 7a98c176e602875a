-- A record that the workspace holds and that fits in 99,999 bytes has few items, cells and coordinates. Assumes nothing.
use Prim.Native.Nat.{ℕ, zero, suc, ◌+◌, ◌*◌, ◌≤◌}
use mathlib.Core.Path.{◌≡◌, refl, sym, ap, ◌∙◌}
use mathlib.Core.List.{List, [], ◌∷◌, ◌++◌}
use native.Mathlib.Omega.{arith}
use lib.ListN.{length, take, length-append, length-take, length-drop}
use Rattle.base.specs.Check.{pass}
use Rattle.base.specs.Lists.{each, gather, Each}
use Rattle.skeleton.specs.File.{Field}
use Rattle.skeleton.specs.Emit.{sizes}
use Rattle.skeleton.proofs.EmitFieldsLaws.{sizes_append}
use Rattle.fields.specs.Bytes.{bytes}
use Rattle.fields.specs.Table.{head_of, tuple_of}
use Rattle.fields.specs.Values.{put, puts, put_all}
use Rattle.fields.specs.declared.Format.TheVariants.{Foid, InasNew, SpasNew, C2il}
use Rattle.fields.proofs.FieldLaws.{head_even}
use Rattle.forest.specs.Forest.{Forest, Tup, tuples_of}
use Rattle.forest.specs.Flat.{flat}
use Rattle.rules.specs.Tags.{FOID, ATTR, SPAS}
use Rattle.rules.specs.Coordinates.{Coord}
use Rattle.rules.specs.Record.{Rec, Spatial}
use Rattle.rules.specs.Written.{list_field, nums, tree_bytes, assoc_field, coord_vals, spatial_vals, coord_tag, part_fields, written_fields, written_length, number12}
use Rattle.rules.proofs.LengthLaws.{short_record, list_size_lem}
use Rattle.rules.proofs.CoordinateLaws.{coords_count}
use Rattle.items.specs.Items.{its}
use Rattle.cells.specs.Cells.{bodies_of}
use Rattle.numbering.specs.Tuples.{tuple_bytes, tuples_bytes}
use Rattle.numbering.proofs.BackLaws.{tuples_to, tuples_end, tuples_more, tuples_forest}
use Rattle.numbering.proofs.BytesLaws.{tuples_cons, tuple_length, tree_tuples}
use Rattle.version.specs.Areas.{list_area, inas_area, spas_area}
use Rattle.version.specs.Held.{RightInas, Held}
use Rattle.version.specs.declared.Version.{Version}
use Rattle.emission.specs.Bodies.{joined, inas_fields}
use Rattle.emission.proofs.FieldsLaws.{length_bodies, length_inas}
use Rattle.emission.proofs.HeldLaws.{inas_as, spas_as, spas_total}
use Rattle.emission.proofs.SizeLaws.{fields_size_lem}

-- ---- the bytes that each part has at least

-- attributes: a tuple has 8
tuples_least : (ts : List Tup) → 8 * length ts ≤ length (tuples_bytes ts)
tuples_least [] = omega arith
tuples_least (t ∷ ts) =
    omega (arith, ap length (tuples_cons t ts) ∙ length-append (tuple_bytes t) (tuples_bytes ts), tuple_length t, tuples_least ts)

tuples_count : (s u w : List ℕ) (n m i : ℕ) → i + m ≡ n → length (tuples_to s u w i n) ≡ m
tuples_count s u w n zero i e = ap length (tuples_end s u w i n (omega arith))
tuples_count s u w n (suc m) i e =
    omega (arith, ap length (tuples_more s u w i n (omega arith)), tuples_count s u w n m (i + 1) (omega arith))

tree_least : (s u w : List ℕ) (n : ℕ) (f : Forest) → its s u w 0 n ≡ flat 0 f → 8 * n ≤ length (tree_bytes f)
tree_least s u w n f e =
    let c : length (tuples_of f) ≡ n = sym (ap length (tuples_forest s u w n f e)) ∙ tuples_count s u w n n 0 (omega arith) in
    omega (arith, tuples_least (tuples_of f), ap length (tree_tuples f))

-- an INAS has 10, and its 1E
inas_least : (bs : List (List ℕ)) → Each RightInas bs → 11 * length bs ≤ sizes (inas_fields bs)
unfolding Each inas_fields each sizes head_of
inas_least [] g = omega arith
inas_least (b ∷ bs) g =
    let n : 10 ≤ length b = (head_even (head_of InasNew) (tuple_of InasNew) b refl g.0.filled).0 in
    omega (arith, inas_least bs g.1)

-- coordinates: a tuple has 8
coords_long : (cs : List Coord) → length (put_all (tuple_of C2il) (each coord_vals cs)) ≡ 8 * length cs
unfolding put_all gather each coord_vals puts put tuple_of bytes
coords_long [] = refl
coords_long (c ∷ cs) = omega (arith, coords_long cs)

-- ---- a record that fits

module _ (d u w : List ℕ) (v : Version) (r : Rec) (h : Held d u w v r) (fit : number12 (written_fields r) ≡ pass) where
  abbrev attributes : List Field
  attributes = list_field ATTR (tree_bytes r.parts.attributes)

  abbrev associations : List Field
  associations = each assoc_field r.parts.associations

  abbrev coordinates : List Field
  coordinates = list_field (coord_tag r.kind) (put_all (tuple_of C2il) (each coord_vals r.parts.coordinates))

  abbrev spatial : List Field
  spatial = list_field SPAS (put_all (tuple_of SpasNew) (each spatial_vals r.parts.spatial))

  short : written_length (written_fields r) ≤ 99999
  short = short_record (written_fields r) fit

  -- each part has a share of the record
  shares : sizes attributes + (14 * length associations + sizes associations) + sizes coordinates + sizes spatial ≤ 99999
  unfolding written_fields part_fields written_length sizes
  shares =
      let f = list_field FOID (puts (head_of Foid) (nums r.foid)) in
      let a = attributes in let n = associations in let c = coordinates in let s = spatial in
      omega (
        arith,
        short,
        sizes_append f (a ++ (n ++ (c ++ s))),
        sizes_append a (n ++ (c ++ s)),
        sizes_append n (c ++ s),
        sizes_append c s,
        length-append f (a ++ (n ++ (c ++ s))),
        length-append a (n ++ (c ++ s)),
        length-append n (c ++ s),
      )

  pub small_attr : 8 * v.attr ≤ 99999
  small_attr =
      let t = tree_bytes r.parts.attributes in
      omega (arith, shares, list_size_lem ATTR t, tree_least d u (list_area w) v.attr r.parts.attributes h.parts.attributes)

  pub small_inas : 25 * v.inas ≤ 99999
  small_inas =
      let bs = bodies_of d u (inas_area w) v.inas in
      let e : associations ≡ inas_fields bs = ap (each assoc_field) h.parts.associations ∙ inas_as bs h.parts.inas_right in
      let n : length bs ≡ v.inas = length_bodies d u (inas_area w) 0 v.inas in
      omega (arith, shares, ap sizes e, ap length e, length_inas bs, inas_least bs h.parts.inas_right)

  pub small_bytes : v.inasbytes ≤ 99999
  small_bytes =
      let bs = bodies_of d u (inas_area w) v.inas in
      let e : associations ≡ inas_fields bs = ap (each assoc_field) h.parts.associations ∙ inas_as bs h.parts.inas_right in
      omega (arith, shares, ap sizes e, h.parts.inas_sized ∙ fields_size_lem bs)

  pub small_coord : 200000 ≤ length w → 8 * v.coord ≤ 99999
  small_coord l =
      let b = take (8 * v.coord) (list_area w) in
      let m : length b ≡ 8 * v.coord = simp (length-take, length-drop) (omega (arith, h.parts.coord_room)) in
      let n : length r.parts.coordinates ≡ v.coord = ap length h.parts.coordinates ∙ coords_count b v.coord m in
      let cs = r.parts.coordinates in
      omega (arith, shares, list_size_lem (coord_tag r.kind) (put_all (tuple_of C2il) (each coord_vals cs)), coords_long cs)

  pub small_spas : 15 * v.spas ≤ 99999
  small_spas =
      let bs = bodies_of d u (spas_area w) v.spas in
      let vs = each spatial_vals r.parts.spatial in
      let e : put_all (tuple_of SpasNew) vs ≡ joined bs =
      ap (λ (ss : List Spatial). put_all (tuple_of SpasNew) (each spatial_vals ss)) h.parts.spatial ∙ spas_as bs h.parts.spas_right in
      let n : length bs ≡ v.spas = length_bodies d u (spas_area w) 0 v.spas in
      omega (arith, shares, list_size_lem SPAS (put_all (tuple_of SpasNew) vs), ap length e, spas_total bs h.parts.spas_right)
