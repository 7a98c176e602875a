-- The record that the workspace holds is written as the fields that are copied. Assumes nothing.
use Prim.Native.Nat.{ℕ, ◌+◌, ◌*◌, ◌%◌, ◌≤◌}
use mathlib.Core.Path.{◌≡◌, refl, sym, ap, ap₂, ◌∙◌}
use mathlib.Core.Bool.{Bool, true, false}
use mathlib.Core.List.{List, [], ◌∷◌, ◌++◌, append-nil, append_assoc}
use native.Mathlib.Omega.{arith}
use lib.Dec.{eqb}
use lib.Seq.{take_all}
use lib.ListN.{length, take, length-append, length-take, length-drop}
use Rattle.base.specs.Choice.{pick}
use Rattle.base.specs.Lists.{each, gather, Each}
use Rattle.base.proofs.CheckLaws.{passed_inv}
use Rattle.memory.specs.Digits.{digits, little_endian}
use Rattle.memory.specs.Put.{part}
use Rattle.skeleton.specs.File.{Field}
use Rattle.skeleton.specs.Place.{between}
use Rattle.fields.specs.Bytes.{bytes}
use Rattle.fields.specs.Table.{head_of, tuple_of}
use Rattle.fields.specs.Values.{put, value, values, puts, put_all}
use Rattle.fields.specs.Valid.{Bytes}
use Rattle.fields.specs.Places.{ending_at, all_raw}
use Rattle.fields.specs.declared.Format.TheVariants.{Foid, SpasNew, C2il}
use Rattle.fields.proofs.ByteLaws.{bytes_take}
use Rattle.fields.proofs.SizeLaws.{num_widths}
use Rattle.fields.proofs.TupleLaws.{first_tuple}
use Rattle.fields.proofs.EvenLaws.{raw_fill}
use Rattle.fields.proofs.EncodeLaws.{puts_values}
use Rattle.fields.proofs.FieldLaws.{fill_list, head_length_lem}
use Rattle.rules.specs.Tags.{FOID, ATTR, SPAS}
use Rattle.rules.specs.Kind.{rcnm, tag_of, coded}
use Rattle.rules.specs.Content.{ident_format}
use Rattle.rules.specs.Coordinates.{Coord, coords_in}
use Rattle.rules.specs.Trees.{inas_tree}
use Rattle.rules.specs.Record.{Rec, Spatial, foid_of, assoc_of}
use Rattle.rules.specs.Written.{field_as, list_field, nums, ident_bytes, tree_bytes, assoc_field, coord_vals, spatial_vals, coord_tag, part_fields, written_fields}
use Rattle.rules.specs.declared.Kind.{Kind}
use Rattle.rules.specs.declared.Kind.TheVariants.{Info, Point, Multi, Feature}
use Rattle.items.specs.Items.{source}
use Rattle.cells.specs.Cells.{bodies_of, spatial_in}
use Rattle.version.specs.Areas.{list_area, inas_area, spas_area}
use Rattle.version.specs.Held.{RightInas, RightSpas, RightFoid, foid_bodies, Held}
use Rattle.version.specs.declared.Version.{Version}
use Rattle.writing.proofs.SameBytesLaws.{foid_again, inas_again, none, one, coords_again, spatial_again}
use Rattle.emission.specs.Bodies.{joined, inas_fields}
use Rattle.emission.specs.Fields.{code_part, ident_part, foid_part, last_fields, version_fields, foid_size, Rooms}
use Rattle.emission.proofs.FieldsLaws.{length_bodies}

-- ---- the identifier

ident_as : (k : Kind) (v : Version) (r : Rec) → v.kind ≡ k → r.kind ≡ k → v.rcid ≡ r.rcid → v.code ≡ r.code → v.rver ≡ r.rver → ident_bytes r ≡ ident_part v
unfolding ident_bytes ident_part code_part little_endian digits bytes puts put nums each rcnm coded head_of ident_format
ident_as Info v r e f a b c = rw (e, f, a, b, c)
ident_as Point v r e f a b c = rw (e, f, a, c)
ident_as Multi v r e f a b c = rw (e, f, a, c)
ident_as Feature v r e f a b c = rw (e, f, a, b, c)

-- ---- FOID

foid_long : (bs : List (List ℕ)) → Each RightFoid bs → length (joined bs) ≡ 8 * length bs
unfolding Each joined gather head_of
foid_long [] g = refl
foid_long (b ∷ bs) g =
    let n : length b ≡ 8 = head_length_lem (head_of Foid) b refl g.0.filled in
    let l = foid_long bs g.1 in
    simp length-append (omega arith)

foid_length : (d u : List ℕ) (v : Version) → Each RightFoid (foid_bodies d u v) → length (foid_part d u v) ≡ foid_size v.foids
unfolding foid_part foid_size
foid_length d u v g = foid_long (foid_bodies d u v) g ∙ count (eqb v.foids 0) refl
  where
    count : (t : Bool) → eqb v.foids 0 ≡ t → 8 * length (foid_bodies d u v) ≡ pick (eqb v.foids 0) 0 8
    count true q = unfold foid_bodies in rw q
    count false q = unfold foid_bodies in rw q

-- at most one
foid_as : (t : Bool) (b : List ℕ) → let bs = pick t [] (b ∷ []) in Each RightFoid bs → puts (head_of Foid) (nums (gather foid_of bs)) ≡ joined bs
unfolding Each joined gather nums each puts head_of
foid_as true b g = refl
foid_as false b g =
    ap (λ (ns : List ℕ). puts (head_of Foid) (nums ns)) (append-nil (foid_of b)) ∙ foid_again b g.0.bytes g.0.filled ∙ sym (append-nil b)

-- ---- INAS

pub inas_as : (bs : List (List ℕ)) → Each RightInas bs → each assoc_field (each assoc_of bs) ≡ inas_fields bs
unfolding Each each inas_fields
inas_as [] g = refl
inas_as (b ∷ bs) g =
    let t = passed_inv (inas_tree b) g.0.tree in
    ap₂ (λ (x : Field) (xs : List Field). x ∷ xs) (inas_again b t.0 g.0.bytes g.0.filled t.1) (inas_as bs g.1)

-- ---- coordinates

coord_as : (b : List ℕ) (n : ℕ) → Bytes b → length b ≡ 8 * n → put_all (tuple_of C2il) (each coord_vals (coords_in b)) ≡ b
unfolding gather ending_at tuple_of all_raw
coord_as b n g e =
    let m : length b % 8 ≡ 0 = omega arith in
    let z = fill_list (tuple_of C2il) b (raw_fill (tuple_of C2il) refl (omega arith) b m) in
    ap (λ (cs : List Coord). put_all (tuple_of C2il) (each coord_vals cs)) (sym (append-nil (coords_in b)))
    ∙ coords_again (b ∷ []) (one g z none)
    ∙ append-nil b

-- ---- SPAS

-- one tuple
spas_one : (b : List ℕ) → RightSpas b → puts (tuple_of SpasNew) (spatial_vals (spatial_in b)) ≡ b
unfolding values tuple_of value ending_at head_of
spas_one b g =
    let l : length b ≡ 15 = g.long in
    let f = first_tuple (tuple_of SpasNew) b (omega arith) (fill_list (tuple_of SpasNew) b g.filled) in
    let n : f.bytes ≡ 15 = num_widths (tuple_of SpasNew) b f.bytes refl f.taken in
    ap (puts (tuple_of SpasNew)) (spatial_again b f.bytes f.taken)
    ∙ puts_values (tuple_of SpasNew) b f.bytes g.bytes f.taken
    ∙ take_all f.bytes b (omega arith)

pub spas_as : (bs : List (List ℕ)) → Each RightSpas bs → put_all (tuple_of SpasNew) (each spatial_vals (each spatial_in bs)) ≡ joined bs
unfolding Each put_all gather each joined
spas_as [] g = refl
spas_as (b ∷ bs) g = ap₂ (λ (x y : List ℕ). x ++ y) (spas_one b g.0) (spas_as bs g.1)

pub spas_total : (bs : List (List ℕ)) → Each RightSpas bs → length (joined bs) ≡ 15 * length bs
unfolding Each joined gather
spas_total [] g = refl
spas_total (b ∷ bs) g =
    let n : length b ≡ 15 = g.0.long in
    let l = spas_total bs g.1 in
    simp length-append (omega arith)

-- ---- the rooms

pub held_rooms : (d u w : List ℕ) (v : Version) → (length d ≤ 16777216) × (length u ≤ 16777216) × (400000 ≤ length w) → (r : Rec) → Held d u w v r → Rooms d u w v
held_rooms d u w v l r h =
    let p = h.parts in
    record {
      work = l.2;
      old = l.0;
      new = l.1;
      attr_room = p.attr_room;
      inas_room = p.inas_room;
      coord_room = p.coord_room;
      spas_room = p.spas_room;
      foid_long = foid_length d u v h.foid_right;
      spas_long =
          spas_total (bodies_of d u (spas_area w) v.spas) p.spas_right ∙ ap (λ (n : ℕ). 15 * n) (length_bodies d u (spas_area w) 0 v.spas);
    }

-- ---- the fields

module _ (d u w : List ℕ) (v : Version) (g : Bytes w) (l : 400000 ≤ length w) (r : Rec) (h : Held d u w v r) where
  coords_held : put_all (tuple_of C2il) (each coord_vals r.parts.coordinates) ≡ part 0 (8 * v.coord) (list_area w)
  unfolding part
  coords_held =
      let p = h.parts in
      let b = take (8 * v.coord) (list_area w) in
      let n : length b ≡ 8 * v.coord = simp (length-take, length-drop) (omega (arith, p.coord_room)) in
      ap (λ (cs : List Coord). put_all (tuple_of C2il) (each coord_vals cs)) p.coordinates
      ∙ coord_as b v.coord (bytes_take (8 * v.coord) (list_area w) (bytes_take 200000 w g)) n

  spas_held : put_all (tuple_of SpasNew) (each spatial_vals r.parts.spatial) ≡ joined (bodies_of d u (spas_area w) v.spas)
  spas_held =
      let p = h.parts in
      ap (λ (ss : List Spatial). put_all (tuple_of SpasNew) (each spatial_vals ss)) p.spatial ∙ spas_as (bodies_of d u (spas_area w) v.spas) p.spas_right

  inas_held : each assoc_field r.parts.associations ≡ inas_fields (bodies_of d u (inas_area w) v.inas)
  inas_held = let p = h.parts in ap (each assoc_field) p.associations ∙ inas_as (bodies_of d u (inas_area w) v.inas) p.inas_right

  foid_held : puts (head_of Foid) (nums r.foid) ≡ foid_part d u v
  unfolding foid_part foid_bodies
  foid_held =
      ap (λ (ns : List ℕ). puts (head_of Foid) (nums ns)) h.foid
      ∙ foid_as (eqb v.foids 0) (between (source v.slice d u) v.foid (v.foid + 8)) h.foid_right

  pub held_fields : written_fields r
      ≡ version_fields d u (inas_area w) v (tree_bytes r.parts.attributes) (part 0 (8 * v.coord) (list_area w)) (joined (bodies_of d u (spas_area w) v.spas))
  unfolding written_fields part_fields version_fields last_fields
  held_fields =
      let i = field_as (tag_of v.kind) (ident_part v) in
      let f = list_field FOID (foid_part d u v) in
      let a = list_field ATTR (tree_bytes r.parts.attributes) in
      let n = inas_fields (bodies_of d u (inas_area w) v.inas) in
      let c = list_field (coord_tag v.kind) (part 0 (8 * v.coord) (list_area w)) in
      let s = list_field SPAS (joined (bodies_of d u (spas_area w) v.spas)) in
      rw (
        ident_as r.kind v r h.kind refl h.rcid h.code h.rver,
        foid_held,
        inas_held,
        coords_held,
        spas_held,
        sym h.kind,
      )
      (ap (λ (gs : List Field). i ∷ (f ++ (a ++ gs))) (sym (append_assoc n c s)) ∙ ap (λ (gs : List Field). i ∷ gs) (sym (append_assoc f a (n ++ c ++ s))))
