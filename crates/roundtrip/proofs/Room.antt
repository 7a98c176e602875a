-- A record that can be written has room for each of its trees. Assumes nothing.
use Prim.Native.Nat.{ℕ, ◌≤◌}
use mathlib.Core.Path.{◌≡◌}
use mathlib.Core.List.{List, [], ◌∷◌, ◌++◌}
use native.Mathlib.Omega.{arith}
use lib.ListN.{length, length-append}
use Rattle.base.specs.Check.{pass}
use Rattle.base.specs.Lists.{each, Each}
use Rattle.skeleton.specs.File.{Field}
use Rattle.skeleton.specs.Emit.{sizes, length_of}
use Rattle.skeleton.proofs.EmitFieldsLaws.{sizes_append}
use Rattle.fields.specs.Table.{head_of}
use Rattle.fields.specs.Values.{puts}
use Rattle.fields.specs.declared.Format.TheVariants.{InasNew}
use Rattle.rules.specs.Tags.{FOID, ATTR, SPAS}
use Rattle.rules.specs.Record.{Rec, Assoc}
use Rattle.rules.specs.Written.{list_field, tree_bytes, assoc_field, nums, coord_tag, part_fields, written_fields, written_length, number12}
use Rattle.rules.proofs.LengthLaws.{short_record, list_size_lem}
use Rattle.roundtrip.proofs.Coordinates.{coord_bytes}
use Rattle.roundtrip.proofs.Spatial.{spatial_bytes}
use Rattle.roundtrip.proofs.Idents.{foid_bytes}

-- ---- how long it may be

-- a record that 12 passes
pub short : (fs : List Field) → number12 fs ≡ pass → length_of 5 5 fs ≤ 99999
unfolding written_length
short fs e = short_record fs e

-- ---- its trees

-- the trees of associations are not longer than their fields
assoc_sizes : (l : List Assoc) (n : ℕ) → sizes (each assoc_field l) ≤ n → Each (λ a. length (tree_bytes a.attributes) ≤ n) l
unfolding sizes each Each assoc_field
assoc_sizes [] n h = tt
assoc_sizes (a ∷ l) n h =
    let k = length-append (puts (head_of InasNew) (nums (a.key ++ (1 ∷ [])))) (tree_bytes a.attributes) in
    (omega arith, assoc_sizes l n (omega arith))

-- room for the tree of the record, and for those of its associations
pub record Roomy (r : Rec) : Type 0 where
  pub attributes : length (tree_bytes r.parts.attributes) ≤ 99999
  pub associations : Each (λ a. length (tree_bytes a.attributes) ≤ 99999) r.parts.associations

-- a record that can be written has it
pub roomy : (r : Rec) → number12 (written_fields r) ≡ pass → Roomy r
unfolding written_fields part_fields sizes
roomy r e =
    let l = short (written_fields r) e in
    let p = r.parts in
    let foid = list_field FOID (foid_bytes r.foid) in
    let attr = list_field ATTR (tree_bytes p.attributes) in
    let inas = each assoc_field p.associations in
    let tail = list_field (coord_tag r.kind) (coord_bytes p.coordinates) ++ list_field SPAS (spatial_bytes p.spatial) in
    let a = sizes_append foid (attr ++ (inas ++ tail)) in
    let b = sizes_append attr (inas ++ tail) in
    let c = sizes_append inas tail in
    let d = list_size_lem ATTR (tree_bytes p.attributes) in
    record { attributes = omega arith; associations = assoc_sizes p.associations 99999 (omega arith) }
