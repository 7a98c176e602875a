-- Laws of the length of the record that the workspace holds. Assumes nothing.
use Prim.Native.Nat.{ℕ, ◌*◌, ◌≤◌}
use mathlib.Core.Path.{◌≡◌, sym}
use mathlib.Core.List.{List}
use native.Mathlib.Omega.{arith}
use lib.ListN.{length}
use Rattle.memory.specs.Put.{part}
use Rattle.memory.proofs.PutLaws.{length_part}
use Rattle.fields.specs.Valid.{Bytes}
use Rattle.rules.specs.Record.{Rec}
use Rattle.rules.specs.Written.{tree_bytes, written_fields}
use Rattle.cells.specs.Cells.{bodies_of}
use Rattle.version.specs.Areas.{list_area, inas_area, spas_area}
use Rattle.version.specs.Held.{Held}
use Rattle.version.specs.declared.Version.{Version}
use Rattle.version.proofs.AreaLaws.{list_long, inas_long}
use Rattle.writing.specs.Found.{Summed}
use Rattle.writing.specs.declared.measuring.Sum.{Sum}
use Rattle.emission.specs.Bodies.{joined}
use Rattle.emission.specs.Fields.{total, Rooms, Few, Measured, Indexed}
use Rattle.emission.specs.declared.measuring.Sizes.{Sizes}
use Rattle.emission.proofs.FieldsLaws.{version_summed}
use Rattle.emission.proofs.HeldLaws.{held_rooms, held_fields}

module _ (d u w : List ℕ) (v : Version) (l : (length d ≤ 16777216) × (length u ≤ 16777216) × (400000 ≤ length w)) (r : Rec) (h : Held d u w v r)
    (m : Sizes) (k : Measured d u w v m) where
  rooms : Rooms d u w v
  rooms = held_rooms d u w v l r h

  -- what the directory stands on
  pub held_indexed : Indexed d u (inas_area w) v m
  held_indexed =
      let n : length (inas_area w) ≡ 92000 = inas_long w l.2 in
      record {
        few = record { inas = omega (arith, rooms.inas_room); coord = omega (arith, rooms.coord_room); spas = omega (arith, rooms.spas_room) };
        foid_long = rooms.foid_long;
        attr_small = let a : 8 * v.attr ≤ 200000 = rooms.attr_room in omega (arith, k.attr_is.most);
        inas_short = omega arith;
        inas_room = omega (arith, rooms.inas_room);
        inas_is = k.inas_is;
        inas_small = omega (arith, k.inas_small);
      }

  -- what was measured can be summed up
  pub held_small : Few v × (m.attr ≤ 1000000000000) × (m.inas ≤ 1000000000000)
  held_small = (held_indexed.few, held_indexed.attr_small, held_indexed.inas_small)

  -- the tuples of the attributes have as many bytes as were measured
  pub held_attributes : length (tree_bytes r.parts.attributes) ≡ m.attr
  held_attributes = sym (k.attr_is.is r.parts.attributes h.parts.attributes)

  -- the sum is that of the fields that are written
  pub held_summed : Bytes w → (s : Sum) → s ≡ total v m → Summed (written_fields r) s
  held_summed g s e =
      let c = part 0 (8 * v.coord) (list_area w) in
      let b = joined (bodies_of d u (spas_area w) v.spas) in
      let long = length_part 0 (8 * v.coord) (list_area w) (omega (arith, list_long w l.2, rooms.coord_room)) in
      rw (held_fields d u w v g l.2 r h, e) (version_summed d u (inas_area w) v c b long rooms.spas_long m held_indexed (tree_bytes r.parts.attributes) held_attributes)
