-- Laws of the record that the workspace holds, written: leader, directory, fields. Assumes nothing.
use Prim.Native.Nat.{ℕ, ◌+◌, ◌*◌, ◌^◌, ◌≤◌, ◌<◌}
use mathlib.Core.Path.{◌≡◌, refl, sym, ap, ◌∙◌, subst}
use mathlib.Core.Bool.{false}
use mathlib.Core.List.{List, [], ◌∷◌}
use native.Mathlib.Omega.{arith}
use lib.ListN.{length}
use Rattle.memory.specs.Put.{part}
use Rattle.memory.specs.Wrote.{Wrote}
use Rattle.memory.proofs.PutLaws.{length_part}
use Rattle.memory.proofs.WroteLaws.{wrote_length}
use Rattle.skeleton.specs.File.{Field}
use Rattle.skeleton.specs.Emit.{leading, entries, contents, emit}
use Rattle.fields.specs.Valid.{Bytes}
use Rattle.forest.specs.Forest.{Forest}
use Rattle.forest.specs.Flat.{flat}
use Rattle.rules.specs.Record.{Rec}
use Rattle.rules.specs.Written.{field_width, tree_bytes, written_fields, written_length}
use Rattle.items.specs.Items.{its}
use Rattle.cells.specs.Cells.{bodies_of}
use Rattle.version.specs.Areas.{list_area, inas_area, spas_area}
use Rattle.version.specs.Held.{Held}
use Rattle.version.specs.declared.Version.{Version}
use Rattle.version.proofs.AreaLaws.{list_long, spas_long}
use Rattle.writing.specs.Found.{Summed}
use Rattle.writing.specs.declared.measuring.Sum.{Sum}
use Rattle.writing.proofs.MeasuringLaws.{length_is}
use Rattle.writing.proofs.WriterLaws.{wrote_record}
use Rattle.emission.specs.Bodies.{joined}
use Rattle.emission.specs.Fields.{version_fields, total, Rooms, Few, Measured, Indexed, Placed, Listed, Writable, Recorded}
use Rattle.emission.specs.declared.measuring.Sizes.{Sizes}
use Rattle.emission.proofs.HeldLaws.{held_rooms, held_fields}
use Rattle.emission.proofs.LengthLaws.{held_indexed, held_summed}

-- ---- `put_record`

module _ (d u list inas spas : List ℕ) (v : Version) (m : Sizes) (at : ℕ) (out : List ℕ)
    (g : (Indexed d u inas v m × Placed d u list spas v × Listed d u list v m)
    × (((total v m).fields ≤ 16777216) × ((total v m).bytes ≤ 281474993487872) × (at + 25 + 14 * (total v m).fields + (total v m).bytes ≤ length out))) where
  pub record_small : Few v × (m.attr ≤ 1000000000000) × (m.inas ≤ 1000000000000)
  record_small = (g.0.0.few, g.0.0.attr_small, g.0.0.inas_small)

  pub record_leader : at + 24 ≤ length out
  record_leader = omega (arith, g.1.2)

  module _ (s : Sum) (e : s ≡ total v m) where
    fields_same : s.fields ≡ (total v m).fields
    fields_same = ap (λ (x : Sum). x.fields) e

    bytes_same : s.bytes ≡ (total v m).bytes
    bytes_same = ap (λ (x : Sum). x.bytes) e

    pub record_words : (14 * s.fields < 2 ^ 64) × (25 + 14 * s.fields < 2 ^ 64) × (25 + 14 * s.fields + s.bytes < 2 ^ 64)
    record_words = (
      omega (arith, fields_same, g.1.0),
      omega (arith, fields_same, g.1.0),
      omega (arith, fields_same, g.1.0, bytes_same, g.1.1),
    )

    module _ (p₁ : ℕ) (o₁ : List ℕ)
        (w₁ : (p₁ ≡ at + 24) × Wrote at (leading field_width field_width false (25 + 14 * s.fields + s.bytes) (25 + 14 * s.fields)) out p₁ o₁) where
      pub record_directory : Indexed d u inas v m × (p₁ + 14 * (total v m).fields ≤ length o₁)
      record_directory = (g.0.0, omega (arith, g.1.2, w₁.0, wrote_length w₁.1))

      module _ (p₂ : ℕ) (o₂ : List ℕ)
          (w₂ : (p₂ ≡ p₁ + 14 * (total v m).fields)
          × ((t c b : List ℕ) → length t ≡ m.attr → length c ≡ 8 * v.coord → length b ≡ 15 * v.spas
          → Wrote p₁ (entries field_width field_width 0 (version_fields d u inas v t c b)) o₁ p₂ o₂)) (l : length o₂ ≡ length o₁) where
        pub record_mark : p₂ + 1 ≤ length o₂
        record_mark = omega (arith, g.1.2, w₁.0, wrote_length w₁.1, w₂.0, l)

        module _ (p₃ : ℕ) (o₃ : List ℕ) (w₃ : (p₃ ≡ p₂ + 1) × Wrote p₂ (30 ∷ []) o₂ p₃ o₃) where
          pub record_contents : (Indexed d u inas v m × Placed d u list spas v × Listed d u list v m) × (p₃ + (total v m).bytes ≤ length o₃)
          record_contents = (g.0, omega (arith, g.1.2, w₁.0, wrote_length w₁.1, w₂.0, l, w₃.0, wrote_length w₃.1))

          -- the fields that are written, where f is the attributes
          abbrev fields : Forest → List Field
          fields f = version_fields d u inas v (tree_bytes f) (part 0 (8 * v.coord) list) (joined (bodies_of d u spas v.spas))

          pub record_written : (p₄ : ℕ) (o₄ : List ℕ) → ((f : Forest) → its d u list 0 v.attr ≡ flat 0 f → Wrote p₃ (contents (fields f)) o₃ p₄ o₄)
              → (f : Forest) → its d u list 0 v.attr ≡ flat 0 f → Summed (fields f) (total v m)
              → (p₄ ≡ at + written_length (fields f)) × Wrote at (emit field_width field_width false (fields f)) out p₄ o₄
          record_written p₄ o₄ w₄ f h q =
              let c : length (part 0 (8 * v.coord) list) ≡ 8 * v.coord = length_part 0 (8 * v.coord) list (omega (arith, g.0.1.coord_room)) in
              wrote_record (fields f) s (subst (λ (x : Sum). Summed (fields f) x) (sym e) q) false w₁.1
              (w₂.1 (tree_bytes f) (part 0 (8 * v.coord) list) (joined (bodies_of d u spas v.spas)) (sym (g.0.2.attr_is.is f h)) c g.0.1.spas_long)
              w₃.1 (w₄ f h)

-- ---- `write_version`

module _ (d u w : List ℕ) (v : Version) (l : (length d ≤ 16777216) × (length u ≤ 16777216) × (400000 ≤ length w)) (b : Bytes w) (m : Sizes) (k : Measured d u w v m)
    (at : ℕ) (out : List ℕ) where
  module _ (r : Rec) (h : Held d u w v r) (list inas spas : List ℕ) (el : list ≡ list_area w) (ei : inas ≡ inas_area w) (es : spas ≡ spas_area w) where
    rooms : Rooms d u w v
    rooms = held_rooms d u w v l r h

    -- the fields from the areas
    same_fields : written_fields r
        ≡ version_fields d u inas v (tree_bytes r.parts.attributes) (part 0 (8 * v.coord) list) (joined (bodies_of d u spas v.spas))
    same_fields = rw (el, ei, es) (held_fields d u w v b l.2 r h)

    summed : Summed (written_fields r) (total v m)
    summed = held_summed d u w v l r h m k b (total v m) refl

    indexed : Indexed d u inas v m
    indexed = rw ei (held_indexed d u w v l r h m k)

    list_room : length list ≡ 200000
    list_room = ap length el ∙ list_long w l.2

    placed : Placed d u list spas v
    placed =
        let n : length spas ≡ 94000 = ap length es ∙ spas_long w l.2 in
        record {
          coord_room = omega (arith, list_room, rooms.coord_room);
          spas_room = omega (arith, rooms.spas_room);
          spas_long = rw es rooms.spas_long;
        }

    listed : Listed d u list v m
    listed =
        record {
          old = l.0;
          new = l.1;
          short = omega (arith, list_room);
          attr_room = omega (arith, list_room, rooms.attr_room);
          attr_is = rw el k.attr_is;
        }

    pub version_room : at + written_length (written_fields r) ≤ length out → Writable d u list inas spas v m at (length out)
    version_room q = (
      (indexed, placed, listed),
      (summed.few, summed.small, omega (arith, q, length_is (written_fields r) (total v m) summed)),
    )

    pub version_written : (n : ℕ) (o : List ℕ) → Recorded d u list inas spas v m at out n o
        → (n ≡ at + written_length (written_fields r)) × Wrote at (emit field_width field_width false (written_fields r)) out n o
    version_written n o q =
        let z = q r.parts.attributes (rw el h.parts.attributes) (subst (λ (fs : List Field). Summed fs (total v m)) same_fields summed) in
        subst (λ (fs : List Field). (n ≡ at + written_length fs) × Wrote at (emit field_width field_width false fs) out n o) (sym same_fields) z
