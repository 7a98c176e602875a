-- Laws of the result's general record as a whole. Assumes nothing.
use mathlib.Core.Path.{◌≡◌, ◌∙◌, ap}
use mathlib.Core.Bool.{false}
use mathlib.Core.List.{List, [], ◌∷◌}
use Prim.Native.Nat.{ℕ, ◌+◌, ◌*◌, ◌≤◌}
use lib.ListN.{length}
use Rattle.base.specs.Check.{pass}
use Rattle.memory.specs.Wrote.{Wrote}
use Rattle.skeleton.specs.Emit.{sizes, leading, entries, contents, emit}
use Rattle.skeleton.specs.Place.{fields_at}
use Rattle.skeleton.specs.declared.directory.Shape.{Shape}
use Rattle.rules.specs.General.{general_record, merged}
use Rattle.rules.specs.Written.{field_width, written_length}
use Rattle.rules.specs.declared.Mode.TheVariants.{InUpdate}
use Rattle.writing.specs.Found.{Summed}
use Rattle.writing.specs.declared.measuring.Sum.{Sum}
use Rattle.writing.proofs.MeasuringLaws.{length_is}
use Rattle.writing.proofs.WriterLaws.{sizes_small, leader_room, directory_room_left, mark_room_left, fields_room_left, wrote_record}
use Rattle.following.specs.Merging.{parts_from}
use Rattle.following.proofs.MergingLaws.{parts_merged}

module _ (old : List ℕ) (ho : Shape) (new : List ℕ) (hn : Shape) (gn : general_record InUpdate (fields_at new hn 24) ≡ pass) where
  -- the fields tag by tag are those of the rules
  all : parts_from old ho new hn 0 ≡ merged (fields_at old ho 24) (fields_at new hn 24)
  all = parts_merged old ho new hn gn

  pub merged_long : (s : Sum) → Summed (parts_from old ho new hn 0) s
      → 25 + 14 * s.fields + s.bytes ≡ written_length (merged (fields_at old ho 24) (fields_at new hn 24))
  merged_long s e = length_is (parts_from old ho new hn 0) s e ∙ ap written_length all

  pub merged_small : (s : Sum) → Summed (parts_from old ho new hn 0) s → sizes (parts_from old ho new hn 0) ≤ 281474993487872
  merged_small s e = sizes_small (parts_from old ho new hn 0) s e

  module _ (at : ℕ) (o : List ℕ) (g : at + written_length (merged (fields_at old ho 24) (fields_at new hn 24)) ≤ length o) where
    room : at + written_length (parts_from old ho new hn 0) ≤ length o
    room = rw all g

    pub merged_leader : at + 24 ≤ length o
    merged_leader = leader_room (parts_from old ho new hn 0) at o room

    module _ (total base p₁ : ℕ) (o₁ : List ℕ) (w₁ : Wrote at (leading field_width field_width false total base) o p₁ o₁) where
      pub merged_directory : p₁ + 14 * length (parts_from old ho new hn 0) ≤ length o₁
      merged_directory = directory_room_left (parts_from old ho new hn 0) at o room false total base p₁ o₁ w₁

      module _ (p₂ : ℕ) (o₂ : List ℕ) (w₂ : Wrote p₁ (entries field_width field_width 0 (parts_from old ho new hn 0)) o₁ p₂ o₂) where
        pub merged_mark : p₂ + 1 ≤ length o₂
        merged_mark = mark_room_left (parts_from old ho new hn 0) at o room false total base p₁ o₁ w₁ p₂ o₂ w₂

        pub merged_fields : (p₃ : ℕ) (o₃ : List ℕ) → Wrote p₂ (30 ∷ []) o₂ p₃ o₃ → p₃ + sizes (parts_from old ho new hn 0) ≤ length o₃
        merged_fields = fields_room_left (parts_from old ho new hn 0) at o room false total base p₁ o₁ w₁ p₂ o₂ w₂

  pub merged_wrote : (s : Sum) → Summed (parts_from old ho new hn 0) s → {at p₁ p₂ p₃ p₄ : ℕ} {o o₁ o₂ o₃ o₄ : List ℕ}
      → Wrote at (leading field_width field_width false (25 + 14 * s.fields + s.bytes) (25 + 14 * s.fields)) o p₁ o₁
      → Wrote p₁ (entries field_width field_width 0 (parts_from old ho new hn 0)) o₁ p₂ o₂ → Wrote p₂ (30 ∷ []) o₂ p₃ o₃
      → Wrote p₃ (contents (parts_from old ho new hn 0)) o₃ p₄ o₄
      → (p₄ ≡ at + written_length (merged (fields_at old ho 24) (fields_at new hn 24)))
      × Wrote at (emit field_width field_width false (merged (fields_at old ho 24) (fields_at new hn 24))) o p₄ o₄
  merged_wrote s e w₁ w₂ w₃ w₄ = rw all at (wrote_record (parts_from old ho new hn 0) s e false w₁ w₂ w₃ w₄)

pub ruleset whole_ways = (merged_long, merged_small, merged_leader, merged_directory, merged_mark, merged_fields)
