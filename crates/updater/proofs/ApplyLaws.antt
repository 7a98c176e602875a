-- The ways of a dataset and an update whose front records are found: to the general record, to the records behind it, and to the whole result. Assumes nothing.
use Prim.Native.Nat.{ℕ, ◌+◌, ◌≤◌}
use mathlib.Core.Path.{◌≡◌, sym, ◌∙◌}
use mathlib.Core.Bool.{true, false}
use mathlib.Core.List.{List, ◌++◌}
use native.Mathlib.Omega.{arith}
use lib.ListN.{length}
use Rattle.std.specs.Prelude.{Result, Ok, Err}
use Rattle.base.specs.Check.{pass}
use Rattle.base.specs.declared.Fault.{Fault}
use Rattle.memory.specs.Wrote.{Wrote}
use Rattle.skeleton.specs.Emit.{emit}
use Rattle.rules.specs.General.{general_record, merged}
use Rattle.rules.specs.Written.{field_width, written_length}
use Rattle.rules.specs.Update.{general}
use Rattle.rules.specs.declared.Answer.{Answer}
use Rattle.rules.specs.declared.Mode.TheVariants.{InDataset, InUpdate}
use Rattle.updates.specs.Streamed.{head_bytes}
use Rattle.updater.specs.Pieces.{Cut, Lies, fields_in}
use Rattle.updater.specs.Told.{general_by}
use Rattle.updater.specs.Stages.{Fits, Begun, Acted, Built}
use Rattle.updater.specs.declared.front.Piece.{Piece}
use Rattle.updater.proofs.StageLaws.{refusing, built_as, unlike, general_long}
use Rattle.updater.proofs.PlacedLaws.{Placed, placed, old_passed, new_passed, first_short, third_short, told, told_short, begun}
use Rattle.updater.proofs.ActLaws.{built_not, front_room, built_whole}

module _ (f u : List ℕ) (us : ℕ) (k : Fits f u us)
    (first : Piece) (c1 : Cut f 0 first) (old : Piece) (c2 : Cut f first.end old) (third : Piece) (c3 : Cut f old.end third)
    (sent : Piece) (c4 : Cut u 0 sent) (new : Piece) (c5 : Cut u sent.end new) where
  five : Placed f u us k first old third new
  five = placed f u us k first c1 old c2 third c3 sent c4 new c5

  -- what the general record stands on
  pub general_lies : (Lies f old × Lies u new) × ((general_record InDataset (fields_in f old) ≡ pass) × (general_record InUpdate (fields_in u new) ≡ pass))
  general_lies = ((five.old_lies, five.new_lies), (old_passed f u us k first old third new five, new_passed f u us k first old third new five))

  module _ (r : Result ℕ Fault) (er : r ≡ general_by (general (fields_in f old) (fields_in u new))) where
    -- 8 or 12
    pub general_refused : (y : Fault) → r ≡ Err y → (room size : ℕ) → 400000 ≤ size → (o : List ℕ) (a : Answer) → a ≡ refusing y.number 2 2 → Built f u room size a o
    general_refused y x room size big o a same =
        built_as f u room size a (refusing y.number 2 2) o same (unlike f u us k r (told f u us k first old third new five r er) y x room size big o)

    module _ (n : ℕ) (x : r ≡ Ok n) where
      -- what the length of the first three stands on
      pub front_lies : (Lies f first × Lies f third × (n ≤ 99999)) × ((written_length (fields_in f first) ≤ 99999) × (written_length (fields_in f third) ≤ 99999))
      front_lies = (
        (five.first_lies, five.third_lies, told_short f u us k first old third new five r er n x),
        (first_short f u us k first old third new five, third_short f u us k first old third new five),
      )

      module _ (front : ℕ) (e : front ≡ written_length (fields_in f first) + (n + written_length (fields_in f third))) where
        pub front_begun : Begun f u third.end us front
        front_begun = begun f u us k first old third new five r er n x front e

        module _ (room size : ℕ) (big : 400000 ≤ size) (a : Answer) (o : List ℕ) (d : Acted f u third.end us front room size a o) where
          -- a refusal
          pub front_not : (a.number ≡ 0 → ⊥) → Built f u room size a o
          front_not nz = built_not f u third.end us front front_begun room size big a o d nz o

          module _ (z : a.number ≡ 0) where
            -- the first three records have room
            pub front_fits : written_length (fields_in f first) + (written_length (merged (fields_in f old) (fields_in u new)) + written_length (fields_in f third)) ≤ length o
            front_fits =
                let long = (general_long (fields_in f old) (fields_in u new) n (sym x ∙ er)).1 in
                let room = front_room f u third.end us front front_begun room size big a o d z in
                omega (arith, long, room, e)

            pub front_stands : (Lies f first × Lies f old × Lies f third × Lies u new)
                × (((general_record InDataset (fields_in f old) ≡ pass) × (general_record InUpdate (fields_in u new) ≡ pass))
                × (written_length (fields_in f first) + (written_length (merged (fields_in f old) (fields_in u new)) + written_length (fields_in f third)) ≤ length o))
            front_stands = ((five.first_lies, five.old_lies, five.third_lies, five.new_lies), (general_lies.1, front_fits))

            -- the whole result
            pub front_whole : (n : ℕ) (o' : List ℕ)
                → Wrote 0 (emit field_width field_width true (fields_in f first) ++ (emit field_width field_width false (merged (fields_in f old) (fields_in u new)) ++ emit field_width field_width false (fields_in f third))) o n o'
                → Built f u room size a o'
            unfolding head_bytes front_begun begun
            front_whole n o' w =
                built_whole f u third.end us front front_begun room size big a o d z n o'
                (rw (five.first_is, five.old_is, five.new_is, five.third_is) at w)
