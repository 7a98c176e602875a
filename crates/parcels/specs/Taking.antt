-- A display takes parcels: 27 leaves its chart, else the file in the parcel is handed to it.
use Rattle.std.specs.Prelude.{ℕ, List, [], ◌∷◌}
use Rattle.base.specs.Choice.{pick}
use Rattle.fields.specs.Valid.{Bytes}
use Rattle.rules.specs.Outcome.{refused}
use Rattle.rules.specs.Answers.{Output, output_of, update}
use Rattle.displays.specs.Display.{taken}
use Rattle.parcels.specs.Parcel.{body_of, carries_file, wrong_parcel}

-- the answer to a parcel, and every byte of the pool that is being built
unfoldable pub taking : List ℕ → List ℕ → ℕ → ℕ → Output
taking chart parcel room work =
    pick (carries_file parcel) (update chart (body_of parcel) room work) (output_of room (refused 0 0 wrong_parcel))

-- a parcel of bytes that reaches a display, and what the display can lend then: an output slice of so many bytes and a workspace of so many
pub record Reached : Type 0 where
  pub parcel : List ℕ
  pub is_bytes : Bytes parcel
  pub room : ℕ
  pub work : ℕ

-- the chart after one parcel
unfoldable pub after_parcel : List ℕ → Reached → List ℕ
after_parcel chart t = taken chart (taking chart t.parcel t.room t.work)

-- the chart after all that reached the display, in the order in which it came
unfoldable pub shown_by : List ℕ → List Reached → List ℕ
shown_by chart [] = chart
shown_by chart (t ∷ ts) = shown_by (after_parcel chart t) ts
