-- One display: its chart, the files that reach it, and the room that it has for each. All in bytes, by the updater's own answer.
use Rattle.std.specs.Prelude.{ℕ, List, [], ◌∷◌, length, take, eqb, ltb}
use Rattle.std.proofs.Math.Option.{Option, some, none}
use Rattle.base.specs.Choice.{pick}
use Rattle.base.specs.Check.{fault}
use Rattle.fields.specs.Valid.{Bytes}
use Rattle.rules.specs.General.{number_of}
use Rattle.rules.specs.Written.{Dataset, written_bytes, count}
use Rattle.rules.specs.Outcome.{Outcome, done, refused, and_then}
use Rattle.rules.specs.File.{read_dataset, writable, Sent, read_update}
use Rattle.rules.specs.Update.{updated}
use Rattle.rules.specs.Answers.{Output, Written, not_too_long, enough_work, update}

-- ---- what a display does

-- a file of bytes that reaches a display, and what the display can lend then: an output slice of so many bytes and a workspace of so many
pub record Handed : Type 0 where
  pub file : List ℕ
  pub is_bytes : Bytes file
  pub room : ℕ
  pub work : ℕ

-- where the answer's number is 0 the new chart is what was written, up to the written length; else the display keeps its chart
unfoldable pub taken : List ℕ → Output → List ℕ
taken chart o = pick (eqb o.answer.number 0) (take o.answer.length o.out) chart

-- the chart after one file: it is handed to the updater with the chart
unfoldable pub after : List ℕ → Handed → List ℕ
after chart h = taken chart (update chart h.file h.room h.work)

-- the chart after all that reached the display, in the order in which it came
unfoldable pub shown : List ℕ → List Handed → List ℕ
shown chart [] = chart
shown chart (h ∷ hs) = shown (after chart h) hs

-- ---- the numbers that charts and files bear

-- the UPDN of what was read, 0 where nothing was
unfoldable pub number_read : Outcome Dataset → ℕ
number_read (done d) = number_of d.general
number_read (refused file n x) = 0

-- the update number that a chart shows
unfoldable pub number_shown : List ℕ → ℕ
number_shown chart = number_read (read_dataset chart)

-- the UPDN of an update that was read
unfoldable pub number_sent : Outcome Sent → Option ℕ
number_sent (done u) = some (number_of u.general)
number_sent (refused file n x) = none

-- the update number that a file bears, where it can be read as an update
unfoldable pub bears : List ℕ → Option ℕ
bears file = number_sent (read_update file)

-- ---- what the rules alone make of a chart and a file

-- the update in a file, applied to a dataset: 14 of the file, its records, their effect, 14 of the result
unfoldable pub updated_by : Dataset → List ℕ → Outcome Dataset
updated_by d file =
    and_then (not_too_long 2 file) (λ _.
    and_then (read_update file) (λ u.
    and_then (updated d u) (λ r.
    and_then (not_too_long 3 (written_bytes r)) (λ _. done r))))

-- every test of the updater but 15 and 13, in its order: a result means that no number but 13 or 15 is due
unfoldable pub ruled : List ℕ → List ℕ → Outcome Dataset
ruled chart file =
    and_then (not_too_long 1 chart) (λ _.
    and_then (not_too_long 2 file) (λ _.
    and_then (read_dataset chart) (λ d.
    and_then (writable d) (λ w.
    and_then (read_update file) (λ u.
    and_then (updated w u) (λ r.
    and_then (not_too_long 3 (written_bytes r)) (λ _. done r)))))))

-- ---- and with room

-- a result in an output slice of so many bytes: 13, or what is written
unfoldable pub in_room : ℕ → Dataset → Outcome Written
in_room room r = pick (ltb room (length (written_bytes r))) (refused 3 0 (fault 13 0 0)) (done (record { bytes = written_bytes r; records = count r }))

-- first 15, then what the rules alone say, then 13: that is all that room decides
unfoldable pub roomed : ℕ → ℕ → List ℕ → List ℕ → Outcome Written
roomed room work chart file = and_then (enough_work work) (λ _. and_then (ruled chart file) (λ r. in_room room r))
