-- What reader, writer and updater answer, and every byte that they write.
use Rattle.std.specs.Prelude.{ℕ, ◌-◌, List, ◌++◌, length, replicate, ltb}
use Rattle.base.specs.Choice.{pick}
use Rattle.base.specs.Check.{fault}
use Rattle.base.specs.declared.Fault.{Fault}
use Rattle.rules.specs.Written.{Dataset, written_bytes, count}
use Rattle.rules.specs.Outcome.{Outcome, done, refused, and_then}
use Rattle.rules.specs.File.{read_dataset, writable, read_update}
use Rattle.rules.specs.Update.{updated}
use Rattle.rules.specs.declared.Answer.{Answer}

-- ---- answers

-- a refusal: its number, file and record, no written length and no count
unfoldable pub refusal : ℕ → ℕ → Fault → Answer
refusal file n x = record { number = x.number; file = file; rec = n; length = 0; count = 0 }

-- done: the written length, and the count of records
unfoldable pub success : ℕ → ℕ → Answer
success len n = record { number = 0; file = 0; rec = 0; length = len; count = n }

-- an answer, with every byte of the output slice
pub record Output : Type 0 where
  pub answer : Answer
  pub out : List ℕ

-- ---- reader: 14, then 1 to 7, then 11

-- at most 16,777,216 bytes, else 14
unfoldable pub not_too_long : ℕ → List ℕ → Outcome (Unit {0})
not_too_long file f = pick (ltb 16777216 (length f)) (refused file 0 (fault 14 0 0)) (done tt)

-- what the reader finds
unfoldable pub read_outcome : List ℕ → Outcome Dataset
read_outcome f = and_then (not_too_long 1 f) (λ _. read_dataset f)

-- the reader's written length is 0
unfoldable pub read_answer : Outcome Dataset → Answer
read_answer (done d) = success 0 (count d)
read_answer (refused file n x) = refusal file n x

-- what the reader answers of a file
unfoldable pub read : List ℕ → Answer
read f = read_answer (read_outcome f)

-- ---- written out: 14 and 13 of the result

-- bytes to be written, and the count of their records
pub record Written : Type 0 where
  pub bytes : List ℕ
  pub records : ℕ

-- the written form of a dataset, in an output slice of so many bytes
unfoldable pub room_for : ℕ → Dataset → Outcome Written
room_for room d =
    let b = written_bytes d in
    let fits : Outcome Written = pick (ltb room (length b)) (refused 3 0 (fault 13 0 0)) (done (record { bytes = b; records = count d })) in
    and_then (not_too_long 3 b) (λ _. fits)

-- the output slice: zero after the written length, wholly zero on refusal
unfoldable pub output_of : ℕ → Outcome Written → Output
output_of room (done w) =
    record { answer = success (length w.bytes) w.records; out = w.bytes ++ replicate (room - length w.bytes) 0 }
output_of room (refused file n x) = record { answer = refusal file n x; out = replicate room 0 }

-- ---- writer: as the reader, then 12, 14, 13

-- what the writer finds and writes
unfoldable pub write_outcome : ℕ → List ℕ → Outcome Written
write_outcome room f =
    and_then (read_outcome f) (λ d.
    and_then (writable d) (λ w. room_for room w))

-- what the writer answers of a file, with an output slice of so many bytes
unfoldable pub write : List ℕ → ℕ → Output
write f room = output_of room (write_outcome room f)

-- ---- updater: 15; 14 dataset, 14 update; dataset 1 to 7, 11, 12; update 1 to 7; 8, 12; its records 7, 9, 10, 6, 12; then 11, 14, 13

-- a workspace of at least 400,000 bytes, else 15
unfoldable pub enough_work : ℕ → Outcome (Unit {0})
enough_work work = pick (ltb work 400000) (refused 0 0 (fault 15 0 0)) (done tt)

-- what the updater finds and writes
unfoldable pub update_outcome : ℕ → ℕ → List ℕ → List ℕ → Outcome Written
update_outcome room work f u =
    and_then (enough_work work) (λ _.
    and_then (not_too_long 1 f) (λ _.
    and_then (not_too_long 2 u) (λ _.
    and_then (read_dataset f) (λ d.
    and_then (writable d) (λ w.
    and_then (read_update u) (λ s.
    and_then (updated w s) (λ r. room_for room r)))))))

-- what the updater answers of a dataset and an update, with an output slice and a workspace of so many bytes
unfoldable pub update : List ℕ → List ℕ → ℕ → ℕ → Output
update f u room work = output_of room (update_outcome room work f u)

-- every byte of the workspace afterwards, whatever the answer
unfoldable pub work_after : ℕ → List ℕ
work_after work = replicate work 0
