-- An update with no dataset in between: each update record is judged by the history of its own key, and each record of the result is made from its own
-- history. What an updater that holds one record at a time has to do.
use Rattle.std.specs.Prelude.{ℕ, ◌+◌, Bool, true, false, List, [], ◌∷◌, ◌++◌, length, take, ltb}
use Rattle.base.specs.Choice.{pick}
use Rattle.base.specs.Check.{no, fault, Passed, pass}
use Rattle.base.specs.Lists.{gather}
use Rattle.skeleton.specs.File.{Field}
use Rattle.skeleton.specs.Emit.{emit}
use Rattle.rules.specs.Associations.{Mark, marks}
use Rattle.rules.specs.Record.{Rec}
use Rattle.rules.specs.Written.{Dataset, written_fields, field_width, written_length}
use Rattle.rules.specs.Outcome.{Outcome, done, refused, and_then, at, every_record}
use Rattle.rules.specs.File.{Sent, read_dataset, writable, read_update}
use Rattle.rules.specs.Update.{general}
use Rattle.rules.specs.Answers.{Written, not_too_long, enough_work}
use Rattle.sequence.specs.History.{judged}
use Rattle.sequence.specs.Stream.{kept_of, joined_of, stream, standing}
use Rattle.updates.specs.Acts.{chart, in_update}

-- the places of the four kinds, in their order
abbrev pub kinds : List ℕ
kinds = 1 ∷ 2 ∷ 3 ∷ 4 ∷ []

-- ---- records

-- the update records in order, from number 3 on, each by the history of its own key
unfoldable pub verdicts : List Rec → List (List Field) → Outcome (Unit {0})
verdicts ds us = in_update (judged chart 3 ds [] us)

-- the records of the result: of each kind the old ones that stay, then the inserted ones
unfoldable pub result_records : List Rec → List (List Field) → List Rec
result_records ds us = stream chart kinds ds us

-- the record that each association names stands, else 11
unfoldable pub refers_to : (List ℕ → Bool) → List Mark → Passed
refers_to stands [] = pass
refers_to stands (m ∷ ms) = pick (stands (take 2 m.key)) (refers_to stands ms) (no (fault 11 m.field m.tuple))

-- 11 of the result, from its record 4 on; whether a key stands is asked of that key's history
unfoldable pub result_references : List Rec → List (List Field) → Outcome (Unit {0})
result_references ds us = every_record (λ r. refers_to (standing chart ds us) (marks 1 (written_fields r))) 3 4 (result_records ds us)

-- ---- bytes

-- the bytes of a record
unfoldable pub record_bytes : Rec → List ℕ
record_bytes r = emit field_width field_width false (written_fields r)

-- those of the first three records of a result with this general record
unfoldable pub head_bytes : Dataset → List Field → List ℕ
head_bytes d g = emit field_width field_width true d.descriptive ++ (emit field_width field_width false g ++ emit field_width field_width false d.systems)

-- those of the old records of kind q that stay, each after the update records that name it
unfoldable pub kept_bytes : ℕ → List (List Field) → List Rec → List ℕ
kept_bytes q us ds = gather (λ r. gather record_bytes (kept_of chart q us r)) ds

-- those of the inserted records of kind q that stay, each after the later update records that name it
unfoldable pub joined_bytes : ℕ → List (List Field) → List ℕ
joined_bytes q [] = []
joined_bytes q (u ∷ us) = gather record_bytes (joined_of chart q u us) ++ joined_bytes q us

-- all of the result's
unfoldable pub result_bytes : Dataset → List Field → List (List Field) → List ℕ
result_bytes d g us = head_bytes d g ++ gather (λ q. kept_bytes q us d.records ++ joined_bytes q us) kinds

-- ---- lengths

-- what f gives for each, in all
unfoldable pub total : {A : Type 0} → (A → ℕ) → List A → ℕ
total f [] = 0
total f (x ∷ xs) = f x + total f xs

-- how long a record is written
unfoldable pub record_length : Rec → ℕ
record_length r = written_length (written_fields r)

-- the first three records of a result with this general record
unfoldable pub head_length : Dataset → List Field → ℕ
head_length d g = written_length d.descriptive + (written_length g + written_length d.systems)

-- the old records of kind q that stay
unfoldable pub kept_length : ℕ → List (List Field) → List Rec → ℕ
kept_length q us ds = total (λ r. total record_length (kept_of chart q us r)) ds

-- the inserted records of kind q that stay
unfoldable pub joined_length : ℕ → List (List Field) → ℕ
joined_length q [] = 0
joined_length q (u ∷ us) = total record_length (joined_of chart q u us) + joined_length q us

-- all of the result
unfoldable pub result_length : Dataset → List Field → List (List Field) → ℕ
result_length d g us = head_length d g + total (λ q. kept_length q us d.records + joined_length q us) kinds

-- ---- the update

-- its result in an output slice of so many bytes
unfoldable pub streamed_to : ℕ → Dataset → Sent → Outcome Written
streamed_to room d u =
    and_then (at 2 2 (general d.general u.general)) (λ g.
    and_then (verdicts d.records u.records) (λ _.
    and_then (result_references d.records u.records) (λ _.
    let b = result_bytes d g u.records in
    let n = 3 + length (result_records d.records u.records) in
    and_then (not_too_long 3 b) (λ _. pick (ltb room (length b)) (refused 3 0 (fault 13 0 0)) (done (record { bytes = b; records = n }))))))

-- the whole updater, in the order of its tests
unfoldable pub streamed_outcome : ℕ → ℕ → List ℕ → List ℕ → Outcome Written
streamed_outcome room work f u =
    and_then (enough_work work) (λ _.
    and_then (not_too_long 1 f) (λ _.
    and_then (not_too_long 2 u) (λ _.
    and_then (read_dataset f) (λ d.
    and_then (writable d) (λ w.
    and_then (read_update u) (λ s. streamed_to room w s))))))
