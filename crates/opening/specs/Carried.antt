-- The first records of a file, one by one.
use Rattle.std.specs.Prelude.{ℕ, ◌+◌, List, length, eqb, leb, ltb, Result, Ok, Err}
use Rattle.base.specs.Choice.{pick, both}
use Rattle.base.specs.Check.{no, fault, Passed, pass}
use Rattle.base.specs.Verdict.{refusal}
use Rattle.base.specs.declared.Fault.{Fault}
use Rattle.base.specs.declared.Refusal.{Refusal}
use Rattle.skeleton.specs.File.{Field}
use Rattle.skeleton.specs.Leader.{number_of}
use Rattle.skeleton.specs.Place.{between, fields_at}
use Rattle.skeleton.specs.Record.{record_at}
use Rattle.skeleton.specs.declared.leader.Broken.{Broken}
use Rattle.skeleton.specs.declared.leader.Head.{Head}
use Rattle.rules.specs.Tags.{CSID}
use Rattle.rules.specs.ByTag.{first_tag}
use Rattle.rules.specs.General.{general_record}
use Rattle.rules.specs.Outcome.{Outcome, done, refused, and_then, at}
use Rattle.rules.specs.declared.Mode.{Mode}
use Rattle.rules.specs.declared.Mode.TheVariants.{InDataset}

-- what the skeleton finds, a refusal as a fault of no field
abbrev pub with_fault : Result Head Broken → Result Head Fault
with_fault (Ok d) = Ok d
with_fault (Err x) = Err (fault (number_of x) 0 0)

-- record n, where the records before it end at p: what the skeleton finds, or 4 where the file has ended
unfoldable pub head_at : List ℕ → ℕ → ℕ → Result Head Fault
head_at f n p = pick (both (ltb 1 n) (leb (length f) p)) (Err (fault 4 0 0)) (with_fault (record_at f p))

-- its fields tested, and then the place behind it
abbrev pub tested_by : ℕ → ℕ → (List Field → Passed) → List ℕ → ℕ → Result Head Fault → Outcome ℕ
tested_by file n test f p (Ok d) = and_then (at file n (test (fields_at (between f p (p + d.len)) d.shape 24))) (λ _. done (p + d.len))
tested_by file n test f p (Err x) = refused file n x

-- record n of a file by a test of its fields: the place behind it
unfoldable pub carried : ℕ → ℕ → (List Field → Passed) → List ℕ → ℕ → Outcome ℕ
carried file n test f p = tested_by file n test f p (head_at f n p)

-- the first field is CSID
unfoldable pub begins_csid : List Field → Passed
begins_csid fs = pick (eqb (first_tag fs) CSID) pass (no (fault 4 1 0))

-- nothing is tested
abbrev pub unread : List Field → Passed
unread fs = pass

-- the first two records of a file: the descriptive and the general one
unfoldable pub first_two : ℕ → Mode → List ℕ → Outcome ℕ
first_two file m f = and_then (carried file 1 unread f 0) (λ p. carried file 2 (general_record m) f p)

-- the first three records of a dataset
unfoldable pub first_three : List ℕ → Outcome ℕ
first_three f = and_then (first_two 1 InDataset f) (λ p. carried 1 3 begins_csid f p)

-- what code answers: the place behind, or the refusal
unfoldable pub opened_by : Outcome ℕ → Result ℕ Refusal
opened_by (done p) = Ok p
opened_by (refused file n x) = Err (refusal n x)

-- the same of what is found of record n
abbrev pub in_record : ℕ → Result ℕ Fault → Result ℕ Refusal
in_record n (Ok p) = Ok p
in_record n (Err x) = Err (refusal n x)
