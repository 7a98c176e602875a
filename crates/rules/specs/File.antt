-- A dataset and an update read record by record: 1 to 7, and 11 of the dataset.
use Rattle.std.specs.Prelude.{ℕ, ◌+◌, List, [], ◌∷◌, ◌++◌, length, get_or, drop, eqb, leb}
use Rattle.base.specs.Choice.{pick}
use Rattle.base.specs.Check.{Check, ok, no, bind, fault, Passed, pass, passed}
use Rattle.base.specs.Lists.{each}
use Rattle.base.specs.Walk.{Got}
use Rattle.skeleton.specs.File.{Field, records_of}
use Rattle.rules.specs.Tags.{CSID}
use Rattle.rules.specs.ByTag.{first_tag}
use Rattle.rules.specs.Kind.{rank}
use Rattle.rules.specs.Associations.{marks, number11}
use Rattle.rules.specs.Record.{Rec, key_of, dataset_record, update_record}
use Rattle.rules.specs.General.{general_record}
use Rattle.rules.specs.Written.{Dataset, written, number12}
use Rattle.rules.specs.Outcome.{Outcome, done, refused, and_then, at, every_record}
use Rattle.rules.specs.declared.Mode.TheVariants.{InDataset, InUpdate}

-- ---- one record by its number in the file

-- a test that passes, of a record that adds none to those of the four kinds
abbrev pub adds_none : {A : Type 0} → Passed → Check (List A)
adds_none c = bind c (λ _. ok [])

-- the rank of the last record seen, 0 where there is none
unfoldable pub last_rank : List Rec → ℕ
last_rank [] = 0
last_rank (r ∷ rs) = rank r.kind

-- record n of a dataset, after the records `seen`, the last one first: descriptive, general, one that begins with CSID, then the four kinds
unfoldable pub dataset_test : ℕ → List Rec → List Field → Check (List Rec)
dataset_test n seen fs =
    let general = adds_none (general_record InDataset fs) in
    let systems = adds_none (pick (eqb (first_tag fs) CSID) pass (no (fault 4 1 0))) in
    let later = bind (dataset_record (last_rank seen) (each key_of seen) fs) (λ r. ok (r ∷ [])) in
    pick (eqb n 1) (ok []) (pick (eqb n 2) general (pick (eqb n 3) systems later))

-- record n of an update: descriptive, general, then records of the four kinds in any order
unfoldable pub update_test : ℕ → List Rec → List Field → Check (List Rec)
update_test n seen fs =
    let general = adds_none (general_record InUpdate fs) in
    let later = adds_none (passed (update_record fs)) in
    pick (eqb n 1) (ok []) (pick (eqb n 2) general later)

-- ---- record after record

-- the records that the skeleton has found, from number n on
unfoldable pub through : (ℕ → List Rec → List Field → Check (List Rec)) → ℕ → ℕ → List Rec → List (List Field) → Outcome (List Rec)
through test file n seen [] = done []
through test file n seen (fs ∷ rest) =
    and_then (at file n (test n seen fs)) (λ new.
    and_then (through test file (n + 1) (new ++ seen) rest) (λ later. done (new ++ later)))

-- at the number n after the last record: what the skeleton refuses there, 1 to 3, or, where the file ends, a record that is missing, 4
unfoldable pub ending : {A : Type 0} → ℕ → ℕ → ℕ → ℕ → A → Outcome A
ending file least n refusal a =
    let missing = pick (leb n least) (refused file n (fault 4 0 0)) (done a) in
    pick (eqb refusal 0) missing (refused file n (fault refusal 0 0))

-- the records of a file, the first of which has number n; least, how many there have to be
unfoldable pub taken : (ℕ → List Rec → List Field → Check (List Rec)) → ℕ → ℕ → ℕ → List Rec → Got (List Field) → Outcome (List Rec)
taken test file least n seen g =
    and_then (through test file n seen g.items) (λ recs. ending file least (n + length g.items) g.ending recs)

-- ---- a dataset: 1 to 7 record by record, then 11

-- the fields of its records after the third as they stand, and what it says
pub record Stored : Type 0 where
  pub sent : List (List Field)
  pub dataset : Dataset

-- a dataset, from the fields of all its records and its records of the four kinds
abbrev pub stored_as : List (List Field) → List Rec → Stored
stored_as rs recs =
    record { sent = drop 3 rs; dataset = record { descriptive = get_or rs 0 []; general = get_or rs 1 []; systems = get_or rs 2 []; records = recs } }

-- the dataset whose records the skeleton has found
unfoldable pub dataset_of : Got (List Field) → Outcome Stored
dataset_of g = and_then (taken dataset_test 1 3 1 [] g) (λ recs. done (stored_as g.items recs))

-- every record that is named exists, else 11 at the first record, from number 4 on, with a loose reference
unfoldable pub references : ℕ → List Rec → List (List Field) → Outcome (Unit {0})
references file recs fss = let keys = each key_of recs in every_record (λ fs. number11 keys (marks 1 fs)) file 4 fss

-- the dataset that a file is
unfoldable pub read_dataset : List ℕ → Outcome Dataset
read_dataset f =
    and_then (dataset_of (records_of f)) (λ s.
    and_then (references 1 s.dataset.records s.sent) (λ _. done s.dataset))

-- a dataset each record of which can be written, else 12
unfoldable pub writable : Dataset → Outcome Dataset
writable d = and_then (every_record number12 1 1 (written d)) (λ _. done d)

-- ---- an update, first pass: 1 to 7 record by record

-- its general record and the records after it
pub record Sent : Type 0 where
  pub general : List Field
  pub records : List (List Field)

-- an update, from the fields of all its records
abbrev pub sent_as : List (List Field) → Sent
sent_as rs = record { general = get_or rs 1 []; records = drop 2 rs }

-- the update whose records the skeleton has found
unfoldable pub update_of : Got (List Field) → Outcome Sent
update_of g = and_then (taken update_test 2 2 1 [] g) (λ _. done (sent_as g.items))

-- the update that a file is
unfoldable pub read_update : List ℕ → Outcome Sent
read_update f = update_of (records_of f)
