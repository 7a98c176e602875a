-- Samples: a question to the definitions, and the answer that they must give.
use mathlib.Core.Path.{◌≡◌}
use mathlib.Core.List.{List, [], ◌∷◌}
use Prim.Native.Nat.{ℕ}
use lib.IntN.{ℤ}
use Rattle.base.specs.Check.{Check, ok, no, Passed, passed}
use Rattle.base.specs.Lists.{each}
use Rattle.skeleton.specs.File.{Field}
use Rattle.fields.specs.Bytes.{signed32}
use Rattle.forest.specs.Forest.{Tup, tuples_of}
use Rattle.rules.specs.Coordinates.{Coord, coords_in}
use Rattle.rules.specs.Record.{Rec, dataset_record, update_record}
use Rattle.rules.specs.Written.{written_fields, written_length, number12}
use Rattle.rules.specs.Outcome.{Outcome, done, refused}
use Rattle.rules.specs.Update.{step, steps, updated}
use Rattle.rules.specs.Listing.{printed, listing}
use Rattle.base.specs.Opened.{opened as base_opened}
use Rattle.skeleton.specs.Opened.{opened as skeleton_opened}
use Rattle.fields.specs.Opened.{opened as fields_opened}
use Rattle.forest.specs.Opened.{opened as forest_opened}
use Rattle.rules.specs.Opened.{opened as rules_opened}
use Rattle.rules.proofs.Builders.{numbered, irid, prid, mrid, frid, foid, tuple, attr, inas, link, spas, cocc, coordinates, c2it, c2il, general, filler, point_sent, multi_sent, no_parts, only_coordinates, point, multi, three, many, feature, listed}
use Rattle.rules.specs.declared.Mode.{Mode}
use Rattle.rules.specs.declared.Mode.TheVariants.{InDataset, InUpdate}

-- what is asked
pub data Question : Type 0 where
  accepts : Mode → List Field → Question  -- a record on its own, in this file
  applies : Rec → List Field → Question  -- a stored record, and an update record: what it is refused with
  attributes_after : Rec → List Field → Question  -- the same: the attributes then
  coordinates_after : Rec → List Field → Question  -- the same: the coordinates then
  versions_after : List Rec → List (List Field) → Question  -- stored records, and update records: the RVERs then
  updates : List Field → List Rec → List Field → List (List Field) → Question  -- a general record and records, and those of an update
  signs : List ℕ → Question  -- the Y's of a coordinate field
  length_of : Rec → Question  -- the written length of a record
  writes : Rec → Question  -- whether it can be written
  prints : List Rec → Question  -- the listing of a dataset with these records
  prints_of : List ℕ → Question  -- the listing of these bytes

-- what is answered
pub data Answered : Type 0 where
  fine : Answered
  refused_in : ℕ → ℕ → ℕ → Answered  -- number, field, tuple
  refused_at : ℕ → ℕ → ℕ → Answered  -- number, file, record
  tuples : List Tup → Answered
  coords : List Coord → Answered
  numbers : List ℕ → Answered
  signed : List ℤ → Answered
  text : List ℕ → Answered

-- what a check answers
unfoldable pub of_check : {A : Type 0} → (A → Answered) → Check A → Answered
of_check f (ok a) = f a
of_check f (no x) = refused_in x.number x.field x.tuple

-- what an outcome answers
unfoldable pub of_outcome : {A : Type 0} → (A → Answered) → Outcome A → Answered
of_outcome f (done a) = f a
of_outcome f (refused file n x) = refused_at x.number file n

-- a record tested on its own
unfoldable pub alone : Mode → List Field → Passed
alone InDataset fs = passed (dataset_record 0 [] fs)
alone InUpdate fs = passed (update_record fs)

-- what is then said of the only record
unfoldable pub of_only : (Rec → Answered) → List Rec → Answered
of_only f [] = fine
of_only f (r ∷ rs) = f r

-- the definitions' answer
unfoldable pub answer : Question → Answered
answer (accepts m fs) = of_check (λ _. fine) (alone m fs)
answer (applies r fs) = of_check (λ _. fine) (step fs (r ∷ []))
answer (attributes_after r fs) = of_check (of_only (λ s. tuples (tuples_of s.parts.attributes))) (step fs (r ∷ []))
answer (coordinates_after r fs) = of_check (of_only (λ s. coords s.parts.coordinates)) (step fs (r ∷ []))
answer (versions_after rs fss) = of_outcome (λ ss. numbers (each (λ s. s.rver) ss)) (steps 3 fss rs)
answer (updates g rs u fss) =
    of_outcome (λ _. fine) (updated (record { descriptive = []; general = g; systems = []; records = rs }) (record { general = u; records = fss }))
answer (signs b) = signed (each (λ c. signed32 c.y) (coords_in b))
answer (length_of r) = numbers (written_length (written_fields r) ∷ [])
answer (writes r) = of_check (λ _. fine) (number12 (written_fields r))
answer (prints rs) = text (printed (done (record { descriptive = []; general = []; systems = []; records = rs })))
answer (prints_of f) = text (listing f)

-- a row of a table: what is asked, and what is expected
pub record Row : Type 0 where
  pub what : Question
  pub expected : Answered

-- such a row
abbrev pub row : Question → Answered → Row
row q a = record { what = q; expected = a }

-- every row of a table holds
abbrev pub Hold : List Row → Type 0
Hold rows = each (λ r. answer r.what) rows ≡ each (λ r. r.expected) rows

-- all that a sample computes with
unfoldable pub samples_opened : Unit {0}
unfolding base_opened skeleton_opened fields_opened forest_opened rules_opened numbered irid prid mrid frid foid tuple attr inas link spas cocc coordinates c2it c2il general filler point_sent multi_sent no_parts only_coordinates point multi three many feature listed of_check of_outcome alone of_only answer
samples_opened = tt
