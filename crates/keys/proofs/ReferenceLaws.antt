-- A dataset that reads: quick looks are right in it, and the records that are named are those whose keys stand in it. Assumes nothing.
use mathlib.Core.Path.{◌≡◌, refl}
use mathlib.Core.List.{List, [], ◌∷◌}
use mathlib.Core.Bool.{Bool, true, false}
use Prim.Native.Nat.{ℕ, ◌+◌, ◌≤◌, ◌<◌}
use native.Mathlib.Omega.{arith}
use lib.ListN.{length, take}
use Rattle.std.specs.Prelude.{Result, Ok}
use Rattle.base.specs.Check.{ok, no, fault, Passed}
use Rattle.base.specs.Lists.{each, Each}
use Rattle.base.specs.Keys.{among}
use Rattle.base.specs.declared.Fault.{Fault}
use Rattle.skeleton.specs.File.{Field, records_from}
use Rattle.skeleton.specs.Place.{between, fields_at}
use Rattle.skeleton.specs.Record.{record_at}
use Rattle.skeleton.specs.declared.leader.Head.{Head}
use Rattle.skeleton.specs.declared.leader.Broken.{Broken}
use Rattle.skeleton.proofs.FileLaws.{records_over, records_more}
use Rattle.rules.specs.Associations.{Mark, marks, number11}
use Rattle.rules.specs.Record.{Rec, key_of as key_in_rules}
use Rattle.rules.specs.Outcome.{Outcome, done, refused, and_then, at, every_record}
use Rattle.rules.specs.File.{dataset_test, taken, references}
use Rattle.rules.proofs.FileLaws.{taken_inv}
use Rattle.keys.specs.Key.{key_at}
use Rattle.keys.specs.Listed.{keys_from, has_from}
use Rattle.keys.specs.Look.{Sound}
use Rattle.keys.specs.Numbered.{Numbered}
use Rattle.keys.specs.Standing.{unread, outcome_from, references_from, Fine, FineFrom}
use Rattle.keys.proofs.NamedLaws.{Names}
use Rattle.keys.proofs.PassedLaws.{through_read}

-- ---- a dataset whose records have passed 1 to 7

-- its records, and their keys
pub record Reads (f : List ℕ) (start : ℕ) (recs : List Rec) : Type 0 where
  pub clean : (records_from f start).ending ≡ 0
  pub keyed : has_from f start 0 ≡ false
  pub numbered : Numbered recs (keys_from f start)
  pub counted : length recs ≡ length (keys_from f start)
  pub fine : FineFrom f start

pub taken_reads : (f : List ℕ) (start : ℕ) (recs : List Rec) → taken dataset_test 1 3 4 [] (records_from f start) ≡ done recs → Reads f start recs
unfolding keys_from has_from FineFrom
taken_reads f start recs e =
    let a = taken_inv (records_from f start) recs e in
    let r = through_read (records_from f start).items 4 [] recs (omega arith) a.1 in
    record { clean = a.0; keyed = r.keyed; numbered = r.numbered; counted = r.counted; fine = r.fine }

-- no refusal: there are such records
pub unread_done : {A : Type 0} (o : Outcome A) → unread o ≡ done tt → (a : A) × (o ≡ done a)
unfolding unread and_then
unread_done (done a) e = (a, refl)
unread_done (refused file n x) e = absurd (let z : ◌≡◌ {A = ℕ} 0 1 = cc in omega arith)

pub outcome_reads : (f : List ℕ) (start : ℕ) → outcome_from f start 0 [] ≡ done tt → (recs : List Rec) × Reads f start recs
unfolding outcome_from
outcome_reads f start e =
    let r = unread_done (taken dataset_test 1 3 4 [] (records_from f start)) e in
    (r.0, taken_reads f start r.0 r.1)

-- quick looks are right in it
pub reads_sound : (f : List ℕ) (start : ℕ) (recs : List Rec) → Reads f start recs → length f ≤ 16777216 → start ≤ length f → Sound f start
reads_sound f start recs r s i = record { small = s; inside = i; clean = r.clean; keyed = r.keyed }

pub passed_sound : (f : List ℕ) (start : ℕ) → outcome_from f start 0 [] ≡ done tt → length f ≤ 16777216 → start ≤ length f → Sound f start
passed_sound f start e s i = let r = outcome_reads f start e in reads_sound f start r.0 r.1 s i

pub passed_fine : (f : List ℕ) (start : ℕ) → outcome_from f start 0 [] ≡ done tt → FineFrom f start
passed_fine f start e = let r = outcome_reads f start e in r.1.fine

-- at each record its fields have their formats
module _ (f : List ℕ) (p : ℕ) (g : FineFrom f p) (l : p < length f) (h : Result Head Broken) (eh : h ≡ record_at f p) (d : Head) (y : h ≡ Ok d) where
  fine_parts : Fine (fields_at (between f p (p + d.len)) d.shape 24) × FineFrom f (p + d.len)
  unfolding FineFrom Each
  fine_parts = rw (records_more f p l h eh d y) at g

  pub fine_here : Fine (fields_at (between f p (p + d.len)) d.shape 24)
  fine_here = fine_parts.0

  pub fine_more : FineFrom f (p + d.len)
  fine_more = fine_parts.1

-- ---- number 11

module _ (f : List ℕ) (start : ℕ) (recs : List Rec) (numbered : Numbered recs (keys_from f start)) where
  -- the record that bytes name at p exists where their key stands in the file
  pub named_is : (b : List ℕ) (p : ℕ) (k : List ℕ) → Names b p k → among k (each key_in_rules recs) ≡ has_from f start (key_at b p)
  unfolding Numbered has_from
  named_is b p k n = rw n.number (numbered k n.ranged)

  -- the mark at hand, and those after it
  module _ (m : Mark) (ms : List Mark) (b : List ℕ) (p : ℕ) (n : Names b p (take 2 m.key)) (t : Bool) (et : t ≡ has_from f start (key_at b p))
      (x : Passed) (inv : number11 (each key_in_rules recs) (m ∷ ms) ≡ x) where
    pub named_more : t ≡ true → number11 (each key_in_rules recs) ms ≡ x
    unfolding number11
    named_more y = simp (named_is b p (take 2 m.key) n, ← et, y) at inv

    pub named_loose : t ≡ false → no (fault 11 m.field m.tuple) ≡ x
    unfolding number11
    named_loose y = simp (named_is b p (take 2 m.key) n, ← et, y) at inv

-- ---- record after record

-- the records after the third begin at start
pub references_start : (recs : List Rec) (f : List ℕ) (start : ℕ) (sent : List (List Field)) → sent ≡ (records_from f start).items
    → references 1 recs sent ≡ references_from recs f start 0
unfolding references references_from
references_start recs f start sent e = rw e refl

-- the next is at p, and m stand before it behind the third

module _ (recs : List Rec) (f : List ℕ) (p m : ℕ) (x : Outcome (Unit {0})) (inv : references_from recs f p m ≡ x) where
  pub references_over : length f ≤ p → done tt ≡ x
  unfolding references_from every_record
  references_over h = rw (records_over f p h) at inv

  module _ (l : p < length f) (h : Result Head Broken) (eh : h ≡ record_at f p) (d : Head) (y : h ≡ Ok d) where
    -- the fields of the record at hand
    abbrev fields : List Field
    fields = fields_at (between f p (p + d.len)) d.shape 24

    turn : and_then (at 1 (m + 4) (number11 (each key_in_rules recs) (marks 1 fields)))
        (λ _. every_record (λ fs. number11 (each key_in_rules recs) (marks 1 fs)) 1 (m + 4 + 1) (records_from f (p + d.len)).items) ≡ x
    unfolding references_from every_record
    turn = rw (records_more f p l h eh d y) at inv

    pub references_loose : (z : Fault) → number11 (each key_in_rules recs) (marks 1 fields) ≡ no z → refused 1 (m + 4) z ≡ x
    unfolding at and_then
    references_loose z e = rw e at turn

    pub references_more : (u : Unit {0}) → number11 (each key_in_rules recs) (marks 1 fields) ≡ ok u → references_from recs f (p + d.len) (m + 1) ≡ x
    unfolding references_from at and_then
    references_more u e =
        let i : m + 1 + 4 ≡ m + 4 + 1 = omega arith in
        rw i (rw e at turn)

pub ruleset references_turn = (references_over, references_loose, references_more, fine_here, fine_more)
