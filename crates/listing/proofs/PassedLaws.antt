-- The records of a dataset that is read have passed their numbers. Assumes nothing.
use mathlib.Core.Path.{◌≡◌, sym, ap, ◌∙◌}
use mathlib.Core.Bool.{Bool, true, false}
use mathlib.Core.List.{List, []}
use Prim.Native.Nat.{ℕ}
use native.Mathlib.Omega.{arith}
use Rattle.base.specs.Choice.{pick}
use Rattle.base.specs.Check.{ok, no, bind, fault, Passed as Through}
use Rattle.base.specs.Keys.{among}
use Rattle.base.specs.Lists.{each, Each}
use Rattle.base.proofs.CheckLaws.{bind_inv, ok_inj}
use Rattle.skeleton.specs.File.{Field, records_from, records_of}
use Rattle.rules.specs.Grammar.{number4}
use Rattle.rules.specs.Content.{number5}
use Rattle.rules.specs.Trees.{number6}
use Rattle.rules.specs.Associations.{number7}
use Rattle.rules.specs.Record.{Rec, key_of, rec_of, dataset_record}
use Rattle.rules.specs.Written.{Dataset}
use Rattle.rules.specs.Outcome.{done}
use Rattle.rules.specs.File.{dataset_test, taken, Stored, stored_as, dataset_of, references, read_dataset}
use Rattle.rules.specs.declared.Mode.TheVariants.{InDataset}
use Rattle.rules.proofs.OutcomeLaws.{and_then_inv, done_inj}
use Rattle.rules.proofs.FileLaws.{taken_inv, through_each}
use Rattle.contents.proofs.SevenLaws.{four_first}
use Rattle.opening.specs.Carried.{first_three}
use Rattle.opening.proofs.OpeningLaws.{from_fourth, opened}
use Rattle.keys.proofs.ReferenceLaws.{taken_reads}
use Rattle.listing.specs.Said.{Passed, PassedFrom, record_in}
use Rattle.listing.proofs.SaidLaws.{record_is}

-- ---- one record

seven_is : (x r : Rec) (t : Bool) (c : Through) → pick t (no (fault 7 1 0)) (bind c (λ _. ok x)) ≡ ok r → x ≡ r
seven_is x r true c e = absurd (let z : ◌≡◌ {A = ℕ} 0 1 = cc in omega arith)
seven_is x r false c e = ok_inj x r (bind_inv c (λ _. ok x) r e).2

-- a record that has passed, and what it says
record_passed : (least : ℕ) (earlier : List (List ℕ)) (fs : List Field) (r : Rec) → dataset_record least earlier fs ≡ ok r → Passed fs × (r ≡ record_in fs)
unfolding dataset_record
record_passed least earlier fs r e =
    let a = bind_inv (number4 InDataset least fs) _ r e in
    let b = bind_inv (number5 InDataset a.0 fs) _ r a.2 in
    let c = bind_inv (number6 InDataset a.0 fs) _ r b.2 in
    let tag = four_first InDataset least fs a.0 a.1 in
    let same = seven_is (rec_of a.0 fs) r (among (key_of (rec_of a.0 fs)) earlier) (number7 fs) c.2 in
    (record { kind = a.0; tag = tag; five = b.1; six = c.1 }, sym same ∙ sym (record_is fs a.0 tag))

-- ---- the records after the third

module _ (f : List ℕ) (start : ℕ) (recs : List Rec) (e : from_fourth f start ≡ done recs) where
  pub fourth_clean : (records_from f start).ending ≡ 0
  fourth_clean = (taken_reads f start recs e).clean

  parts : Each Passed (records_from f start).items × (recs ≡ each record_in (records_from f start).items)
  parts = through_each Passed record_in record_passed (records_from f start).items 4 [] recs (omega arith) (taken_inv (records_from f start) recs e).1

  pub fourth_passed : PassedFrom f start
  unfolding PassedFrom
  fourth_passed = parts.0

  pub fourth_said : recs ≡ each record_in (records_from f start).items
  fourth_said = parts.1

-- ---- a dataset that is read

pub read_inv : (f : List ℕ) (d : Dataset) → read_dataset f ≡ done d → (start : ℕ) × (first_three f ≡ done start) × (from_fourth f start ≡ done d.records)
unfolding read_dataset dataset_of
read_inv f d e =
    let a = and_then_inv (dataset_of (records_of f)) _ d e in
    let b = and_then_inv (references 1 a.0.dataset.records a.0.sent) (λ _. done a.0.dataset) d a.2 in
    let c = and_then_inv (taken dataset_test 1 3 1 [] (records_of f)) (λ recs. done (stored_as (records_of f).items recs)) a.0 a.1 in
    let o = and_then_inv (first_three f) (from_fourth f) c.0 (sym (opened f) ∙ c.1) in
    let s : stored_as (records_of f).items c.0 ≡ a.0 = done_inj _ a.0 c.2 in
    let t : a.0.dataset ≡ d = done_inj a.0.dataset d b.2 in
    let same : c.0 ≡ d.records = ap (λ (z : Stored). z.dataset.records) s ∙ ap (λ (z : Dataset). z.records) t in
    (o.0, o.1, o.2 ∙ ap done same)
