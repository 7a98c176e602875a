-- Laws of the reader. Assumes nothing.
use mathlib.Core.Path.{◌≡◌, refl, sym, ◌∙◌, ap}
use mathlib.Core.List.{List, []}
use Prim.Native.Nat.{ℕ, ◌+◌, ◌^◌, ◌≤◌, ◌<◌}
use native.Mathlib.Omega.{arith}
use borrow.Author.Tests.{lt-ltb, le-ltb}
use lib.ListN.{length, drop}
use Rattle.std.specs.Prelude.{Result, Ok, Err}
use Rattle.base.specs.Check.{fault}
use Rattle.base.specs.Verdict.{refusal as refusal_of}
use Rattle.base.specs.Walk.{Got, before}
use Rattle.base.specs.declared.Refusal.{Refusal}
use Rattle.skeleton.specs.File.{Field, records_from, records_of}
use Rattle.base.proofs.ListLaws.{each_length}
use Rattle.skeleton.proofs.FileLaws.{records_all}
use Rattle.skeleton.proofs.ReadLaws.{few_records}
use Rattle.rules.specs.Record.{Rec}
use Rattle.rules.specs.General.{general_record}
use Rattle.rules.specs.Written.{Dataset, count}
use Rattle.rules.specs.Outcome.{Outcome, done, refused, and_then}
use Rattle.rules.specs.File.{stored_as, dataset_of, references, read_dataset}
use Rattle.rules.specs.Answers.{refusal, success, not_too_long, read_outcome, read_answer, read}
use Rattle.rules.specs.declared.Mode.TheVariants.{InDataset}
use Rattle.rules.proofs.OutcomeLaws.{and_then_inv}
use Rattle.opening.specs.Carried.{carried, begins_csid, unread, first_two, first_three, opened_by}
use Rattle.opening.proofs.CarriedLaws.{behind_in, behind_is}
use Rattle.opening.proofs.OpeningLaws.{carried_over, from_fourth, opened}
use Rattle.keys.specs.Listed.{keys_from}
use Rattle.keys.specs.Numbered.{Numbered}
use Rattle.keys.specs.Standing.{outcome_from, references_from}
use Rattle.keys.proofs.ReferenceLaws.{taken_reads, unread_done, references_start}
use Rattle.dataset.specs.Walk.{whole_from, walked_by}
use Rattle.dataset.proofs.FileLaws.{first_shut, later_stopped, later_over}
use Rattle.references.specs.Linked.{said_by, Answers}
use Rattle.references.specs.declared.dataset.LooseReference.{LooseReference}
use Rattle.reader.specs.Answered.{counted, refused as shut}

-- ---- the fields behind the third record

-- the records of a file are the first three, and those from the place behind them on
pub three_items : (f : List ℕ) (start : ℕ) → first_three f ≡ done start → drop 3 (records_of f).items ≡ (records_from f start).items
unfolding first_three first_two
three_items f start z =
    let x = and_then_inv (and_then (carried 1 1 unread f 0) (λ p. carried 1 2 (general_record InDataset) f p)) (λ q. carried 1 3 begins_csid f q) start z in
    let y = and_then_inv (carried 1 1 unread f 0) (λ p. carried 1 2 (general_record InDataset) f p) x.0 x.1 in
    let a = carried_over 1 1 unread f 0 y.0 y.1 in
    let b = carried_over 1 2 (general_record InDataset) f y.0 x.0 y.2 in
    let c = carried_over 1 3 begins_csid f x.0 start x.2 in
    let h : 0 < length f = a.inside in
    let e = records_all f (λ (w : length f ≡ 0). omega arith) ∙ a.one_more ∙ ap (before _) (b.one_more ∙ ap (before _) c.one_more) in
    ap (λ (g : Got (List Field)). drop 3 g.items) e

-- the place behind them lies in the file
pub three_in : (f : List ℕ) (start : ℕ) → first_three f ≡ done start → start ≤ length f
unfolding first_three
three_in f start z =
    let x = and_then_inv (first_two 1 InDataset f) (λ q. carried 1 3 begins_csid f q) start z in
    behind_in 1 3 begins_csid f x.0 start x.2

-- ---- the whole

-- what the reader does with the records behind the third
abbrev linked : List ℕ → List Rec → Outcome Dataset
linked f recs =
    let s = stored_as (records_of f).items recs in
    and_then (references 1 s.dataset.records s.sent) (λ _. done s.dataset)

whole : (f : List ℕ) → read_dataset f ≡ and_then (and_then (first_three f) (from_fourth f)) (linked f)
unfolding read_dataset dataset_of and_then
whole f =
    rw (opened f) (go (and_then (first_three f) (from_fourth f)))
  where
    go : (c : Outcome (List Rec))
        → and_then (and_then c (λ recs. done (stored_as (records_of f).items recs))) (λ s. and_then (references 1 s.dataset.records s.sent) (λ _. done s.dataset))
        ≡ and_then c (linked f)
    go (done recs) = refl
    go (refused file n x) = refl

-- ---- there are fewer records than bytes

keys_few : (f : List ℕ) (start : ℕ) → length (keys_from f start) ≤ length f
unfolding keys_from
keys_few f start = let a = few_records f start in rw (each_length _ (records_from f start).items) (omega arith)

-- ---- the answers

module _ (f : List ℕ) where
  pub read_long : 16777216 < length f → record { number = 14; file = 1; rec = 0; length = 0; count = 0 } ≡ read f
  unfolding read read_outcome read_answer refusal not_too_long and_then
  read_long h = simp (lt-ltb 16777216 (length f) h)

  module _ (small : length f ≤ 16777216) where
    read_is : read f ≡ read_answer (read_dataset f)
    unfolding read read_outcome not_too_long and_then
    read_is = simp (le-ltb 16777216 (length f) small)

    read_refused : (y : Refusal) → read_dataset f ≡ refused 1 y.rec y.fault → shut y ≡ read f
    unfolding read_answer refusal
    read_refused y e = sym (read_is ∙ ap read_answer e)

    module _ (q : Result ℕ Refusal) (eq : q ≡ opened_by (first_three f)) where
      pub read_shut : (y : Refusal) → q ≡ Err y → shut y ≡ read f
      unfolding and_then
      read_shut y x = read_refused y (whole f ∙ rw (first_shut f y (sym x ∙ eq)))

      pub read_behind : (start : ℕ) → q ≡ Ok start → first_three f ≡ done start
      read_behind start x = behind_is (first_three f) start (sym x ∙ eq)

    module _ (start : ℕ) (three : first_three f ≡ done start) (w : Result ℕ Refusal) (ew : w ≡ walked_by (length (keys_from f start)) (whole_from f start)) where
      pub after_stopped : (y : Refusal) → w ≡ Err y → shut y ≡ read f
      unfolding and_then
      after_stopped y x = read_refused y (whole f ∙ rw three (rw (later_stopped f start (length (keys_from f start)) y (sym x ∙ ew))))

      module _ (m : ℕ) (x : w ≡ Ok m) where
        over : (m ≡ length (keys_from f start)) × (whole_from f start ≡ done tt)
        over = later_over f start m (length (keys_from f start)) (sym x ∙ ew)

        pub after_passed : outcome_from f start 0 [] ≡ done tt
        after_passed = over.1

        pub after_word : m + 3 < 2 ^ 64
        after_word = let a = over.0 in let b = keys_few f start in omega arith

        recs : (a : List Rec) × (from_fourth f start ≡ done a)
        unfolding outcome_from
        recs = unread_done (from_fourth f start) over.1

        same : references 1 recs.0 (drop 3 (records_of f).items) ≡ references_from recs.0 f start 0
        same = references_start recs.0 f start (drop 3 (records_of f).items) (three_items f start three)

        numbered : Numbered recs.0 (keys_from f start)
        numbered = (taken_reads f start recs.0 recs.1).numbered

        dataset_is : read_dataset f ≡ linked f recs.0
        unfolding and_then
        dataset_is = whole f ∙ rw three (rw recs.1)

        -- what the references are refused with is the answer
        pub after_loose : (z : Refusal) → ((a : List Rec) → Numbered a (keys_from f start) → refused 1 z.rec z.fault ≡ references_from a f start 0) → shut z ≡ read f
        unfolding and_then
        after_loose z e =
            let c = same ∙ sym (e recs.0 numbered) in
            read_refused z (dataset_is ∙ rw c)

        module _ (l : Result (Unit {0}) LooseReference) (el : Answers f start l) where
          said : references 1 recs.0 (drop 3 (records_of f).items) ≡ said_by l
          unfolding Answers
          said = same ∙ sym (el recs.0 numbered)

          pub after_all_lem : l ≡ Ok tt → counted (m + 3) ≡ read f
          unfolding read_answer success count and_then said_by
          after_all_lem y =
              let c = said ∙ ap said_by y in
              let d = (taken_reads f start recs.0 recs.1).counted in
              let o = over.0 in
              let e : m + 3 ≡ 3 + length recs.0 = omega arith in
              let z : read_dataset f ≡ done (stored_as (records_of f).items recs.0).dataset = dataset_is ∙ rw c in
              rw e (sym (read_is ∙ ap read_answer z))

          -- of a loose reference it has 11
          pub after_eleven : (z : LooseReference) → l ≡ Err z → shut (refusal_of z.rec (fault 11 z.field z.tuple)) ≡ read f
          unfolding Answers said_by
          after_eleven z y = after_loose (refusal_of z.rec (fault 11 z.field z.tuple)) (rw y at el)

pub ruleset read_ways = (read_long, read_shut, read_behind)

pub ruleset after_ways = (after_stopped, after_passed, after_word, after_all_lem, after_eleven, three_in)
