-- A dataset, an update and their result are refused with the numbers that their tests have, at a record counted from 1. Assumes nothing.
use Prim.Native.Nat.{ℕ, ◌+◌, ◌<◌}
use mathlib.Core.Path.{◌≡◌, refl}
use mathlib.Core.Bool.{Bool, true, false}
use mathlib.Core.List.{List, [], ◌∷◌, ◌++◌}
use native.Mathlib.Omega.{arith}
use lib.ListN.{length}
use lib.Dec.{eqb, ltb, leb}
use Rattle.base.specs.Choice.{pick}
use Rattle.base.specs.Check.{Check, fault}
use Rattle.base.specs.Lists.{each}
use Rattle.base.specs.Walk.{Got}
use Rattle.skeleton.specs.File.{Field, records_of}
use Rattle.rules.specs.Tags.{CSID}
use Rattle.rules.specs.ByTag.{first_tag}
use Rattle.rules.specs.Kind.{kind_of}
use Rattle.rules.specs.Associations.{marks}
use Rattle.rules.specs.Record.{Rec, key_named, key_of}
use Rattle.rules.specs.General.{merged}
use Rattle.rules.specs.Written.{Dataset, written_fields, written, number12}
use Rattle.rules.specs.Outcome.{done, refused}
use Rattle.rules.specs.File.{last_rank, dataset_test, update_test, through, ending, taken, dataset_of, references, read_dataset, writable, Sent, update_of, read_update}
use Rattle.rules.specs.Update.{find, step_as, step, steps, general, updated}
use Rattle.rules.specs.Answers.{not_too_long}
use Rattle.rules.specs.declared.Mode.TheVariants.{InDataset, InUpdate}
use Rattle.numbers.specs.Refusals.{is_in, recordless, right_record}
use Rattle.numbers.specs.Limited.{LimitedCheck, limited_ok, limited_no, LimitedOutcome, limited_done, limited_refused}
use Rattle.numbers.proofs.Lists.{each_passes, all_in, in_wider, all_wider, names, named_right}
use Rattle.numbers.proofs.Checks.{limited_wider, limited_pick, limited_bind, limited_passed, limited_then, limited_choice, limited_at, limited_every}
use Rattle.numbers.proofs.Endings.{ends, not_done, in_skeleton, records_end}
use Rattle.numbers.proofs.Records.{limited_kind, limited_dataset_record, limited_update_record, limited_general, limited8, limited11, limited12}
use Rattle.numbers.proofs.Changes.{limited_change}

-- ---- the numbers of the tests

-- the end of a file
abbrev pub at_end : List ℕ
at_end = 1 ∷ 2 ∷ 3 ∷ 4 ∷ []

-- a record
abbrev in_record : List ℕ
in_record = 4 ∷ 5 ∷ 6 ∷ 7 ∷ []

-- a dataset, and an update's first pass
abbrev pub in_dataset : List ℕ
in_dataset = 1 ∷ 2 ∷ 3 ∷ 4 ∷ 5 ∷ 6 ∷ 7 ∷ 11 ∷ []

abbrev pub in_update : List ℕ
in_update = 1 ∷ 2 ∷ 3 ∷ 4 ∷ 5 ∷ 6 ∷ 7 ∷ []

-- what an update's records do to a dataset
abbrev pub in_acts : List ℕ
in_acts = 4 ∷ 6 ∷ 7 ∷ 8 ∷ 9 ∷ 10 ∷ 12 ∷ []

-- ---- one record by its number

-- of a dataset
limited_dataset_test : (n : ℕ) (seen : List Rec) (fs : List Field) → LimitedCheck in_record (dataset_test n seen fs)
unfolding dataset_test is_in all_in each_passes
limited_dataset_test n seen fs =
    limited_pick (eqb n 1) _ _ limited_ok
    (limited_pick (eqb n 2) _ _ (limited_bind _ _ (limited_wider _ _ _ refl (limited_general InDataset fs)) (λ _. limited_ok))
    (limited_pick (eqb n 3) _ _ (limited_bind _ _ (limited_pick (eqb (first_tag fs) CSID) _ _ limited_ok (limited_no refl)) (λ _. limited_ok))
    (limited_bind _ _ (limited_dataset_record (last_rank seen) (each key_of seen) fs) (λ r. limited_ok))))

-- of an update
limited_update_test : (n : ℕ) (seen : List Rec) (fs : List Field) → LimitedCheck in_record (update_test n seen fs)
unfolding update_test is_in all_in each_passes
limited_update_test n seen fs =
    limited_pick (eqb n 1) _ _ limited_ok
    (limited_pick (eqb n 2) _ _ (limited_bind _ _ (limited_wider _ _ _ refl (limited_general InUpdate fs)) (λ _. limited_ok))
    (limited_bind _ _ (limited_passed _ (limited_update_record fs)) (λ _. limited_ok)))

-- ---- a file

module _ {may : ℕ → List ℕ} (file : ℕ) where
  -- its end: 1 to 3, or a record that is missing
  limited_ending : {A : Type 0} (least n e : ℕ) (a : A) → 0 < n → all_in at_end (may file) ≡ true → ends in_skeleton e ≡ true → LimitedOutcome may (ending file least n e a)
  unfolding ending
  limited_ending {A} least n e a l h p = go (eqb e 0) refl
    where
      at_end_lem : (m : ℕ) → is_in m at_end ≡ true → LimitedOutcome {A = A} may (refused file n (fault m 0 0))
      at_end_lem m i = limited_refused (in_wider m at_end (may file) h i) (named_right m n at_end (unfold each_passes names recordless is_in in refl) i l)

      first_three : (m : ℕ) → is_in m in_skeleton ≡ true → is_in m at_end ≡ true
      first_three m = in_wider m in_skeleton at_end (unfold is_in all_in each_passes in refl)

      go : (b : Bool) → eqb e 0 ≡ b → LimitedOutcome may (pick b (pick (leb n least) (refused file n (fault 4 0 0)) (done a)) (refused file n (fault e 0 0)))
      go true q = limited_choice (leb n least) _ _ (at_end_lem 4 (unfold is_in in refl)) limited_done
      go false q = at_end_lem e (first_three e (not_done in_skeleton e q p))

  -- its records, by what is found of them one after the other, and its end
  pub limited_taken : (test : ℕ → List Rec → List Field → Check (List Rec)) (least n : ℕ) (seen : List Rec) (g : Got (List Field)) → 0 < n → all_in at_end (may file) ≡ true
      → LimitedOutcome may (through test file n seen g.items) → ends in_skeleton g.ending ≡ true → LimitedOutcome may (taken test file least n seen g)
  unfolding taken
  limited_taken test least n seen g l h t e = limited_then _ _ t (λ recs. limited_ending least (n + length g.items) g.ending recs (omega arith) h e)

  module _ (ns : List ℕ) (h : all_in ns (may file) ≡ true) (i : each_passes names ns ≡ true) (test : ℕ → List Rec → List Field → Check (List Rec))
      (so : (n : ℕ) (seen : List Rec) (fs : List Field) → LimitedCheck ns (test n seen fs)) where
    -- record after record
    limited_through : (n : ℕ) (seen : List Rec) (items : List (List Field)) → 0 < n → LimitedOutcome may (through test file n seen items)
    unfolding through
    limited_through n seen [] l = limited_done
    limited_through n seen (fs ∷ rest) l =
        limited_then _ _ (limited_at ns file h i n _ l (so n seen fs)) (λ new.
        limited_then _ _ (limited_through (n + 1) (new ++ seen) rest (omega arith)) (λ later. limited_done))

module _ {may : ℕ → List ℕ} where
  -- 11
  limited_references : (file : ℕ) → all_in (11 ∷ []) (may file) ≡ true → (recs : List Rec) (fss : List (List Field)) → LimitedOutcome may (references file recs fss)
  unfolding references each_passes names recordless is_in
  limited_references file h recs fss = limited_every (11 ∷ []) file h refl _ 4 fss (omega arith) (λ fs. limited11 (each key_of recs) (marks 1 fs))

  -- a dataset: 1 to 7, and 11
  pub limited_read : all_in in_dataset (may 1) ≡ true → (f : List ℕ) → LimitedOutcome may (read_dataset f)
  unfolding read_dataset dataset_of recordless is_in all_in each_passes names
  limited_read h f =
      let l : 0 < 1 = omega arith in
      let records = limited_through 1 in_record (all_wider in_record in_dataset (may 1) refl h) refl dataset_test limited_dataset_test 1 [] (records_of f).items l in
      let file = limited_taken 1 dataset_test 3 1 [] (records_of f) l (all_wider at_end in_dataset (may 1) refl h) records (records_end f) in
      limited_then _ _ (limited_then _ _ file (λ recs. limited_done)) (λ s.
      limited_then _ _ (limited_references 1 (all_wider (11 ∷ []) in_dataset (may 1) refl h) s.dataset.records s.sent) (λ _. limited_done))

  -- an update: 1 to 7
  pub limited_sent : all_in in_update (may 2) ≡ true → (f : List ℕ) → LimitedOutcome may (read_update f)
  unfolding read_update update_of recordless is_in all_in each_passes names
  limited_sent h f =
      let l : 0 < 1 = omega arith in
      let records = limited_through 2 in_record (all_wider in_record in_update (may 2) refl h) refl update_test limited_update_test 1 [] (records_of f).items l in
      limited_then _ _ (limited_taken 2 update_test 2 1 [] (records_of f) l (all_wider at_end in_update (may 2) refl h) records (records_end f)) (λ _. limited_done)

  -- 12 of a dataset
  pub limited_writable : all_in (12 ∷ []) (may 1) ≡ true → (d : Dataset) → LimitedOutcome may (writable d)
  unfolding writable each_passes names recordless is_in
  limited_writable h d = limited_then _ _ (limited_every (12 ∷ []) 1 h refl number12 1 (written d) (omega arith) limited12) (λ _. limited_done)

  -- 14
  pub limited_length : (file : ℕ) → is_in 14 (may file) ≡ true → (f : List ℕ) → LimitedOutcome may (not_too_long file f)
  unfolding not_too_long right_record recordless is_in
  limited_length file h f = limited_choice (ltb 16777216 (length f)) _ _ (limited_refused h refl) limited_done

-- ---- updating

-- one update record
limited_step : (fs : List Field) (rs : List Rec) → LimitedCheck in_acts (step fs rs)
unfolding step step_as is_in all_in each_passes
limited_step fs rs =
    limited_kind _ refl (kind_of (first_tag fs)) _ (λ k. limited_bind _ _ (limited_wider _ _ _ refl (limited_change k fs (find (key_named k fs) rs))) (λ new. limited_ok))

-- the general record
limited_merged : (old new : List Field) → LimitedCheck in_acts (general old new)
unfolding general is_in all_in each_passes
limited_merged old new =
    limited_bind _ _ (limited_wider _ _ _ refl (limited8 old new)) (λ _. limited_bind _ _ (limited_wider _ _ _ refl (limited12 (merged old new))) (λ _. limited_ok))

module _ {may : ℕ → List ℕ} (h : all_in in_acts (may 2) ≡ true) where
  -- all of its records
  limited_steps : (n : ℕ) (us : List (List Field)) (rs : List Rec) → 0 < n → LimitedOutcome may (steps n us rs)
  unfolding steps each_passes names recordless is_in
  limited_steps n [] rs l = limited_done
  limited_steps n (fs ∷ us) rs l = limited_then _ _ (limited_at in_acts 2 h refl n _ l (limited_step fs rs)) (λ rs'. limited_steps (n + 1) us rs' (omega arith))

  -- the result
  pub limited_updated : all_in (11 ∷ []) (may 3) ≡ true → (d : Dataset) (u : Sent) → LimitedOutcome may (updated d u)
  unfolding updated each_passes names recordless is_in
  limited_updated g d u =
      limited_then _ _ (limited_at in_acts 2 h refl 2 _ (omega arith) (limited_merged d.general u.general)) (λ x.
      limited_then _ _ (limited_steps 3 u.records d.records (omega arith)) (λ rs.
      limited_then _ _ (limited_references 3 g rs (each written_fields rs)) (λ _. limited_done)))
