-- Every refusal of a file's own records is at that file: of a dataset, 1. Assumes nothing.
use mathlib.Core.Path.{◌≡◌, refl, ap}
use mathlib.Core.List.{List, [], ◌∷◌, ◌++◌}
use Prim.Native.Nat.{ℕ, ◌+◌}
use native.Mathlib.Omega.{arith}
use lib.Dec.{eqb, leb}
use Rattle.std.specs.Prelude.{Result, Ok, Err}
use Rattle.base.specs.Check.{Check, ok, no, Passed}
use Rattle.base.specs.Verdict.{refusal}
use Rattle.base.specs.Walk.{Got}
use Rattle.base.specs.declared.Fault.{Fault}
use Rattle.base.specs.declared.Refusal.{Refusal}
use Rattle.base.proofs.ChoiceLaws.{by_test}
use Rattle.skeleton.specs.File.{Field, records_from}
use Rattle.skeleton.specs.declared.leader.Head.{Head}
use Rattle.rules.specs.Record.{Rec}
use Rattle.rules.specs.Outcome.{Outcome, done, refused, and_then, at}
use Rattle.rules.specs.File.{through, ending, taken, dataset_test}
use Rattle.opening.specs.Carried.{head_at, tested_by, carried, first_two, first_three, unread, begins_csid, opened_by}
use Rattle.opening.proofs.OpeningLaws.{from_fourth}
use Rattle.keys.specs.Standing.{outcome_from, unread as unread_of}
use Rattle.dataset.specs.Walk.{whole_from, walked_by}
use Rattle.rules.specs.General.{general_record}
use Rattle.rules.specs.declared.Mode.{Mode}
use Rattle.rules.specs.declared.Mode.TheVariants.{InDataset}

-- a refusal is at this file
unfoldable pub AtFile : ℕ → {A : Type 0} → Outcome A → Type 0
AtFile file (done a) = Unit {0}
AtFile file (refused other n x) = other ≡ file

module _ (file : ℕ) where
  pub file_then : {A B : Type 0} (c : Outcome A) (k : A → Outcome B) → AtFile file c → ((a : A) → AtFile file (k a)) → AtFile file (and_then c k)
  unfolding and_then AtFile
  file_then (done a) k e f = f a
  file_then (refused other n x) k e f = e

  pub file_at : {A : Type 0} (n : ℕ) (c : Check A) → AtFile file (at file n c)
  unfolding at AtFile
  file_at n (ok a) = tt
  file_at n (no x) = refl

  pub file_done : {A : Type 0} (a : A) → AtFile file (done a)
  unfolding AtFile
  file_done a = tt

  file_refused : (A : Type 0) (n : ℕ) (x : Fault) → AtFile file {A = A} (refused file n x)
  unfolding AtFile
  file_refused A n x = refl

  file_tested : (n : ℕ) (test : List Field → Passed) (f : List ℕ) (p : ℕ) (q : Result Head Fault) → AtFile file (tested_by file n test f p q)
  file_tested n test f p (Ok d) = file_then _ _ (file_at n _) (λ _. file_done _)
  file_tested n test f p (Err x) = file_refused ℕ n _

  pub file_carried : (n : ℕ) (test : List Field → Passed) (f : List ℕ) (p : ℕ) → AtFile file (carried file n test f p)
  unfolding carried
  file_carried n test f p = file_tested n test f p (head_at f n p)

  pub file_two : (m : Mode) (f : List ℕ) → AtFile file (first_two file m f)
  unfolding first_two
  file_two m f = file_then _ _ (file_carried 1 unread f 0) (λ p. file_carried 2 (general_record m) f p)

  module _ (test : ℕ → List Rec → List Field → Check (List Rec)) where
    file_through : (n : ℕ) (seen : List Rec) (items : List (List Field)) → AtFile file (through test file n seen items)
    unfolding through
    file_through n seen [] = file_done _
    file_through n seen (fs ∷ rest) =
        file_then _ _ (file_at n _) (λ new. file_then _ _ (file_through (n + 1) (new ++ seen) rest) (λ later. file_done _))

    file_ending : (least n e : ℕ) (a : List Rec) → AtFile file (ending file least n e a)
    unfolding ending
    file_ending least n e a =
        by_test (AtFile file) (eqb e 0) _ _ (λ _. by_test (AtFile file) (leb n least) _ _ (λ _. file_refused (List Rec) n _) (λ _. file_done a)) (λ _. file_refused (List Rec) n _)

    pub file_taken : (least n : ℕ) (seen : List Rec) (g : Got (List Field)) → AtFile file (taken test file least n seen g)
    unfolding taken
    file_taken least n seen g = file_then _ _ (file_through n seen _) (λ recs. file_ending least _ _ recs)

one_three : (f : List ℕ) → AtFile 1 (first_three f)
unfolding first_three
one_three f = file_then 1 _ _ (file_two 1 InDataset f) (λ p. file_carried 1 3 begins_csid f p)

-- ---- what code answers, in the words of the rules

-- a refusal is of one record, with one fault
pub refusal_same : (n : ℕ) (x : Fault) (y : Refusal) → y ≡ refusal n x → (y.rec ≡ n) × (y.fault ≡ x)
refusal_same n x y e = (ap (λ (z : Refusal). z.rec) e, ap (λ (z : Refusal). z.fault) e)

pub shut_is : (file : ℕ) (c : Outcome ℕ) → AtFile file c → (y : Refusal) → Err y ≡ opened_by c → c ≡ refused file y.rec y.fault
unfolding opened_by AtFile
shut_is file (done a) o y e = absurd (let w : ◌≡◌ {A = ℕ} 0 1 = cc in omega arith)
shut_is file (refused other n x) o y e = let s : y ≡ refusal n x = cc in rw (o, (refusal_same n x y s).0, (refusal_same n x y s).1)

pub first_shut : (f : List ℕ) (y : Refusal) → Err y ≡ opened_by (first_three f) → first_three f ≡ refused 1 y.rec y.fault
first_shut f y e = shut_is 1 (first_three f) (one_three f) y e

later_is : (c : Outcome (List Rec)) → AtFile 1 c → (m : ℕ) (y : Refusal) → Err y ≡ walked_by m (unread_of c) → c ≡ refused 1 y.rec y.fault
unfolding walked_by AtFile unread_of and_then
later_is (done a) o m y e = absurd (let w : ◌≡◌ {A = ℕ} 0 1 = cc in omega arith)
later_is (refused file n x) o m y e = let s : y ≡ refusal n x = cc in rw (o, (refusal_same n x y s).0, (refusal_same n x y s).1)

pub later_stopped : (f : List ℕ) (start m : ℕ) (y : Refusal) → Err y ≡ walked_by m (whole_from f start) → from_fourth f start ≡ refused 1 y.rec y.fault
unfolding outcome_from
later_stopped f start m y e = later_is (from_fourth f start) (file_taken 1 dataset_test 3 4 [] (records_from f start)) m y e

over_is : (c : Outcome (Unit {0})) (m count : ℕ) → Ok m ≡ walked_by count c → (m ≡ count) × (c ≡ done tt)
unfolding walked_by
over_is (done tt) m count e = let y : m ≡ count = cc in (y, refl)
over_is (refused file n x) m count e = absurd (let y : ◌≡◌ {A = ℕ} 0 1 = cc in omega arith)

pub later_over : (f : List ℕ) (start m count : ℕ) → Ok m ≡ walked_by count (whole_from f start) → (m ≡ count) × (whole_from f start ≡ done tt)
later_over f start m count e = over_is (whole_from f start) m count e
