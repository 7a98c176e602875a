-- The first records of a file in the words of the rules. Assumes nothing.
use mathlib.Core.Path.{◌≡◌, refl, sym, ◌∙◌, ap}
use mathlib.Core.Bool.{Bool, true, false}
use mathlib.Core.List.{List, [], ◌∷◌, ◌++◌}
use mathlib.Core.Logic.{◌⊎◌, inl, inr, ⊎_elim}
use Prim.Native.Nat.{ℕ, ◌+◌, ◌≤◌, ◌<◌}
use native.Mathlib.Omega.{arith}
use borrow.Author.Tests.{ne_eqb, lt-ltb, le-leb, leb-true, leb-false}
use lib.Dec.{leb, ltb}
use lib.ListN.{length}
use Rattle.base.specs.Choice.{pick, both}
use Rattle.std.specs.Prelude.{Result, Ok, Err}
use Rattle.base.specs.declared.Fault.{Fault}
use Rattle.base.specs.Check.{Check, ok, no, bind, fault, Passed, pass}
use Rattle.base.specs.Walk.{before}
use Rattle.base.proofs.ChoiceLaws.{both_false}
use Rattle.skeleton.specs.File.{Field, records_from, records_of}
use Rattle.skeleton.specs.Leader.{number_of, good, leader_of}
use Rattle.skeleton.specs.Place.{between, fields_at}
use Rattle.skeleton.specs.Record.{record_at}
use Rattle.skeleton.specs.declared.directory.Shape.{Shape}
use Rattle.skeleton.specs.declared.leader.Head.{Head}
use Rattle.skeleton.specs.declared.leader.Broken.{Broken}
use Rattle.skeleton.proofs.FileLaws.{records_over, records_refused, records_more, records_none, records_all}
use Rattle.skeleton.proofs.LeaderLaws.{number_some}
use Rattle.skeleton.proofs.RecordLaws.{right}
use Rattle.rules.specs.Record.{Rec}
use Rattle.rules.specs.General.{general_record}
use Rattle.rules.specs.Outcome.{Outcome, done, refused, and_then, at}
use Rattle.rules.specs.File.{adds_none, dataset_test, ending, taken}
use Rattle.rules.specs.declared.Mode.TheVariants.{InDataset}
use Rattle.rules.proofs.FileLaws.{taken_over, taken_more}
use Rattle.rules.proofs.OutcomeLaws.{and_then_assoc, and_then_inv, at_inv, done_inj}
use Rattle.opening.specs.Carried.{with_fault, head_at, tested_by, carried, begins_csid, unread, first_two, first_three}
use Rattle.opening.proofs.CarriedLaws.{there}

-- what is done and then done is done
and_done : {A : Type 0} (c : Outcome A) → and_then c (λ a. done a) ≡ c
unfolding and_then
and_done (done a) = refl
and_done (refused file n x) = refl

module _ (test : ℕ → List Rec → List Field → Check (List Rec)) (file least n : ℕ) (seen : List Rec) (own : List Field → Passed)
    (same : (fs : List Field) → test n seen fs ≡ adds_none (own fs)) (f : List ℕ) where
  -- a record that adds none, and then the rest
  adds : (c : Passed) (e : ℕ)
      → and_then (at file n (adds_none c)) (λ new. and_then (taken test file least (n + 1) (new ++ seen) (records_from f e)) (λ later. done (new ++ later)))
      ≡ and_then (and_then (at file n c) (λ _. done e)) (λ e'. taken test file least (n + 1) seen (records_from f e'))
  unfolding and_then at bind
  adds (ok u) e = and_done (taken test file least (n + 1) seen (records_from f e))
  adds (no x) e = refl

  ended : (k : ℕ) → 0 < k → ending {A = List Rec} file least n k [] ≡ refused file n (fault k 0 0)
  unfolding ending
  ended k z = let o : k ≡ 0 → ⊥ = λ y. omega arith in simp (ne_eqb k 0 o)

  -- the record that the skeleton finds at p by its own test, and then the rest
  pub by_head : (p : ℕ) → p < length f → (q : Result Head Broken) → q ≡ record_at f p
      → taken test file least n seen (records_from f p) ≡ and_then (tested_by file n own f p (with_fault q)) (λ e. taken test file least (n + 1) seen (records_from f e))
  unfolding and_then
  by_head p h (Ok d) eq =
      ap (λ g. taken test file least n seen g) (records_more f p h _ eq d refl)
      ∙ taken_more test file least n seen _ _
      ∙ rw (same (fields_at (between f p (p + d.len)) d.shape 24)) (adds (own (fields_at (between f p (p + d.len)) d.shape 24)) (p + d.len))
  by_head p h (Err b) eq =
      ap (λ g. taken test file least n seen g) (records_refused f p h _ eq b refl) ∙ taken_over test file least n (number_of b) seen
      ∙ ended (number_of b) (number_some b)

  missing : n ≤ least → (p : ℕ) → length f ≤ p → taken test file least n seen (records_from f p) ≡ refused file n (fault 4 0 0)
  unfolding ending
  missing l p h = ap (λ g. taken test file least n seen g) (records_over f p h) ∙ taken_over test file least n 0 seen ∙ simp (le-leb n least l)

  -- record n by its own test, and then the rest
  pub taken_carried : n ≤ least → (p : ℕ) → (1 < n) ⊎ (p < length f)
      → taken test file least n seen (records_from f p) ≡ and_then (carried file n own f p) (λ e. taken test file least (n + 1) seen (records_from f e))
  unfolding carried head_at and_then
  taken_carried l p c = go (leb (length f) p) refl
    where
      go : (t : Bool) → leb (length f) p ≡ t
          → taken test file least n seen (records_from f p)
          ≡ and_then (tested_by file n own f p (pick (both (ltb 1 n) t) (Err (fault 4 0 0)) (with_fault (record_at f p)))) (λ e. taken test file least (n + 1) seen (records_from f e))
      go true z =
          let h : length f ≤ p = leb-true (length f) p z in
          let m : 1 < n = ⊎_elim (λ (y : 1 < n). y) (λ (y : p < length f). omega arith) c in
          rw (lt-ltb 1 n m) (missing l p h)
      go false z = let h : p < length f = leb-false (length f) p z in rw (both_false (ltb 1 n)) (by_head p h (record_at f p) refl)

-- a record that was carried: where it lies in the file, that its fields passed, and that it is one more of the file
pub record Over (test : List Field → Passed) (f : List ℕ) (p e : ℕ) : Type 0 where
  pub long : ℕ
  pub shape : Shape
  pub there : record_at f p ≡ good long shape
  pub behind : p + long ≡ e
  pub passed : test (fields_at (between f p (p + long)) shape 24) ≡ pass
  pub inside : p < length f
  pub one_more : records_from f p ≡ before (fields_at (between f p (p + long)) shape 24) (records_from f e)

pub carried_over : (file n : ℕ) (test : List Field → Passed) (f : List ℕ) (p e : ℕ) → carried file n test f p ≡ done e → Over test f p e
unfolding carried
carried_over file n test f p e z = by_found (head_at f n p) refl z
  where
    by_found : (q : Result Head Fault) → q ≡ head_at f n p → tested_by file n test f p q ≡ done e → Over test f p e
    by_found (Err z) eq y = absurd (let w : ◌≡◌ {A = ℕ} 0 1 = cc in omega arith)
    by_found (Ok d) eq y =
        let r = there f n p (Ok d) eq d refl in
        let k = right f p (record_at f p) refl d r in
        let h : p < length f = omega arith in
        let i = and_then_inv (at file n (test (fields_at (between f p (p + d.len)) d.shape 24))) (λ _. done (p + d.len)) e y in
        let w : p + d.len ≡ e = done_inj (p + d.len) e i.2 in
        record {
          long = d.len;
          shape = d.shape;
          there = r;
          behind = w;
          passed = at_inv file n _ i.0 i.1;
          inside = h;
          one_more = records_more f p h (record_at f p) refl d r
              ∙ ap (λ (m : ℕ). before (fields_at (between f p (p + d.len)) d.shape 24) (records_from f m)) w;
        }

-- ---- a dataset: its first three records, and then the rest

first_none : (fs : List Field) → dataset_test 1 [] fs ≡ adds_none (unread fs)
unfolding dataset_test bind
first_none fs = refl

second_none : (fs : List Field) → dataset_test 2 [] fs ≡ adds_none (general_record InDataset fs)
unfolding dataset_test
second_none fs = refl

third_none : (fs : List Field) → dataset_test 3 [] fs ≡ adds_none (begins_csid fs)
unfolding dataset_test begins_csid
third_none fs = refl

-- the records after the third
abbrev pub from_fourth : List ℕ → ℕ → Outcome (List Rec)
from_fourth f p = taken dataset_test 1 3 4 [] (records_from f p)

then_second : (f : List ℕ) (p : ℕ) → taken dataset_test 1 3 2 [] (records_from f p) ≡ and_then (carried 1 2 (general_record InDataset) f p) (λ q. taken dataset_test 1 3 3 [] (records_from f q))
then_second f p = taken_carried dataset_test 1 3 2 [] (general_record InDataset) second_none f (omega arith) p (inl (omega arith))

then_third : (f : List ℕ) (q : ℕ) → taken dataset_test 1 3 3 [] (records_from f q) ≡ and_then (carried 1 3 begins_csid f q) (from_fourth f)
then_third f q = taken_carried dataset_test 1 3 3 [] begins_csid third_none f (omega arith) q (inl (omega arith))

opened_some : (f : List ℕ) → 0 < length f → taken dataset_test 1 3 1 [] (records_from f 0) ≡ and_then (first_three f) (from_fourth f)
unfolding first_three first_two
opened_some f h =
    taken_carried dataset_test 1 3 1 [] unread first_none f (omega arith) 0 (inr h)
    ∙ (λ i. and_then (carried 1 1 unread f 0) (λ p. (then_second f p ∙ (λ j. and_then (carried 1 2 (general_record InDataset) f p) (λ q. then_third f q j))) i))
    ∙ sym (and_then_assoc (carried 1 1 unread f 0) (λ p. carried 1 2 (general_record InDataset) f p) (λ q. and_then (carried 1 3 begins_csid f q) (from_fourth f)))
    ∙ sym (and_then_assoc (and_then (carried 1 1 unread f 0) (λ p. carried 1 2 (general_record InDataset) f p)) (λ q. carried 1 3 begins_csid f q) (from_fourth f))

-- a file of no bytes is refused at its first record
pub empty_head : (f : List ℕ) → length f ≡ 0 → head_at f 1 0 ≡ Err (fault 1 0 0)
unfolding head_at record_at leader_of
empty_head [] e = refl
empty_head (x ∷ xs) e = absurd (omega arith)

opened_none : (f : List ℕ) → length f ≡ 0 → taken dataset_test 1 3 1 [] (records_of f) ≡ and_then (first_three f) (from_fourth f)
unfolding first_three first_two carried and_then ending
opened_none f e =
    ap (λ g. taken dataset_test 1 3 1 [] g) (records_none f e) ∙ taken_over dataset_test 1 3 1 1 [] ∙ rw (empty_head f e)

-- the records of a dataset: the first three, and then those from the fourth on
pub opened : (f : List ℕ) → taken dataset_test 1 3 1 [] (records_of f) ≡ and_then (first_three f) (from_fourth f)
opened f = ⊎_elim (λ (e : length f ≡ 0). opened_none f e) (λ (e : length f ≡ 0 → ⊥). ap (λ g. taken dataset_test 1 3 1 [] g) (records_all f e) ∙ opened_some f (omega arith)) (empty_or f)
  where
    empty_or : (l : List ℕ) → (length l ≡ 0) ⊎ (length l ≡ 0 → ⊥)
    empty_or [] = inl refl
    empty_or (x ∷ xs) = inr (λ e. omega arith)
