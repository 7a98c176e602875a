-- Laws of the first pass over an update. Assumes nothing.
use mathlib.Core.Path.{◌≡◌, refl, sym, ◌∙◌, ap}
use mathlib.Core.List.{List, [], ◌∷◌}
use mathlib.Core.Logic.{◌⊎◌, inl, inr, ⊎_elim}
use Prim.Native.Nat.{ℕ, ◌+◌, ◌-◌, ◌^◌, ◌≤◌, ◌<◌}
use native.Mathlib.Omega.{arith}
use borrow.Author.Tests.{ne_eqb, lt-leb}
use lib.ListN.{length}
use Rattle.std.specs.Prelude.{Result, Ok, Err}
use Rattle.std.specs.Result.{IsErrAnd}
use Rattle.std.proofs.lemmas.Result.{err_from_is_err_and}
use Rattle.base.specs.Check.{ok, no, bind, fault, Passed, passed}
use Rattle.base.specs.Verdict.{verdict_of, refusal}
use Rattle.base.specs.declared.Fault.{Fault}
use Rattle.base.specs.declared.Refusal.{Refusal}
use Rattle.base.proofs.CheckLaws.{passed_is, refused_is}
use Rattle.skeleton.specs.File.{Field, records_of}
use Rattle.skeleton.specs.Leader.{number_of}
use Rattle.skeleton.specs.Place.{between, fields_at}
use Rattle.skeleton.specs.Record.{record_at}
use Rattle.skeleton.specs.RightFrom.{RightFrom}
use Rattle.skeleton.specs.Shape.{Bounded}
use Rattle.skeleton.specs.declared.leader.Head.{Head}
use Rattle.skeleton.specs.declared.leader.Broken.{Broken}
use Rattle.skeleton.proofs.FileLaws.{records_over, records_none, records_all}
use Rattle.skeleton.proofs.RecordLaws.{record_in_lem, record_falls, record_bounded}
use Rattle.skeleton.proofs.RightLaws.{right_start}
use Rattle.rules.specs.General.{general_record}
use Rattle.rules.specs.Record.{update_record}
use Rattle.rules.specs.Outcome.{Outcome, done, refused, and_then, at}
use Rattle.rules.specs.File.{adds_none, update_test, ending, taken, sent_as, update_of, read_update}
use Rattle.rules.specs.declared.Mode.{Mode}
use Rattle.rules.specs.declared.Mode.TheVariants.{InUpdate}
use Rattle.rules.proofs.FileLaws.{taken_over}
use Rattle.rules.proofs.OutcomeLaws.{and_then_assoc, and_then_inv}
use Rattle.opening.specs.Carried.{with_fault, head_at, tested_by, carried, unread, first_two, opened_by}
use Rattle.opening.proofs.CarriedLaws.{behind_is, behind_in}
use Rattle.opening.proofs.OpeningLaws.{by_head, taken_carried, empty_head}
use Rattle.dataset.proofs.FileLaws.{file_two, shut_is}
use Rattle.incoming.specs.Came.{third_on, Checked, behind_two, came_by}

-- ---- record after record, from the third on

-- a record's own test
abbrev pub own : List Field → Passed
own fs = passed (update_record fs)

pub test_third : (n : ℕ) → 3 ≤ n → (fs : List Field) → update_test n [] fs ≡ adds_none (own fs)
unfolding update_test
test_third n h fs = simp (ne_eqb n 1 (λ e. omega arith), ne_eqb n 2 (λ e. omega arith))

module _ (u : List ℕ) (p : ℕ) (l : p < length u) (q : Result Head Broken) (eq : q ≡ record_at u p) where
  turn : (n : ℕ) → 3 ≤ n → third_on u n p ≡ and_then (tested_by 2 n own u p (with_fault q)) (λ e. third_on u (n + 1) e)
  unfolding third_on
  turn n h = by_head update_test 2 2 n [] own (test_third n h) u p l q eq

  pub at_broken : (b : Broken) → q ≡ Err b → (r : Result ℕ Fault) → IsErrAnd r (λ y. y ≡ fault (number_of b) 0 0) → Checked u p r
  unfolding Checked and_then
  at_broken b x r er = let z = err_from_is_err_and r er in rw (z.1, z.2) (λ n h. rw x at (turn n h))

  module _ (d : Head) (x : q ≡ Ok d) where
    pub at_in : p + d.len ≤ length u
    at_in = record_in_lem u p q eq d x

    pub at_word : length u ≤ 16777216 → p + d.len < 2 ^ 64
    at_word g = let i = at_in in omega arith

    pub at_bounded : Bounded d.shape
    at_bounded = record_bounded u p q eq d x

    pub at_right : RightFrom (between u p (p + d.len)) d.shape 24
    at_right = right_start u p d.len d.shape (sym eq ∙ x)

    module _ (v : Result (Unit {0}) Fault) (ev : v ≡ verdict_of (own (fields_at (between u p (p + d.len)) d.shape 24))) where
      pub at_refused : (y : Fault) → v ≡ Err y → Checked u p (Err y)
      unfolding Checked and_then at
      at_refused y ey n h = rw (x, refused_is _ y (sym ey ∙ ev)) at (turn n h)

      pub at_passed : (w : Unit {0}) → v ≡ Ok w → Checked u p (Ok (p + d.len))
      unfolding Checked and_then at
      at_passed w ey = (omega (arith, record_falls u p q eq d x), at_in, λ n h. rw (x, passed_is _ (sym ey ∙ ev)) at (turn n h))

pub ruleset at_ways = (at_in, at_word, at_bounded, at_right, arith)

-- the loop at p, where the next record has number n
pub record ThirdAt (u : List ℕ) (start p n : ℕ) : Type 0 where
  pub same : third_on u n p ≡ third_on u 3 start
  pub least : 3 ≤ n
  pub few : n ≤ p + 3
  pub inside : p ≤ length u

pub third_start : (u : List ℕ) (start : ℕ) → start ≤ length u → ThirdAt u start start 3
third_start u start h = record { same = refl; least = omega arith; few = omega arith; inside = h }

module _ (u : List ℕ) (start p n : ℕ) (s : ThirdAt u start p n) where
  pub third_over : length u ≤ p → Ok start ≡ came_by start (third_on u 3 start)
  unfolding came_by third_on ending
  third_over h =
      let m = s.least in
      let e : third_on u n p ≡ done [] = ap (taken update_test 2 2 n []) (records_over u p h) ∙ taken_over update_test 2 2 n 0 [] ∙ simp (lt-leb n 2 (omega arith)) in
      rw (← s.same, e)

  module _ (r : Result ℕ Fault) (c : Checked u p r) where
    pub third_stopped : (y : Fault) → r ≡ Err y → Err (refusal n y) ≡ came_by start (third_on u 3 start)
    unfolding came_by Checked
    third_stopped y x =
        let g : (k : ℕ) → 3 ≤ k → third_on u k p ≡ refused 2 k y = rw x at c in
        rw (← s.same, g n s.least)

    module _ (e : ℕ) (x : r ≡ Ok e) where
      onward : (p < e) × (e ≤ length u) × ((k : ℕ) → 3 ≤ k → third_on u k p ≡ third_on u (k + 1) e)
      unfolding Checked
      onward = rw x at c

      pub third_falls : length u - e < length u - p
      third_falls = omega (arith, onward.0, onward.1)

      pub number_word : length u ≤ 16777216 → n + 1 < 2 ^ 64
      number_word g = omega (arith, s.few, onward.0, onward.1)

      pub third_more : ThirdAt u start e (n + 1)
      third_more =
          let m = s.least in
          record { same = sym (onward.2 n s.least) ∙ s.same; least = omega arith; few = omega (arith, s.few, onward.0); inside = onward.1 }

pub ruleset third_ways = (third_start, third_over, third_stopped, third_falls, number_word, third_more)

-- ---- the first two records, and then the others

first_none : (fs : List Field) → update_test 1 [] fs ≡ adds_none (unread fs)
unfolding update_test bind
first_none fs = refl

second_none : (fs : List Field) → update_test 2 [] fs ≡ adds_none (general_record InUpdate fs)
unfolding update_test
second_none fs = refl

then_second : (u : List ℕ) (p : ℕ) → third_on u 2 p ≡ and_then (carried 2 2 (general_record InUpdate) u p) (third_on u 3)
unfolding third_on
then_second u p = taken_carried update_test 2 2 2 [] (general_record InUpdate) second_none u (omega arith) p (inl (omega arith))

opened_some : (u : List ℕ) → 0 < length u → third_on u 1 0 ≡ and_then (first_two 2 InUpdate u) (third_on u 3)
unfolding third_on first_two
opened_some u h =
    taken_carried update_test 2 2 1 [] unread first_none u (omega arith) 0 (inr h)
    ∙ (λ i. and_then (carried 2 1 unread u 0) (λ p. then_second u p i))
    ∙ sym (and_then_assoc (carried 2 1 unread u 0) (λ p. carried 2 2 (general_record InUpdate) u p) (third_on u 3))

opened_none : (u : List ℕ) → length u ≡ 0 → taken update_test 2 2 1 [] (records_of u) ≡ and_then (first_two 2 InUpdate u) (third_on u 3)
unfolding first_two carried and_then ending
opened_none u e = ap (λ g. taken update_test 2 2 1 [] g) (records_none u e) ∙ taken_over update_test 2 2 1 1 [] ∙ rw (empty_head u e)

-- the records of an update: the first two, and then those from the third on
opened : (u : List ℕ) → taken update_test 2 2 1 [] (records_of u) ≡ and_then (first_two 2 InUpdate u) (third_on u 3)
unfolding third_on
opened u =
    ⊎_elim (λ (e : length u ≡ 0). opened_none u e)
    (λ (e : length u ≡ 0 → ⊥). ap (λ g. taken update_test 2 2 1 [] g) (records_all u e) ∙ opened_some u (omega arith)) (empty_or u)
  where
    empty_or : (l : List ℕ) → (length l ≡ 0) ⊎ (length l ≡ 0 → ⊥)
    empty_or [] = inl refl
    empty_or (x ∷ xs) = inr (λ e. omega arith)

pub whole : (u : List ℕ) → read_update u ≡ and_then (and_then (first_two 2 InUpdate u) (third_on u 3)) (λ _. done (sent_as (records_of u).items))
unfolding read_update update_of
whole u = rw (opened u)

-- ---- `check_update`

-- an answer says nothing of the file
same_tested : (a b n : ℕ) (test : List Field → Passed) (f : List ℕ) (p : ℕ) (q : Result Head Fault) → opened_by (tested_by a n test f p q) ≡ opened_by (tested_by b n test f p q)
unfolding opened_by and_then at
same_tested a b n test f p (Err x) = refl
same_tested a b n test f p (Ok d) = go (test (fields_at (between f p (p + d.len)) d.shape 24))
  where
    go : (c : Passed) → opened_by (and_then (at a n c) (λ _. done (p + d.len))) ≡ opened_by (and_then (at b n c) (λ _. done (p + d.len)))
    go (ok u) = refl
    go (no z) = refl

same_carried : (a b n : ℕ) (test : List Field → Passed) (f : List ℕ) (p : ℕ) → opened_by (carried a n test f p) ≡ opened_by (carried b n test f p)
unfolding carried
same_carried a b n test f p = same_tested a b n test f p (head_at f n p)

same_then : (c d : Outcome ℕ) (j k : ℕ → Outcome ℕ) → opened_by c ≡ opened_by d → ((p : ℕ) → opened_by (j p) ≡ opened_by (k p))
    → opened_by (and_then c j) ≡ opened_by (and_then d k)
unfolding opened_by and_then
same_then (done p) (done q) j k e f = let z : p ≡ q = cc in rw z (f q)
same_then (done p) (refused file n x) j k e f = absurd (let y : ◌≡◌ {A = ℕ} 0 1 = cc in omega arith)
same_then (refused file n x) (done q) j k e f = absurd (let y : ◌≡◌ {A = ℕ} 0 1 = cc in omega arith)
same_then (refused file n x) (refused other m y) j k e f = e

same_two : (a b : ℕ) (m : Mode) (f : List ℕ) → opened_by (first_two a m f) ≡ opened_by (first_two b m f)
unfolding first_two
same_two a b m f =
    same_then (carried a 1 unread f 0) (carried b 1 unread f 0) (λ p. carried a 2 (general_record m) f p) (λ p. carried b 2 (general_record m) f p)
    (same_carried a b 1 unread f 0) (λ p. same_carried a b 2 (general_record m) f p)

-- the place behind the first two lies in the file
pub two_inside : (u : List ℕ) (start : ℕ) → first_two 2 InUpdate u ≡ done start → start ≤ length u
unfolding first_two
two_inside u start e =
    let x = and_then_inv (carried 2 1 unread u 0) (λ p. carried 2 2 (general_record InUpdate) u p) start e in
    behind_in 2 2 (general_record InUpdate) u x.0 start x.2

came_same : {A B : Type 0} (start : ℕ) (c : Outcome A) (b : B) → came_by start c ≡ came_by start (and_then c (λ _. done b))
unfolding came_by and_then
came_same start (done a) b = refl
came_same start (refused file n x) b = refl

module _ (u : List ℕ) (q : Result ℕ Refusal) (eq : q ≡ opened_by (first_two 1 InUpdate u)) where
  pub two_there : (start : ℕ) → q ≡ Ok start → first_two 2 InUpdate u ≡ done start
  two_there start x = behind_is (first_two 2 InUpdate u) start (sym x ∙ eq ∙ same_two 1 2 InUpdate u)

  pub two_in : (start : ℕ) → q ≡ Ok start → start ≤ length u
  two_in start x = two_inside u start (two_there start x)

  pub came_later : (start : ℕ) → q ≡ Ok start → (r : Result ℕ Refusal) → r ≡ came_by start (third_on u 3 start) → r ≡ came_by (behind_two u) (read_update u)
  unfolding behind_two and_then
  came_later start x r er = rw (whole u) (rw (two_there start x) (er ∙ came_same start (third_on u 3 start) (sent_as (records_of u).items)))

  pub came_shut : (y : Refusal) → q ≡ Err y → Err y ≡ came_by (behind_two u) (read_update u)
  unfolding and_then came_by
  came_shut y x =
      let z = shut_is 2 (first_two 2 InUpdate u) (file_two 2 InUpdate u) y (sym x ∙ eq ∙ same_two 1 2 InUpdate u) in
      rw (whole u) (rw z)

pub ruleset came_ways = (two_in, came_later, came_shut)
