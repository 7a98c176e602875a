-- Laws of the first records of a file. Assumes nothing.
use mathlib.Core.Path.{◌≡◌, refl, sym, ◌∙◌, ap}
use mathlib.Core.Bool.{Bool, true, false}
use mathlib.Core.List.{List}
use mathlib.Core.Logic.{◌⊎◌, inl, inr, ⊎_elim}
use Prim.Native.Nat.{ℕ, ◌+◌, ◌^◌, ◌≤◌, ◌<◌}
use native.Mathlib.Omega.{arith}
use borrow.Author.Tests.{eq-eqb, ne_eqb, lt-ltb, le-ltb, le-leb, lt-leb}
use lib.Dec.{leb, ltb}
use lib.ListN.{length}
use Rattle.base.specs.Choice.{pick, both}
use Rattle.std.specs.Prelude.{Option, Some, None, Result, Ok, Err}
use Rattle.std.specs.Result.{IsErrAnd}
use Rattle.std.proofs.lemmas.Result.{err_from_is_err_and}
use Rattle.base.specs.Check.{ok, no, fault, Passed}
use Rattle.base.specs.Verdict.{verdict_of, refusal}
use Rattle.base.specs.declared.Fault.{Fault}
use Rattle.base.specs.declared.Refusal.{Refusal}
use Rattle.base.proofs.CheckLaws.{passed_is, refused_is}
use Rattle.base.proofs.ChoiceLaws.{both_false}
use Rattle.skeleton.specs.File.{Field}
use Rattle.skeleton.specs.Leader.{number_of}
use Rattle.skeleton.specs.Place.{between, place_at, fields_at}
use Rattle.skeleton.specs.Record.{record_at}
use Rattle.skeleton.specs.RightFrom.{RightFrom}
use Rattle.skeleton.specs.Shape.{Bounded}
use Rattle.skeleton.specs.declared.directory.Shape.{Shape}
use Rattle.skeleton.specs.declared.leader.Head.{Head}
use Rattle.skeleton.specs.declared.leader.Broken.{Broken}
use Rattle.skeleton.specs.declared.place.Place.{Place}
use Rattle.skeleton.proofs.PlaceLaws.{fields_more, fields_done}
use Rattle.skeleton.proofs.RecordLaws.{record_in_lem, record_word, record_bounded}
use Rattle.skeleton.proofs.RightLaws.{right_start}
use Rattle.rules.specs.ByTag.{first_tag}
use Rattle.rules.specs.General.{general_record}
use Rattle.rules.specs.Outcome.{Outcome, done, refused, and_then, at}
use Rattle.rules.specs.declared.Mode.{Mode}
use Rattle.rules.specs.declared.Mode.TheVariants.{InDataset}
use Rattle.opening.specs.Carried.{with_fault, head_at, tested_by, carried, begins_csid, unread, first_two, first_three, opened_by, in_record}

-- ---- what the skeleton finds

module _ (f : List ℕ) (n p : ℕ) where
  pub head_missing : 1 < n → length f ≤ p → Err (fault 4 0 0) ≡ head_at f n p
  unfolding head_at
  head_missing l h = simp (lt-ltb 1 n l, le-leb (length f) p h)

  -- it is there to be asked for: what the skeleton finds
  module _ (l : n ≤ 1 ⊎ p < length f) (q : Result Head Broken) (eq : q ≡ record_at f p) where
    asked : with_fault q ≡ head_at f n p
    unfolding head_at
    asked = ⊎_elim (λ (m : n ≤ 1). simp (le-ltb 1 n m) (ap with_fault eq)) (λ (h : p < length f). simp (lt-leb (length f) p h, both_false (ltb 1 n)) (ap with_fault eq)) l

    pub head_good : (d : Head) → q ≡ Ok d → Ok d ≡ head_at f n p
    head_good d x = sym (ap with_fault x) ∙ asked

    pub head_broken : (b : Broken) → q ≡ Err b → (r : Result Head Fault) → IsErrAnd r (λ y. y ≡ fault (number_of b) 0 0) → r ≡ head_at f n p
    head_broken b x r er = let y = err_from_is_err_and r er in y.1 ∙ ap (λ (z : Fault). Err z) y.2 ∙ sym (ap with_fault x) ∙ asked

pub ruleset head_ways = (head_missing, head_good, head_broken, inl, inr)

-- a record that is there is one that the skeleton found
pub there : (f : List ℕ) (n p : ℕ) (q : Result Head Fault) → q ≡ head_at f n p → (d : Head) → q ≡ Ok d → record_at f p ≡ Ok d
unfolding head_at
there f n p q e d x = go (both (ltb 1 n) (leb (length f) p)) (record_at f p) (sym x ∙ e)
  where
    go : (t : Bool) (r : Result Head Broken) → Ok d ≡ pick t (Err (fault 4 0 0)) (with_fault r) → r ≡ Ok d
    go true r z = absurd (let y : ◌≡◌ {A = ℕ} 0 1 = cc in omega arith)
    go false (Ok c) z = let y : d ≡ c = cc in ap (λ (w : Head). Ok w) (sym y)
    go false (Err b) z = absurd (let y : ◌≡◌ {A = ℕ} 0 1 = cc in omega arith)

-- ---- record n by a test

module _ (file n : ℕ) (test : List Field → Passed) (f : List ℕ) (p : ℕ) (q : Result Head Fault) (eq : q ≡ head_at f n p) where
  pub carried_refused : (y : Fault) → q ≡ Err y → Err (refusal n y) ≡ opened_by (carried file n test f p)
  unfolding carried opened_by
  carried_refused y x = rw (← eq, x)

  module _ (d : Head) (x : q ≡ Ok d) where
    module _ (v : Result (Unit {0}) Fault) (ev : v ≡ verdict_of (test (fields_at (between f p (p + d.len)) d.shape 24))) where
      pub carried_passed : v ≡ Ok tt → Ok (p + d.len) ≡ opened_by (carried file n test f p)
      unfolding carried opened_by and_then at
      carried_passed y = rw (← eq, x) (rw (passed_is _ (sym y ∙ ev)))

      pub carried_stopped : (z : Fault) → v ≡ Err z → Err (refusal n z) ≡ opened_by (carried file n test f p)
      unfolding carried opened_by and_then at
      carried_stopped z y = rw (← eq, x) (rw (refused_is _ z (sym y ∙ ev)))

module _ (f : List ℕ) (n p : ℕ) (q : Result Head Fault) (eq : q ≡ head_at f n p) (d : Head) (x : q ≡ Ok d) where
  pub carried_in : p + d.len ≤ length f
  carried_in = record_in_lem f p (record_at f p) refl d (there f n p q eq d x)

  pub carried_word : length f < 2 ^ 64 → p + d.len < 2 ^ 64
  carried_word = record_word f p (record_at f p) refl d (there f n p q eq d x)

  pub carried_bounded : Bounded d.shape
  carried_bounded = record_bounded f p (record_at f p) refl d (there f n p q eq d x)

  pub carried_right : RightFrom (between f p (p + d.len)) d.shape 24
  carried_right = right_start f p d.len d.shape (there f n p q eq d x)

-- nothing is tested
module _ (f : List ℕ) (q : Result Head Fault) (eq : q ≡ head_at f 1 0) where
  pub unread_behind : (d : Head) → q ≡ Ok d → Ok d.len ≡ opened_by (carried 1 1 unread f 0)
  unfolding carried opened_by and_then at
  unread_behind d x = rw (← eq, x) (let z : d.len ≡ 0 + d.len = omega arith in ap (λ (m : ℕ). Ok m) z)

  pub unread_stopped : (y : Fault) → q ≡ Err y → Err (refusal 1 y) ≡ opened_by (carried 1 1 unread f 0)
  unread_stopped = carried_refused 1 1 unread f 0 q eq

pub ruleset carried_ways = (carried_refused, carried_passed, carried_stopped, carried_in, carried_word, carried_bounded, carried_right, arith)

pub ruleset unread_ways = (unread_behind, unread_stopped)

-- ---- CSID

module _ (r : List ℕ) (h : Shape) (e : Option Place) (en : e ≡ place_at r h 24) where
  pub csid_none : e ≡ None → Err (fault 4 1 0) ≡ verdict_of (begins_csid (fields_at r h 24))
  unfolding begins_csid first_tag verdict_of
  csid_none x = rw (fields_done r h 24 e en x)

  module _ (field : Place) (x : e ≡ Some field) where
    pub csid_first : field.tag ≡ 0x43534944 → Ok tt ≡ verdict_of (begins_csid (fields_at r h 24))
    unfolding begins_csid first_tag verdict_of
    csid_first y = rw (fields_more r h 24 e en field x) (simp (eq-eqb field.tag 0x43534944 y))

    pub csid_other : (field.tag ≡ 0x43534944 → ⊥) → Err (fault 4 1 0) ≡ verdict_of (begins_csid (fields_at r h 24))
    unfolding begins_csid first_tag verdict_of
    csid_other y = rw (fields_more r h 24 e en field x) (simp (ne_eqb field.tag 0x43534944 y))

pub ruleset csid_ways = (csid_none, csid_first, csid_other)

-- ---- one after the other

pub behind_is : (c : Outcome ℕ) (p : ℕ) → Ok p ≡ opened_by c → c ≡ done p
unfolding opened_by
behind_is (done a) p e = let y : p ≡ a = cc in rw y
behind_is (refused file n x) p e = absurd (let y : ◌≡◌ {A = ℕ} 0 1 = cc in omega arith)

-- the first refusal stands
module _ (c : Outcome ℕ) (next : ℕ → Outcome ℕ) (q : Result ℕ Refusal) (eq : q ≡ opened_by c) where
  then_on : (p : ℕ) → q ≡ Ok p → (r : Result ℕ Refusal) → r ≡ opened_by (next p) → r ≡ opened_by (and_then c next)
  unfolding and_then
  then_on p x r e = rw (behind_is c p (sym x ∙ eq)) e

  then_stopped : (y : Refusal) → q ≡ Err y → Err y ≡ opened_by (and_then c next)
  unfolding and_then opened_by
  then_stopped y x = go c (sym x ∙ eq)
    where
      go : (d : Outcome ℕ) → Err y ≡ opened_by d → Err y ≡ opened_by (and_then d next)
      go (done a) z = absurd (let y : ◌≡◌ {A = ℕ} 0 1 = cc in omega arith)
      go (refused file m w) z = z

-- a test that passed leads to its place
place_is : (file n m e : ℕ) (c : Passed) → and_then (at file n c) (λ _. done m) ≡ done e → e ≡ m
unfolding and_then at
place_is file n m e (ok u) z = cc
place_is file n m e (no x) z = absurd (let y : ◌≡◌ {A = ℕ} 0 1 = cc in omega arith)

-- the place behind a record lies in the file
tested_in : (file n : ℕ) (test : List Field → Passed) (f : List ℕ) (p e : ℕ) (q : Result Head Fault) → q ≡ head_at f n p → tested_by file n test f p q ≡ done e → e ≤ length f
tested_in file n test f p e (Ok d) eq y =
    let l = carried_in f n p (Ok d) eq d refl in
    let z = place_is file n (p + d.len) e _ y in
    omega arith
tested_in file n test f p e (Err z) eq y = absurd (let z : ◌≡◌ {A = ℕ} 0 1 = cc in omega arith)

pub behind_in : (file n : ℕ) (test : List Field → Passed) (f : List ℕ) (p e : ℕ) → carried file n test f p ≡ done e → e ≤ length f
unfolding carried
behind_in file n test f p e z = tested_in file n test f p e (head_at f n p) refl z

-- ---- the first two, and the first three

module _ (m : Mode) (f : List ℕ) (q : Result ℕ Refusal) (eq : q ≡ opened_by (carried 1 1 unread f 0)) where
  pub two_on : (p : ℕ) → q ≡ Ok p → (v : Result ℕ Fault) → in_record 2 v ≡ opened_by (carried 1 2 (general_record m) f p)
      → (r : Result ℕ Refusal) → r ≡ in_record 2 v → r ≡ opened_by (first_two 1 m f)
  unfolding first_two
  two_on p x v ev r er = then_on (carried 1 1 unread f 0) (λ p. carried 1 2 (general_record m) f p) q eq p x r (er ∙ ev)

  pub two_in : (p : ℕ) → q ≡ Ok p → p ≤ length f
  two_in p x = behind_in 1 1 unread f 0 p (behind_is (carried 1 1 unread f 0) p (sym x ∙ eq))

  pub two_stopped : (y : Refusal) → q ≡ Err y → Err y ≡ opened_by (first_two 1 m f)
  unfolding first_two
  two_stopped = then_stopped (carried 1 1 unread f 0) (λ p. carried 1 2 (general_record m) f p) q eq

pub ruleset two_ways = (two_on, two_in, two_stopped)

-- the place behind the first two lies in the file
two_behind : (m : Mode) (f : List ℕ) (e : ℕ) → first_two 1 m f ≡ done e → e ≤ length f
unfolding first_two and_then
two_behind m f e z = go (carried 1 1 unread f 0) z
  where
    go : (c : Outcome ℕ) → and_then c (λ p. carried 1 2 (general_record m) f p) ≡ done e → e ≤ length f
    go (done p) y = behind_in 1 2 (general_record m) f p e y
    go (refused file n x) y = absurd (let w : ◌≡◌ {A = ℕ} 0 1 = cc in omega arith)

module _ (f : List ℕ) (q : Result ℕ Refusal) (eq : q ≡ opened_by (first_two 1 InDataset f)) where
  pub three_on : (p : ℕ) → q ≡ Ok p → (v : Result ℕ Fault) → in_record 3 v ≡ opened_by (carried 1 3 begins_csid f p)
      → (r : Result ℕ Refusal) → r ≡ in_record 3 v → r ≡ opened_by (first_three f)
  unfolding first_three
  three_on p x v ev r er = then_on (first_two 1 InDataset f) (λ p. carried 1 3 begins_csid f p) q eq p x r (er ∙ ev)

  pub three_in : (p : ℕ) → q ≡ Ok p → p ≤ length f
  three_in p x = two_behind InDataset f p (behind_is (first_two 1 InDataset f) p (sym x ∙ eq))

  pub three_stopped : (y : Refusal) → q ≡ Err y → Err y ≡ opened_by (first_three f)
  unfolding first_three
  three_stopped = then_stopped (first_two 1 InDataset f) (λ p. carried 1 3 begins_csid f p) q eq

pub ruleset three_ways = (three_on, three_in, three_stopped)
