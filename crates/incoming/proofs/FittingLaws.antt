-- What is known of an update that has passed, and of its refusal. Assumes nothing.
use mathlib.Core.Path.{◌≡◌, refl, sym, ◌∙◌, ap}
use mathlib.Core.List.{List, [], ◌∷◌, ◌++◌}
use Prim.Native.Nat.{ℕ, ◌+◌, ◌≤◌, ◌<◌}
use native.Mathlib.Omega.{arith}
use lib.ListN.{length, drop, get_or}
use Rattle.std.specs.Prelude.{Result, Ok, Err}
use Rattle.base.specs.Check.{ok, pass, passed}
use Rattle.base.specs.Lists.{Each}
use Rattle.base.specs.Verdict.{refusal}
use Rattle.base.specs.Walk.{Got, before}
use Rattle.base.specs.declared.Refusal.{Refusal}
use Rattle.base.proofs.CheckLaws.{bind_inv, ok_inj}
use Rattle.skeleton.specs.File.{Field, records_from, records_of}
use Rattle.skeleton.specs.Leader.{number_of, good}
use Rattle.skeleton.specs.Place.{between, fields_at}
use Rattle.skeleton.specs.Record.{record_at}
use Rattle.skeleton.specs.declared.leader.Head.{Head}
use Rattle.skeleton.specs.declared.leader.Broken.{Broken}
use Rattle.skeleton.proofs.FileLaws.{records_refused, records_more, records_all}
use Rattle.skeleton.proofs.LeaderLaws.{number_some}
use Rattle.rules.specs.General.{general_record}
use Rattle.rules.specs.Record.{Rec, update_record}
use Rattle.rules.specs.Outcome.{Outcome, done, refused, and_then, at}
use Rattle.rules.specs.File.{Sent, sent_as, update_test, through, taken, read_update}
use Rattle.rules.specs.declared.Mode.TheVariants.{InUpdate}
use Rattle.rules.proofs.OutcomeLaws.{and_then_inv, at_inv}
use Rattle.rules.proofs.FileLaws.{ending_inv}
use Rattle.opening.specs.Carried.{carried, unread, first_two}
use Rattle.opening.proofs.OpeningLaws.{carried_over}
use Rattle.dataset.proofs.FileLaws.{refusal_same, AtFile, file_then, file_done, file_two, file_taken}
use Rattle.incoming.specs.Came.{third_on, place_in, behind_two, came_by}
use Rattle.incoming.specs.Fitting.{Single, Rest, Fitting}
use Rattle.incoming.proofs.ComingLaws.{own, test_third, whole, two_inside}

-- ---- a refusal

update_file : (u : List ℕ) → AtFile 2 (read_update u)
unfolding third_on
update_file u =
    rw (whole u) (file_then 2 _ _ (file_then 2 _ _ (file_two 2 InUpdate u) (λ p. file_taken 2 update_test 2 3 [] (records_from u p))) (λ _. file_done 2 _))

stopped_is : (start : ℕ) (c : Outcome Sent) → AtFile 2 c → (y : Refusal) → Err y ≡ came_by start c → c ≡ refused 2 y.rec y.fault
unfolding came_by AtFile
stopped_is start (done a) o y e = absurd (let w : ◌≡◌ {A = ℕ} 0 1 = cc in omega arith)
stopped_is start (refused other n x) o y e = let s : y ≡ refusal n x = cc in rw (o, (refusal_same n x y s).0, (refusal_same n x y s).1)

pub came_stopped : (u : List ℕ) (y : Refusal) → Err y ≡ came_by (behind_two u) (read_update u) → read_update u ≡ refused 2 y.rec y.fault
came_stopped u y e = stopped_is (behind_two u) (read_update u) (update_file u) y e

-- ---- each record on its own

-- a test that passed gives a kind
single : (fs : List Field) → own fs ≡ pass → Single fs
unfolding passed
single fs e = let a = bind_inv (update_record fs) (λ _. pass) tt e in record { kind = a.0; right = a.1 }

singles : (items : List (List Field)) (n : ℕ) (recs : List Rec) → 3 ≤ n → through update_test 2 n [] items ≡ done recs → Each Single items
unfolding through Each
singles [] n recs h e = tt
singles (fs ∷ items) n recs h e =
    let p = and_then_inv (at 2 n (update_test n [] fs)) _ recs e in
    let q = at_inv 2 n (update_test n [] fs) p.0 p.1 in
    let r = bind_inv (own fs) (λ _. ok []) p.0 (sym (test_third n h fs) ∙ q) in
    let none : [] ≡ p.0 = ok_inj [] p.0 r.2 in
    let s = and_then_inv (through update_test 2 (n + 1) (p.0 ++ []) items) (λ later. done (p.0 ++ later)) recs p.2 in
    let t : through update_test 2 (n + 1) [] items ≡ done s.0
    = ap (λ (l : List Rec). through update_test 2 (n + 1) (l ++ []) items) none ∙ s.1 in
    (single fs r.1, singles items (n + 1) s.0 (omega arith) t)

rest_of : (u : List ℕ) (start : ℕ) (recs : List Rec) → third_on u 3 start ≡ done recs → Rest u start
unfolding third_on taken
rest_of u start recs e =
    let p = and_then_inv (through update_test 2 3 [] (records_from u start).items) _ recs e in
    record {
      ended = (ending_inv 2 2 (3 + length (records_from u start).items) (records_from u start).ending p.0 recs p.2).0;
      singles = singles (records_from u start).items 3 p.0 (omega arith) p.1;
    }

-- ---- the whole

fit_is : (start place : ℕ) (c : Outcome Sent) → Ok start ≡ came_by place c → (start ≡ place) × (s : Sent) × (c ≡ done s)
unfolding came_by
fit_is start place (done s) e = let z : start ≡ place = cc in (z, s, refl)
fit_is start place (refused file n x) e = absurd (let y : ◌≡◌ {A = ℕ} 0 1 = cc in omega arith)

module _ (u : List ℕ) (start : ℕ) (two : first_two 2 InUpdate u ≡ done start) (recs : List Rec) (third : third_on u 3 start ≡ done recs) where
  fitting : Fitting u start
  unfolding first_two and_then
  fitting =
      let x = and_then_inv (carried 2 1 unread u 0) (λ p. carried 2 2 (general_record InUpdate) u p) start two in
      let a = carried_over 2 1 unread u 0 x.0 x.1 in
      let b = carried_over 2 2 (general_record InUpdate) u x.0 start x.2 in
      let h : 0 < length u = a.inside in
      let e = records_all u (λ (w : length u ≡ 0). omega arith) ∙ a.one_more ∙ ap (before _) b.one_more in
      let z : x.0 ≡ a.long = omega (arith, a.behind) in
      record {
        read = whole u ∙ rw (two, third);
        inside = two_inside u start two;
        later = sym (ap (λ (g : Got (List Field)). drop 2 g.items) e);
        rest = rest_of u start recs third;
        second = x.0;
        long = b.long;
        first_shape = a.shape;
        shape = b.shape;
        first_there = a.there ∙ ap (λ (m : ℕ). good m a.shape) (sym z);
        there = b.there;
        behind = b.behind;
        general = ap (λ (g : Got (List Field)). get_or g.items 1 []) e;
        passed = b.passed;
      }

pub came_fit : (u : List ℕ) (start : ℕ) → Ok start ≡ came_by (behind_two u) (read_update u) → Fitting u start
unfolding behind_two
came_fit u start e =
    let f = fit_is start (behind_two u) (read_update u) e in
    let a = and_then_inv (and_then (first_two 2 InUpdate u) (third_on u 3)) (λ _. done (sent_as (records_of u).items)) f.1 (sym (whole u) ∙ f.2) in
    let b = and_then_inv (first_two 2 InUpdate u) (third_on u 3) a.0 a.1 in
    let z : b.0 ≡ start = sym (f.0 ∙ ap place_in b.1) in
    fitting u start (b.1 ∙ ap done z) a.0 (rw z at b.2)

-- ---- a loop over the records after the second

module _ (u : List ℕ) (p : ℕ) (s : Rest u p) (l : p < length u) (q : Result Head Broken) (eq : q ≡ record_at u p) where
  -- the skeleton refuses none
  pub rest_good : (b : Broken) → q ≡ Err b → ⊥
  rest_good b x =
      let z = number_some b in
      let e : number_of b ≡ 0 = rw (records_refused u p l q eq b x) at s.ended in
      omega arith

  module _ (d : Head) (x : q ≡ Ok d) where
    -- this one is right on its own
    pub rest_here : Single (fields_at (between u p (p + d.len)) d.shape 24)
    unfolding Each
    rest_here = let z = rw (records_more u p l q eq d x) at s.singles in z.0

    -- and so are those behind it
    pub rest_more : Rest u (p + d.len)
    unfolding Each
    rest_more = record {
      ended = rw (records_more u p l q eq d x) at s.ended;
      singles = let z = rw (records_more u p l q eq d x) at s.singles in z.1;
    }

pub ruleset rest_ways = (rest_good, rest_here, rest_more)
