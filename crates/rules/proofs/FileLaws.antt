-- A file from the record at hand on: what a loop over its records needs. Assumes nothing.
use mathlib.Core.Path.{◌≡◌, refl, sym, ap, ap₂, ◌∙◌}
use mathlib.Core.List.{List, [], ◌∷◌, ◌++◌}
use mathlib.Core.Bool.{Bool, true, false}
use Prim.Native.Nat.{ℕ, suc, ◌+◌, ◌≤◌, ◌<◌}
use native.Mathlib.Omega.{arith}
use lib.ListN.{length}
use lib.Dec.{leb, eqb}
use borrow.Author.Tests.{ne_eqb, eqb-true, leb-false}
use Rattle.base.specs.Choice.{pick}
use Rattle.base.specs.Check.{Check, ok, bind, fault}
use Rattle.base.specs.Lists.{each, Each}
use Rattle.base.specs.Walk.{Got, before}
use Rattle.base.proofs.CheckLaws.{bind_inv, ok_inj}
use Rattle.skeleton.specs.File.{Field}
use Rattle.rules.specs.Record.{Rec, key_of, dataset_record}
use Rattle.rules.specs.Outcome.{Outcome, done, refused, and_then, at}
use Rattle.rules.specs.File.{last_rank, dataset_test, through, ending, taken}
use Rattle.rules.proofs.OutcomeLaws.{refuses, and_then_assoc, and_then_inv, at_inv, done_inj}

module _ (file least : ℕ) (new : List Rec) where
  -- records before those at hand change nothing in how a file ends
  ending_on : (n e : ℕ) (recs : List Rec) → ending file least n e (new ++ recs) ≡ and_then (ending file least n e recs) (λ later. done (new ++ later))
  unfolding ending and_then
  ending_on n e recs = go (eqb e 0) (leb n least)
    where
      go : (t s : Bool) → pick t (pick s (refused file n (fault 4 0 0)) (done (new ++ recs))) (refused file n (fault e 0 0))
          ≡ and_then (pick t (pick s (refused file n (fault 4 0 0)) (done recs)) (refused file n (fault e 0 0))) (λ later. done (new ++ later))
      go true true = refl
      go true false = refl
      go false s = refl

  -- the ending, and then those records in front
  swap : (n e : ℕ) (m : Outcome (List Rec))
      → and_then (and_then m (λ later. done (new ++ later))) (λ recs. ending file least n e recs)
      ≡ and_then (and_then m (λ recs. ending file least n e recs)) (λ later. done (new ++ later))
  unfolding and_then
  swap n e (done recs) = ending_on n e recs
  swap n e (refused f k x) = refl

module _ (test : ℕ → List Rec → List Field → Check (List Rec)) (file least : ℕ) where
  -- no more records: the file has ended, or the skeleton refuses
  pub taken_over : (n e : ℕ) (seen : List Rec) → taken test file least n seen (record { items = []; ending = e }) ≡ ending file least n e []
  unfolding taken through and_then
  taken_over n e seen = ap (λ k. ending file least k e []) (let z : n + 0 ≡ n = omega arith in z)

  -- one more: its test, and then the rest from there
  pub taken_more : (n : ℕ) (seen : List Rec) (fs : List Field) (g : Got (List Field))
      → taken test file least n seen (before fs g)
      ≡ and_then (at file n (test n seen fs)) (λ new. and_then (taken test file least (n + 1) (new ++ seen) g) (λ later. done (new ++ later)))
  unfolding taken through
  taken_more n seen fs g =
      let z : n + suc (length g.items) ≡ n + 1 + length g.items = omega arith in
      and_then_assoc (at file n (test n seen fs)) _ _
      ∙ (λ i. and_then (at file n (test n seen fs)) (λ new.
      (ap (λ k. and_then (and_then (through test file (n + 1) (new ++ seen) g.items) (λ later. done (new ++ later))) (λ recs. ending file least k g.ending recs)) z
      ∙ swap file least new (n + 1 + length g.items) g.ending (through test file (n + 1) (new ++ seen) g.items)) i))

-- from the fourth record of a dataset on, each is tested for all of them
pub test_later : (n : ℕ) (seen : List Rec) (fs : List Field) → 4 ≤ n
    → dataset_test n seen fs ≡ bind (dataset_record (last_rank seen) (each key_of seen) fs) (λ r. ok (r ∷ []))
unfolding dataset_test
test_later n seen fs h =
    simp (ne_eqb n 1 (λ e. omega arith), ne_eqb n 2 (λ e. omega arith), ne_eqb n 3 (λ e. omega arith))

-- the first of some records from the fourth on passed, and the others did after it
pub record Later (fs : List Field) (items : List (List Field)) (n : ℕ) (seen recs : List Rec) : Type 0 where
  pub made : Rec
  pub others : List Rec
  pub passes : dataset_record (last_rank seen) (each key_of seen) fs ≡ ok made
  pub onward : through dataset_test 1 (n + 1) (made ∷ seen) items ≡ done others
  pub all : made ∷ others ≡ recs

pub through_later : (fs : List Field) (items : List (List Field)) (n : ℕ) (seen recs : List Rec) → 4 ≤ n
    → through dataset_test 1 n seen (fs ∷ items) ≡ done recs → Later fs items n seen recs
unfolding through
through_later fs items n seen recs h e =
    let p = and_then_inv (at 1 n (dataset_test n seen fs)) _ recs e in
    let q = at_inv 1 n (dataset_test n seen fs) p.0 p.1 in
    let r = bind_inv (dataset_record (last_rank seen) (each key_of seen) fs) (λ r. ok (r ∷ [])) p.0 (sym (test_later n seen fs h) ∙ q) in
    let new : r.0 ∷ [] ≡ p.0 = ok_inj (r.0 ∷ []) p.0 r.2 in
    let s = and_then_inv (through dataset_test 1 (n + 1) (p.0 ++ seen) items) (λ later. done (p.0 ++ later)) recs p.2 in
    record {
      made = r.0;
      others = s.0;
      passes = r.1;
      onward = ap (λ (l : List Rec). through dataset_test 1 (n + 1) (l ++ seen) items) new ∙ s.1;
      all = ap (λ (l : List Rec). l ++ s.0) new ∙ done_inj (p.0 ++ s.0) recs s.2;
    }

-- a file that ended well, with enough records
pub ending_inv : {A : Type 0} (file least n e : ℕ) (a b : A) → ending file least n e a ≡ done b → (e ≡ 0) × (least < n) × (a ≡ b)
unfolding ending
ending_inv file least n e a b x = go (eqb e 0) refl (leb n least) refl x
  where
    go : (t : Bool) → eqb e 0 ≡ t → (s : Bool) → leb n least ≡ s → pick t (pick s (refused file n (fault 4 0 0)) (done a)) (refused file n (fault e 0 0)) ≡ done b
        → (e ≡ 0) × (least < n) × (a ≡ b)
    go true y false z h = (eqb-true e 0 y, leb-false n least z, done_inj a b h)
    go true y true z h = refuses h
    go false y s z h = refuses h

-- the records of a dataset from the fourth on: the skeleton refuses none, and they went through
pub taken_inv : (g : Got (List Field)) (recs : List Rec) → taken dataset_test 1 3 4 [] g ≡ done recs
    → (g.ending ≡ 0) × (through dataset_test 1 4 [] g.items ≡ done recs)
unfolding taken
taken_inv g recs e =
    let a = and_then_inv (through dataset_test 1 4 [] g.items) _ recs e in
    let c = ending_inv 1 3 (4 + length g.items) g.ending a.0 recs a.2 in
    (c.0, a.1 ∙ ap done c.2)

-- what each record has that passes, each of those has that went through; and they are what g makes of their fields
module _ (P : List Field → Type 0) (g : List Field → Rec)
    (one : (least : ℕ) (earlier : List (List ℕ)) (fs : List Field) (r : Rec) → dataset_record least earlier fs ≡ ok r → P fs × (r ≡ g fs)) where
  pub through_each : (items : List (List Field)) (n : ℕ) (seen recs : List Rec) → 4 ≤ n → through dataset_test 1 n seen items ≡ done recs
      → Each P items × (recs ≡ each g items)
  unfolding through each Each
  through_each [] n seen recs h e = (tt, sym (done_inj [] recs e))
  through_each (fs ∷ items) n seen recs h e =
      let l = through_later fs items n seen recs h e in
      let x = one (last_rank seen) (each key_of seen) fs l.made l.passes in
      let y = through_each items (n + 1) (l.made ∷ seen) l.others (omega arith) l.onward in
      ((x.0, y.0), sym l.all ∙ ap₂ (λ (a : Rec) (rs : List Rec). a ∷ rs) x.1 y.1)
