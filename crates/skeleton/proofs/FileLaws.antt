-- Laws of the walk over the records of a file. Assumes nothing.
use mathlib.Core.Path.{◌≡◌, refl, ap, ◌∙◌}
use mathlib.Core.List.{List, []}
use mathlib.Core.Bool.{Bool, true, false}
use Prim.Native.Nat.{ℕ, ◌+◌, ◌-◌, ◌≤◌, ◌<◌}
use borrow.Author.Tests.{lt-ltb, le-ltb, eq-eqb, ne_eqb, eqb-false}
use lib.ListN.{length, take, drop}
use lib.Dec.{ltb, eqb}
use Rattle.base.specs.Lists.{each}
use Rattle.base.specs.Walk.{Step, more, over, before, follow, Lower}
use Rattle.base.proofs.ChoiceLaws.{by_test}
use Rattle.base.proofs.WalkLaws.{walk_step}
use Rattle.skeleton.specs.Leader.{number_of, leader_of}
use Rattle.skeleton.specs.Directory.{fields_of}
use Rattle.skeleton.specs.File.{Field, cut_out, step_head, file_step, records_from, records_of}
use Rattle.skeleton.specs.Place.{between, fields_at}
use Rattle.skeleton.specs.Record.{with_directory, record_at}
use Rattle.skeleton.specs.declared.leader.Head.{Head}
use Rattle.skeleton.specs.declared.leader.Broken.{Broken}
use Rattle.std.specs.Prelude.{Result, Ok, Err}
use Rattle.skeleton.proofs.DirectoryLaws.{directory_ends}
use Rattle.skeleton.proofs.PlaceLaws.{fields_same}
use Rattle.skeleton.proofs.RecordLaws.{right, record_falls, cut_is}

-- ---- one step

-- a step over a file whose next record is h
abbrev step_record : ℕ → List ℕ → Result Head Broken → Step ℕ (List Field)
step_record at s (Ok d) = more (each (cut_out (take d.len s)) (fields_of (take d.len s) d.shape.base d.shape.a d.shape.b).items) (at + d.len)
step_record at s (Err x) = over (number_of x)

-- the definition takes the leader and the directory in one step
step_of : (at : ℕ) (s : List ℕ) (l : Result Head Broken) → step_head at s l ≡ step_record at s (with_directory s l)
step_of at s (Ok d) = go (eqb (fields_of (take d.len s) d.shape.base d.shape.a d.shape.b).ending 0) refl
  where
    go : (t : Bool) → eqb (fields_of (take d.len s) d.shape.base d.shape.a d.shape.b).ending 0 ≡ t
        → step_head at s (Ok d) ≡ step_record at s (with_directory s (Ok d))
    go true e = simp e
    go false e = simp (e, directory_ends (take d.len s) d.shape.base d.shape.a d.shape.b 24 0 (eqb-false _ 0 e))
step_of at s (Err x) = refl

-- at a place before the file's end
step_is : (f : List ℕ) (at : ℕ) → at < length f → file_step f at ≡ step_record at (drop at f) (record_at f at)
unfolding record_at
step_is f at l = simp (lt-ltb at (length f) l) (step_of at (drop at f) (leader_of (drop at f) (eqb at 0)))

-- a step leads further on
lower_of : (f : List ℕ) (at : ℕ) (h : Result Head Broken) → h ≡ record_at f at → Lower (λ (q : ℕ). length f - q) at (step_record at (drop at f) h)
lower_of f at (Ok d) e = record_falls f at _ e d refl
lower_of f at (Err x) e = tt

pub file_falls : (f : List ℕ) (at : ℕ) → Lower (λ (q : ℕ). length f - q) at (file_step f at)
unfolding record_at
file_falls f at =
    by_test (Lower (λ (q : ℕ). length f - q) at) (ltb at (length f)) _ _
    (λ e. rw step_of (lower_of f at (record_at f at) refl))
    (λ _. tt)

-- a walk is its first step, and then the walk from there
pub records_step : (f : List ℕ) (at : ℕ) → records_from f at ≡ follow (file_step f at) (records_from f)
unfolding records_from
records_step f at = walk_step (file_step f) (λ q. length f - q) (file_falls f) at

-- at its end a file has no more records
pub records_over : (f : List ℕ) (at : ℕ) → length f ≤ at → records_from f at ≡ record { items = []; ending = 0 }
records_over f at h = records_step f at ∙ simp (le-ltb at (length f) h)

-- by the record h that was read at at
module _ (f : List ℕ) (at : ℕ) (l : at < length f) (h : Result Head Broken) (eh : h ≡ record_at f at) where
  by_record : records_from f at ≡ follow (step_record at (drop at f) h) (records_from f)
  by_record = records_step f at ∙ rw eh (ap (λ (x : Step ℕ (List Field)). follow x (records_from f)) (step_is f at l))

  -- the walk ends with its refusal
  pub records_refused : (x : Broken) → h ≡ Err x → records_from f at ≡ record { items = []; ending = number_of x }
  records_refused x e = by_record ∙ simp e

  -- its fields, and then the records from its end on
  pub records_more : (d : Head) → h ≡ Ok d
      → records_from f at ≡ before (fields_at (between f at (at + d.len)) d.shape 24) (records_from f (at + d.len))
  records_more d x =
      let k = right f at h eh d x in
      let e = fields_same (between f at (at + d.len)) d.shape k.walked in
      rw e (rw cut_is (by_record ∙ simp x))

-- ---- the whole file

-- a file of no bytes is 1
pub records_none : (f : List ℕ) → length f ≡ 0 → records_of f ≡ record { items = []; ending = 1 }
unfolding records_of
records_none f e = simp (eq-eqb (length f) 0 e)

-- any other is walked from its first byte on
pub records_all : (f : List ℕ) → (length f ≡ 0 → ⊥) → records_of f ≡ records_from f 0
unfolding records_of
records_all f e = simp (ne_eqb (length f) 0 e)
