-- Laws of one record of a file. Assumes nothing.
use mathlib.Core.Path.{◌≡◌, refl, sym}
use mathlib.Core.List.{List}
use mathlib.Core.Bool.{Bool, true, false}
use Prim.Native.Nat.{ℕ, ◌+◌, ◌-◌, ◌^◌, ◌≤◌, ◌<◌}
use native.Mathlib.Omega.{arith}
use borrow.Author.Tests.{lt-ltb, le-ltb, leb-false, eqb-true}
use lib.ListN.{length, take, drop, length-take, length-drop}
use lib.Seq.{take_all, length-take-le}
use lib.Dec.{leb, eqb}
use Rattle.base.proofs.ChoiceLaws.{by_test}
use Rattle.skeleton.specs.Leader.{stated_of, leader_of}
use Rattle.skeleton.specs.Directory.{entry_at, fields_of, directed}
use Rattle.skeleton.specs.Place.{between}
use Rattle.skeleton.specs.Record.{found_right, with_directory, record_at, stated_at}
use Rattle.skeleton.specs.Shape.{Bounded}
use Rattle.skeleton.specs.declared.leader.Head.{Head}
use Rattle.skeleton.specs.declared.leader.Broken.{Broken}
use Rattle.skeleton.specs.declared.leader.Broken.TheVariants.{Cut}
use Rattle.std.specs.Prelude.{Result, Ok, Err}
use Rattle.skeleton.proofs.LeaderLaws.{Fitting, leader_fitting, Stated, leader_stated}
use Rattle.skeleton.proofs.DirectoryLaws.{dir_bad}

-- what is left of a file from at on, as the part of a slice has it
abbrev pub rest : List ℕ → ℕ → List ℕ
rest f at = take (length f - at) (drop at f)

pub rest_is : (f : List ℕ) (at : ℕ) → rest f at ≡ drop at f
rest_is f at = take_all (length f - at) (drop at f) (omega (arith, length-drop at f))

-- ---- `record_at` and `stated_at`

-- what `record_at` returns, by what the leader and the directory say
module _ (f : List ℕ) (at : ℕ) (h : Result Head Broken) (eh : h ≡ leader_of (rest f at) (eqb at 0)) where
  at_rest : h ≡ leader_of (drop at f) (eqb at 0)
  at_rest = rw (rest_is f at) at eh

  pub record_refused : (x : Broken) → h ≡ Err x → Err x ≡ record_at f at
  unfolding record_at
  record_refused x e = simp (← at_rest, e)

  module _ (d : Head) (x : h ≡ Ok d) where
    fitting : (d.len ≤ length (rest f at)) × (d.shape.base < 10 ^ 9) × (d.shape.a ≤ 9) × (d.shape.b ≤ 9)
    fitting = let g : Fitting (rest f at) h = rw eh (leader_fitting (rest f at) (eqb at 0)) in rw x at g

    pub record_cut : d.len ≡ length (take d.len (rest f at))
    record_cut = sym (length-take-le d.len (rest f at) fitting.0)

    pub record_shape : Bounded d.shape
    record_shape = let g = fitting in record { base_small = g.1; a_small = g.2; b_small = g.3 }

    module _ (r : Result (Unit {0}) Broken) (er : r ≡ directed (fields_of (take d.len (rest f at)) d.shape.base d.shape.a d.shape.b).ending) where
      judged : r ≡ directed (fields_of (take d.len (drop at f)) d.shape.base d.shape.a d.shape.b).ending
      judged = rw (rest_is f at) at er

      pub record_good : (u : Unit {0}) → r ≡ Ok u → Ok d ≡ record_at f at
      unfolding record_at
      record_good u z = simp (← at_rest, x, ← judged, z)

      pub record_bad : (y : Broken) → r ≡ Err y → Err y ≡ record_at f at
      unfolding record_at
      record_bad y z = simp (← at_rest, x, ← judged, z)

pub ruleset record_ways = (record_cut, record_shape, record_refused, record_good, record_bad)

-- what `stated_at` returns
module _ (f : List ℕ) (at : ℕ) where
  pub stated_short : length f - at < 24 → Err Cut ≡ stated_at f at
  unfolding stated_at
  stated_short h = simp (lt-ltb _ _ h)

  module _ (h : 24 ≤ length f - at) where
    pub stated_room : 24 ≤ length (rest f at)
    stated_room = rw (rest_is f at) (omega (arith, length-drop at f))

    pub stated_there : (r : Result Head Broken) → r ≡ stated_of (rest f at) → r ≡ stated_at f at
    unfolding stated_at
    stated_there r x = simp (le-ltb _ _ h) (rw (rest_is f at) at x)

pub ruleset stated_at_ways = (stated_short, stated_room, stated_there)

-- ---- what holds of a record that is right

-- it is more than a leader, lies in the file, its directory is right, and its numbers alone say what its leader says
pub record Right (f : List ℕ) (at : ℕ) (d : Head) : Type 0 where
  pub long : 24 < d.len
  pub inside : at + d.len ≤ length f
  pub bounded : Bounded d.shape
  pub walked : (fields_of (between f at (at + d.len)) d.shape.base d.shape.a d.shape.b).ending ≡ 0
  pub again : stated_at f at ≡ Ok d

-- a record is right, or refused
abbrev RightAt : List ℕ → ℕ → Result Head Broken → Type 0
RightAt f at (Ok d) = Right f at d
RightAt f at (Err x) = Unit {0}

-- a record whose directory is right has more than a leader
fields_long : (r : List ℕ) (base a b : ℕ) → (fields_of r base a b).ending ≡ 0 → 24 < length r
unfolding entry_at
fields_long r base a b z = go (leb (length r) 24) refl
  where
    go : (t : Bool) → leb (length r) 24 ≡ t → 24 < length r
    go true e = absurd (omega (arith, dir_bad r base a b 24 0 0 z _ refl (simp e)))
    go false e = leb-false (length r) 24 e

-- a record as the part of its file
pub cut_is : (f : List ℕ) (at len : ℕ) → between f at (at + len) ≡ take len (drop at f)
cut_is f at len = let e : at + len - at ≡ len = omega arith in rw e refl

-- what a leader says of a record, where the directory is right
right_of : (f : List ℕ) (at : ℕ) (h : Result Head Broken) → Fitting (drop at f) h → Stated (drop at f) h → RightAt f at (with_directory (drop at f) h)
unfolding stated_at
right_of f at (Ok d) h s =
    by_test (λ r. RightAt f at (found_right d r)) (eqb (fields_of (take d.len (drop at f)) d.shape.base d.shape.a d.shape.b).ending 0) _ _
    (λ e.
    let z : (fields_of (take d.len (drop at f)) d.shape.base d.shape.a d.shape.b).ending ≡ 0 = eqb-true _ 0 e in
    let l = fields_long (take d.len (drop at f)) d.shape.base d.shape.a d.shape.b z in
    let m = length-drop at f in
    let k = length-take d.len (drop at f) in
    record {
      long = omega arith;
      inside = omega arith;
      bounded = record { base_small = h.1; a_small = h.2; b_small = h.3 };
      walked = rw (cut_is f at d.len) z;
      again = simp (le-ltb (length f - at) 24 (omega arith)) s.1;
    })
    (λ _. tt)
right_of f at (Err x) h s = tt

record_right : (f : List ℕ) (at : ℕ) → RightAt f at (record_at f at)
unfolding record_at
record_right f at =
    let s = drop at f in
    right_of f at (leader_of s (eqb at 0)) (leader_fitting s (eqb at 0)) (leader_stated s (eqb at 0))

-- by the record h that was read at at
module _ (f : List ℕ) (at : ℕ) (h : Result Head Broken) (eh : h ≡ record_at f at) where
  right_at : RightAt f at h
  right_at = rw eh (record_right f at)

  module _ (d : Head) (x : h ≡ Ok d) where
    pub right : Right f at d
    right = rw x at right_at

    pub record_in_lem : at + d.len ≤ length f
    record_in_lem = right.inside

    pub record_falls : length f - (at + d.len) < length f - at
    record_falls = let k = right in omega arith

    pub record_word : length f < 2 ^ 64 → at + d.len < 2 ^ 64
    record_word w = let k = right in omega arith

    pub record_bounded : Bounded d.shape
    record_bounded = right.bounded

-- what a caller's loop over records wants besides the laws of its own definition
pub ruleset record_bounds = (record_in_lem, record_falls, record_word, record_bounded)
