-- Laws of a walk over the records of a file that was found right. Assumes nothing.
use mathlib.Core.Path.{◌≡◌, refl, ap}
use mathlib.Core.List.{List, ◌∷◌}
use mathlib.Core.Bool.{Bool, true, false}
use Prim.Native.Nat.{ℕ, ◌+◌, ◌-◌, ◌^◌, ◌≤◌, ◌<◌}
use native.Mathlib.Omega.{arith}
use borrow.Author.Tests.{lt-ltb, ltb-true, ltb-false}
use lib.ListN.{length, drop}
use lib.Dec.{ltb}
use Rattle.std.specs.Prelude.{Option, Some, None, Result, Ok, Err}
use Rattle.base.specs.Walk.{Got}
use Rattle.skeleton.specs.File.{Field, records_from}
use Rattle.skeleton.specs.Leader.{number_of}
use Rattle.skeleton.specs.Place.{between, fields_at}
use Rattle.skeleton.specs.Record.{record_at, stated_at}
use Rattle.skeleton.specs.declared.leader.Head.{Head}
use Rattle.skeleton.specs.declared.leader.Broken.{Broken}
use Rattle.skeleton.proofs.LeaderLaws.{number_some}
use Rattle.skeleton.proofs.RecordLaws.{right}
use Rattle.skeleton.proofs.FileLaws.{records_refused, records_more}
use Rattle.keys.specs.Listed.{key_of, keys_from, listed, has_from}
use Rattle.keys.specs.Look.{look_at, Sound}
use Rattle.keys.specs.declared.look.Look.{Look}
use Rattle.keys.proofs.ListLaws.{not_first, not_later}
use Rattle.keys.proofs.LookLaws.{keys_good, look_is, Found}

-- what a look finds is a record of the file, and those after it are right too
pub record Next (f : List ℕ) (p len key : ℕ) : Type 0 where
  pub found : Found f p len key
  pub sound : Sound f (p + len)

-- so it is with what a look has found
abbrev NextBy : List ℕ → ℕ → Option Look → Type 0
NextBy f p (Some look) = Next f p look.len look.key
NextBy f p None = ⊥

next_of : (f : List ℕ) (p : ℕ) → Sound f p → p < length f → (h : Result Head Broken) → h ≡ record_at f p → NextBy f p (look_at f p)
unfolding has_from
next_of f p s l (Ok d) eh =
    let fs = fields_at (between f p (p + d.len)) d.shape 24 in
    let w = right f p _ eh d refl in
    let g = keys_good f p l _ eh d refl in
    let k : listed 0 (key_of fs ∷ keys_from f (p + d.len)) ≡ false = rw g at s.keyed in
    let c : (records_from f (p + d.len)).ending ≡ 0 = rw (records_more f p l _ eh d refl) at s.clean in
    rw (look_is f p l _ eh d refl (not_first 0 (key_of fs) (keys_from f (p + d.len)) k))
    (record {
      found = record {
        keys = g;
        later = ap (λ (m : Got (List Field)). drop 1 m.items) (records_more f p l _ eh d refl);
        long = let x = w.long in omega arith;
        inside = w.inside;
      };
      sound = record { small = s.small; inside = w.inside; clean = c; keyed = not_later 0 (key_of fs) (keys_from f (p + d.len)) k };
    })
next_of f p s l (Err j) eh =
    let w = number_some j in
    let z : number_of j ≡ 0 = rw (records_refused f p l _ eh j refl) at s.clean in
    absurd (omega arith)

-- past the end there is nothing to find
look_past : (f : List ℕ) (p : ℕ) → length f ≤ p → look_at f p ≡ None
unfolding look_at stated_at
look_past f p h = simp (lt-ltb (length f - p) 24 (omega arith))

-- by the look e at p
module _ (f : List ℕ) (p : ℕ) (s : Sound f p) (e : Option Look) (en : e ≡ look_at f p) where
  next_there : p < length f → NextBy f p e
  next_there l = rw en (next_of f p s l (record_at f p) refl)

  pub sound_nothing : p < length f → e ≡ None → ⊥
  sound_nothing l x = rw x at (next_there l)

  -- so a walk that finds nothing has come to the end
  pub sound_over : e ≡ None → length f ≤ p
  sound_over x = go (ltb p (length f)) refl
    where
      go : (t : Bool) → ltb p (length f) ≡ t → length f ≤ p
      go true y = absurd (sound_nothing (ltb-true p (length f) y) x)
      go false y = ltb-false p (length f) y

  module _ (look : Look) (x : e ≡ Some look) where
    pub sound_next : Next f p look.len look.key
    sound_next = go (ltb p (length f)) refl
      where
        go : (t : Bool) → ltb p (length f) ≡ t → Next f p look.len look.key
        go true y = rw x at (next_there (ltb-true p (length f) y))
        go false y =
            let q = look_past f p (ltb-false p (length f) y) in
            let z : ◌≡◌ {A = ℕ} 0 1 = cc in absurd (omega arith)

    pub sound_more : Sound f (p + look.len)
    sound_more = sound_next.sound

    pub sound_word : p + look.len < 2 ^ 64
    sound_word = let n = sound_next.found.inside in let w = s.small in omega arith

    pub sound_falls : length f - (p + look.len) < length f - p
    sound_falls = let n = sound_next.found in omega arith

pub sound_in : (f : List ℕ) (p : ℕ) → Sound f p → p ≤ length f
sound_in f p s = s.inside

pub sound_small : (f : List ℕ) (p : ℕ) → Sound f p → length f ≤ 16777216
sound_small f p s = s.small

pub ruleset sound_bounds = (sound_more, sound_word, sound_falls, sound_in, sound_small, arith)
