-- Laws of an answer's numbers, and of two and three numbers, in a slice. Assumes nothing.
use Prim.Native.Nat.{ℕ, ◌≤◌, ◌<◌}
use mathlib.Core.Path.{◌≡◌}
use mathlib.Core.List.{List, [], ◌∷◌}
use native.Mathlib.Omega.{arith}
use borrow.Author.Tests.{lt-ltb, le-ltb}
use lib.ListN.{length, set}
use Rattle.rules.specs.declared.Answer.{Answer}
use Rattle.console.specs.Numbered.{numbered, two_of, three_of}

-- a slice that is too short
pub numbers_left : (a : Answer) (s : List ℕ) → length s < 5 → s ≡ numbered a s
unfolding numbered
numbers_left a s h = rw (lt-ltb (length s) 5 h)

-- five stores
pub numbers_put : (a : Answer) (s : List ℕ) → 5 ≤ length s
    → set (set (set (set (set s 0 a.number) 1 a.file) 2 a.rec) 3 a.length) 4 a.count ≡ numbered a s
unfolding numbered
numbers_put a [] h = absurd (omega arith)
numbers_put a (u ∷ []) h = absurd (omega arith)
numbers_put a (u ∷ v ∷ []) h = absurd (omega arith)
numbers_put a (u ∷ v ∷ w ∷ []) h = absurd (omega arith)
numbers_put a (u ∷ v ∷ w ∷ x ∷ []) h = absurd (omega arith)
numbers_put a (u ∷ v ∷ w ∷ x ∷ y ∷ s) h = rw (le-ltb (length (u ∷ v ∷ w ∷ x ∷ y ∷ s)) 5 h)

-- a slice that is too short for two
pub two_left : (a b : ℕ) (l : List ℕ) → length l < 2 → l ≡ two_of a b l
unfolding two_of
two_left a b l h = rw (lt-ltb (length l) 2 h)

-- two stores
pub two_put : (a b : ℕ) (l : List ℕ) → 2 ≤ length l → set (set l 0 a) 1 b ≡ two_of a b l
unfolding two_of
two_put a b [] h = absurd (omega arith)
two_put a b (u ∷ []) h = absurd (omega arith)
two_put a b (u ∷ v ∷ l) h = rw (le-ltb (length (u ∷ v ∷ l)) 2 h)

-- a slice that is too short for three
pub three_left : (t s e : ℕ) (l : List ℕ) → length l < 3 → l ≡ three_of t s e l
unfolding three_of
three_left t s e l h = rw (lt-ltb (length l) 3 h)

-- three stores
pub three_put : (t s e : ℕ) (l : List ℕ) → 3 ≤ length l → set (set (set l 0 t) 1 s) 2 e ≡ three_of t s e l
unfolding three_of
three_put t s e [] h = absurd (omega arith)
three_put t s e (u ∷ []) h = absurd (omega arith)
three_put t s e (u ∷ v ∷ []) h = absurd (omega arith)
three_put t s e (u ∷ v ∷ w ∷ l) h = rw (le-ltb (length (u ∷ v ∷ w ∷ l)) 3 h)

pub ruleset numbers_ways = (numbers_left, numbers_put)
