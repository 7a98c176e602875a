-- What a choice by a test says. Assumes nothing.
use mathlib.Core.Path.{◌≡◌, refl, sym}
use mathlib.Core.Bool.{Bool, true, false, true≢false}
use Prim.Native.Nat.{ℕ, ◌≤◌, ◌<◌}
use native.Mathlib.Omega.{arith}
use borrow.Author.Tests.{lt-ltb, le-ltb, ltb-true, ltb-false}
use lib.Dec.{ltb}
use Rattle.base.specs.Choice.{pick, both, either, larger_of}

-- what holds of both arms of a test holds of the choice
pub by_test : {A : Type 0} (P : A → Type 0) (b : Bool) (x y : A) → (b ≡ true → P x) → (b ≡ false → P y) → P (pick b x y)
by_test P true x y f g = f refl
by_test P false x y f g = g refl

-- two tests hold, so each of them holds
pub both_hold : (a b : Bool) → both a b ≡ true → (a ≡ true) × (b ≡ true)
both_hold true b e = (refl, e)
both_hold false b e = (e, absurd (true≢false (sym e)))

-- two tests that hold
pub both_too : {a b : Bool} → a ≡ true → b ≡ true → both a b ≡ true
both_too p q = rw p q

-- a test, and one that holds
pub both_true : (b : Bool) → both b true ≡ b
both_true true = refl
both_true false = refl

-- a test, and one that does not hold
pub both_false : (b : Bool) → both b false ≡ false
both_false true = refl
both_false false = refl

-- a test, or one that does not hold
pub either_false : (b : Bool) → either b false ≡ b
either_false true = refl
either_false false = refl

-- a test, or one that holds
pub either_true : (b : Bool) → either b true ≡ true
either_true true = refl
either_true false = refl

-- neither of two tests holds
pub neither : (a b : Bool) → either a b ≡ false → (a ≡ false) × (b ≡ false)
neither true b e = absurd (let z : ◌≡◌ {A = ℕ} 0 1 = cc in omega arith)
neither false b e = (refl, e)

-- which of two numbers is the larger
pub larger_second : (a b : ℕ) → a < b → b ≡ larger_of a b
larger_second a b h = simp (lt-ltb a b h)

pub larger_first : (a b : ℕ) → b ≤ a → a ≡ larger_of a b
larger_first a b h = simp (le-ltb a b h)

-- it is not below either
pub larger_left : (a b : ℕ) → a ≤ larger_of a b
larger_left a b = by_test (λ n. a ≤ n) (ltb a b) b a (λ e. omega (arith, ltb-true a b e)) (λ e. omega arith)

pub larger_right : (a b : ℕ) → b ≤ larger_of a b
larger_right a b = by_test (λ n. b ≤ n) (ltb a b) b a (λ e. omega arith) (λ e. omega (arith, ltb-false a b e))
