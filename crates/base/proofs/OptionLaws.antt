-- What is found, or nothing. Assumes nothing.
use Prim.Native.Nat.{ℕ}
use mathlib.Core.Path.{◌≡◌}
use mathlib.Core.Option.{some, none}
use native.Mathlib.Omega.{arith}

-- something is not nothing
pub never : {A X : Type 0} {a : A} → some a ≡ none → X
never e = absurd (let z : ◌≡◌ {A = ℕ} 0 1 = cc in omega arith)

-- two that are found alike are equal
pub some_inj : {A : Type 0} {a b : A} → some a ≡ some b → a ≡ b
some_inj e = cc
