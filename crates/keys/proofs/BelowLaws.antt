-- Laws of a number below an end. Assumes nothing.
use mathlib.Core.Path.{◌≡◌, refl}
use mathlib.Core.Bool.{Bool, true, false}
use Prim.Native.Nat.{ℕ, ◌≤◌, ◌<◌}
use native.Mathlib.Omega.{arith}
use borrow.Author.Tests.{lt-ltb, le-ltb, ltb-true, ltb-false}
use lib.Dec.{ltb}
use Rattle.std.specs.Prelude.{Option, Some, None}
use Rattle.base.specs.Choice.{pick}
use Rattle.keys.specs.Below.{below}

module _ (end n : ℕ) where
  pub below_here : n < end → Some n ≡ below end n
  below_here h = rw (lt-ltb n end h) refl

  pub below_none : end ≤ n → None ≡ below end n
  below_none h = rw (le-ltb n end h) refl

  -- there is one: it is the number
  pub below_is : (r : Option ℕ) → r ≡ below end n → (p : ℕ) → r ≡ Some p → (p ≡ n) × (n < end)
  below_is r e p x = go (ltb n end) refl e
    where
      go : (b : Bool) → ltb n end ≡ b → r ≡ pick b (Some n) None → (p ≡ n) × (n < end)
      go true l y = (cc, ltb-true n end l)
      go false l y = absurd (let z : ◌≡◌ {A = ℕ} 0 1 = cc in omega arith)

  -- there is none
  pub below_past : (r : Option ℕ) → r ≡ below end n → r ≡ None → end ≤ n
  below_past r e x = go (ltb n end) refl e
    where
      go : (b : Bool) → ltb n end ≡ b → r ≡ pick b (Some n) None → end ≤ n
      go true l y = absurd (let z : ◌≡◌ {A = ℕ} 0 1 = cc in omega arith)
      go false l y = ltb-false n end l
