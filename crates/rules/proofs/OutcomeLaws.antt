-- What an outcome that is done went through. Assumes nothing.
use mathlib.Core.Path.{◌≡◌, refl, ap}
use Prim.Native.Nat.{ℕ}
use native.Mathlib.Omega.{arith}
use Rattle.base.specs.Check.{Check, ok, no}
use Rattle.base.specs.declared.Fault.{Fault}
use Rattle.rules.specs.Outcome.{Outcome, done, refused, and_then, at}

-- a refusal is not done
pub refuses : {A X : Type 0} {file n : ℕ} {a : A} {x : Fault} → refused file n x ≡ done a → X
refuses e = absurd (let z : ◌≡◌ {A = ℕ} 0 1 = cc in omega arith)

-- three after another, grouped either way
pub and_then_assoc : {A B C : Type 0} (m : Outcome A) (k : A → Outcome B) (l : B → Outcome C)
    → and_then (and_then m k) l ≡ and_then m (λ a. and_then (k a) l)
unfolding and_then
and_then_assoc (done a) k l = refl
and_then_assoc (refused file n x) k l = refl

-- two that are done: the first gave a value, and the second was done with it
pub and_then_inv : {A B : Type 0} (m : Outcome A) (k : A → Outcome B) (b : B) → and_then m k ≡ done b → (a : A) × (m ≡ done a) × (k a ≡ done b)
unfolding and_then
and_then_inv (done a) k b e = (a, refl, e)
and_then_inv (refused f n x) k b e = refuses e

-- a test of a record that is done passed
pub at_inv : {A : Type 0} (file n : ℕ) (m : Check A) (a : A) → at file n m ≡ done a → m ≡ ok a
unfolding at
at_inv file n (ok b) a e = let z : b ≡ a = cc in ap ok z
at_inv file n (no x) a e = refuses e

-- two values that are done alike are equal
pub done_inj : {A : Type 0} (x y : A) → done x ≡ done y → x ≡ y
done_inj x y h = cc
