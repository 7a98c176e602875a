-- Tests, and what ends with a result or a refusal, by cases. Assumes nothing.
use Prim.Native.Nat.{ℕ}
use mathlib.Core.Path.{◌≡◌, refl}
use mathlib.Core.Bool.{Bool, true, false}
use native.Mathlib.Omega.{arith}
use Rattle.base.specs.Choice.{both}
use Rattle.base.specs.Check.{Check, ok, no, bind}
use Rattle.base.specs.declared.Fault.{Fault}
use Rattle.sequence.specs.Keyed.{Ran, done, stop, go_on}

-- by cases of a test
pub by_bool : {X : Type 0} (b : Bool) → (b ≡ true → X) → (b ≡ false → X) → X
by_bool true f g = f refl
by_bool false f g = g refl

-- a test and one that fails
pub both_no : (a b : Bool) → b ≡ false → both a b ≡ false
both_no true b e = e
both_no false b e = refl

-- a run that stopped is not done
pub stopped : {A X : Type 0} {j : ℕ} {x : Fault} {a : A} → stop j x ≡ done a → X
stopped e = absurd (let z : ◌≡◌ {A = ℕ} 0 1 = cc in omega arith)

-- two results that are done alike are equal
pub done_inj : {A : Type 0} {a b : A} → done a ≡ done b → a ≡ b
done_inj e = cc

-- a run that is done: the test gave a value, and the rest was done with it
pub go_on_done : {A B : Type 0} (j : ℕ) (c : Check A) (k : A → Ran B) (b : B) → go_on j c k ≡ done b → (a : A) × (c ≡ ok a) × (k a ≡ done b)
unfolding go_on
go_on_done j (ok a) k b e = (a, refl, e)
go_on_done j (no x) k b e = stopped e

-- one test after two, grouped either way
pub bind_on : {A B C : Type 0} (c : Check A) (k : A → Check B) (m : B → Check C) (l : A → Check C) → ((a : A) → l a ≡ bind (k a) m) → bind c l ≡ bind (bind c k) m
unfolding bind
bind_on (ok a) k m l e = e a
bind_on (no x) k m l e = refl

-- a test and then nothing more
pub bind_unit : {A : Type 0} (c : Check A) → bind c (λ p. ok p) ≡ c
unfolding bind
bind_unit (ok a) = refl
bind_unit (no x) = refl
