-- What a check that passes went through, and what a refusal is. Assumes nothing.
use mathlib.Core.Path.{◌≡◌, refl}
use mathlib.Core.Bool.{Bool, true, false}
use Prim.Native.Nat.{ℕ, zero, suc}
use native.Mathlib.Omega.{arith}
use Rattle.base.specs.Choice.{pick}
use Rattle.base.specs.Check.{Check, Passed, ok, no, bind, fault, in_field, pass, passed}
use Rattle.base.specs.declared.Fault.{Fault}
use Rattle.base.specs.Verdict.{result_of, verdict_of, first_fault}
use Rattle.std.specs.Prelude.{Ok, Err}

-- a refusal is no value
pub refused : {A X : Type 0} {x : Fault} {a : A} → no x ≡ ok a → X
refused e = absurd (let z : ◌≡◌ {A = ℕ} 0 1 = cc in omega arith)

-- a value is no refusal
pub ok_no : {A X : Type 0} {a : A} {f : Fault} → ok a ≡ no f → X
ok_no e = absurd (let z : ◌≡◌ {A = ℕ} 0 1 = cc in omega arith)

-- two tests that pass: the first gave a value, and the second passed on it
pub bind_inv : {A B : Type 0} (m : Check A) (k : A → Check B) (b : B) → bind m k ≡ ok b → (a : A) × (m ≡ ok a) × (k a ≡ ok b)
unfolding bind
bind_inv (ok a) k b e = (a, refl, e)
bind_inv (no x) k b e = refused e

-- a test that passed in a field passed
pub field_inv : {A : Type 0} (i : ℕ) (c : Check A) (a : A) → in_field i c ≡ ok a → c ≡ ok a
unfolding in_field
field_inv i (ok b) a e = e
field_inv i (no x) a e = refused e

-- a test that passed held
pub pass_inv : (b : Bool) (n i j : ℕ) (u : Unit {0}) → pick b pass (no (fault n i j)) ≡ ok u → b ≡ true
pass_inv true n i j u e = refl
pass_inv false n i j u e = refused e

-- two values that pass alike are equal
pub ok_inj : {A : Type 0} (x y : A) → ok x ≡ ok y → x ≡ y
ok_inj x y h = cc

-- a test that passed gave a value
pub passed_inv : {A : Type 0} (c : Check A) → passed c ≡ pass → (a : A) × (c ≡ ok a)
unfolding passed
passed_inv c e = let r = bind_inv c (λ _. pass) tt e in (r.0, r.1)

-- a test whose verdict is that all is well has passed
pub passed_is : (c : Passed) → Ok tt ≡ verdict_of c → c ≡ pass
unfolding verdict_of
passed_is (ok tt) e = refl
passed_is (no x) e = absurd (let y : ◌≡◌ {A = ℕ} 0 1 = cc in omega arith)

-- the fault that a verdict tells of
pub refused_is : {A : Type 0} (c : Check A) (f : Fault) → Err f ≡ verdict_of c → c ≡ no f
unfolding verdict_of
refused_is (ok u) f e = absurd (let y : ◌≡◌ {A = ℕ} 0 1 = cc in omega arith)
refused_is (no x) f e = cc

-- the value, and the fault, that a test's result tells of
pub value_is : {A : Type 0} (c : Check A) (a : A) → Ok a ≡ result_of c → c ≡ ok a
unfolding result_of
value_is (ok b) a e = cc
value_is (no x) a e = absurd (let y : ◌≡◌ {A = ℕ} 0 1 = cc in omega arith)

pub fault_is : {A : Type 0} (c : Check A) (f : Fault) → Err f ≡ result_of c → c ≡ no f
unfolding result_of
fault_is (ok b) f e = absurd (let y : ◌≡◌ {A = ℕ} 0 1 = cc in omega arith)
fault_is (no x) f e = cc

-- a number that is not 0 tells of a fault
pub faulty_first : (n : ℕ) → (n ≡ 0 → ⊥) → Err n ≡ first_fault n
faulty_first zero z = absurd (z refl)
faulty_first (suc n) z = refl

-- the number of which an answer tells that nothing is faulty, and that of which it tells a fault
pub first_none : (n : ℕ) (u : Unit {0}) → Ok u ≡ first_fault n → n ≡ 0
first_none zero u e = refl
first_none (suc n) u e = absurd (let y : ◌≡◌ {A = ℕ} 0 1 = cc in omega arith)

pub first_is : (n k : ℕ) → Err k ≡ first_fault n → k ≡ n
first_is zero k e = absurd (let y : ◌≡◌ {A = ℕ} 0 1 = cc in omega arith)
first_is (suc n) k e = cc

pub first_some : (n k : ℕ) → Err k ≡ first_fault n → k ≡ 0 → ⊥
first_some zero k e z = absurd (let y : ◌≡◌ {A = ℕ} 0 1 = cc in omega arith)
first_some (suc n) k e z = let y : k ≡ suc n = cc in omega arith
