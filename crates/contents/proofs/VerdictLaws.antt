-- What an answer says of the test that it answers. Assumes nothing.
use mathlib.Core.Path.{◌≡◌, refl, sym, ◌∙◌}
use Prim.Native.Nat.{ℕ}
use native.Mathlib.Omega.{arith}
use Rattle.std.specs.Prelude.{Result, Ok, Err}
use Rattle.base.specs.Check.{ok, no, bind, Passed, pass}
use Rattle.base.specs.Verdict.{verdict_of}
use Rattle.base.specs.declared.Fault.{Fault}

-- no test both passes and is refused
never {ℓ} : {X : Type ℓ} {f : Fault} → ◌≡◌ {A = Result (Unit {0}) Fault} (Ok tt) (Err f) → X
never e = absurd (let z : ◌≡◌ {A = ℕ} 0 1 = cc in omega arith)

-- a test that is answered so passed
pub says_pass : (c : Passed) → verdict_of c ≡ Ok tt → c ≡ pass
unfolding verdict_of
says_pass (ok tt) e = refl
says_pass (no x) e = never (sym e)

-- the same of the answer v that code gave
pub answered_pass : (c : Passed) (v : Result (Unit {0}) Fault) → v ≡ verdict_of c → v ≡ Ok tt → c ≡ pass
answered_pass c v e z = says_pass c (sym e ∙ z)

-- a refusal decides whatever test comes after
pub says_no : (c : Passed) (k : Unit {0} → Passed) (f : Fault) → verdict_of c ≡ Err f → Err f ≡ verdict_of (bind c k)
unfolding verdict_of bind
says_no (ok a) k f e = never e
says_no (no x) k f e = sym e
