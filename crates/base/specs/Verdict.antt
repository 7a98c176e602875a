-- What code answers of a test.
use Rattle.std.specs.Prelude.{ℕ, zero, suc, Result, Ok, Err}
use Rattle.base.specs.Check.{Check, ok, no}
use Rattle.base.specs.declared.Fault.{Fault}
use Rattle.base.specs.declared.Refusal.{Refusal}

-- the value, or the fault
unfoldable pub result_of : {A : Type 0} → Check A → Result A Fault
result_of (ok a) = Ok a
result_of (no x) = Err x

-- that it passed, or the fault
unfoldable pub verdict_of : {A : Type 0} → Check A → Result (Unit {0}) Fault
verdict_of (ok a) = Ok tt
verdict_of (no x) = Err x

-- that nothing is faulty, for the number 0; else what has this number is the first that is
abbrev pub first_fault : ℕ → Result (Unit {0}) ℕ
first_fault zero = Ok tt
first_fault (suc n) = Err (suc n)

-- a fault in record n of a file
abbrev pub refusal : ℕ → Fault → Refusal
refusal n x = record { rec = n; fault = x }
