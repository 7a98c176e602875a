-- What a test gives: a value, or a refusal.
use Rattle.std.specs.Prelude.{ℕ}
use Rattle.base.specs.declared.Fault.{Fault}

-- a value, or a fault that everything between its maker and the answer passes on unopened
pub data Check {ℓ} (A : Type ℓ) : Type ℓ where
  ok : A → Check A
  no : Fault → Check A

-- one test after the other: the first refusal decides
unfoldable pub bind {ℓ κ} : {A : Type ℓ} {B : Type κ} → Check A → (A → Check B) → Check B
bind (ok a) k = k a
bind (no f) k = no f

-- a refusal's number, field and tuple
abbrev pub fault : ℕ → ℕ → ℕ → Fault
fault n f t = record { number = n; field = f; tuple = t }

-- a refusal at a tuple of a field that is still to be named
abbrev pub refuse {ℓ} : {A : Type ℓ} → ℕ → ℕ → Check A
refuse n t = no (fault n 0 t)

-- the same, in field i
unfoldable pub in_field {ℓ} : {A : Type ℓ} → ℕ → Check A → Check A
in_field i (ok a) = ok a
in_field i (no f) = no (fault f.number i f.tuple)

-- a test that says no more than that it passed
abbrev pub Passed : Type 0
Passed = Check (Unit {0})

-- it passed
abbrev pub pass : Passed
pass = ok tt

-- a test of which only the refusal matters
unfoldable pub passed : {A : Type 0} → Check A → Passed
passed c = bind c (λ _. pass)
