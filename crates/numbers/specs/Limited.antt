-- Tests and outcomes that refuse with no other numbers than these, and outcomes at the record that the number asks for.
use Rattle.std.specs.Prelude.{ℕ, ◌≡◌, true, List}
use Rattle.base.specs.Check.{Check, ok, no}
use Rattle.base.specs.declared.Fault.{Fault}
use Rattle.rules.specs.Outcome.{Outcome, done, refused}
use Rattle.numbers.specs.Refusals.{is_in, right_record}

-- a test
pub data LimitedCheck {ℓ} {A : Type ℓ} (may : List ℕ) : Check A → Type ℓ where
  limited_ok : {a : A} → LimitedCheck may (ok a)
  limited_no : {x : Fault} → is_in x.number may ≡ true → LimitedCheck may (no x)

-- an outcome, by the file that it names
pub data LimitedOutcome {A : Type 0} (may : ℕ → List ℕ) : Outcome A → Type 0 where
  limited_done : {a : A} → LimitedOutcome may (done a)
  limited_refused : {file n : ℕ} {x : Fault} → is_in x.number (may file) ≡ true → right_record x.number n ≡ true → LimitedOutcome may (refused file n x)
