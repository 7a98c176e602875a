-- Choices by a test.
use Rattle.std.specs.Prelude.{ℕ, Bool, true, false, ltb}

-- the first where the test holds, else the second
abbrev pub pick {ℓ} : {A : Type ℓ} → Bool → A → A → A
pick true a b = a
pick false a b = b

-- both tests hold
abbrev pub both : Bool → Bool → Bool
both true b = b
both false b = false

-- one of the tests holds
abbrev pub either : Bool → Bool → Bool
either true b = true
either false b = b

-- the larger of two numbers
abbrev pub larger_of : ℕ → ℕ → ℕ
larger_of a b = pick (ltb a b) b a
