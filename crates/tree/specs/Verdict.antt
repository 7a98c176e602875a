-- A refusal of the tree rule as one number.
use Rattle.std.specs.Prelude.{ℕ, zero, suc}
use Rattle.base.specs.Check.{Check, ok, no, refuse, Passed, pass}

-- the place of the faulty tuple, 0 where there is none
unfoldable pub faulty_tuple : {A : Type 0} → Check A → ℕ
faulty_tuple (ok a) = 0
faulty_tuple (no f) = f.tuple

-- the refusal that the number says: 6 at that tuple
unfoldable pub verdict : ℕ → Passed
verdict zero = pass
verdict (suc n) = refuse 6 (suc n)
