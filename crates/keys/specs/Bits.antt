-- Flags as bits of bytes.
use Rattle.std.specs.Prelude.{ℕ, zero, suc, ◌+◌, ◌/◌, ◌%◌, ◌^◌, List, Bool, get_or, set, eqb}
use Rattle.base.specs.Choice.{pick}

-- bit i of a number, the lowest is bit 0
unfoldable pub bit_of : ℕ → ℕ → ℕ
bit_of zero b = b % 2
bit_of (suc i) b = bit_of i (b / 2)

-- flag j: bit j % 8 of byte j / 8
unfoldable pub flag_of : List ℕ → ℕ → Bool
flag_of t j = eqb (bit_of (j % 8) (get_or t (j / 8) 0)) 1

-- the flags with flag j raised
unfoldable pub raised : List ℕ → ℕ → List ℕ
raised t j = pick (flag_of t j) t (set t (j / 8) (get_or t (j / 8) 0 + 2 ^ (j % 8)))
