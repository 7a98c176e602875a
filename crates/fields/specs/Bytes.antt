-- Bytes: numbers with the lowest byte first, and texts.
use Rattle.std.specs.Prelude.{ℕ, zero, suc, ◌+◌, ◌*◌, ◌/◌, ◌%◌, ◌-◌, Bool, true, false, List, [], ◌∷◌, eqb, ltb, ℤ, pos, negsuc}
use Rattle.base.specs.Choice.{pick, either}

-- the number that the first w bytes are, the lowest first
unfoldable pub le : ℕ → List ℕ → ℕ
le zero l = 0
le (suc w) [] = 0
le (suc w) (x ∷ l) = x + 256 * le w l

-- the w bytes of a number, the lowest first
unfoldable pub bytes : ℕ → ℕ → List ℕ
bytes zero n = []
bytes (suc w) n = n % 256 ∷ bytes w (n / 256)

-- the byte is one of the two separators, 1E and 1F
abbrev pub sep : ℕ → Bool
sep x = either (eqb x 30) (eqb x 31)

-- how many bytes stand before the first separator
unfoldable pub run : List ℕ → ℕ
run [] = 0
run (x ∷ l) = pick (sep x) 0 (suc (run l))

-- no separator is among them
unfoldable pub clean : List ℕ → Bool
clean [] = true
clean (x ∷ l) = pick (sep x) false (clean l)

-- 32 bits as a number with a sign: all bits one is -1
abbrev pub signed32 : ℕ → ℤ
signed32 v = pick (ltb v 2147483648) (pos v) (negsuc (4294967295 - v))
