-- Cleared memory, on lists. Assumes nothing.
use Rattle.std.specs.Prelude.{List, ◌++◌, ℕ, ◌-◌, length, replicate}

-- n zeroes
unfoldable pub zeros : (n : ℕ) → List ℕ
zeros n = replicate n 0

-- a place of n bytes that holds xs and is zero after that
unfoldable pub hold : (n : ℕ) (xs : List ℕ) → List ℕ
hold n xs = xs ++ zeros (n - length xs)
