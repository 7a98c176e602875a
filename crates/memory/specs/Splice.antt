-- Replacing a run of elements by another of any length, on lists. Assumes nothing.
use Rattle.std.specs.Prelude.{List, ◌++◌, ℕ, ◌+◌, ◌-◌, take, drop}
use Rattle.memory.specs.Put.{part, put}

-- xs with `del` elements from index `at` on replaced by ys
unfoldable pub spliced : (at del : ℕ) (ys xs : List ℕ) → List ℕ
spliced at del ys xs = take at xs ++ ys ++ drop (at + del) xs

-- the same done in place in w, of which the first `used` elements are in use: ys and the moved tail are stored, all else is as it was
unfoldable pub spliced_in : (used at del : ℕ) (ys w : List ℕ) → List ℕ
spliced_in used at del ys w = put at (ys ++ part (at + del) (used - (at + del)) w) w

-- w, of which the first `used` elements are in use, with those from index `at` on moved up by n
unfoldable pub opened : (used at n : ℕ) (w : List ℕ) → List ℕ
opened used at n w = put (at + n) (part at (used - at) w) w
