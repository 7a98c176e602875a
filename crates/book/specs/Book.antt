-- A book of keys: where it is in order, a key is found in it by halves; beside it, flags of those of its keys that were met.
use Rattle.std.specs.Prelude.{ℕ, zero, suc, ◌+◌, ◌*◌, ◌/◌, List, Bool, length, get_or, eqb, ltb, leb}
use Rattle.base.specs.Choice.{pick, both}
use Rattle.keys.specs.Bits.{raised}
use Rattle.keys.specs.Map.{Mapped}

-- 1 where there is an entry at j that is not above the key, else 0
unfoldable pub bit_at : List ℕ → ℕ → ℕ → ℕ
bit_at b key j = pick (both (ltb j (length b)) (leb (get_or b j 0) key)) 1 0

-- the number of a place, bit by bit, where at are its first bits and the next one counts so much
unfoldable pub halves : ℕ → List ℕ → ℕ → ℕ → ℕ → ℕ
halves zero b key unit at = at
halves (suc left) b key unit at = halves left b key (unit / 2) (2 * at + bit_at b key (2 * unit * at + unit))

-- where a key is looked for, in a book of at most 2,048 entries
unfoldable pub page_of : List ℕ → ℕ → ℕ
page_of b key = let at = halves 10 b key 512 (bit_at b key 1024) in pick (ltb at (length b)) at 0

-- it is there
unfoldable pub written : List ℕ → ℕ → Bool
written b key = eqb (get_or b (page_of b key) 0) key

-- the flag of each key that the book has says whether it is among the keys
unfoldable pub Met : List ℕ → List ℕ → List ℕ → Type 0
Met b l t = Mapped (written b) (page_of b) l t

-- the flags with one key more
unfoldable pub entered : List ℕ → List ℕ → ℕ → List ℕ
entered b t key = pick (written b key) (raised t (page_of b key)) t
