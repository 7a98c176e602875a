-- A book of RCIDs, and flags beside it, in n bytes. The first flags are a sieve, in which each RCID of the book has raised one; behind them stand five for
-- each entry, one for each rank of a kind, which say of the keys with that RCID whether they were met.
use Rattle.std.specs.Prelude.{ℕ, ◌+◌, ◌*◌, ◌/◌, ◌%◌, ◌≤◌, ◌≡◌, List, Bool, true, false, length, get_or, eqb, ltb}
use Rattle.base.specs.Choice.{pick, both}
use Rattle.keys.specs.Bits.{flag_of, raised}
use Rattle.keys.specs.Map.{Mapped, kind_in, rcid_in}
use Rattle.book.specs.Book.{bit_at, halves}

-- where an RCID is looked for, in a book of at most 8,192 entries
unfoldable pub leaf_of : List ℕ → ℕ → ℕ
leaf_of b rcid = let at = halves 12 b rcid 2048 (bit_at b rcid 4096) in pick (ltb at (length b)) at 0

-- how many flags are the sieve
unfoldable pub base_of : ℕ → ℕ
base_of n = pick (ltb n 32768) 32768 221184

-- the flag of an RCID in the sieve
unfoldable pub mesh_of : ℕ → ℕ → ℕ
mesh_of n rcid = pick (ltb n 32768) (rcid * 2654435769 / 131072 % 32768) (rcid * 2654435769 / 256 % 221184)

-- the book has the RCID of a key, as far as the sieve lets it through
unfoldable pub held_in : List ℕ → List ℕ → ℕ → Bool
held_in b v key = both (flag_of v (mesh_of (length v) (rcid_in key))) (both (ltb (kind_in key) 5) (eqb (get_or b (leaf_of b (rcid_in key)) 0) (rcid_in key)))

-- the flag of a key that the book has
unfoldable pub mark_of : List ℕ → ℕ → ℕ → ℕ
mark_of b n key = base_of n + (5 * leaf_of b (rcid_in key) + kind_in key)

-- the same, and 0 for the others
unfoldable pub spot_of : List ℕ → List ℕ → ℕ → ℕ
spot_of b v key = pick (held_in b v key) (mark_of b (length v) key) 0

-- the flag of each key that the book has says whether it is among the keys
unfoldable pub Noted : List ℕ → List ℕ → List ℕ → Type 0
Noted b l v = Mapped (held_in b v) (mark_of b (length v)) l v

-- the flags with one key more
unfoldable pub joined : List ℕ → List ℕ → ℕ → List ℕ
joined b v key = pick (held_in b v key) (raised v (mark_of b (length v) key)) v

-- no flag is raised but those of the sieve
unfoldable pub Unmet : List ℕ → Type 0
Unmet v = (j : ℕ) → base_of (length v) ≤ j → flag_of v j ≡ false

-- where the flag of a key that the book has is raised, something holds of the key
unfoldable pub Means : (ℕ → Type 0) → List ℕ → List ℕ → Type 0
Means P b v = (k : ℕ) → held_in b v k ≡ true → flag_of v (mark_of b (length v) k) ≡ true → P k
