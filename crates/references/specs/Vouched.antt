-- What helps to find a record that is named: where the keys ascend, a table of places; else a book of RCIDs that are named, with flags of those of its keys
-- that a record was found to have.
use Rattle.std.specs.Prelude.{ℕ, ◌<◌, ◌≡◌, true, false, List, length}
use Rattle.keys.specs.Bits.{flag_of}
use Rattle.keys.specs.Listed.{keys_from, has_from}
use Rattle.keys.specs.Look.{Sound}
use Rattle.keys.specs.Slots.{Slots}
use Rattle.keys.specs.Table.{Laid}
use Rattle.book.specs.Rcids.{Means}

-- where the flag of a key is raised, one of the records from start on has it
unfoldable pub Vouches : List ℕ → ℕ → List ℕ → List ℕ → Type 0
Vouches f start b v = Means (λ key. has_from f start key ≡ true) b v

-- a book with some entries, where it is so
pub record Vouched (f : List ℕ) (start : ℕ) (b v : List ℕ) : Type 0 where
  pub some : 0 < length b
  pub vouches : Vouches f start b v

-- t is the one or the other, by what the map says of the order of keys: a table, of which the first n entries are to be tried, or a book with the flags v
pub record Aided (f : List ℕ) (start : ℕ) (t : List ℕ) (n : ℕ) (map v : List ℕ) : Type 0 where
  pub sound : Sound f start
  pub slots : Slots (keys_from f start) map
  pub table : flag_of map 262144 ≡ true → Laid f start t n map
  pub book : flag_of map 262144 ≡ false → Vouched f start t v
