-- A map of keys in flags.
use Rattle.std.specs.Prelude.{ℕ, ◌/◌, ◌%◌, ◌<◌, ◌≡◌, List, Bool, true, length}
use Rattle.keys.specs.Listed.{listed}
use Rattle.keys.specs.Bits.{flag_of}

-- where a key has a place in the map, the flag there says whether it is among the keys
unfoldable pub Mapped : (ℕ → Bool) → (ℕ → ℕ) → List ℕ → List ℕ → Type 0
Mapped has place l t = (k : ℕ) → has k ≡ true → place k / 8 < length t → flag_of t (place k) ≡ listed k l

-- ---- the parts of a key

-- the rank of a key's kind
abbrev pub kind_in : ℕ → ℕ
kind_in k = k / 4294967296

-- a key's RCID
abbrev pub rcid_in : ℕ → ℕ
rcid_in k = k % 4294967296

-- ---- a map whose flags are shared

-- the flag of a key: RCIDs that are 262,144 apart share one
abbrev pub shared_flag : ℕ → ℕ
shared_flag k = k % 262144

-- the flag of each of the keys that is of the kind is raised: where a key's flag is not, it is none of them
unfoldable pub Marks : List ℕ → ℕ → List ℕ → Type 0
Marks l kind t = (k : ℕ) → kind_in k ≡ kind → listed k l ≡ true → shared_flag k / 8 < length t → flag_of t (shared_flag k) ≡ true
