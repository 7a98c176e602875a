-- The first record whose key stood earlier.
use Rattle.std.specs.Prelude.{ℕ, ◌+◌, ◌-◌, ◌≤◌, ◌<◌, ◌≡◌, List, Bool, true, false, length, get_or, drop}
use Rattle.keys.specs.Listed.{keys_from, seen_from}
use Rattle.keys.specs.Look.{Known}
use Rattle.keys.specs.Once.{Told}

-- of m records from start on, each of which has a key, x were passed, and the next is at p
pub record Going (f : List ℕ) (start m p x : ℕ) : Type 0 where
  pub small : length f ≤ 16777216
  pub known : Known f start m
  pub below : x ≤ m
  pub counted : x ≤ p
  pub inside : p ≤ length f
  pub rest : drop x (keys_from f start) ≡ keys_from f p

-- none of the first d records from start on has the key of an earlier one
unfoldable pub Fresh : List ℕ → ℕ → ℕ → Type 0
Fresh f start d = (i : ℕ) → i < d → seen_from f start i (get_or (keys_from f start) i 0) ≡ false

-- of the first m, r is the first that has the key of an earlier one; m where none has
pub record Firstly (f : List ℕ) (start m r : ℕ) : Type 0 where
  pub below : r ≤ m
  pub fresh : Fresh f start r
  pub again : r < m → seen_from f start r (get_or (keys_from f start) r 0) ≡ true

-- the first m records have keys, and the next, if there is one, has none
pub record Reach (f : List ℕ) (start m : ℕ) : Type 0 where
  pub known : Known f start m
  pub few : m ≤ 16777216
  pub ends : m < length (keys_from f start) → get_or (keys_from f start) m 0 ≡ 0

-- of all, d is the first that has the key of an earlier one, or has none
pub record Foreseen (f : List ℕ) (start d : ℕ) : Type 0 where
  pub few : d ≤ 16777216
  pub fresh : Fresh f start d
  pub again : d < length (keys_from f start) → (get_or (keys_from f start) d 0 ≡ 0 → ⊥) → seen_from f start d (get_or (keys_from f start) d 0) ≡ true

-- what the number w says: below 8, nothing; else it is 8 more than that one
unfoldable pub Sees : List ℕ → ℕ → ℕ → Type 0
Sees f start w = 8 ≤ w → Foreseen f start (w - 8)

-- so it is, and none of the first m has the key of an earlier one
pub record Ahead (f : List ℕ) (start m w : ℕ) : Type 0 where
  pub fresh : Fresh f start m
  pub sees : Sees f start w

-- whether the key k of the record after the first m stood earlier; if not, the map has it too, and the next record may come
pub record Said (f : List ℕ) (start m top k : ℕ) (t t' : List ℕ) (w : ℕ) (b : Bool) : Type 0 where
  pub told : Told f start m top k t t' b
  pub ahead : b ≡ false → Ahead f start (m + 1) w
