-- The keys of the records of a file, and whether a key is among them.
use Rattle.std.specs.Prelude.{ℕ, ◌≡◌, List, [], ◌∷◌, Bool, false, take, eqb}
use Rattle.base.specs.Choice.{either}
use Rattle.base.specs.Lists.{each}
use Rattle.skeleton.specs.File.{Field, records_from}
use Rattle.rules.specs.ByTag.{front}
use Rattle.keys.specs.Key.{key_at}

-- a record's key stands at the front of its first field; 0 where that is too short for one
unfoldable pub key_of : List Field → ℕ
key_of fs = key_at (front fs) 0

-- the keys of the records from byte at on
unfoldable pub keys_from : List ℕ → ℕ → List ℕ
keys_from f at = each key_of (records_from f at).items

-- k is one of them
unfoldable pub listed : ℕ → List ℕ → Bool
listed k [] = false
listed k (x ∷ xs) = either (eqb x k) (listed k xs)

-- k is among the keys of the records from byte at on
unfoldable pub has_from : List ℕ → ℕ → ℕ → Bool
has_from f at k = listed k (keys_from f at)

-- k is among the keys of the first m records from byte at on
unfoldable pub seen_from : List ℕ → ℕ → ℕ → ℕ → Bool
seen_from f at m k = listed k (take m (keys_from f at))

-- each of them stands once
unfoldable pub EachOnce : List ℕ → Type 0
EachOnce [] = Unit {0}
EachOnce (x ∷ xs) = (listed x xs ≡ false) × EachOnce xs
