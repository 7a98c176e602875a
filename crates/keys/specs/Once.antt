-- What is known of the keys so far, so that a key that is new is told quickly: the largest of them, and a map of the keys of its kind.
use Rattle.std.specs.Prelude.{ℕ, ◌+◌, ◌<◌, ◌≡◌, List, [], ◌∷◌, Bool, true, false, length, get_or, take, leb}
use Rattle.base.specs.Choice.{both, larger_of}
use Rattle.keys.specs.Listed.{keys_from, seen_from}
use Rattle.keys.specs.Look.{Known}
use Rattle.keys.specs.Map.{kind_in, Marks}

-- none of the keys is above top
unfoldable pub none_above : ℕ → List ℕ → Bool
none_above top [] = true
none_above top (x ∷ xs) = both (leb x top) (none_above top xs)

-- the same map for the same kind, else an empty one
pub record Renewed (kind kind' : ℕ) (t t' : List ℕ) : Type 0 where
  pub long : length t' ≡ length t
  pub same : kind ≡ kind' → t' ≡ t
  pub empty : (kind ≡ kind' → ⊥) → (i : ℕ) → get_or t' i 0 ≡ 0

-- of the first m records from start on: each has a key, none of the keys is above top, and t is a map of those of top's kind
pub record Once (f : List ℕ) (start m top : ℕ) (t : List ℕ) : Type 0 where
  pub known : Known f start m
  pub none_above : none_above top (take m (keys_from f start)) ≡ true
  pub marks : Marks (take m (keys_from f start)) (kind_in top) t

-- the record after the first m from start on has the key k
pub record Comes (f : List ℕ) (start m k : ℕ) : Type 0 where
  pub there : m < length (keys_from f start)
  pub next : get_or (keys_from f start) m 0 ≡ k
  pub keyed : k ≡ 0 → ⊥

-- whether it stood earlier; if not, the map has it too, and the next record may come
pub record Told (f : List ℕ) (start m top k : ℕ) (t t' : List ℕ) (b : Bool) : Type 0 where
  pub told : b ≡ seen_from f start m k
  pub long : length t' ≡ length t
  pub once : b ≡ false → Once f start (m + 1) (larger_of top k) t'
