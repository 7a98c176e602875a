-- The keys of the rules, RCNM and RCID in a list, as numbers.
use Rattle.std.specs.Prelude.{ℕ, ◌<◌, ◌≡◌, List, [], ◌∷◌, get_or}
use Rattle.base.specs.Lists.{each}
use Rattle.base.specs.Keys.{among}
use Rattle.rules.specs.Record.{Rec, key_of as key_in_rules}
use Rattle.keys.specs.Key.{rank_of, key_number}
use Rattle.keys.specs.Listed.{listed}

-- a key as one number
unfoldable pub number_of : List ℕ → ℕ
number_of k = key_number (get_or k 0 0) (get_or k 1 0)

-- a key of one of the four kinds
pub record Ranged (k : List ℕ) : Type 0 where
  pub rcnm : ℕ
  pub rcid : ℕ
  pub parts : k ≡ rcnm ∷ rcid ∷ []
  pub kind : 0 < rank_of rcnm
  pub small : rcid < 4294967296

-- a key is among those of the records where its number is among the numbers
unfoldable pub Numbered : List Rec → List ℕ → Type 0
Numbered recs l = (k : List ℕ) → Ranged k → among k (each key_in_rules recs) ≡ listed (number_of k) l
