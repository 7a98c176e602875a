-- Keys that ascend.
use Rattle.std.specs.Prelude.{ℕ, ◌≡◌, List, [], ◌∷◌, Bool, true, ltb}
use Rattle.base.specs.Choice.{pick, both}
use Rattle.keys.specs.Bits.{raised}

-- the first is above low, and each of the others above the one before it
unfoldable pub ascends : ℕ → List ℕ → Bool
ascends low [] = true
ascends low (x ∷ xs) = both (ltb low x) (ascends x xs)

-- each of the keys is above the one before it, and the first above 0, which is no key
unfoldable pub Ascending : List ℕ → Type 0
Ascending l = ascends 0 l ≡ true

-- they ascended up to last, and do with one key more
unfoldable pub ascended_to : Bool → ℕ → ℕ → Bool
ascended_to so last key = both so (ltb last key)

-- a map in which the flag behind all places of keys says whether the keys ascend
unfoldable pub sealed : List ℕ → Bool → List ℕ
sealed t so = pick so (raised t 262144) t
