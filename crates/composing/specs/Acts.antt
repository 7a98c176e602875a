-- What update records do with a key, as code finds it: their keys as numbers, and RUIN's byte.
use Rattle.std.specs.Prelude.{ℕ, ◌/◌, ◌≡◌, Bool, false, not, List, [], ◌∷◌, eqb}
use Rattle.base.specs.Choice.{pick, both, either}
use Rattle.base.specs.Keys.{same}
use Rattle.skeleton.specs.File.{Field, records_from}
use Rattle.rules.specs.ByTag.{front}
use Rattle.rules.specs.Grammar.{ruin_byte}
use Rattle.updates.specs.Acts.{act_of, chart}
use Rattle.keys.specs.Listed.{key_of}
use Rattle.keys.specs.Numbered.{number_of, Ranged}
use Rattle.keys.specs.Key.{kind_ranked}

-- RUIN of an update record that names the key
unfoldable pub ruin_with : ℕ → List Field → ℕ
ruin_with key fs = ruin_byte (kind_ranked (key / 4294967296)) (front fs)

-- whether a record stands under the key after these update records; b: whether one stood before them
unfoldable pub fate_of : ℕ → List (List Field) → Bool → Bool
fate_of key [] b = b
fate_of key (fs ∷ rest) b = fate_of key rest (pick (eqb (key_of fs) key) (not (eqb (ruin_with key fs) 2)) b)

-- one of them deletes the key
unfoldable pub deleted_of : ℕ → List (List Field) → Bool
deleted_of key [] = false
deleted_of key (fs ∷ rest) = either (both (eqb (key_of fs) key) (eqb (ruin_with key fs) 2)) (deleted_of key rest)

-- the same of those from byte p on
unfoldable pub fate_from : List ℕ → ℕ → ℕ → Bool → Bool
fate_from u p key b = fate_of key (records_from u p).items b

unfoldable pub deleted_from : List ℕ → ℕ → ℕ → Bool
deleted_from u p key = deleted_of key (records_from u p).items

-- an update record whose key and act are told so
pub record Known (fs : List Field) : Type 0 where
  pub names : (k : List ℕ) → Ranged k → same (chart.names fs) k ≡ eqb (key_of fs) (number_of k)
  pub act : chart.act fs ≡ act_of (ruin_with (key_of fs) fs)
