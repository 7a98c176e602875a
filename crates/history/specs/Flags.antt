-- Flags of keys: where the flag of a key is not raised, the key is not listed.
use Rattle.std.specs.Prelude.{ℕ, ◌%◌, ◌≡◌, true, List, ◌++◌, take, drop}
use Rattle.keys.specs.Bits.{flag_of, raised}
use Rattle.keys.specs.Listed.{listed}
use Rattle.version.specs.Areas.{list_area, inas_area, spas_area, flag_area}

-- the flag of a key, of 111,997; several keys share one
abbrev pub key_flag : ℕ → ℕ
key_flag k = k % 111997

-- the flag of each of these keys is raised
unfoldable pub Flags : List ℕ → List ℕ → Type 0
Flags l t = (k : ℕ) → listed k l ≡ true → flag_of t (key_flag k) ≡ true

-- in the workspace v the flag of the key is raised, and all else is as in w
pub record Marked (w : List ℕ) (key : ℕ) (v : List ℕ) : Type 0 where
  pub is : v ≡ take 386000 w ++ (raised (flag_area w) (key_flag key) ++ drop 400000 w)
  pub flags : flag_area v ≡ raised (flag_area w) (key_flag key)
  pub list : list_area v ≡ list_area w
  pub inas : inas_area v ≡ inas_area w
  pub spas : spas_area v ≡ spas_area w
