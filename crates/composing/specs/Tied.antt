-- Keys that the dataset has, and whether records stand under them in the end: the update alone tells.
use Rattle.std.specs.Prelude.{ℕ, ◌≤◌, ◌≡◌, Bool, true, List, length, take, drop}
use Rattle.base.specs.Lists.{gather, Each}
use Rattle.skeleton.specs.File.{Field, records_from}
use Rattle.rules.specs.Associations.{field_keys}
use Rattle.keys.specs.Listed.{has_from}
use Rattle.keys.specs.Look.{Sound}
use Rattle.keys.specs.Numbered.{number_of, Ranged}
use Rattle.sorting.specs.Places.{Indexed}
use Rattle.sorting.specs.declared.limits.Limits.{Limits}
use Rattle.composing.specs.Settled.{Tells, TellsAll, Alike}

-- each of these association keys names a record that the dataset has
unfoldable pub TiedIn : List ℕ → ℕ → List (List ℕ) → Type 0
TiedIn d ds ks = Each (λ k. Ranged (take 2 k) → has_from d ds (number_of (take 2 k)) ≡ true) ks

-- so do those of each record from byte p on
unfoldable pub TiedFrom : List ℕ → ℕ → ℕ → Type 0
TiedFrom d ds p = Each (λ (fs : List Field). TiedIn d ds (gather field_keys fs)) (records_from d p).items

-- what is asked of the update alone is where it can be found: its records from us on, and their index at the end of out
pub record Noted (u : List ℕ) (us : ℕ) (lim : Limits) (out : List ℕ) : Type 0 where
  pub sound : Sound u us
  pub inside : lim.new ≤ length out
  pub new : Indexed u us (drop lim.new out)

module _ (u : List ℕ) (us : ℕ) (flags : List ℕ) where
  -- where a dataset has the key with this number, a record stands under it in the end
  unfoldable pub Stays : ℕ → Bool → Type 0
  Stays key b = (d : List ℕ) (ds : ℕ) → has_from d ds key ≡ true → Tells d ds u us flags key b

  -- where a dataset has the records that these association keys name, they all stand in the end
  unfoldable pub StaysAll : List (List ℕ) → Bool → Type 0
  StaysAll ks b = (d : List ℕ) (ds : ℕ) → TiedIn d ds ks → TellsAll d ds u us flags ks b

  -- of the keys `whole` these are left, and those before them stand
  unfoldable pub Remain : List (List ℕ) → List (List ℕ) → Type 0
  Remain ks whole = (d : List ℕ) (ds : ℕ) → TiedIn d ds whole → TiedIn d ds ks × Alike d ds u us flags ks whole
