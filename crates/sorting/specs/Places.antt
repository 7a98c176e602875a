-- The places of a file's records, what lies between two of them, and an index of them by key.
use Rattle.std.specs.Prelude.{ℕ, ◌+◌, ◌*◌, ◌≤◌, ◌<◌, ◌≡◌, false, List, ◌++◌, length}
use Rattle.base.specs.Lists.{each}
use Rattle.skeleton.specs.File.{Field, records_from}
use Rattle.keys.specs.Listed.{key_of, listed}
use Rattle.keys.specs.Look.{Sound}
use Rattle.keys.specs.Places.{Leads, Names}
use Rattle.sorting.specs.Numbers.{number_at, Has, Ascends}

-- none of the records from p up to r names the key
pub record Skips (u : List ℕ) (key p r : ℕ) : Type 0 where
  pub skipped : List (List Field)
  pub split : (records_from u p).items ≡ skipped ++ (records_from u r).items
  pub none : listed key (each key_of skipped) ≡ false

-- the first of the records from p on that names the key begins at r; or there is none, and r is the end
pub record Next (u : List ℕ) (key p r : ℕ) : Type 0 where
  pub leads : Leads u p r
  pub sound : Sound u r
  pub skips : Skips u key p r
  pub names : r < length u → Names u p key r

-- p is the place of one of the records from us on that names the key, or the first place of all
pub data Late (u : List ℕ) (us key : ℕ) : ℕ → Type 0 where
  at_start : Late u us key us
  at_one : {p : ℕ} → Names u us key p → Late u us key p

-- ---- the index

-- the number of a record in the index: by its key, and then by its place
abbrev pub weight_of : ℕ → ℕ → ℕ
weight_of key p = key * 16777216 + p

-- x is the number of one of the records from us on
pub record Entry (u : List ℕ) (us x : ℕ) : Type 0 where
  pub key : ℕ
  pub place : ℕ
  pub names : Names u us key place
  pub is : x ≡ weight_of key place

-- the n numbers in s are those of the records from us on, and 0
pub record Filled (u : List ℕ) (us n : ℕ) (s : List ℕ) : Type 0 where
  pub long : length s ≡ 8 * n
  pub each_one : (x : ℕ) → Has n s x → 0 < x → Entry u us x
  pub all : (key p : ℕ) → Names u us key p → Has n s (weight_of key p)

-- the n numbers in s ascend; they are numbers of the records from us on, or 0, and of those that are not below the first of them none is missing
pub record Sorted (u : List ℕ) (us n : ℕ) (s : List ℕ) : Type 0 where
  pub long : length s ≡ 8 * n
  pub each_one : (x : ℕ) → Has n s x → 0 < x → Entry u us x
  pub all : (key p : ℕ) → Names u us key p → number_at s 0 ≤ weight_of key p → Has n s (weight_of key p)
  pub up : Ascends n s

-- s is empty, or an index of the records from us on, of which a part at the front may be gone
unfoldable pub Indexed : List ℕ → ℕ → List ℕ → Type 0
Indexed u us s = 0 < length s → (n : ℕ) × Sorted u us n s
