-- Where the records of a file begin, and where the first with a key does.
use Rattle.std.specs.Prelude.{ℕ, ◌+◌, ◌≡◌, List, [], ◌∷◌, length, eqb, Option, Some, None}
use Rattle.base.specs.Choice.{pick}
use Rattle.keys.specs.Below.{below}
use Rattle.keys.specs.Listed.{keys_from}
use Rattle.keys.specs.Look.{looked, look_at}
use Rattle.keys.specs.declared.look.Look.{Look}

-- ---- places

-- the records from p on lead to the one at r, or they end there
pub data Leads (f : List ℕ) : ℕ → ℕ → Type 0 where
  here : {p : ℕ} → Leads f p p
  over : {p len key r : ℕ} → look_at f p ≡ looked len key → Leads f (p + len) r → Leads f p r

-- one of the records from start on begins at p and names the key
pub record Names (f : List ℕ) (start key p : ℕ) : Type 0 where
  pub leads : Leads f start p
  pub len : ℕ
  pub look : look_at f p ≡ looked len key

-- ---- the place of a key

-- a record's length
abbrev pub length_by : Option Look → ℕ
length_by (Some l) = l.len
length_by None = 0

-- where the first of the records from p on begins that has the key, where these are their keys; the file's length where none has it
unfoldable pub site_among : List ℕ → ℕ → ℕ → List ℕ → ℕ
site_among f key p [] = length f
site_among f key p (k ∷ ks) = pick (eqb k key) p (site_among f key (p + length_by (look_at f p)) ks)

-- the same of the records from start on
unfoldable pub site_of : List ℕ → ℕ → ℕ → ℕ
site_of f start key = site_among f key start (keys_from f start)

-- it, where one has the key
unfoldable pub site_in : List ℕ → ℕ → ℕ → Option ℕ
site_in f start key = below (length f) (site_of f start key)
