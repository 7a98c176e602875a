-- The tree rule as the paper says it (10a-4.1), one sentence after the other, of the tuples of a list; places count from 1.
use Rattle.std.specs.Prelude.{◌≡◌, List, [], ◌⊎◌, ℕ, suc, ◌-◌, ◌≤◌, ◌<◌, length, get_or, take}
use Rattle.forest.specs.Forest.{Tup, occurs}
use Rattle.forest.specs.Rule.{codes_of}

-- no tuple
abbrev pub blank : Tup
blank = record { natc = 0; atix = 0; paix = 0; atvl = [] }

-- the tuple of place k
abbrev pub tuple_at : List Tup → ℕ → Tup
tuple_at ts k = get_or ts (k - 1) blank

-- q is place k or one of its ancestors
pub data Above (ts : List Tup) (q : ℕ) : ℕ → Type 0 where
  itself : {k : ℕ} → q ≡ k → Above ts q k
  beyond : {k : ℕ} → 0 < k → Above ts q (tuple_at ts k).paix → Above ts q k

-- PAIX is 0 or the place of the previous tuple or of one of its ancestors
abbrev pub ParentStands : List Tup → ℕ → Type 0
ParentStands ts k = ((tuple_at ts k).paix ≡ 0) ⊎ Above ts (tuple_at ts k).paix (k - 1)

-- ATIX is one more than the earlier entries with the same code and parent
abbrev pub IndexStands : List Tup → ℕ → Type 0
IndexStands ts k = (tuple_at ts k).atix ≡ suc (occurs (tuple_at ts k).natc (codes_of (tuple_at ts k).paix (take (k - 1) ts)))

-- an entry with a child has an empty value
abbrev pub ValueStands : List Tup → ℕ → Type 0
ValueStands ts k = 0 < (tuple_at ts k).paix → (tuple_at ts (tuple_at ts k).paix).atvl ≡ []

-- the three sentences, of the tuple of place k
pub record Stands (ts : List Tup) (k : ℕ) : Type 0 where
  pub parent : ParentStands ts k
  pub index : IndexStands ts k
  pub value : ValueStands ts k

-- of each tuple
abbrev pub TreeRule : List Tup → Type 0
TreeRule ts = (k : ℕ) → 0 < k → k ≤ length ts → Stands ts k
