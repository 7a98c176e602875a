-- The keys of associations in bytes.
use Rattle.std.specs.Prelude.{List, ◌≡◌, ℕ, ◌≤◌, length, take}
use Rattle.keys.specs.Key.{key_at}
use Rattle.keys.specs.Numbered.{number_of, Ranged}

-- the key that a body begins with, RRNM and RRID, is that of the association by f
pub record Begins (f : List ℕ → List ℕ) (b : List ℕ) : Type 0 where
  pub room : 5 ≤ length b
  pub ranged : Ranged (take 2 (f b))
  pub number : key_at b 0 ≡ number_of (take 2 (f b))

-- k is the key that a body begins with, where it is long enough for one
unfoldable pub KeyOf : List ℕ → ℕ → Type 0
KeyOf b k = 5 ≤ length b → k ≡ key_at b 0
