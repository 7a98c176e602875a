-- Flags of which none is lowered.
use Rattle.std.specs.Prelude.{ℕ, ◌/◌, ◌<◌, ◌≡◌, true, List, length}
use Rattle.keys.specs.Bits.{flag_of}

-- all flags of the first n bytes are raised
unfoldable pub Full : List ℕ → ℕ → Type 0
Full t n = (j : ℕ) → j / 8 < n → flag_of t j ≡ true

-- those that are raised in t are in t' too
pub record Spared (t t' : List ℕ) : Type 0 where
  pub long : length t' ≡ length t
  pub kept : (j : ℕ) → j / 8 < length t → flag_of t j ≡ true → flag_of t' j ≡ true
