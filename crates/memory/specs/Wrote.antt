-- What a writer says. Assumes nothing.
use Rattle.std.specs.Prelude.{◌≡◌, List, ℕ, ◌+◌, length}
use Rattle.memory.specs.Put.{put}

-- ys were written from index `at` on over what was d and is e, nothing else changed, and r is the index after them
pub record Wrote (at : ℕ) (ys d : List ℕ) (r : ℕ) (e : List ℕ) : Type 0 where
  pub next : r ≡ at + length ys
  pub is : e ≡ put at ys d
