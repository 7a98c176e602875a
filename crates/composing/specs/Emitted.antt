-- A record that is written where there is room for it.
use Rattle.std.specs.Prelude.{ℕ, ◌+◌, ◌≤◌, ◌<◌, ◌≡◌, false, List, length}
use Rattle.memory.specs.Wrote.{Wrote}
use Rattle.skeleton.specs.File.{Field}
use Rattle.skeleton.specs.Emit.{emit}
use Rattle.rules.specs.Written.{field_width, written_length}

-- the record with these fields goes to `to` over what was `before` and is out; the next one begins at n
pub record Emitted (fs : List Field) (to : ℕ) (before : List ℕ) (n : ℕ) (out : List ℕ) : Type 0 where
  pub next : n ≡ to + written_length fs
  pub wrote : n ≤ length before → Wrote to (emit field_width field_width false fs) before n out
  pub kept : length before < n → out ≡ before
