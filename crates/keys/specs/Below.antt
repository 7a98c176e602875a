-- A number below an end.
use Rattle.std.specs.Prelude.{ℕ, ltb, Option, Some, None}
use Rattle.base.specs.Choice.{pick}

-- the number, where it is below the end
abbrev pub below : ℕ → ℕ → Option ℕ
below end n = pick (ltb n end) (Some n) None
