-- A refusal that is not for want of room: its number is not 0, which is for done, and not 13 or 15, which are for the slices that are lent.
use Rattle.std.specs.Prelude.{ℕ, Bool, not, eqb}
use Rattle.base.specs.Choice.{either}

-- a number of refusal that room does not decide
unfoldable pub fair : ℕ → Bool
fair n = not (either (eqb n 0) (either (eqb n 13) (eqb n 15)))
