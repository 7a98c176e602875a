-- `hand` meets its contract. Assumes nothing.
use mathlib.Core.Bool.{true≢false}
use mathlib.Core.Path.{sym}
use Rattle.display.proofs.hand.Goals as goal

pub hand_tested-requires : goal.hand_tested-requires
hand_tested-requires c = λ e. absurd (true≢false (sym e))
