-- `update` meets its contract. Assumes nothing.
use mathlib.Core.Bool.{true≢false}
use mathlib.Core.Path.{sym}
use Rattle.updater.proofs.update.Goals as goal

pub update_tested-requires : goal.update_tested-requires
update_tested-requires c = λ e. absurd (true≢false (sym e))
