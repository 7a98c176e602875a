-- `locate` meets its contract. Assumes nothing.
use Rattle.sorting.specs.Places.{Indexed}
use mathlib.Core.Path.{sym, subst}
use Rattle.history.proofs.FindingLaws.{keys_once_lem}
use Rattle.history.proofs.finding.locate.Goals as goal

pub site_by-requires : goal.site_by-requires
site_by-requires c = (c.requires.laid.0, subst (Indexed _ _) (sym c.old_index.ensures) c.requires.indexed.2, keys_once_lem _ _ c.requires.laid.1 c.requires.laid.2)
