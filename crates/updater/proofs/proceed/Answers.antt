-- `proceed` meets its contract. Assumes nothing.
use Rattle.updater.proofs.StageLaws.{built_as, is_sent_lem, unsent}
use Rattle.updater.proofs.proceed.Goals as goal

pub apply-requires : goal.apply-requires
apply-requires c = (is_sent_lem _ c.requires.0 _ c.requires.1 _ c.check_update.ensures _ c.in-Ok.is, c.requires.2)

pub returns-in-Err : goal.returns-in-Err
returns-in-Err c = built_as _ _ _ _ _ _ _ c.refused.ensures (unsent _ c.requires.0 _ c.requires.1 _ c.check_update.ensures _ c.in-Err.is _ _ c.requires.2 _)
