-- `open_version` meets its contract. Assumes nothing.
use Rattle.loading.proofs.RecordLaws.{opened_is}
use Rattle.loading.proofs.record.open_version.Goals as goal

pub returns : goal.returns
returns c = opened_is _ _ _ _ _ c.rcid.ensures c.code.ensures c.rver.ensures
