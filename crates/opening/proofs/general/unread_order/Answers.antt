use Rattle.opening.proofs.GeneralLaws.{unread_order}
use Rattle.opening.proofs.general.unread_order.Goals as goal

pub returns : goal.returns
returns c = search unread_order
