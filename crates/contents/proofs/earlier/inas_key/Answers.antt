use Rattle.contents.proofs.EarlierLaws.{inas_key_ways}
use Rattle.contents.proofs.earlier.inas_key.Goals as goal

pub le8-requires : goal.le8-requires
le8-requires c = search inas_key_ways

pub le32-requires : goal.le32-requires
le32-requires c = search inas_key_ways

pub le16-requires : goal.le16-requires
le16-requires c = search inas_key_ways

pub le16-requires-2 : goal.le16-requires-2
le16-requires-2 c = search inas_key_ways
