use Rattle.contents.proofs.EarlierLaws.{inas_is_ways}
use Rattle.contents.proofs.earlier.inas_is.Goals as goal

pub le8-requires : goal.le8-requires
le8-requires c = search inas_is_ways

pub returns-then-le8-x : goal.returns-then-le8-x
returns-then-le8-x c = search inas_is_ways

pub le32-requires : goal.le32-requires
le32-requires c = search inas_is_ways

pub returns-then-le32-y : goal.returns-then-le32-y
returns-then-le32-y c = search inas_is_ways

pub le16-requires : goal.le16-requires
le16-requires c = search inas_is_ways

pub returns-then-le16-z : goal.returns-then-le16-z
returns-then-le16-z c = search inas_is_ways

pub le16-requires-2 : goal.le16-requires-2
le16-requires-2 c = search inas_is_ways

pub returns : goal.returns
returns c = search inas_is_ways
