use Rattle.contents.proofs.NewLaws.{inas_once_ways}
use Rattle.contents.proofs.associations.inas_once.Goals as goal
use Rattle.contents.proofs.associations.inas_once.Goals.{else-informed-via-then-informed+else-fields_have, else-informed-via-else-informed}

pub returns-then-fields_have : goal.returns-then-fields_have
returns-then-fields_have c = search inas_once_ways

pub returns : goal.returns
returns c = elim c.else-informed.branch [ else-informed-via-then-informed+else-fields_have w ↦ search inas_once_ways | else-informed-via-else-informed w ↦ search inas_once_ways ]
