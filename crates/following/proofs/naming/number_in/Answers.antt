use Rattle.following.proofs.NamingLaws.{number_ways}
use Rattle.following.proofs.naming.number_in.Goals as goal

pub le16-requires : goal.le16-requires
le16-requires c = search number_ways

pub returns : goal.returns
returns c = search number_ways
