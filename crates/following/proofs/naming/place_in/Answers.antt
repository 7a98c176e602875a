use Rattle.following.proofs.NamingLaws.{found_place}
use Rattle.following.proofs.naming.place_in.Goals as goal

pub returns : goal.returns
returns c = search found_place
