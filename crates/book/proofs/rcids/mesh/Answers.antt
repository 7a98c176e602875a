use Rattle.book.proofs.RcidLaws.{mesh_ways}
use Rattle.book.proofs.rcids.mesh.Goals as goal

pub returns-then-n-lt32768 : goal.returns-then-n-lt32768
returns-then-n-lt32768 c = search mesh_ways

pub returns : goal.returns
returns c = search mesh_ways
