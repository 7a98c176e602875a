use native.Mathlib.Omega.{arith}
use Rattle.skeleton.specs.Directory.{tag_at}
use Rattle.skeleton.proofs.directory.tag_at.Goals as goal

pub returns : goal.returns
unfolding tag_at
returns c = omega arith
