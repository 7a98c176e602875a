use Rattle.fields.proofs.ByteLaws.{le1}
use native.Mathlib.Omega.{arith}
use Rattle.fields.proofs.number.le8.Goals as goal

pub returns : goal.returns
returns c = omega (arith, le1 c.args.b.now c.args.at c.requires)
