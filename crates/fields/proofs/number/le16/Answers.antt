use Rattle.fields.proofs.ByteLaws.{le2}
use native.Mathlib.Omega.{arith}
use Rattle.fields.proofs.number.le16.Goals as goal

pub returns : goal.returns
returns c = omega (arith, le2 c.args.b.now c.args.at c.requires)
