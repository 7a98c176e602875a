use Rattle.fields.proofs.ByteLaws.{le4_bytes}
use native.Mathlib.Omega.{arith}
use Rattle.fields.proofs.number.le32.Goals as goal

pub returns : goal.returns
returns c = omega (arith, le4_bytes c.args.b.now c.args.at c.requires)
