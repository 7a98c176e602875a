use Prim.Native.Nat.{◌+◌, ◌*◌}
use Rattle.numbering.proofs.ValueLaws.{offset_is}
use native.Mathlib.Omega.{arith}
use Rattle.numbering.proofs.values.offset_at.Goals as goal

pub overflow_mul-result : goal.overflow_mul-result
overflow_mul-result c = omega (arith, c.type_inv.w (8 * c.args.i + 6))

pub overflow_add-result : goal.overflow_add-result
overflow_add-result c = omega (arith, c.type_inv.w (8 * c.args.i + 6))

pub returns : goal.returns
returns c = rw c.from-high.ensures (offset_is _ _ _ c.number-low.ensures.0)
