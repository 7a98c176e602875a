use Prim.Native.Nat.{◌+◌}
use Rattle.fields.proofs.ByteLaws.{le2, le4}
use Rattle.items.specs.Items.{u16}
use native.Mathlib.Omega.{arith}
use Rattle.edits.proofs.block.label.Goals as goal

pub returns : goal.returns
unfolding u16
returns c = let a = c.args in
    let byte = c.type_inv.w in (
      omega (arith, c.le32.ensures, le4 a.w.now a.at (omega arith), le2 a.w.now a.at (omega arith), le2 a.w.now (a.at + 2) (omega arith)),
      omega (arith, byte a.at, byte (a.at + 1)),
    )
