use mathlib.Core.Path.{sym}
use Rattle.items.proofs.ItemLaws.{under_zero, under_suc}
use native.Mathlib.Omega.{arith}
use Rattle.items.proofs.item.depth_under.Goals as goal

pub returns-then-p-eq0 : goal.returns-then-p-eq0
returns-then-p-eq0 c = sym (under_zero _ _ c.if-p-eq0.true)

pub returns : goal.returns
returns c = omega (arith, c.number.ensures.0, under_suc c.args.w.now c.args.p c.if-p-eq0.false)
