use Rattle.tree.proofs.CountLaws.{past_above, whole_past, whole_next, count_none, count_more, count_within}
use Rattle.tree.specs.Source.{count}
use Prim.Native.Nat.{ℕ, ◌<◌}
use mathlib.Core.Path.{ap}
use native.Mathlib.Omega.{arith}
use Rattle.tree.proofs.siblings.twins.Goals as goal

pub twin-n-requires : goal.twin-n-requires
twin-n-requires c = let b = c.args.b.now in let i = c.loop-i.i in omega (arith, past_above b i, whole_past b i c.loop-i.invariant.2 (omega arith))

pub loop-i-smaller : goal.loop-i-smaller
loop-i-smaller c = let b = c.args.b.now in let i = c.loop-i.i in omega (arith, past_above b i, c.behind-i.ensures)

pub loop-i-preserved : goal.loop-i-preserved
loop-i-preserved c = let a = c.args in let b = a.b.now in let l = c.loop-i in let inside : l.i < a.end = omega arith in let step = count_more b l.i a.end a.code a.parent inside in let on = ap (λ (j : ℕ). count b j a.end a.code a.parent) c.behind-i.ensures in (omega (arith, step, on, l.invariant.0, c.twin-n.ensures.0), omega (arith, past_above b l.i, c.behind-i.ensures, c.twin-n.ensures.1), rw c.behind-i.ensures (whole_next b l.i l.invariant.2 (omega arith)))

pub returns : goal.returns
returns c = let a = c.args in let i = c.loop-i.i in (omega (arith, c.loop-i.invariant.0, count_none a.b.now i a.end a.code a.parent c.loop-i-test.false), omega (arith, c.loop-i.invariant.0, count_none a.b.now i a.end a.code a.parent c.loop-i-test.false, count_within a.b.now a.start a.end a.code a.parent))
