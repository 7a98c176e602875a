use Rattle.items.specs.Items.{under}
use mathlib.Core.Path.{ap, ◌∙◌}
use Rattle.tree.proofs.CountLaws.{past_above}
use Rattle.items.proofs.LoadLaws.{load_field, load_fits, load_parent, load_turn, load_done}
use native.Mathlib.Omega.{arith}
use Rattle.items.proofs.loading.load.Goals as goal

pub loop-a-init : goal.loop-a-init
loop-a-init c = let p = c.requires in
    load_field _ _ _ _ _ p.0 p.1 p.3 p.5 p.6

pub overflow_add-a : goal.overflow_add-a
overflow_add-a c = omega (arith, load_fits _ _ _ _ _ _ _ _ c.loop-a.invariant c.loop-a-test.true, past_above c.args.b.now c.loop-a.a)

pub number-parent-requires : goal.number-parent-requires
number-parent-requires c = omega (arith, load_fits _ _ _ _ _ _ _ _ c.loop-a.invariant c.loop-a-test.true, past_above c.args.b.now c.loop-a.a)

pub depth_under-depth-requires : goal.depth_under-depth-requires
depth_under-depth-requires c = omega (arith, load_fits _ _ _ _ _ _ _ _ c.loop-a.invariant c.loop-a-test.true, past_above c.args.b.now c.loop-a.a, load_parent _ _ _ _ _ _ _ _ c.loop-a.invariant c.loop-a-test.true)

pub number-code-requires : goal.number-code-requires
number-code-requires c = omega (arith, load_fits _ _ _ _ _ _ _ _ c.loop-a.invariant c.loop-a-test.true, past_above c.args.b.now c.loop-a.a)

pub overflow_add-a-in-loop-a : goal.overflow_add-a-in-loop-a
overflow_add-a-in-loop-a c = omega (arith, load_fits _ _ _ _ _ _ _ _ c.loop-a.invariant c.loop-a-test.true, past_above c.args.b.now c.loop-a.a)

pub put_item-requires : goal.put_item-requires
put_item-requires c = omega (arith, load_fits _ _ _ _ _ _ _ _ c.loop-a.invariant c.loop-a-test.true, past_above c.args.b.now c.loop-a.a, c.loop-a.invariant.room)

pub behind-a-requires : goal.behind-a-requires
behind-a-requires c = omega (arith, load_fits _ _ _ _ _ _ _ _ c.loop-a.invariant c.loop-a-test.true, past_above c.args.b.now c.loop-a.a)

pub overflow_add-i : goal.overflow_add-i
overflow_add-i c = omega (arith, c.loop-a.invariant.room)

pub loop-a-smaller : goal.loop-a-smaller
loop-a-smaller c = omega (arith, load_fits _ _ _ _ _ _ _ _ c.loop-a.invariant c.loop-a-test.true, past_above c.args.b.now c.loop-a.a, c.behind-a.ensures)

pub loop-a-preserved : goal.loop-a-preserved
loop-a-preserved c = let l = c.loop-a.invariant in
    let code = c.number-code.ensures in
    let depth = c.depth_under-depth.ensures ∙ ap (under _) c.number-parent.ensures.0 in
    load_turn _ _ _ _ _ _ _ _ l c.loop-a-test.true (omega (arith, l.long)) c.requires.2 (omega arith) _ depth _ code.0 _ c.behind-a.ensures _ c.put_item.ensures

pub shape_of-w : goal.shape_of-w
shape_of-w c = c.loop-a.invariant.long

pub returns : goal.returns
returns c = let p = c.requires in
    load_done _ _ _ _ _ _ _ _ p.0 p.1 p.5 c.loop-a.invariant c.loop-a-test.false
