use mathlib.Core.Path.{sym, ◌∙◌}
use Prim.Native.Nat.{◌≤◌, ◌<◌}
use Rattle.items.specs.Items.{depth_of}
use Rattle.edits.proofs.SearchLaws.{end_end, end_here, end_on}
use native.Mathlib.Omega.{arith}
use Rattle.edits.proofs.search.run_end.Goals as goal

pub returns-then-n-start : goal.returns-then-n-start
returns-then-n-start c = let a = c.args in sym (end_end a.w.now a.start a.n a.depth c.if-n-start.true)

pub past_blocks-b-requires : goal.past_blocks-b-requires
past_blocks-b-requires c = omega arith

pub loop-i-init : goal.loop-i-init
loop-i-init c = sym c.past_blocks-b.ensures.passed.end

pub overflow_mul-i : goal.overflow_mul-i
overflow_mul-i c = omega arith

pub number-requires : goal.number-requires
number-requires c = omega arith

pub returns-then-number-depth : goal.returns-then-number-depth
returns-then-number-depth c = let a = c.args in
    let l = c.loop-i in
    let out : depth_of a.w.now l.i < a.depth = omega (arith, c.number.ensures.0) in
    sym (end_here a.w.now l.i a.n a.depth (omega arith) out) ∙ l.invariant

pub loop-i-preserved : goal.loop-i-preserved
loop-i-preserved c = let a = c.args in
    let l = c.loop-i in
    let in-run : a.depth ≤ depth_of a.w.now l.i = omega (arith, c.number.ensures.0) in
    sym (end_on a.w.now l.i a.n a.depth (omega arith) in-run) ∙ l.invariant

pub returns : goal.returns
returns c = let a = c.args in
    let l = c.loop-i in
    sym (end_end a.w.now l.i a.n a.depth (omega arith)) ∙ l.invariant
