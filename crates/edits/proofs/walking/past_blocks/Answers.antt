use Prim.Native.Nat.{◌+◌}
use Rattle.edits.specs.Walks.{Passed}
use Rattle.edits.proofs.WalkLaws.{passed_block, going_start, going_same, going_mark}
use native.Mathlib.Omega.{arith}
use Rattle.edits.proofs.walking.past_blocks.Goals as goal
use Rattle.edits.proofs.walking.past_blocks.Goals.{then-t-gt0, else-t-gt0}

pub loop-at-init : goal.loop-at-init
loop-at-init c = going_start _ _ _ _ _ _ (omega arith) (omega arith)

pub overflow_add-at : goal.overflow_add-at
overflow_add-at c = omega arith

pub weigh-t-requires : goal.weigh-t-requires
weigh-t-requires c = omega arith

pub overflow_add-count : goal.overflow_add-count
overflow_add-count c = omega arith

pub returns-then-k-count : goal.returns-then-k-count
returns-then-k-count c = c.loop-at.invariant

pub overflow_add-count-in-loop-at : goal.overflow_add-count-in-loop-at
overflow_add-count-in-loop-at c = omega arith

pub overflow_add-at-in-loop-at : goal.overflow_add-at-in-loop-at
overflow_add-at-in-loop-at c = omega arith

pub loop-at-smaller : goal.loop-at-smaller
loop-at-smaller c = omega arith

pub loop-at-preserved : goal.loop-at-preserved
loop-at-preserved c = let a = c.args in
    let l = c.loop-at in
    let t = c.weigh-t in
    let less = c.if-k-count.false in
    let block = passed_block 64 a.w.now a.n a.depth a.code l.at (omega arith) (omega (arith, t.ensures.0)) in
    let over : Passed a.w.now a.n a.depth a.code l.at (l.at + 64) t.result = rw t.ensures.0 block in
    elim c.if-t-gt0.branch [
      | then-t-gt0 w ↦ rw (w.mark-is, w.nth-is) (going_mark (l.at + 64) t.result l.invariant over w.if-t-gt0.true less)
      | else-t-gt0 w ↦ rw (w.mark-is, w.nth-is) (going_same (l.at + 64) t.result l.invariant over w.if-t-gt0.false)
    ]

pub returns : goal.returns
returns c = c.loop-at.invariant
