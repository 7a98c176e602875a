use mathlib.Core.Path.{◌≡◌, refl, subst}
use Prim.Native.Nat.{ℕ, ◌+◌, ◌≤◌, ◌<◌}
use Rattle.items.specs.Items.{depth_of}
use Rattle.edits.specs.Walks.{Passed, Walked}
use Rattle.edits.proofs.WalkLaws.{passed_item, going_same, going_mark, going_found, going_out, going_end, walked_ended}
use native.Mathlib.Omega.{arith}
use Rattle.edits.proofs.walking.walk.Goals as goal
use Rattle.edits.proofs.walking.walk.Goals.{then-t-gt0, else-t-gt0}

pub past_blocks-b-requires : goal.past_blocks-b-requires
past_blocks-b-requires c = omega arith

pub loop-at-init : goal.loop-at-init
loop-at-init c = c.past_blocks-b.ensures

pub overflow_mul-at : goal.overflow_mul-at
overflow_mul-at c = omega arith

pub number-requires : goal.number-requires
number-requires c = omega arith

pub returns-then-number-depth : goal.returns-then-number-depth
returns-then-number-depth c = let a = c.args in
    let l = c.loop-at in
    let out : depth_of a.w.now l.at < a.depth = omega (arith, c.number.ensures.0) in
    walked_ended _ l.invariant (going_out l.invariant (omega arith) out)

pub twin-t-requires : goal.twin-t-requires
twin-t-requires c = omega arith

pub overflow_add-count : goal.overflow_add-count
overflow_add-count c = omega arith

pub returns-then-count-t : goal.returns-then-count-t
returns-then-count-t c = let a = c.args in
    let l = c.loop-at in
    let in-run : a.depth ≤ depth_of a.w.now l.at = omega (arith, c.number.ensures.0) in
    let t = c.twin-t.ensures.0 in
    let found = going_found l.invariant (omega arith) in-run (rw (← t) c.if-count-t.true) in
    record { most = omega arith; all = found.2; found = λ e. (found.0, omega arith, found.1); ended = λ ne. absurd (ne refl); goes = λ ne. absurd (ne refl) }

pub overflow_add-count-in-loop-at : goal.overflow_add-count-in-loop-at
overflow_add-count-in-loop-at c = omega arith

pub loop-at-preserved : goal.loop-at-preserved
loop-at-preserved c = let a = c.args in
    let l = c.loop-at in
    let t = c.twin-t in
    let in-run : a.depth ≤ depth_of a.w.now l.at = omega (arith, c.number.ensures.0) in
    let item = passed_item a.w.now a.n a.depth a.code l.at (omega arith) in-run in
    let over : Passed a.w.now a.n a.depth a.code l.at (l.at + 1) t.result = rw t.ensures.0 item in
    let less : l.count + t.result < a.k = omega (arith, c.if-count-t.false, t.ensures.1, l.invariant.less) in
    elim c.if-t-gt0.branch [
      | then-t-gt0 w ↦ rw (w.mark-is, w.nth-is) (going_mark (l.at + 1) t.result l.invariant over w.if-t-gt0.true less)
      | else-t-gt0 w ↦ rw (w.mark-is, w.nth-is) (going_same (l.at + 1) t.result l.invariant over w.if-t-gt0.false)
    ]

pub returns : goal.returns
returns c = let a = c.args in
    let l = c.loop-at in
    let e : l.at ≡ a.n = omega (arith, l.invariant.passed.within) in
    subst (λ (x : ℕ). Walked a.w.now a.n a.depth a.code a.start a.k (record { at = x; count = l.count; mark = l.mark; nth = l.nth })) e
    (walked_ended _ l.invariant (going_end l.invariant c.loop-at-test.false))
