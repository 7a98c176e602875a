use mathlib.Core.Path.{◌≡◌}
use Prim.Native.Nat.{◌+◌, ◌-◌}
use native.Mathlib.Nat.{add-zero}
use Rattle.edits.specs.Walks.{weight}
use Rattle.edits.proofs.WalkLaws.{weight_none, weight_more}
use native.Mathlib.Omega.{arith}
use Rattle.edits.proofs.block.weigh.Goals as goal

pub loop-k-init : goal.loop-k-init
loop-k-init c = let z : c.args.i + 0 ≡ c.args.i = add-zero _ in
    (rw z (omega arith), omega arith, omega arith)

pub loop-k-preserved : goal.loop-k-preserved
loop-k-preserved c = let a = c.args in
    let l = c.loop-k in
    let more = weight_more (64 - l.k) a.w.now (a.i + l.k) a.depth a.code (omega arith) in
    let p : a.i + l.k + 1 ≡ a.i + (l.k + 1) = omega arith in
    let q : 64 - l.k - 1 ≡ 64 - (l.k + 1) = omega arith in
    let next = rw (p, q) at more in
    (omega (arith, next, l.invariant.0, c.heft_of-sum.ensures.0), omega arith, omega arith)

pub returns : goal.returns
returns c = let a = c.args in
    let l = c.loop-k in
    let z : 64 - l.k ≡ 0 = omega arith in
    let none : weight (64 - l.k) a.w.now (a.i + l.k) a.depth a.code ≡ 0 = rw z (weight_none a.w.now (a.i + l.k) a.depth a.code) in
    (omega (arith, l.invariant.0, none), omega arith)
