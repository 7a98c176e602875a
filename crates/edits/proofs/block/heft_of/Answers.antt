use mathlib.Core.Path.{sym}
use Rattle.edits.proofs.WalkLaws.{label_low, heft_out, heft_twin, heft_other}
use native.Mathlib.Omega.{arith}
use Rattle.edits.proofs.block.heft_of.Goals as goal

pub returns-then-x-depth : goal.returns-then-x-depth
returns-then-x-depth c = let a = c.args in
    let l = c.label-x in
    let low = label_low a.w.now a.i l.result l.ensures.0 l.ensures.1 in
    (sym (heft_out a.w.now a.i a.depth a.code (omega (arith, c.if-x-depth.true))), omega arith)

pub returns-then-x-depth-2 : goal.returns-then-x-depth-2
returns-then-x-depth-2 c = let a = c.args in
    let l = c.label-x in
    let low = label_low a.w.now a.i l.result l.ensures.0 l.ensures.1 in
    (sym (heft_twin a.w.now a.i a.depth a.code l.result (omega (arith, c.if-x-depth.false)) l.ensures.1 c.requires.1 l.ensures.0 c.if-x-depth-2.true), omega arith)

pub returns : goal.returns
returns c = let a = c.args in
    let l = c.label-x in
    let low = label_low a.w.now a.i l.result l.ensures.0 l.ensures.1 in
    (sym (heft_other a.w.now a.i a.depth a.code l.result (omega (arith, c.if-x-depth.false)) l.ensures.0 c.if-x-depth-2.false), omega arith)
