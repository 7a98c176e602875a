use Rattle.numbering.proofs.EmittingLaws.{emit_start, emit_long, block_room, block_turn, emit_all}
use borrow.Author.Rules.{rules}
use native.Mathlib.Omega.{arith}
use Rattle.numbering.proofs.emitting.emit_blocks.Goals as goal

pub loop-i-init : goal.loop-i-init
loop-i-init c = (emit_start _ _ _ _ _ _ _ c.requires.x_le_n.0, c.know_parents.ensures, search rules, search rules)

pub number_block-requires : goal.number_block-requires
number_block-requires c = (omega arith, omega arith, omega arith, omega arith, c.loop-i.invariant.1)

pub emit_numbered-p-requires : goal.emit_numbered-p-requires
emit_numbered-p-requires c = record { x_le_y = (omega arith, omega arith, omega arith, omega arith, c.number_block.ensures.0); room = block_room _ _ _ _ _ _ _ _ _ _ c.loop-i.invariant.0 _ (omega arith) (omega arith) c.requires.room }

pub loop-i-preserved : goal.loop-i-preserved
loop-i-preserved c = (block_turn _ _ _ _ _ _ _ _ _ _ c.loop-i.invariant.0 _ (omega arith) (omega arith) _ _ c.emit_numbered-p.ensures, c.number_block.ensures.1, search rules, search rules)

pub shape_of-out : goal.shape_of-out
shape_of-out c = emit_long _ _ _ _ _ _ _ _ _ _ c.loop-i.invariant.0

pub returns : goal.returns
returns c = emit_all _ _ _ _ _ _ _ _ _ _ c.loop-i.invariant.0 c.loop-i-test.false
