use Rattle.numbering.proofs.BlockLaws.{tallied_none}
use native.Mathlib.Omega.{arith}
use borrow.Author.Rules.{rules}
use Rattle.numbering.proofs.block.number_block.Goals as goal

pub gather-requires : goal.gather-requires
gather-requires c = (omega arith, omega arith, c.requires.4)

pub count_before-requires : goal.count_before-requires
count_before-requires c = (search rules, search rules, search rules, search rules, tallied_none _ _ 512)

pub number_items-requires : goal.number_items-requires
number_items-requires c = let counted = c.count_before.ensures in
    record { x_le_y = (omega arith, omega arith, omega arith, search rules, search rules, omega arith); tallied = (counted.0, counted.1) }

pub returns : goal.returns
returns c = c.number_items.ensures
