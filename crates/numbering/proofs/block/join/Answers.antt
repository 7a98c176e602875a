use native.Mathlib.Omega.{arith}
use Rattle.tree.proofs.TestLaws.{unasked}
use Rattle.numbering.proofs.BlockLaws.{tally_few, join_counted, join_stray, join_looked}
use mathlib.Core.Path.{ap}
use mathlib.Core.Bool.{not}
use Rattle.numbering.proofs.block.join.Goals as goal

pub overflow_cast-t : goal.overflow_cast-t
overflow_cast-t c = let k = c.key_at-key.ensures in
    let j = c.page-j.ensures.0 in
    omega (arith, tally_few _ _ _ _ c.requires.counted.2 _ c.requires.counted.0 _ k.0 k.1 k.2 _ j c.if-b-j.true _ c.from-twins.ensures)

pub returns-then-b-j : goal.returns-then-b-j
returns-then-b-j c = let k = c.key_at-key.ensures in
    let j = c.page-j.ensures.0 in
    join_counted _ _ _ _ c.requires.counted.2 _ c.requires.counted.0 _ k.0 k.1 k.2 _ j c.if-b-j.true _ c.from-twins.ensures _ (omega (arith, c.page-j.ensures.1))

pub returns-then-not-asked : goal.returns-then-not-asked
returns-then-not-asked c = let k = c.key_at-key.ensures in
    let j = c.page-j.ensures.0 in
    join_stray _ _ _ _ c.requires.counted.2 _ c.requires.counted.0 _ k.0 k.1 k.2 _ j _ c.if-b-j.false (λ a. unasked _ (ap not c.if-not-asked.true) a)

pub returns : goal.returns
returns c = let k = c.key_at-key.ensures in
    let j = c.page-j.ensures.0 in
    join_looked _ _ _ _ c.requires.counted.2 _ c.requires.counted.0 _ k.0 k.1 k.2 _ j _ c.if-b-j.false _ _ _ c.number-depth.ensures.0 c.number-code.ensures.0 c.twins_before.ensures.0
