use Rattle.contents.proofs.TreeLaws.{trees_turn}
use Rattle.contents.proofs.trees.trees_stand.Goals as goal

pub tree_stands-requires : goal.tree_stands-requires
tree_stands-requires c = search trees_turn

pub returns-in-Err : goal.returns-in-Err
returns-in-Err c = search trees_turn

pub overflow_add-i : goal.overflow_add-i
overflow_add-i c = search trees_turn

pub loop-field-smaller : goal.loop-field-smaller
loop-field-smaller c = search trees_turn

pub loop-field-preserved : goal.loop-field-preserved
loop-field-preserved c = search trees_turn

pub returns : goal.returns
returns c = search trees_turn
