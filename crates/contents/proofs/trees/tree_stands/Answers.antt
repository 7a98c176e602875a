use Rattle.contents.proofs.TreeLaws.{tree_ways}
use Rattle.contents.proofs.trees.tree_stands.Goals as goal

pub attr_tree-requires : goal.attr_tree-requires
attr_tree-requires c = search tree_ways

pub returns-then-new : goal.returns-then-new
returns-then-new c = search tree_ways

pub attr_acts-requires : goal.attr_acts-requires
attr_acts-requires c = search tree_ways

pub returns-else-new : goal.returns-else-new
returns-else-new c = search tree_ways

pub inas_tree-requires : goal.inas_tree-requires
inas_tree-requires c = search tree_ways

pub returns-then-tag-eq-INAS : goal.returns-then-tag-eq-INAS
returns-then-tag-eq-INAS c = search tree_ways

pub returns : goal.returns
returns c = search tree_ways
