use Rattle.tree.proofs.TestLaws.{due_sure}
use Rattle.tree.proofs.DueLaws.{code_within, tuple_within, own_due}
use native.Mathlib.Omega.{arith}
use Rattle.tree.proofs.siblings.due_index.Goals as goal

pub number-requires : goal.number-requires
number-requires c = omega (arith, tuple_within c.args.b.now c.args.at c.requires.standing.0 c.requires.running.3)

pub returns-then-sure : goal.returns-then-sure
returns-then-sure c = let sure = c.if-sure.true in
    due_sure _ _ _ sure _ (own_due _ _ _ _ c.requires.standing.1 c.requires.running.3 c.requires.standing.2 (c.requires.standing.3 sure) c.number.ensures)

pub number-code-requires : goal.number-code-requires
number-code-requires c = code_within c.args.b.now c.args.at c.requires.standing.0 c.requires.running.3
