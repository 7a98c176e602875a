use Rattle.tree.proofs.DueLaws.{on_above, gather_turn}
use borrow.Author.Rules.{rules}
use native.Mathlib.Omega.{arith}
use Rattle.tree.proofs.due.gather.Goals as goal

pub key_at-requires : goal.key_at-requires
key_at-requires c = search gather_turn

pub loop-at-smaller : goal.loop-at-smaller
loop-at-smaller c = search gather_turn

pub loop-at-preserved : goal.loop-at-preserved
loop-at-preserved c = (search rules, search gather_turn, omega (arith, on_above _ _ _ c.behind-at.ensures), λ z. absurd (omega arith), omega arith)
