-- `plain` meets its contract. Assumes nothing.
use borrow.Author.Rules.{rules}
use Rattle.rules.specs.Answers.{refusal}
use Rattle.month.proofs.turns.plain.Goals as goal

pub returns : goal.returns
unfolding refusal
returns c = search rules
