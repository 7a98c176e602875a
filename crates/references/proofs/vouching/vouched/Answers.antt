use mathlib.Core.Bool.{true≢false}
use mathlib.Core.Path.{sym, ◌∙◌}
use borrow.Author.Tests.{le-ltb}
use Rattle.references.proofs.VouchLaws.{vouched_there}
use Rattle.references.proofs.vouching.vouched.Goals as goal
use Rattle.references.proofs.vouching.vouched.Goals.{then-j-gt0, else-j-gt0}

pub returns-then-j-k : goal.returns-then-j-k
returns-then-j-k c =
    elim c.if-j-gt0.branch [
      | then-j-gt0 w ↦ vouched_there _ _ _ _ c.requires _ _ c.spot-j.ensures w.if-j-gt0.true _ c.flag.ensures
      | else-j-gt0 w ↦ absurd (true≢false (sym c.if-j-k.true ∙ w.value-is ∙ le-ltb 0 _ w.if-j-gt0.false))
    ]
