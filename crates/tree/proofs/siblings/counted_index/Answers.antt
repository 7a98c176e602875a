use Rattle.tree.proofs.TestLaws.{asked, due_asked, due_unasked}
use Rattle.tree.proofs.KnownLaws.{due_new, due_top, due_counted}
use Rattle.tree.proofs.CountLaws.{count_within}
use native.Mathlib.Omega.{arith}
use mathlib.Core.Path.{ap}
use mathlib.Core.Bool.{not}
use Rattle.tree.proofs.siblings.counted_index.Goals as goal

pub returns-then-not-whole : goal.returns-then-not-whole
returns-then-not-whole c = due_unasked _ _ (ap not c.if-not-whole.true)

pub returns-then-code-top : goal.returns-then-code-top
returns-then-code-top c = let w = asked _ (ap not c.if-not-whole.false) in due_asked _ _ w _ (due_new _ _ _ _ _ _ (c.requires.5 w) c.if-code-top.true)

pub overflow_add-result : goal.overflow_add-result
overflow_add-result c = omega (arith, c.requires.3, (c.requires.5 (asked _ (ap not c.if-not-whole.false))).some, count_within c.args.b.now 0 c.args.at c.args.top c.args.parent)

pub returns-then-top-code : goal.returns-then-top-code
returns-then-top-code c = let w = asked _ (ap not c.if-not-whole.false) in due_asked _ _ w _ (due_top _ _ _ _ _ _ (c.requires.5 w) c.if-top-code.true)

pub returns : goal.returns
returns c = due_asked _ _ (asked _ (ap not c.if-not-whole.false)) _ (due_counted _ _ _ _ _ _ c.twins.ensures.0 c.requires.1 c.requires.2 c.requires.4)
