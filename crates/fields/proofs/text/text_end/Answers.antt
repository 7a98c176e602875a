use Rattle.fields.proofs.ByteLaws.{run_sep, text_turn}
use Rattle.fields.proofs.text.text_end.Goals as goal

pub returns-then-x-eq30 : goal.returns-then-x-eq30
returns-then-x-eq30 c = run_sep _ _ _ c.loop-i.invariant c.loop-i-test.true c.then-x-eq30.either

pub loop-i-preserved : goal.loop-i-preserved
loop-i-preserved c = search text_turn

pub returns : goal.returns
returns c = search text_turn
