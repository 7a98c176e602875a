use Rattle.std.proofs.lemmas.Result.{err_from_is_err_and}
use Rattle.tree.proofs.VerdictLaws.{check_bad, check_left, check_none}
use Rattle.tree.proofs.KnownLaws.{known_first}
use Rattle.tree.proofs.CountLaws.{count_none}
use native.Mathlib.Omega.{arith}
use Rattle.tree.proofs.walk.check.Goals as goal

pub run-requires : goal.run-requires
run-requires c = (known_first _ c.requires, λ k. count_none _ 0 0 k 0 (omega arith), c.surely_due-sure.ensures)

pub returns-in_err-a : goal.returns-in_err-a
returns-in_err-a c =
    let p = err_from_is_err_and c.from_residual.result c.from_residual.ensures.1 in
    rw (p.1, p.2) (check_bad _ _ _ c.run.ensures _ c.in_err-a.was)

pub returns-then-a-b : goal.returns-then-a-b
returns-then-a-b c = check_left _ _ _ c.run.ensures _ _ c.in_ok-a.was c.if-a-b.true

pub returns-else-a-b : goal.returns-else-a-b
returns-else-a-b c = check_none _ _ _ c.run.ensures _ _ c.in_ok-a.was c.if-a-b.false
