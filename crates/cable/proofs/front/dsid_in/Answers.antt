-- `dsid_in` meets its contract. Assumes nothing.
use Rattle.std.proofs.lemmas.Result.{err_from_is_err_and}
use Rattle.cable.proofs.FrontLaws.{front_shut, front_there}
use Rattle.cable.proofs.front.dsid_in.Goals as goal

pub returns-in_err-first_two : goal.returns-in_err-first_two
returns-in_err-first_two c = let p = err_from_is_err_and c.from_residual.result c.from_residual.ensures.1 in
    rw (p.1, p.2) (front_shut _ _ _ c.first_two.ensures _ c.in_err-first_two.was)

pub returns : goal.returns
returns c = front_there _ _ _ c.first_two.ensures _ c.in_ok-first_two.was _ c.glanced.ensures _ _ c.ok_or.ensures.value
