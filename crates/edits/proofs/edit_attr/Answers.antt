use Rattle.std.proofs.lemmas.Result.{err_from_is_err_and}
use Rattle.edits.proofs.LinkLaws.{acts_tuples, applied_no, applied_done}
use native.Mathlib.Omega.{arith}
use Rattle.edits.proofs.edit_attr.Goals as goal

pub acts-requires : goal.acts-requires
acts-requires c = let p = c.requires in
    (acts_tuples _ _ _ p.0 p.1 p.5, p.1, p.2, omega arith, omega arith, omega arith, p.3, p.4)

pub returns-in_err-m : goal.returns-in_err-m
returns-in_err-m c =
    let p = err_from_is_err_and c.from_residual.result c.from_residual.ensures.1 in
    rw (p.1, p.2) (applied_no _ _ _ c.requires.0 c.requires.1 c.requires.5 c.requires.6 _ _ _ _ c.acts.ensures _ c.in_err-m.was)

pub returns : goal.returns
returns c = applied_done _ _ _ c.requires.0 c.requires.1 c.requires.5 c.requires.6 _ _ _ _ c.acts.ensures _ c.in_ok-m.was
