use borrow.Author.Rules.{rules}
use Rattle.std.proofs.lemmas.Result.{err_from_is_err_and}
use Rattle.incoming.proofs.ComingLaws.{at_broken, at_refused, at_passed, at_ways}
use Rattle.incoming.proofs.walk.check_at.Goals as goal

pub returns-in_err-head : goal.returns-in_err-head
returns-in_err-head c = at_broken _ _ c.requires.1 _ c.record_at.ensures _ c.in_err-head.was _ c.from_residual.ensures.1

pub overflow_add-e : goal.overflow_add-e
overflow_add-e c = search (rules, at_ways)

pub slice_bounds-check_record-end : goal.slice_bounds-check_record-end
slice_bounds-check_record-end c = search (rules, at_ways)

pub check_record-requires : goal.check_record-requires
check_record-requires c = search (rules, at_ways)

pub returns-in_err-check_record : goal.returns-in_err-check_record
returns-in_err-check_record c =
    let r = err_from_is_err_and c.from_residual-in_err-check_record.result c.from_residual-in_err-check_record.ensures.1 in
    rw (r.1, r.2) (at_refused _ _ c.requires.1 _ c.record_at.ensures _ c.in_ok-head.was _ c.check_record.ensures _ c.in_err-check_record.was)

pub returns : goal.returns
returns c = at_passed _ _ c.requires.1 _ c.record_at.ensures _ c.in_ok-head.was _ c.check_record.ensures _ c.in_ok-check_record.was
