use borrow.Author.Rules.{rules}
use Rattle.std.proofs.lemmas.Result.{err_from_is_err_and}
use Rattle.reader.proofs.ReaderLaws.{after_stopped, after_all_lem, after_eleven, after_ways}
use Rattle.reader.proofs.after_three.Goals as goal

pub later_records-requires : goal.later_records-requires
later_records-requires c = search (rules, after_ways)

pub returns-in_err-m : goal.returns-in_err-m
returns-in_err-m c =
    let r = err_from_is_err_and c.from_residual.result c.from_residual.ensures.1 in
    rw (r.1, r.2) (after_stopped _ c.requires.0 _ c.requires.1 _ c.later_records.ensures _ c.in_err-m.was)

pub loose-requires : goal.loose-requires
loose-requires c = search (rules, after_ways)

pub returns-in_err-loose : goal.returns-in_err-loose
returns-in_err-loose c =
    let r = err_from_is_err_and c.from_residual-in_err-loose.result c.from_residual-in_err-loose.ensures.1 in
    rw (r.1, r.2) (after_eleven _ c.requires.0 _ c.requires.1 _ c.later_records.ensures _ c.in_ok-m.was _ c.loose.ensures _ c.in_err-loose.was)

pub overflow_add-result : goal.overflow_add-result
overflow_add-result c = search (rules, after_ways)

pub returns : goal.returns
returns c = after_all_lem _ c.requires.0 _ c.requires.1 _ c.later_records.ensures _ c.in_ok-m.was _ c.loose.ensures c.in_ok-loose.was
