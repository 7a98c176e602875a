use Rattle.std.proofs.lemmas.Result.{err_from_is_err_and}
use Rattle.skeleton.proofs.RecordLaws.{record_cut, record_shape, record_refused, record_good, record_bad}
use Rattle.skeleton.proofs.file.record_at.Goals as goal

pub slice_bounds-directory-end : goal.slice_bounds-directory-end
slice_bounds-directory-end c = record_cut c.args.f.now c.args.at _ c.leader.ensures _ c.in_ok-head.was

pub directory-requires : goal.directory-requires
directory-requires c = record_shape c.args.f.now c.args.at _ c.leader.ensures _ c.in_ok-head.was

pub returns-in_err-head : goal.returns-in_err-head
returns-in_err-head c =
    let p = err_from_is_err_and c.from_residual.result c.from_residual.ensures.1 in
    rw (p.1, p.2) (record_refused c.args.f.now c.args.at _ c.leader.ensures _ c.in_err-head.was)

pub returns-in_err-directory : goal.returns-in_err-directory
returns-in_err-directory c =
    let r = c.from_residual-in_err-directory in
    let p = err_from_is_err_and r.result r.ensures.1 in
    rw (p.1, p.2)
    (record_bad c.args.f.now c.args.at _ c.leader.ensures _ c.in_ok-head.was _ c.directory.ensures _ c.in_err-directory.was)

pub returns : goal.returns
returns c = record_good c.args.f.now c.args.at _ c.leader.ensures _ c.in_ok-head.was _ c.directory.ensures _ c.in_ok-directory.was
