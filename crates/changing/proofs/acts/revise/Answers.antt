-- `revise` meets its contract. Assumes nothing.
use Prim.Native.Nat.{◌+◌}
use Rattle.skeleton.specs.Place.{between, fields_at}
use Rattle.std.proofs.lemmas.Result.{err_from_is_err_and}
use Rattle.changing.proofs.ActLaws.{still_wide}
use Rattle.changing.proofs.ReviseLaws.{revise_stops, revise_holds, revise_made}
use Rattle.changing.proofs.acts.revise.Goals as goal

pub act_fields-requires : goal.act_fields-requires
act_fields-requires c = (c.requires.modifies.2, c.requires.modifies.3, c.requires.modifies.0, c.requires.modifies.4, (c.requires.held.0.parts, c.requires.held.1.parts), c.requires.modifies.1)

pub fits-requires : goal.fits-requires
fits-requires c = let l = c.act_fields in record { sizes = (c.requires.modifies.1, c.requires.modifies.2, still_wide c.args.work.now l.new.work l.auto.work c.requires.modifies.3); held = revise_holds c.args.d.now c.args.u.now c.args.work.now c.args.v (fields_at (between c.args.u.now c.args.at (c.args.at + c.args.len)) c.args.h 24) l.new.work l.result l.ensures _ c.in_ok-e.was c.args.rver c.requires.held }

pub returns-in_err-e : goal.returns-in_err-e
returns-in_err-e c =
    let p = err_from_is_err_and c.from_residual.result c.from_residual.ensures.1 in
    let l = c.act_fields in
    rw (p.1, p.2) (revise_stops c.args.d.now c.args.u.now c.args.work.now c.args.v (fields_at (between c.args.u.now c.args.at (c.args.at + c.args.len)) c.args.h 24) l.new.work l.result l.ensures _ c.in_err-e.was c.args.rver)

pub returns : goal.returns
returns c = let l = c.act_fields in revise_made c.args.d.now c.args.u.now c.args.work.now c.args.v (fields_at (between c.args.u.now c.args.at (c.args.at + c.args.len)) c.args.h 24) l.new.work l.result l.ensures _ c.in_ok-e.was c.args.rver c.fits.result c.fits.ensures
