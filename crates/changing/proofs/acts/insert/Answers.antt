-- `insert` meets its contract. Assumes nothing.
use Rattle.changing.proofs.ActLaws.{still_wide, source_new, some_there, none_there, insert_late, insert_present, insert_made}
use Rattle.changing.proofs.PassedLaws.{ruin_one}
use Prim.Native.Nat.{◌+◌}
use mathlib.Core.Path.{sym, ◌∙◌}
use Rattle.skeleton.specs.Place.{between, fields_at}
use Rattle.rules.specs.Record.{rec_of}
use Rattle.stock.specs.Stored.{inserted as inserts}
use Rattle.changing.proofs.acts.insert.Goals as goal

pub returns-then-s-ne1 : goal.returns-then-s-ne1
returns-then-s-ne1 c = insert_late c.args.k (fields_at (between c.args.u.now c.args.at (c.args.at + c.args.len)) c.args.h 24) c.args.s c.requires.1 c.args.d.now c.args.u.now c.args.work.now c.args.p (none_there _ (sym c.is_some.ensures ∙ c.if-is_some.false)) c.if-s-ne1.true

pub load_record-v-requires : goal.load_record-v-requires
load_record-v-requires c = let g = c.requires.0 in (g.there, g.new, g.wide, inserts g.passed (ruin_one c.args.k (fields_at (between c.args.u.now c.args.at (c.args.at + c.args.len)) c.args.h 24) g.passed c.args.s c.requires.1 c.requires.2))

pub fits-requires : goal.fits-requires
fits-requires c = let l = c.load_record-v in record { sizes = (c.requires.0.old, c.requires.0.new, still_wide c.args.work.now l.new.work l.auto.work c.requires.0.wide); held = (rec_of c.args.k (fields_at (between c.args.u.now c.args.at (c.args.at + c.args.len)) c.args.h 24), l.ensures.0 c.args.d.now c.args.u.now (source_new c.args.d.now c.args.u.now)) }

pub returns-then-is_some : goal.returns-then-is_some
returns-then-is_some c = let t = some_there c.args.p (sym c.is_some.ensures ∙ c.if-is_some.true) in insert_present c.args.k (fields_at (between c.args.u.now c.args.at (c.args.at + c.args.len)) c.args.h 24) c.args.s c.requires.1 c.args.d.now c.args.u.now c.args.work.now c.args.p t.0 t.1

pub returns : goal.returns
returns c = let l = c.load_record-v in insert_made c.args.k (fields_at (between c.args.u.now c.args.at (c.args.at + c.args.len)) c.args.h 24) c.args.s c.requires.1 c.args.d.now c.args.u.now c.args.work.now c.args.p (none_there _ (sym c.is_some.ensures ∙ c.if-is_some.false)) c.if-s-ne1.false l.new.work c.fits.result (c.fits.ensures (rec_of c.args.k (fields_at (between c.args.u.now c.args.at (c.args.at + c.args.len)) c.args.h 24)) (l.ensures.0 c.args.d.now c.args.u.now (source_new c.args.d.now c.args.u.now))) l.ensures.1
