use Rattle.lasting.proofs.WholeLaws.{whole_noted}
use Rattle.lasting.proofs.OldLaws.{old_other, old_same, old_gone, old_played}
use Rattle.keys.specs.Places.{here}
use mathlib.Core.Path.{sym, ◌∙◌}
use mathlib.Core.Path.{ap}
use mathlib.Core.Bool.{not}
use Rattle.lasting.proofs.old.make_old.Goals as goal

pub returns-then-key-q : goal.returns-then-key-q
returns-then-key-q c = old_other _ _ _ _ _ _ _ c.args.work.now c.requires.0 _ _ _ _ c.requires.1 _ _ _ _ c.if-key-q.true

pub untouched-requires : goal.untouched-requires
untouched-requires c = ((_, _, _, c.requires.0), (_, c.requires.1), c.requires.2, c.requires.3)

pub returns-then-not-flagged : goal.returns-then-not-flagged
returns-then-not-flagged c = old_same _ _ _ _ _ _ _ c.args.work.now c.requires.0 _ _ _ _ c.requires.1 _ _ _ _ c.if-key-q.false _ _ _ c.flagged.ensures (ap not c.if-not-flagged.true) c.untouched.ensures

pub deleted-requires : goal.deleted-requires
deleted-requires c = (whole_noted _ _ _ _ _ _ _ _ c.requires.0 _ _ c.requires.3, here)

pub returns-then-deleted : goal.returns-then-deleted
returns-then-deleted c = old_gone _ _ _ _ _ _ _ c.args.work.now c.requires.0 _ _ _ _ c.requires.1 _ _ _ _ _ c.deleted.ensures c.if-deleted.true

pub played-requires : goal.played-requires
played-requires c = (c.requires.0, (_, _, c.requires.1), c.requires.2, sym c.deleted.ensures ∙ c.if-deleted.false, c.requires.3)

pub returns : goal.returns
returns c = old_played _ _ _ _ _ _ _ c.args.work.now c.requires.0 _ _ _ _ c.requires.1 _ _ _ _ c.if-key-q.false _ _ c.played.new.work c.played.ensures
