use mathlib.Core.Path.{refl}
use Rattle.result.proofs.SideLaws.{here_old, here_new, put_old, put_new}
use Rattle.result.proofs.turn.make.Goals as goal

pub make_old-requires : goal.make_old-requires
make_old-requires c = (c.requires.0, here_old _ _ _ _ _ _ _ _ _ c.if-old.true c.requires.1, c.requires.2, c.spare-left.ensures.0 _ _ _ _ _ c.requires.3 refl)

pub returns-then-old : goal.returns-then-old
returns-then-old c = put_old _ _ _ _ _ _ _ _ _ _ _ c.spare-left.ensures.1 _ c.args.work.now _ c.make_old.new.work _ _ c.if-old.true c.make_old.ensures

pub make_new-requires : goal.make_new-requires
make_new-requires c = (c.requires.0, here_new _ _ _ _ _ _ _ _ _ c.if-old.false c.requires.1, c.requires.2, c.spare-left.ensures.0 _ _ _ _ _ c.requires.3 refl)

pub returns : goal.returns
returns c = put_new _ _ _ _ _ _ _ _ _ _ _ c.spare-left.ensures.1 _ c.args.work.now _ c.make_new.new.work _ _ c.if-old.false c.make_new.ensures
