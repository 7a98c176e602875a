-- `modify` meets its contract. Assumes nothing.
use Rattle.changing.proofs.PassedLaws.{passed_foids}
use Rattle.changing.proofs.ActLaws.{modify_absent, modify_not, modify_other, modify_made}
use Rattle.changing.proofs.ReviseLaws.{modify_held, modify_right, modify_modifies, modify_small}
use Prim.Native.Nat.{◌+◌}
use Rattle.skeleton.specs.Place.{between, fields_at}
use Rattle.changing.proofs.acts.modify.Goals as goal

pub other_foid-requires : goal.other_foid-requires
other_foid-requires c = let g = c.requires.given.0 in (g.there, g.old, g.new, passed_foids c.args.k (fields_at (between c.args.u.now c.args.at (c.args.at + c.args.len)) c.args.h 24) g.passed, modify_right c.args.d.now c.args.u.now c.args.work.now c.args.at c.args.len c.args.h c.args.k c.args.s c.args.p _ c.requires.given c.requires.held_as c.in-Some.is)

pub returns-in-Some-other_foid : goal.returns-in-Some-other_foid
returns-in-Some-other_foid c = modify_other c.args.k (fields_at (between c.args.u.now c.args.at (c.args.at + c.args.len)) c.args.h 24) c.args.s c.requires.given.1 c.args.d.now c.args.u.now c.args.work.now c.args.p _ c.in-Some.is c.follows.result c.follows.ensures c.if-not-follows.false c.other_foid.result c.other_foid.ensures _ c.in-Some-other_foid.is

pub revise-requires : goal.revise-requires
revise-requires c = let g = c.requires.given.0 in let e = c.in-Some.is in record { modifies = (modify_modifies c.args.d.now c.args.u.now c.args.work.now c.args.at c.args.len c.args.h c.args.k c.args.s c.args.p _ c.requires.given c.requires.held_as e, g.old, g.new, g.wide, modify_small c.args.d.now c.args.u.now c.args.work.now c.args.at c.args.len c.args.h c.args.k c.args.s c.args.p _ c.requires.given c.requires.held_as e); held = modify_held c.args.d.now c.args.u.now c.args.work.now c.args.at c.args.len c.args.h c.args.k c.args.s c.args.p _ c.requires.given c.requires.held_as e }

pub returns : goal.returns
returns c = let l = c.revise in modify_made c.args.k (fields_at (between c.args.u.now c.args.at (c.args.at + c.args.len)) c.args.h 24) c.args.s c.requires.given.1 c.args.d.now c.args.u.now c.args.work.now c.args.p _ c.in-Some.is c.follows.result c.follows.ensures c.if-not-follows.false c.other_foid.result c.other_foid.ensures c.in_default-other_foid.is l.new.work l.result l.ensures

pub returns-in_default : goal.returns-in_default
returns-in_default c = modify_absent c.args.k (fields_at (between c.args.u.now c.args.at (c.args.at + c.args.len)) c.args.h 24) c.args.s c.requires.given.1 c.args.d.now c.args.u.now c.args.work.now c.args.p c.in_default.is

pub returns-then-not-follows : goal.returns-then-not-follows
returns-then-not-follows c = modify_not c.args.k (fields_at (between c.args.u.now c.args.at (c.args.at + c.args.len)) c.args.h 24) c.args.s c.requires.given.1 c.args.d.now c.args.u.now c.args.work.now c.args.p _ c.in-Some.is c.follows.result c.follows.ensures c.if-not-follows.true
