-- `change` meets its contract. Assumes nothing.
use Rattle.changing.proofs.ActLaws.{change_insert, change_delete, change_modify}
use mathlib.Core.Path.{refl}
use Prim.Native.Nat.{◌+◌}
use Rattle.skeleton.specs.Place.{between, fields_at}
use Rattle.changing.proofs.change.Goals as goal

pub read_ident-s-requires : goal.read_ident-s-requires
read_ident-s-requires c = (c.requires.at_value.0, c.requires.at_value.2, c.requires.h_value.0)

pub insert-requires : goal.insert-requires
insert-requires c = (record { there = c.requires.at_value.0; old = c.requires.at_value.1; new = c.requires.at_value.2; wide = c.requires.at_value.3; passed = c.requires.h_value.0 }, c.read_ident-s.ensures, c.if-s-eq1.true)

pub shape_of-work-then-s-eq1 : goal.shape_of-work-then-s-eq1
shape_of-work-then-s-eq1 c = c.insert.auto.work

pub returns-then-s-eq1 : goal.returns-then-s-eq1
returns-then-s-eq1 c = let i = c.read_ident-s in let l = c.insert in change_insert c.args.k (fields_at (between c.args.u.now c.args.at (c.args.at + c.args.len)) c.args.h 24) i.result i.ensures c.args.d.now c.args.u.now c.args.work.now l.new.work c.args.p l.result c.if-s-eq1.true l.ensures

pub returns-then-s-eq2 : goal.returns-then-s-eq2
returns-then-s-eq2 c = let i = c.read_ident-s in change_delete c.args.k (fields_at (between c.args.u.now c.args.at (c.args.at + c.args.len)) c.args.h 24) i.result i.ensures c.args.d.now c.args.u.now c.args.work.now c.args.work.now c.args.p c.delete.result c.if-s-eq2.true (λ o a. c.delete.ensures c.args.k (fields_at (between c.args.u.now c.args.at (c.args.at + c.args.len)) c.args.h 24) c.args.d.now c.args.u.now c.args.work.now o i.ensures a, refl)

pub modify-requires : goal.modify-requires
modify-requires c = record { given = (record { there = c.requires.at_value.0; old = c.requires.at_value.1; new = c.requires.at_value.2; wide = c.requires.at_value.3; passed = c.requires.h_value.0 }, c.read_ident-s.ensures, c.if-s-eq1.false, c.if-s-eq2.false); held_as = c.requires.h_value.1 }

pub shape_of-work : goal.shape_of-work
shape_of-work c = c.modify.auto.work

pub returns : goal.returns
returns c = let i = c.read_ident-s in let l = c.modify in change_modify c.args.k (fields_at (between c.args.u.now c.args.at (c.args.at + c.args.len)) c.args.h 24) i.result i.ensures c.args.d.now c.args.u.now c.args.work.now l.new.work c.args.p l.result c.if-s-eq1.false c.if-s-eq2.false l.ensures
