-- `write_version` meets its contract. Assumes nothing.
use native.Mathlib.Omega.{arith}
use Rattle.emission.proofs.SizeLaws.{held_measured}
use Rattle.emission.proofs.RecordLaws.{version_room, version_written}
use Rattle.emission.proofs.writer.write_version.Goals as goal

pub measure-m-requires : goal.measure-m-requires
measure-m-requires c = tt

pub put_record-requires : goal.put_record-requires
put_record-requires c = version_room c.args.d.now c.args.u.now c.args.work.now c.args.v c.requires.d_len_bound (λ k. omega (arith, c.type_inv.work k)) _ (held_measured _ _ _ _ c.requires.d_len_bound c.requires.held.0 c.requires.held.1 _ c.measure-m.ensures) c.args.at c.args.out.now c.requires.held.0 c.requires.held.1 _ _ _ c.list_of.ensures c.inas_of.ensures c.spas_of.ensures c.requires.held.2

pub returns : goal.returns
returns c = λ r h. version_written c.args.d.now c.args.u.now c.args.work.now c.args.v c.requires.d_len_bound (λ k. omega (arith, c.type_inv.work k)) _ (held_measured _ _ _ _ c.requires.d_len_bound c.requires.held.0 c.requires.held.1 _ c.measure-m.ensures) c.args.at c.args.out.now r h _ _ _ c.list_of.ensures c.inas_of.ensures c.spas_of.ensures _ _ c.put_record.ensures
