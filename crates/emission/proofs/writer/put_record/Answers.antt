use native.Mathlib.Omega.{arith}
use Rattle.emission.proofs.RecordLaws.{record_small, record_leader, record_words, record_directory, record_mark, record_contents, record_written}
use Rattle.emission.proofs.writer.put_record.Goals as goal

pub sum_up-s-requires : goal.sum_up-s-requires
sum_up-s-requires c = record_small c.args.d.now c.args.u.now c.args.list.now c.args.inas.now c.args.spas.now c.args.v c.args.m c.args.at c.args.out.now c.requires

pub overflow_mul-base : goal.overflow_mul-base
overflow_mul-base c = omega (arith, (record_words c.args.d.now c.args.u.now c.args.list.now c.args.inas.now c.args.spas.now c.args.v c.args.m c.args.at c.args.out.now c.requires _ c.sum_up-s.ensures).0)

pub overflow_add-base : goal.overflow_add-base
overflow_add-base c = omega (arith, (record_words c.args.d.now c.args.u.now c.args.list.now c.args.inas.now c.args.spas.now c.args.v c.args.m c.args.at c.args.out.now c.requires _ c.sum_up-s.ensures).1)

pub overflow_add-base-2 : goal.overflow_add-base-2
overflow_add-base-2 c = omega (arith, (record_words c.args.d.now c.args.u.now c.args.list.now c.args.inas.now c.args.spas.now c.args.v c.args.m c.args.at c.args.out.now c.requires _ c.sum_up-s.ensures).2)

pub put_leader-p1-requires : goal.put_leader-p1-requires
put_leader-p1-requires c = record_leader c.args.d.now c.args.u.now c.args.list.now c.args.inas.now c.args.spas.now c.args.v c.args.m c.args.at c.args.out.now c.requires

pub put_directory-p2-requires : goal.put_directory-p2-requires
put_directory-p2-requires c = record_directory c.args.d.now c.args.u.now c.args.list.now c.args.inas.now c.args.spas.now c.args.v c.args.m c.args.at c.args.out.now c.requires _ c.sum_up-s.ensures _ _ c.put_leader-p1.ensures

pub put_byte-p3-requires : goal.put_byte-p3-requires
put_byte-p3-requires c = record_mark c.args.d.now c.args.u.now c.args.list.now c.args.inas.now c.args.spas.now c.args.v c.args.m c.args.at c.args.out.now c.requires _ c.sum_up-s.ensures _ _ c.put_leader-p1.ensures _ _ c.put_directory-p2.ensures c.put_directory-p2.auto.out

pub put_contents-requires : goal.put_contents-requires
put_contents-requires c = let g = record_contents c.args.d.now c.args.u.now c.args.list.now c.args.inas.now c.args.spas.now c.args.v c.args.m c.args.at c.args.out.now c.requires _ c.sum_up-s.ensures _ _ c.put_leader-p1.ensures _ _ c.put_directory-p2.ensures c.put_directory-p2.auto.out _ _ c.put_byte-p3.ensures in record { indexed = g.0; room = g.1 }

pub returns : goal.returns
returns c = record_written c.args.d.now c.args.u.now c.args.list.now c.args.inas.now c.args.spas.now c.args.v c.args.m c.args.at c.args.out.now c.requires _ c.sum_up-s.ensures _ _ c.put_leader-p1.ensures _ _ c.put_directory-p2.ensures c.put_directory-p2.auto.out _ _ c.put_byte-p3.ensures _ _ c.put_contents.ensures
