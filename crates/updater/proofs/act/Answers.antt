use Rattle.updater.proofs.EntryLaws.{begun_sound, begun_table, begun_ready, begun_sent, fine_finish, wrong_acted}
use Rattle.updater.proofs.ActLaws.{acted_sizes}
use lib.ListN.{length}
use borrow.Author.Rules.{rules}
use Rattle.updater.proofs.act.Goals as goal

pub spread-n-requires : goal.spread-n-requires
spread-n-requires c = (search rules, begun_sound c.args.f.now c.args.u.now c.args.ds c.args.us c.args.front c.requires.0, begun_table c.args.f.now c.args.u.now c.args.ds c.args.us c.args.front c.requires.0 4096)

pub lay_both-lim-requires : goal.lay_both-lim-requires
lay_both-lim-requires c = (begun_sound c.args.f.now c.args.u.now c.args.ds c.args.us c.args.front c.requires.0, begun_sent c.args.f.now c.args.u.now c.args.ds c.args.us c.args.front c.requires.0)

pub judge-requires : goal.judge-requires
judge-requires c = (begun_ready c.args.f.now c.args.u.now c.args.ds c.args.us c.args.front c.requires.0, c.spread-n.ensures, c.requires.1, c.lay_both-lim.ensures)

pub finish-requires : goal.finish-requires
finish-requires c = let p = c.spread-n in let y = c.lay_both-lim in let j = c.judge in let k = fine_finish c.args.f.now c.args.u.now c.args.ds c.args.us c.args.front c.requires.0 j.new.work j.result j.ensures c.in-Ok.is p.new.t p.result p.new.map p.ensures c.args.work.now j.auto.work c.requires.1 y.result y.new.out y.ensures in record { begun = k.0; accepted = k.1 }

pub returns-in-Ok : goal.returns-in-Ok
returns-in-Ok c = let y = c.lay_both-lim in let j = c.judge in let l = c.finish in acted_sizes c.args.f.now c.args.u.now c.args.ds c.args.us c.args.front (length y.new.out) (length j.new.work) (length c.args.out.now) (length c.args.work.now) l.result l.new.out l.ensures y.auto.out j.auto.work

pub returns-in-Err : goal.returns-in-Err
returns-in-Err c = let y = c.lay_both-lim in let j = c.judge in wrong_acted c.args.f.now c.args.u.now c.args.ds c.args.us c.args.front c.requires.0 j.new.work j.result j.ensures _ c.in-Err.is (length c.args.out.now) (length c.args.work.now) c.requires.1 y.new.out c.refused.result c.refused.ensures
