-- `load_record` meets its contract. Assumes nothing.
use Rattle.loading.proofs.RecordLaws.{record_inside, record_bounded, record_some, ident_ready, later_ready, record_held, record_word}
use native.Mathlib.Omega.{arith}
use Rattle.loading.proofs.record.load_record.Goals as goal

pub overflow_add-r : goal.overflow_add-r
overflow_add-r c = omega (arith, record_word c.args.b.now c.args.at c.args.len c.args.h c.args.k c.args.work.now c.requires)

pub slice_bounds-r-end : goal.slice_bounds-r-end
slice_bounds-r-end c = record_inside _ _ _ _ _ c.args.work.now c.requires

pub place_at-requires : goal.place_at-requires
place_at-requires c = record_bounded _ _ _ _ _ c.args.work.now c.requires

pub unreachable-requires : goal.unreachable-requires
unreachable-requires c = record_some _ _ _ _ _ c.args.work.now c.requires (λ i. omega (arith, c.type_inv.b i)) _ c.place_at.ensures c.in_default.is

pub open_version-v-requires : goal.open_version-v-requires
open_version-v-requires c = ident_ready c.args.b.now c.args.at c.args.len c.args.h c.args.k c.args.work.now c.requires (λ i. omega (arith, c.type_inv.b i)) c.place_at.result c.place_at.ensures _ c.in-Some.is

pub load_fields-requires : goal.load_fields-requires
load_fields-requires c = (record_bounded c.args.b.now c.args.at c.args.len c.args.h c.args.k c.args.work.now c.requires, later_ready c.args.b.now c.args.at c.args.len c.args.h c.args.k c.args.work.now c.requires (λ i. omega (arith, c.type_inv.b i)) c.place_at.result c.place_at.ensures _ c.in-Some.is c.open_version-v.result c.open_version-v.ensures)

pub returns : goal.returns
returns c = let l = c.load_fields in record_held c.args.b.now c.args.at c.args.len c.args.h c.args.k c.args.work.now c.requires (λ i. omega (arith, c.type_inv.b i)) c.place_at.result c.place_at.ensures _ c.in-Some.is c.open_version-v.result c.open_version-v.ensures c.args.x l.new.work l.result l.ensures
