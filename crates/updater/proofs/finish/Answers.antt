use Rattle.updater.proofs.EntryLaws.{begun_ready, begun_small, begun_records, begun_ordered, begun_tied, finish_ways, short_acted, done_acted}
use native.Mathlib.Omega.{arith}
use Rattle.updater.proofs.finish.Goals as goal

pub compose-requires : goal.compose-requires
compose-requires c = let k = c.requires.begun.0 in
    record { ready = (begun_ready _ _ _ _ _ k, c.requires.begun.1, c.requires.begun.2, begun_small _ _ _ _ _ k, begun_records _ _ _ _ _ k (λ i. omega (arith, c.type_inv.f i)), begun_ordered _ _ _ _ _ k); accepted = (c.requires.accepted.0, c.requires.accepted.1, c.requires.accepted.2, begun_tied _ _ _ _ _ k) }

pub returns-then-made-gt16777216 : goal.returns-then-made-gt16777216
returns-then-made-gt16777216 c = search finish_ways

pub returns-then-out-made : goal.returns-then-out-made
returns-then-out-made c = let m = c.compose in short_acted _ _ _ _ _ c.requires.begun.0 _ c.requires.begun.2 c.requires.accepted.0 _ _ _ m.ensures _ c.in-Ok.is (omega (arith, c.if-made-gt16777216.false)) (omega (arith, c.if-out-made.true, m.auto.out)) _ c.refused-then-out-made.ensures

pub overflow_add-count : goal.overflow_add-count
overflow_add-count c = search finish_ways

pub returns-in-Err : goal.returns-in-Err
returns-in-Err c = search finish_ways

pub returns : goal.returns
returns c = let m = c.compose in rw c.done.ensures (done_acted _ _ _ _ _ c.requires.begun.0 _ c.requires.begun.2 c.requires.accepted.0 _ _ _ m.ensures _ c.in-Ok.is (omega (arith, c.if-made-gt16777216.false)) (omega (arith, c.if-out-made.false, m.auto.out)))
