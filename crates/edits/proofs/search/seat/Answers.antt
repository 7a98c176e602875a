use Rattle.edits.proofs.WalkLaws.{sought_bound, sought_least, seat_found, seat_far, seat_behind, seat_there}
use Rattle.edits.proofs.SearchLaws.{found_nowhere}
use native.Mathlib.Omega.{arith}
use Rattle.edits.proofs.search.seat.Goals as goal

pub walk-s-requires : goal.walk-s-requires
walk-s-requires c = let p = c.requires in
    let b = sought_bound _ _ c.sought-asked.ensures p.5 in
    omega arith

pub returns-then-s-asked : goal.returns-then-s-asked
returns-then-s-asked c = let a = c.args in
    let p = c.requires in
    let r = c.walk-s.ensures in
    let f = r.found c.if-s-asked.true in
    seat_there a.w.now a.start a.n a.depth a.code a.k _ p.2 (omega (arith, f.2, sought_least a.k _ c.sought-asked.ensures)) (seat_found a.w.now a.start a.n a.depth a.code a.k _ _ _ c.sought-asked.ensures (omega arith) r.all c.if-s-asked.true f)

pub returns-then-s-k : goal.returns-then-s-k
returns-then-s-k c = let a = c.args in
    let ended = c.walk-s.ensures.ended c.if-s-asked.false in
    (found_nowhere _ _ (omega (arith, seat_far a.w.now a.start a.n a.depth a.code a.k _ ended.1 c.if-s-k.true)), tt)

pub behind_last-requires : goal.behind_last-requires
behind_last-requires c = let p = c.requires in
    let b = sought_bound _ _ c.sought-asked.ensures p.5 in
    let g = c.walk-s.ensures.goes c.if-s-asked.false in
    (omega arith, g.marked.within, omega (arith, g.few, g.less), omega arith, omega arith)

pub returns : goal.returns
returns c = let a = c.args in
    let r = c.walk-s.ensures in
    let left = c.if-s-asked.false in
    seat_there a.w.now a.start a.n a.depth a.code a.k _ c.requires.2 (omega (arith, (r.ended left).1, c.if-s-k.false)) (seat_behind a.k _ c.sought-asked.ensures (r.goes left) (r.ended left) c.if-s-k.false c.behind_last.ensures)
