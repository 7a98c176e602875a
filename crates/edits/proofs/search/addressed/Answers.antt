use Rattle.edits.proofs.SearchLaws.{place_within, place_zero, found_nowhere}
use native.Mathlib.Omega.{arith}
use Rattle.edits.proofs.search.addressed.Goals as goal

pub returns-then-k-eq0 : goal.returns-then-k-eq0
returns-then-k-eq0 c =
    let z = place_zero c.args.w.now c.args.start c.args.n c.args.depth c.number-code.result c.number-k.result c.if-k-eq0.true in
    (rw (← c.number-k.ensures.0, ← c.number-code.ensures.0) (found_nowhere _ _ (omega (arith, z))), tt)

pub returns : goal.returns
returns c = place_within _ _ _ _ _ _ _ c.requires.2 (rw (← c.number-k.ensures.0, ← c.number-code.ensures.0) c.locate.ensures)
