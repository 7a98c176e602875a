use Rattle.std.proofs.lemmas.Result.{err_from_is_err_and}
use native.Mathlib.Omega.{arith}
use borrow.Author.Rules.{rules}
use Rattle.result.proofs.SideLaws.{walk_start, walk_within, walk_spared, walk_over, walk_loose, walk_less, walk_on, walk_stop}
use mathlib.Core.Path.{refl}
use Rattle.result.proofs.walk.walk.Goals as goal

pub loop-g-init : goal.loop-g-init
loop-g-init c = (walk_start _ _ _ _ _ _ _ _ _ _ c.requires.whole.2 _ _ c.requires.side.1 c.requires.whole.0, refl, refl)

pub turn-requires : goal.turn-requires
turn-requires c = let v = c.loop-g.invariant.0 in record { whole = (v.whole, c.requires.whole.1, walk_within _ _ _ _ _ _ _ _ _ _ c.requires.whole.2 _ _ _ _ _ v); side = (c.requires.side.0, v.onward.stands, c.loop-g-test.true, walk_spared _ _ _ _ _ _ _ _ _ _ c.requires.whole.2 _ _ _ _ _ v _ c.requires.side.2, c.requires.side.3) }

pub returns-in_err-h : goal.returns-in_err-h
returns-in_err-h c =
    let p = err_from_is_err_and c.from_residual.result c.from_residual.ensures.1 in
    rw (p.1, p.2) (walk_loose _ _ _ _ _ _ _ _ _ _ c.requires.whole.2 _ _ _ _ _ c.loop-g.invariant.0 _ _ _ c.turn.ensures _ c.in_err-h.was)

pub returns-then-h-g : goal.returns-then-h-g
returns-then-h-g c = walk_stop _ _ _ _ _ _ _ _ _ _ c.requires.whole.2 _ _ _ _ _ c.loop-g.invariant.0 _ _ _ c.turn.ensures _ c.in_ok-h.was c.if-h-g.true

pub loop-g-smaller : goal.loop-g-smaller
loop-g-smaller c = walk_less _ _ _ _ _ _ _ _ _ _ c.requires.whole.2 _ _ _ _ _ c.loop-g.invariant.0 _ _ _ c.turn.ensures _ c.in_ok-h.was _ c.requires.side.0 c.loop-g-test.true c.if-h-g.false

pub loop-g-preserved : goal.loop-g-preserved
loop-g-preserved c = (walk_on _ _ _ _ _ _ _ _ _ _ c.requires.whole.2 _ _ _ _ _ c.loop-g.invariant.0 _ _ _ c.turn.ensures _ c.in_ok-h.was (search rules), omega (arith, c.loop-g.invariant.1, c.turn.auto.work), omega (arith, c.loop-g.invariant.2, c.turn.auto.out))

pub returns : goal.returns
returns c = walk_over _ _ _ _ _ _ _ _ _ _ c.requires.whole.2 _ _ _ _ _ c.loop-g.invariant.0 _ c.requires.side.0 c.loop-g-test.false
