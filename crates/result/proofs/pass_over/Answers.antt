use Rattle.std.proofs.lemmas.Result.{err_from_is_err_and}
use native.Mathlib.Omega.{arith}
use borrow.Author.Rules.{rules}
use Rattle.result.proofs.KindLaws.{kinds_start, kinds_within, kinds_spared, kinds_loose, kinds_next, kinds_over, kinds_again, loose_again}
use mathlib.Core.Path.{refl}
use Rattle.result.proofs.pass_over.Goals as goal

pub loop-q-init : goal.loop-q-init
loop-q-init c = (kinds_start _ _ _ _ _ _ _ _ c.requires.ready.3 _ _ (record { ready = c.requires.ready.0; laid = c.requires.ready.1; wide = c.requires.ready.2; sound = c.requires.ready.4; fine = c.requires.accepted.0; flags = c.requires.accepted.1; tied = c.requires.accepted.3 }), refl, refl)

pub walk_kind-requires : goal.walk_kind-requires
walk_kind-requires c = let k = c.loop-q.invariant.0 in (k.whole, omega (arith, c.loop-q-test.true), kinds_within _ _ _ _ _ _ _ _ _ _ _ _ _ k c.loop-q-test.true, c.requires.ready.5, k.reached, kinds_spared _ _ _ _ _ _ _ _ _ _ _ _ _ k _ c.requires.dry.0 c.requires.accepted.2, c.requires.dry.1)

pub returns-in_err-g : goal.returns-in_err-g
returns-in_err-g c =
    let p = err_from_is_err_and c.from_residual.result c.from_residual.ensures.1 in
    rw (p.1, p.2) (kinds_loose _ _ _ _ _ _ _ _ _ _ _ _ _ c.loop-q.invariant.0 c.loop-q-test.true _ _ _ c.walk_kind.ensures _ c.in_err-g.was, loose_again _ _ _ _)

pub loop-q-preserved : goal.loop-q-preserved
loop-q-preserved c = let k = c.walk_kind in let i = c.loop-q.invariant in (kinds_next _ _ _ _ _ _ _ _ _ _ _ _ _ i.0 c.loop-q-test.true _ _ _ k.ensures _ c.in_ok-g.was (search rules), omega (arith, i.1, k.auto.work), omega (arith, i.2, k.auto.out))

pub returns : goal.returns
returns c = (kinds_over _ _ _ _ _ _ _ _ _ _ _ _ _ c.loop-q.invariant.0 (omega (arith, c.loop-q-test.false)), kinds_again _ _ _ _ _ _ _ _ _ _ _ _ _ c.loop-q.invariant.0 _)
