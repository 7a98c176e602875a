-- `leader::begins` meets its contract. The invariant: the answer from here on is the answer asked for. Assumes nothing.
use mathlib.Core.Path.{refl}
use Rattle.skeleton.specs.Leader.{shaped_from}
use Rattle.skeleton.proofs.LeaderLaws.{shaped_turn}
use native.Mathlib.Omega.{arith}
use Rattle.skeleton.proofs.leader.begins.Goals as goal

pub loop-i-init : goal.loop-i-init
unfolding shaped_from
loop-i-init c = (omega arith, refl)

pub returns-then-not-suits : goal.returns-then-not-suits
returns-then-not-suits c = search shaped_turn

pub loop-i-preserved : goal.loop-i-preserved
loop-i-preserved c = search shaped_turn

pub returns : goal.returns
returns c = search shaped_turn
