use Rattle.keys.proofs.PresentLaws.{Halving}
use Prim.Native.Nat.{◌-◌}
use Rattle.keys.proofs.sites.start_near.Given as goal

abbrev pub invariant-loop-lo : goal.invariant-loop-lo
invariant-loop-lo l = Halving l.f l.start l.t l.n l.key l.lo l.hi l.p

abbrev pub decreases-loop-lo : goal.decreases-loop-lo
decreases-loop-lo l = l.hi - l.lo
