use borrow.Author.Tests.{eq-eqb, ne_eqb}
use Rattle.emission.specs.Fields.{foid_size}
use native.Mathlib.Omega.{arith}
use Rattle.emission.proofs.measuring.foid_size.Goals as goal

pub returns-then-foids-eq0 : goal.returns-then-foids-eq0
unfolding foid_size
returns-then-foids-eq0 c = let e = eq-eqb c.args.foids 0 c.if-foids-eq0.true in (rw e, omega arith)

pub returns-else-foids-eq0 : goal.returns-else-foids-eq0
unfolding foid_size
returns-else-foids-eq0 c = let e = ne_eqb c.args.foids 0 c.if-foids-eq0.false in (rw e, omega arith)
