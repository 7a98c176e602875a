-- `prepare` meets its contract. Assumes nothing.
use Rattle.updater.proofs.StageLaws.{built_as, is_tested, unwritable}
use native.Mathlib.Omega.{arith}
use Rattle.updater.proofs.prepare.Goals as goal

pub proceed-requires : goal.proceed-requires
proceed-requires c = (is_tested _ c.requires.0 (λ k. omega (arith, c.type_inv.f k)) _ c.measure.ensures _ c.in-Ok.is, c.requires.1, c.requires.2)

pub returns-in-Err : goal.returns-in-Err
returns-in-Err c = built_as _ _ _ _ _ _ _ c.refused.ensures (unwritable _ c.requires.0 (λ k. omega (arith, c.type_inv.f k)) _ c.measure.ensures _ c.in-Err.is _ _ _ c.requires.2 c.requires.1 _)
