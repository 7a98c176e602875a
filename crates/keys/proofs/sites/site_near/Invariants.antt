use Rattle.keys.specs.Table.{Tail}
use Rattle.keys.proofs.sites.site_near.Given as goal

abbrev pub invariant-loop : goal.invariant-loop
invariant-loop l = Tail l.f l.start l.p
