use Rattle.result.proofs.KindLaws.{Kinds}
use mathlib.Core.Path.{◌≡◌}
use lib.ListN.{length}
use Rattle.result.proofs.pass_over.Given as goal

abbrev pub invariant-loop-q : goal.invariant-loop-q
invariant-loop-q l = Kinds l.d l.ds l.u l.us l.t l.n l.map l.q l.g l.at l.initial.out l.work l.out × (length l.work ≡ length l.initial.work) × (length l.out ≡ length l.initial.out)
