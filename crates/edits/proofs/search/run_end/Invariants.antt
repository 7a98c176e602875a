use mathlib.Core.Path.{◌≡◌}
use Rattle.edits.specs.Search.{end_of}
use Rattle.edits.proofs.search.run_end.Given as goal

abbrev pub invariant-loop-i : goal.invariant-loop-i
invariant-loop-i l = end_of l.w l.i l.n l.depth ≡ end_of l.w l.start l.n l.depth
