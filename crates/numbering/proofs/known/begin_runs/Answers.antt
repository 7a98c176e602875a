use lib.ListN.{length-set}
use Rattle.numbering.proofs.KnownLaws.{runs_ways}
use native.Mathlib.Omega.{arith}
use Rattle.numbering.proofs.known.begin_runs.Goals as goal

pub loop-d-init : goal.loop-d-init
loop-d-init c = search runs_ways

pub overflow_add-known : goal.overflow_add-known
overflow_add-known c = search runs_ways

pub overflow_mul-known : goal.overflow_mul-known
overflow_mul-known c = search runs_ways

pub offset_bounds-known-d : goal.offset_bounds-known-d
offset_bounds-known-d c = search runs_ways

pub bounds-known-d : goal.bounds-known-d
bounds-known-d c = search runs_ways

pub overflow_mul-known-in-loop-d : goal.overflow_mul-known-in-loop-d
overflow_mul-known-in-loop-d c = search runs_ways

pub overflow_add-known-in-loop-d : goal.overflow_add-known-in-loop-d
overflow_add-known-in-loop-d c = search runs_ways

pub offset_bounds-known-d-in-loop-d : goal.offset_bounds-known-d-in-loop-d
offset_bounds-known-d-in-loop-d c = search runs_ways

pub bounds-known-d-in-loop-d : goal.bounds-known-d-in-loop-d
bounds-known-d-in-loop-d c = simp length-set (omega arith)

pub loop-d-preserved : goal.loop-d-preserved
loop-d-preserved c = search runs_ways

pub shape_of-known : goal.shape_of-known
shape_of-known c = search runs_ways

pub returns : goal.returns
returns c = search runs_ways
