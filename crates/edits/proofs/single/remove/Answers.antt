use Prim.Native.Nat.{◌+◌}
use Rattle.edits.specs.Search.{gone_count, gone_out}
use Rattle.edits.proofs.SearchLaws.{end_bound}
use native.Mathlib.Omega.{arith}
use Rattle.edits.proofs.single.remove.Goals as goal

pub overflow_sub-j : goal.overflow_sub-j
overflow_sub-j c = omega (arith, c.run_end-j.ensures, end_bound c.args.w.now (c.args.i + 1) c.args.n (c.args.depth + 1) (omega arith))

pub overflow_mul-j : goal.overflow_mul-j
overflow_mul-j c = omega (arith, c.run_end-j.ensures, end_bound c.args.w.now (c.args.i + 1) c.args.n (c.args.depth + 1) (omega arith))

pub close_gap-requires : goal.close_gap-requires
close_gap-requires c = omega (arith, c.run_end-j.ensures, end_bound c.args.w.now (c.args.i + 1) c.args.n (c.args.depth + 1) (omega arith))

pub overflow_sub-result : goal.overflow_sub-result
overflow_sub-result c = omega (arith, c.run_end-j.ensures, end_bound c.args.w.now (c.args.i + 1) c.args.n (c.args.depth + 1) (omega arith))

pub overflow_sub-result-2 : goal.overflow_sub-result-2
overflow_sub-result-2 c = omega (arith, c.run_end-j.ensures, end_bound c.args.w.now (c.args.i + 1) c.args.n (c.args.depth + 1) (omega arith))

pub returns : goal.returns
unfolding gone_count gone_out
returns c = (rw (← c.run_end-j.ensures), rw (← c.run_end-j.ensures) c.close_gap.ensures.1)
