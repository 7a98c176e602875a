use Rattle.std.proofs.Common.{◌≡◌, ◌-◌, ◌+◌}
use Rattle.fieldwise.proofs.InFileLaws.{search_turn}
use native.Mathlib.Omega.{arith}
use Rattle.fieldwise.proofs.file.field_of_record.Goals as goal

pub returns-then-file-at : goal.returns-then-file-at
returns-then-file-at c = search search_turn

pub returns-in_default : goal.returns-in_default
returns-in_default c = search search_turn

pub overflow_add-end : goal.overflow_add-end
overflow_add-end c = search search_turn

pub field_within-requires : goal.field_within-requires
field_within-requires c = search search_turn

pub returns-then-passed-m : goal.returns-then-passed-m
returns-then-passed-m c = search search_turn

pub loop-passed-preserved : goal.loop-passed-preserved
loop-passed-preserved c =
    let e : c.args.m - (c.loop-passed.passed + 1) ≡ c.args.m - c.loop-passed.passed - 1 = omega arith in
    rw e (search search_turn, search search_turn)

pub returns : goal.returns
returns c = search search_turn
