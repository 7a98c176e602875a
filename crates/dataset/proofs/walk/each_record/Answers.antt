use mathlib.Core.Path.{refl}
use Rattle.book.proofs.FirstLaws.{ahead_start}
use Rattle.dataset.proofs.WalkLaws.{walk_start, walk_turn}
use borrow.Author.Rules.{rules}
use native.Mathlib.Omega.{arith}
use Rattle.dataset.proofs.walk.each_record.Goals as goal

pub loop-p-init : goal.loop-p-init
loop-p-init c = (omega arith, omega arith, refl, walk_start _ _, search rules, ahead_start _ _)

pub overflow_add-p : goal.overflow_add-p
overflow_add-p c = search walk_turn

pub overflow_add-m : goal.overflow_add-m
overflow_add-m c = search walk_turn

pub loop-p-smaller : goal.loop-p-smaller
loop-p-smaller c = search walk_turn

pub loop-p-preserved : goal.loop-p-preserved
loop-p-preserved c = (search walk_turn, search walk_turn, search rules, search walk_turn, search walk_turn, search walk_turn)

pub overflow_add-result : goal.overflow_add-result
overflow_add-result c = search walk_turn

pub returns-in-Err : goal.returns-in-Err
returns-in-Err c = search walk_turn

pub returns : goal.returns
returns c = search walk_turn
