use mathlib.Core.Path.{◌≡◌}
use Prim.Native.Nat.{ℕ}
use borrow.Author.Tests.{eqb-true}
use Rattle.sorting.proofs.IndexLaws.{filling_start, filling_turn, filling_count, filling_more, filling_all}
use borrow.Author.Rules.{rules}
use native.Mathlib.Omega.{arith}
use Rattle.sorting.proofs.index.fill.Goals as goal

pub returns-then-s-lt8 : goal.returns-then-s-lt8
returns-then-s-lt8 c = λ e. absurd (let z : ◌≡◌ {A = ℕ} 0 1 = cc in omega arith)

pub loop-look-init : goal.loop-look-init
loop-look-init c = (filling_start _ _ _ _ c.requires (search rules) c.put_number.ensures, search rules)

pub look_at-requires : goal.look_at-requires
look_at-requires c = search filling_turn

pub overflow_mul-n : goal.overflow_mul-n
overflow_mul-n c = let k = filling_count _ _ _ _ _ c.requires c.loop-look.invariant.0 in search rules

pub overflow_add-n : goal.overflow_add-n
overflow_add-n c = let k = filling_count _ _ _ _ _ c.requires c.loop-look.invariant.0 in search rules

pub returns-then-s-n : goal.returns-then-s-n
returns-then-s-n c = λ e. absurd (let z : ◌≡◌ {A = ℕ} 0 1 = cc in omega arith)

pub weight-requires : goal.weight-requires
weight-requires c = search filling_turn

pub put_number-requires-in-Some : goal.put_number-requires-in-Some
put_number-requires-in-Some c = search filling_turn

pub overflow_add-q : goal.overflow_add-q
overflow_add-q c = search filling_turn

pub overflow_add-n-in-Some : goal.overflow_add-n-in-Some
overflow_add-n-in-Some c = let k = filling_count _ _ _ _ _ c.requires c.loop-look.invariant.0 in search rules

pub loop-look-smaller : goal.loop-look-smaller
loop-look-smaller c = search filling_turn

pub loop-look-preserved : goal.loop-look-preserved
loop-look-preserved c = (filling_more _ _ _ _ _ c.requires c.loop-look.invariant.0 _ c.look_at.ensures _ c.in-Some.is _ c.weight.ensures _ c.put_number-in-Some.ensures (search rules), search rules)

pub overflow_mul-result : goal.overflow_mul-result
overflow_mul-result c = let k = filling_count _ _ _ _ _ c.requires c.loop-look.invariant.0 in search rules

pub returns : goal.returns
returns c = λ e. filling_all _ _ _ _ _ c.requires c.loop-look.invariant.0 _ c.look_at.ensures c.in_default.is (eqb-true _ _ e)
