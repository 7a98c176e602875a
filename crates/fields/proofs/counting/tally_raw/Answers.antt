use lib.ListN.{length}
use native.Mathlib.Nat.{div-le_self}
use Prim.Native.Nat.{◌-◌}
use Rattle.fields.proofs.CountLaws.{tally_done, raw_turn}
use mathlib.Core.Path.{refl}
use native.Mathlib.Omega.{arith}
use Rattle.fields.proofs.counting.tally_raw.Goals as goal

pub returns-then-b-at : goal.returns-then-b-at
returns-then-b-at c = tally_done _ _ _ 0 _ refl c.if-b-at.true

pub returns-in_default : goal.returns-in_default
returns-in_default c = search raw_turn

pub returns-then-n-at : goal.returns-then-n-at
returns-then-n-at c = search raw_turn

pub returns-then-left-width-eq0 : goal.returns-then-left-width-eq0
returns-then-left-width-eq0 c = search raw_turn

pub overflow_add-result : goal.overflow_add-result
overflow_add-result c = let a = c.args in
    let width = c.in-Some.n - a.at in
    omega (arith, div-le_self (length a.b.now - a.at) width)

pub returns : goal.returns
returns c = search raw_turn
