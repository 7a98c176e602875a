use Rattle.writer.proofs.WriteLaws.{answer_refused, answer_small, answer_ready, answer_long}
use native.Mathlib.Omega.{arith}
use borrow.Author.Rules.{rules}
use Rattle.writer.proofs.write.Goals as goal

pub returns-then-a-ne0 : goal.returns-then-a-ne0
returns-then-a-ne0 c = answer_refused _ _ c.read-a.ensures.answers c.if-a-ne0.true _ _ _ c.refuse.ensures.0 c.refuse.ensures.1

pub measure-requires : goal.measure-requires
measure-requires c = search answer_small

pub put_out-requires : goal.put_out-requires
put_out-requires c = (search answer_small, answer_ready _ _ c.read-a.ensures.answers c.if-a-ne0.false (λ k. omega (arith, c.type_inv.dataset k)) _ c.measure.ensures _ (search rules))

pub returns-in-Err : goal.returns-in-Err
returns-in-Err c = answer_long _ _ c.read-a.ensures.answers c.if-a-ne0.false (λ k. omega (arith, c.type_inv.dataset k)) _ c.measure.ensures _ c.in-Err.is _ _ _ c.refuse-in-Err.ensures.0
    c.refuse-in-Err.ensures.1
