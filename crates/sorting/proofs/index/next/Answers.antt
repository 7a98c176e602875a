use mathlib.Core.Path.{refl}
use Rattle.sorting.proofs.IndexLaws.{index_place, index_is, next_none, next_far, next_found}
use native.Mathlib.Omega.{arith}
use borrow.Author.Rules.{rules}
use Rattle.sorting.proofs.index.next.Goals as goal

pub next_plain-requires : goal.next_plain-requires
next_plain-requires c = let k = index_place _ _ _ c.requires.0 c.requires.1 in search rules

pub overflow_add-low : goal.overflow_add-low
overflow_add-low c = let k = index_place _ _ _ c.requires.0 c.requires.1 in search rules

pub next_plain-requires-then-low-p : goal.next_plain-requires-then-low-p
next_plain-requires-then-low-p c = let k = index_place _ _ _ c.requires.0 c.requires.1 in search rules

pub overflow_add-low-2 : goal.overflow_add-low-2
overflow_add-low-2 c = let k = index_place _ _ _ c.requires.0 c.requires.1 in search rules

pub first_from-i-requires : goal.first_from-i-requires
first_from-i-requires c = let k = index_is _ _ _ c.requires.0 c.requires.2 _ refl c.if-n-eq0.false in (search rules, k.up)

pub returns-then-n-i : goal.returns-then-n-i
returns-then-n-i c = next_none _ _ _ _ c.requires.0 (index_is _ _ _ c.requires.0 c.requires.2 _ refl c.if-n-eq0.false) _ c.requires.1 _ _ _ c.weight-low.ensures (let k = c.number_at.ensures in let h = c.if-low-p.false in omega arith) c.first_from-i.ensures c.if-n-i.true

pub returns-then-low-x : goal.returns-then-low-x
returns-then-low-x c = next_far _ _ _ _ c.requires.0 (index_is _ _ _ c.requires.0 c.requires.2 _ refl c.if-n-eq0.false) _ c.requires.1 _ _ _ c.weight-low.ensures (let k = c.number_at.ensures in let h = c.if-low-p.false in omega arith) c.first_from-i.ensures (search rules) _ c.number_at-x.ensures c.if-low-x.true

pub overflow_sub-result : goal.overflow_sub-result
overflow_sub-result c = let k = c.first_from-i.ensures.from_on _ (search rules) c.if-n-i.false in search rules

pub returns : goal.returns
returns c = next_found _ _ _ _ c.requires.0 (index_is _ _ _ c.requires.0 c.requires.2 _ refl c.if-n-eq0.false) _ c.requires.1 _ _ _ c.weight-low.ensures (let k = c.number_at.ensures in let h = c.if-low-p.false in omega arith) c.first_from-i.ensures (search rules) _ c.number_at-x.ensures (omega (arith, c.if-key-eq0.false)) c.if-low-x.false
