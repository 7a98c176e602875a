use mathlib.Core.Path.{refl}
use Rattle.sorting.proofs.IndexLaws.{index_is, late_found}
use Rattle.sorting.specs.Places.{at_start}
use native.Mathlib.Omega.{arith}
use borrow.Author.Rules.{rules}
use Rattle.sorting.proofs.index.late.Goals as goal

pub returns-then-n-eq0 : goal.returns-then-n-eq0
returns-then-n-eq0 c = at_start

pub first_from-i-requires : goal.first_from-i-requires
first_from-i-requires c = let k = index_is _ _ _ c.requires.0 c.requires.1 _ refl c.if-n-eq0.false in (search rules, k.up)

pub returns-then-i-eq0 : goal.returns-then-i-eq0
returns-then-i-eq0 c = at_start

pub returns-then-x-low : goal.returns-then-x-low
returns-then-x-low c = at_start

pub returns : goal.returns
returns c = late_found _ _ _ _ c.requires.0 (index_is _ _ _ c.requires.0 c.requires.1 _ refl c.if-n-eq0.false) _ _ _ c.weight-low.ensures (omega (arith, c.if-key-eq0.false)) c.first_from-i.ensures (search rules) _ c.number_at-x.ensures c.if-x-low.false
