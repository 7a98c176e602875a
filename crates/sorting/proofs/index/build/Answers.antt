use mathlib.Core.Path.{◌≡◌}
use Prim.Native.Nat.{ℕ}
use Rattle.sorting.proofs.NumberLaws.{rises_ascends}
use Rattle.sorting.proofs.IndexLaws.{built, built_mixed}
use native.Mathlib.Omega.{arith}
use borrow.Author.Rules.{rules}
use Rattle.sorting.proofs.index.build.Goals as goal

pub returns-then-not-fill : goal.returns-then-not-fill
returns-then-not-fill c = λ e. absurd (let z : ◌≡◌ {A = ℕ} 0 1 = cc in omega arith)

pub returns-then-ascending : goal.returns-then-ascending
returns-then-ascending c = λ e. built _ _ _ (c.fill.ensures c.if-not-fill.false) (rises_ascends _ _ _ c.ascending.ensures (search rules))

pub returns : goal.returns
returns c = λ e. built_mixed _ _ _ _ (c.fill.ensures c.if-not-fill.false) c.sort.ensures (rises_ascends _ _ _ c.ascending-2.ensures e)
