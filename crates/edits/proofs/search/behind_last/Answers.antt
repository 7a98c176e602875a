use mathlib.Core.Path.{sym, ap, ◌∙◌}
use Prim.Native.Nat.{ℕ, ◌+◌}
use borrow.Author.Tests.{eq-eqb, ne_eqb}
use Rattle.edits.specs.Search.{end_of, behind_mark}
use Rattle.edits.proofs.SearchLaws.{end_end, found_at, found_none}
use native.Mathlib.Omega.{arith}
use Rattle.edits.proofs.search.behind_last.Goals as goal

pub returns-then-s-eq0 : goal.returns-then-s-eq0
unfolding behind_mark
returns-then-s-eq0 c = rw (eq-eqb c.args.s.nth 0 c.if-s-eq0.true)

pub overflow_add-j : goal.overflow_add-j
overflow_add-j c = let f = found_at _ _ _ c.in-Some.ensures in omega (arith, f.0, f.1)

pub returns-in-Some : goal.returns-in-Some
unfolding behind_mark
returns-in-Some c = let a = c.args in
    rw (ne_eqb a.s.nth 0 c.if-s-eq0.false) (c.run_end.ensures ∙ ap (λ (j : ℕ). end_of a.w.now (j + 1) a.n (a.depth + 1)) (found_at _ _ _ c.in-Some.ensures).1)

pub returns-in-None : goal.returns-in-None
unfolding behind_mark
returns-in-None c = let a = c.args in
    rw (ne_eqb a.s.nth 0 c.if-s-eq0.false) (sym (end_end _ _ _ _ (omega (arith, found_none _ _ c.in-None.ensures))))
