use mathlib.Core.Path.{refl}
use Rattle.std.proofs.lemmas.Result.{err_from_is_err_and}
use Rattle.references.proofs.RecordLaws.{fields_turn, fields_loose, fields_passed}
use borrow.Author.Rules.{rules}
use native.Mathlib.Omega.{arith}
use Rattle.references.proofs.record.record_named.Goals as goal

pub loop-q-init : goal.loop-q-init
loop-q-init c = (refl, refl, search rules, omega arith, search fields_turn, search fields_turn, search fields_turn)

pub bounds-r-q : goal.bounds-r-q
bounds-r-q c = search fields_turn

pub returns-in_err-entry_named : goal.returns-in_err-entry_named
returns-in_err-entry_named c =
    let inv = c.loop-q.invariant in
    let r = err_from_is_err_and c.from_residual.result c.from_residual.ensures.1 in
    let loose = fields_loose _ _ _ _ _ _ _ inv.6 inv.5 c.loop-q-test.true _ c.entry_named.ensures.0 _ c.in_err-entry_named.was in
    (rw (r.1, r.2) loose, c.entry_named.ensures.1)

pub overflow_add-q-in-loop-q-3 : goal.overflow_add-q-in-loop-q-3
overflow_add-q-in-loop-q-3 c = search fields_turn

pub overflow_add-i : goal.overflow_add-i
overflow_add-i c = search fields_turn

pub loop-q-smaller : goal.loop-q-smaller
loop-q-smaller c = search fields_turn

pub loop-q-preserved : goal.loop-q-preserved
loop-q-preserved c =
    let inv = c.loop-q.invariant in
    let passed = fields_passed _ _ _ _ _ _ _ inv.6 inv.5 c.loop-q-test.true _ c.entry_named.ensures.0 c.in_ok-entry_named.was in
    (search rules, search rules, search rules, search fields_turn, search fields_turn, search fields_turn, passed)

pub returns : goal.returns
returns c = (search fields_turn, search rules)
