use mathlib.Core.Path.{refl, sym, ◌∙◌}
use borrow.Author.Rules.{rules}
use Rattle.std.proofs.lemmas.Result.{err_from_is_err_and}
use Rattle.dataset.proofs.WalkLaws.{four_passed, four_stopped, admit_refused, admit_stopped, admit_on, admit_ways}
use Rattle.dataset.proofs.walk.admit.Goals as goal

pub returns-in_err-head : goal.returns-in_err-head
returns-in_err-head c =
    admit_refused _ _ _ _ _ c.requires.there.2 c.requires.standing.0 _ c.record_at.ensures _ _ _ c.in_err-head.was _ c.from_residual.ensures.1

pub overflow_add-e : goal.overflow_add-e
overflow_add-e c = search (rules, admit_ways)

pub slice_bounds-four_to_six-end : goal.slice_bounds-four_to_six-end
slice_bounds-four_to_six-end c = search (rules, admit_ways)

pub four_to_six-requires : goal.four_to_six-requires
four_to_six-requires c = search (rules, admit_ways)

pub returns-in_err-k : goal.returns-in_err-k
returns-in_err-k c =
    let r = err_from_is_err_and c.from_residual-in_err-k.result c.from_residual-in_err-k.ensures.1 in
    let found = sym c.record_at.ensures ∙ c.in_ok-head.was in
    let wrong = four_stopped _ _ _ _ _ _ found c.requires.there.2 c.requires.standing.0 _ refl _ c.four_to_six.ensures _ _ _ c.in_err-k.was in
    rw (r.1, r.2) (admit_stopped _ _ _ _ _ c.requires.there.2 c.requires.standing.0 _ c.record_at.ensures _ _ _ c.in_ok-head.was _ wrong)

pub seventh-requires-clause-passed : goal.seventh-requires-clause-passed
seventh-requires-clause-passed c =
    let found = sym c.record_at.ensures ∙ c.in_ok-head.was in
    four_passed _ _ _ _ _ _ found c.requires.there.2 c.requires.standing.0 _ refl _ c.four_to_six.ensures _ c.in_ok-k.was

pub returns-in_err-key : goal.returns-in_err-key
returns-in_err-key c =
    let r = err_from_is_err_and c.from_residual-in_err-key.result c.from_residual-in_err-key.ensures.1 in
    rw (r.1, r.2) (admit_stopped _ _ _ _ _ c.requires.there.2 c.requires.standing.0 _ c.record_at.ensures _ _ _ c.in_ok-head.was _ c.in_err-key.ensures)

pub returns : goal.returns
returns c = admit_on _ _ _ _ _ c.requires.there.2 c.requires.standing.0 _ c.record_at.ensures _ _ _ c.in_ok-head.was _ c.in_ok-key.ensures
