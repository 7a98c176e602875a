use mathlib.Core.Path.{refl}
use Rattle.std.proofs.lemmas.Result.{err_from_is_err_and}
use Rattle.contents.proofs.StepLaws.{step_counts}
use Rattle.contents.proofs.SinceLaws.{since_start}
use Rattle.contents.proofs.CountLaws.{cocc_more}
use Rattle.contents.proofs.TreeLaws.{broken_more}
use Rattle.contents.proofs.ContentLaws.{rest_turn, rest_more, rest_not, rest_miscounts, rest_trees}
use borrow.Author.Rules.{rules}
use native.Mathlib.Omega.{arith}
use Rattle.contents.proofs.content.rest_right.Goals as goal

pub loop-field-init : goal.loop-field-init
loop-field-init c = (omega arith, refl, search since_start, search since_start)

pub field_stands-requires : goal.field_stands-requires
field_stands-requires c = search rest_turn

pub returns-in_err-field_stands : goal.returns-in_err-field_stands
returns-in_err-field_stands c =
    let p = err_from_is_err_and c.from_residual.result c.from_residual.ensures.1 in
    let l = c.loop-field.invariant in
    rw (p.1, p.2) (rest_not _ _ _ _ _ _ l.1 _ c.place_at.ensures _ c.in-Some.is _ c.field_stands.ensures _ c.in_err-field_stands.was)

pub tree_broken-broken-requires : goal.tree_broken-broken-requires
tree_broken-broken-requires c = search rest_turn

pub overflow_add-i : goal.overflow_add-i
overflow_add-i c = search rest_turn

pub loop-field-smaller : goal.loop-field-smaller
loop-field-smaller c = search rest_turn

pub loop-field-preserved : goal.loop-field-preserved
loop-field-preserved c = let inv = c.loop-field.invariant in
    let en = c.place_at.ensures in
    let x = c.in-Some.is in (
      step_counts _ _ _ _ en _ x _ inv.0,
      rest_more _ _ _ _ _ _ inv.1 _ en _ x _ c.field_stands.ensures c.in_ok-field_stands.was,
      cocc_more _ _ _ _ _ _ en _ x _ inv.2 _ c.tag_passed-controlled.ensures,
      broken_more _ _ _ _ _ _ _ en _ x _ inv.3 _ c.tree_broken-broken.ensures,
    )

pub counts_again-requires : goal.counts_again-requires
counts_again-requires c = (search rules, search rules, search rest_turn)

pub returns-in_err-counts_again : goal.returns-in_err-counts_again
returns-in_err-counts_again c =
    let r = c.from_residual-in_err-counts_again in
    let p = err_from_is_err_and r.result r.ensures.1 in
    let l = c.loop-field.invariant in
    rw (p.1, p.2) (rest_miscounts _ _ _ _ _ _ l.1 _ c.place_at.ensures c.in_default.is _ l.2 _ c.counts_again.ensures _ c.in_err-counts_again.was)

pub trees_again-requires : goal.trees_again-requires
trees_again-requires c = (search rules, search rules, search rest_turn)

pub returns : goal.returns
returns c =
    let l = c.loop-field.invariant in
    rest_trees _ _ _ _ _ _ l.1 _ c.place_at.ensures c.in_default.is _ l.2 _ c.counts_again.ensures c.in_ok-counts_again.was _ l.3 _ c.trees_again.ensures
