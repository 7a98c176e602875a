use borrow.Author.Rules.{rules}
use Rattle.std.proofs.lemmas.Result.{err_from_is_err_and}
use Rattle.dataset.proofs.RecordLaws.{five_six_refused, five_six_passed, four_ways}
use Rattle.dataset.proofs.record.four_to_six.Goals as goal

pub returns-in_err-k : goal.returns-in_err-k
returns-in_err-k c = search (rules, four_ways)

pub returns-in_err-check_content_and_trees : goal.returns-in_err-check_content_and_trees
returns-in_err-check_content_and_trees c =
    let r = err_from_is_err_and c.from_residual-in_err-check_content_and_trees.result c.from_residual-in_err-check_content_and_trees.ensures.1 in
    rw (r.1, r.2) (five_six_refused _ _ _ _ c.check_tags.ensures _ c.in_ok-k.was _ c.check_content_and_trees.ensures _ c.in_err-check_content_and_trees.was)

pub returns : goal.returns
returns c = five_six_passed _ _ _ _ c.check_tags.ensures _ c.in_ok-k.was _ c.check_content_and_trees.ensures c.in_ok-check_content_and_trees.was
