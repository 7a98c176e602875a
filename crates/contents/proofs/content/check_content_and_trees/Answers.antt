use Rattle.std.proofs.lemmas.Result.{err_from_is_err_and}
use Rattle.contents.proofs.StepLaws.{step_bounds, step_second}
use Rattle.contents.proofs.ContentLaws.{five_ways, five_not, five_rest}
use borrow.Author.Rules.{rules}
use Rattle.contents.proofs.content.check_content_and_trees.Goals as goal

pub ident_stands-requires : goal.ident_stands-requires
ident_stands-requires c = search step_bounds

pub returns-in_err-ident_stands : goal.returns-in_err-ident_stands
returns-in_err-ident_stands c =
    let p = err_from_is_err_and c.from_residual.result c.from_residual.ensures.1 in
    rw (p.1, p.2) (five_not _ _ _ _ _ c.place_at.ensures _ c.in-Some.is _ c.ident_stands.ensures _ c.in_err-ident_stands.was)

pub is_stored-stored-requires : goal.is_stored-stored-requires
is_stored-stored-requires c = search step_bounds

pub rest_right-requires : goal.rest_right-requires
rest_right-requires c = (search rules, search (rules, step_second))

pub returns-in_default : goal.returns-in_default
returns-in_default c = search five_ways

pub returns : goal.returns
returns c = five_rest _ _ _ _ _ c.place_at.ensures _ c.in-Some.is _ c.ident_stands.ensures c.in_ok-ident_stands.was _ c.is_stored-stored.ensures _ c.rest_right.ensures
