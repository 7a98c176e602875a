use borrow.Author.Rules.{rules}
use Rattle.std.proofs.lemmas.Result.{err_from_is_err_and}
use Rattle.reader.proofs.ReaderLaws.{read_shut, read_ways}
use Rattle.reader.proofs.all_records.Goals as goal

pub returns-in_err-start : goal.returns-in_err-start
returns-in_err-start c =
    let r = err_from_is_err_and c.from_residual.result c.from_residual.ensures.1 in
    rw (r.1, r.2) (read_shut _ c.requires _ c.first_three.ensures _ c.in_err-start.was)

pub after_three-requires : goal.after_three-requires
after_three-requires c = search (rules, read_ways)
