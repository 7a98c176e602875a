use Rattle.std.proofs.lemmas.Result.{err_from_is_err_and}
use Rattle.result.proofs.KindLaws.{within_more, file_old, file_new, stands_old, stands_new, kind_whole, kind_loose, kind_within, kind_spared, kind_on}
use Rattle.result.proofs.PassLaws.{from_loose, from_went}
use borrow.Author.Rules.{rules}
use Rattle.result.proofs.walk.walk_kind.Goals as goal

pub walk-requires : goal.walk-requires
walk-requires c = record { whole = (c.requires.0, c.requires.3, within_more _ c.requires.2); side = (file_old _ _, stands_old _ _ _ _ _ _ c.requires.4, c.requires.5, c.requires.6) }

pub walk-requires-2 : goal.walk-requires-2
walk-requires-2 c = let v = c.walk.ensures in record { whole = (kind_whole _ _ _ _ _ c.requires.1 _ c.requires.4 _ _ _ _ _ v _ _ _ c.requires.0 (search rules), c.requires.3, kind_within _ _ _ _ _ c.requires.1 _ c.requires.4 _ _ _ _ _ v _ c.in_ok-g.was c.requires.2); side = (file_new _ _, stands_new _ _ _ _ _ _ _ _ c.requires.0 _, kind_spared _ _ _ _ _ c.requires.1 _ c.requires.4 _ _ _ _ _ v _ c.in_ok-g.was _ c.requires.5, c.requires.6) }

pub returns-in_err-g : goal.returns-in_err-g
returns-in_err-g c =
    let p = err_from_is_err_and c.from_residual.result c.from_residual.ensures.1 in
    rw (p.1, p.2) (kind_loose _ _ _ _ _ c.requires.1 _ c.requires.4 _ _ _ _ _ c.walk.ensures _ c.in_err-g.was)

pub returns-in_err-h : goal.returns-in_err-h
returns-in_err-h c =
    let p = err_from_is_err_and c.from_residual-in_err-h.result c.from_residual-in_err-h.ensures.1 in
    rw (p.1, p.2) (kind_on _ _ _ _ _ c.requires.1 _ c.requires.4 _ _ _ _ _ c.walk.ensures _ c.in_ok-g.was _ _ _ c.walk-2.ensures _ (from_loose _ _ _ c.in_err-h.was))

pub returns : goal.returns
returns c = kind_on _ _ _ _ _ c.requires.1 _ c.requires.4 _ _ _ _ _ c.walk.ensures _ c.in_ok-g.was _ _ _ c.walk-2.ensures _ (from_went _ _ _ c.in_ok-h.was)
