use mathlib.Core.Path.{refl}
use Rattle.sorting.proofs.IndicesLaws.{spare_both, spare_new, spare_none}
use Rattle.sorting.proofs.limits.spare.Goals as goal

pub returns-then-old-lim : goal.returns-then-old-lim
returns-then-old-lim c = (λ d ds u us out s e. spare_both d ds u us _ _ _ c.reached-end.ensures.0 out s _ c.past-old.ensures c.if-old-lim.true, refl)

pub returns-then-new-all : goal.returns-then-new-all
returns-then-new-all c = (λ d ds u us out s e. spare_new d ds u us _ _ _ c.reached-end.ensures.0 out s _ c.past-new.ensures _ e c.if-new-all.true, refl)

pub returns : goal.returns
returns c = (λ d ds u us out s e. spare_none d ds u us _ _ _ c.reached-end.ensures.0 out s _ e, refl)
