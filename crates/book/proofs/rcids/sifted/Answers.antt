use mathlib.Core.Path.{◌∙◌}
use borrow.Author.Tests.{le-ltb}
use Rattle.book.proofs.RcidLaws.{sifted_past, sieve_ways}
use Rattle.book.proofs.rcids.sifted.Goals as goal

pub returns-then-j-v : goal.returns-then-j-v
returns-then-j-v c = search sieve_ways

pub returns-else-j-v : goal.returns-else-j-v
returns-else-j-v c = le-ltb _ _ c.if-j-v.false ∙ sifted_past _ _ _ c.mesh-j.ensures c.if-j-v.false
