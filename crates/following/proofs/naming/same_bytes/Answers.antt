use mathlib.Core.Path.{◌∙◌}
use Rattle.following.proofs.NamingLaws.{same_is}
use Rattle.following.proofs.naming.same_bytes.Goals as goal

pub returns : goal.returns
returns c = c.eq.ensures ∙ same_is _ _
