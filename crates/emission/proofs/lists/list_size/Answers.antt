use Rattle.emission.proofs.ListLaws.{no_size, some_size}
use native.Mathlib.Omega.{arith}
use Rattle.emission.proofs.lists.list_size.Goals as goal

pub returns-then-n-eq0 : goal.returns-then-n-eq0
returns-then-n-eq0 c = (no_size _ c.if-n-eq0.true, omega arith)

pub returns-else-n-eq0 : goal.returns-else-n-eq0
returns-else-n-eq0 c = (some_size _ c.if-n-eq0.false, omega arith)
