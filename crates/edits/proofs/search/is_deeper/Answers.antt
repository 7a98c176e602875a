use mathlib.Core.Bool.{not}
use mathlib.Core.Logic.{⊎_elim}
use mathlib.Core.Path.{◌≡◌}
use Prim.Native.Nat.{ℕ, ◌≤◌, ◌<◌}
use borrow.Author.Tests.{lt-ltb, le-ltb, lt-leb, le-leb}
use lib.Dec.{leb, ltb}
use Rattle.forest.proofs.Numbers.{lt_or_le}
use Rattle.edits.specs.Search.{deeper_at}
use Rattle.edits.proofs.search.is_deeper.Goals as goal

at_least : (a b : ℕ) → leb a b ≡ not (ltb b a)
at_least a b = ⊎_elim (λ (h : b < a). rw (lt-leb a b h, lt-ltb b a h)) (λ (h : a ≤ b). rw (le-leb a b h, le-ltb b a h)) (lt_or_le b a)

pub returns-then-j-n : goal.returns-then-j-n
unfolding deeper_at
returns-then-j-n c = rw (lt-ltb c.args.j c.args.n c.if-j-n.true, ← c.number.ensures.0) (at_least c.args.depth c.number.result)

pub returns-else-j-n : goal.returns-else-j-n
unfolding deeper_at
returns-else-j-n c = rw (le-ltb c.args.j c.args.n c.if-j-n.false)
