-- `raise_in` meets its contract. Assumes nothing.
use Prim.Native.Nat.{ℕ, ◌-◌}
use mathlib.Core.Path.{ap}
use mathlib.Core.List.{List, ◌++◌}
use lib.ListN.{take, drop}
use Rattle.history.proofs.flags.raise_in.Goals as goal

pub returns : goal.returns
returns c = let s = c.args in
    ap (λ (x : List ℕ). take s.from s.s.now ++ (x ++ drop (s.to - s.from) (drop s.from s.s.now))) c.raise.ensures
