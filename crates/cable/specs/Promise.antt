-- What a display that tells its holding promises of its answer and of every byte of the output slice, refusals too. What `take` promises is `Taken`;
-- what `reply` promises is one equation with `reply` of the parcels' definitions.
use Rattle.std.specs.Prelude.{ℕ, ◌≡◌, List}
use Rattle.rules.specs.declared.Answer.{Answer}
use Rattle.parcels.specs.Holding.{tell}

-- of a chart and an output slice of so many bytes: the answer, and the slice afterwards
pub record Tells (chart : List ℕ) (room : ℕ) (a : Answer) (out : List ℕ) : Type 0 where
  pub answers : a ≡ (tell chart room).answer
  pub fills : out ≡ (tell chart room).out
