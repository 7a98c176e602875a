-- What C sees of a month: its own promise, its answer said, and three numbers more.
use Rattle.std.specs.Prelude.{ℕ, ◌≡◌, List}
use Rattle.base.specs.Choice.{pick}
use Rattle.month.specs.Month.{Left}
use Rattle.month.specs.declared.turns.Month.{Month}
use Rattle.console.specs.Numbered.{three_of, Says}

-- how many files were applied, the number of the result's pool and its length stand in the slice that was three and is three'
pub record SaysMonth (list first : List ℕ) (size : ℕ) (second work old three : List ℕ) (n : ℕ) (first' second' work' new three' : List ℕ) : Type 0 where
  pub outcome : Month
  pub left : Left list first size second work outcome first' second' work'
  pub says : Says outcome.answer old n new
  pub others : three' ≡ three_of outcome.applied (pick outcome.second 2 1) outcome.length three
