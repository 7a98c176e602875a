-- A dataset and an update that have passed all that comes before the update's records act: the dataset's records begin at ds, the update's at us.
use Rattle.std.specs.Prelude.{ℕ, ◌≤◌, List, length}
use Rattle.base.specs.Lists.{Each}
use Rattle.sequence.specs.Keyed.{Once}
use Rattle.updates.specs.Acts.{chart}
use Rattle.updates.specs.Accepted.{Writable}
use Rattle.stock.specs.Stock.{stock_from, Stock}
use Rattle.incoming.specs.Fitting.{Rest}

-- lengths that every file has
pub record Short (d u : List ℕ) : Type 0 where
  pub old : length d ≤ 16777216
  pub new : length u ≤ 16777216

pub record Ready (d : List ℕ) (ds : ℕ) (u : List ℕ) (us : ℕ) : Type 0 where
  pub short : Short d u
  pub stock : Stock d ds
  pub once : Once chart (stock_from d ds)
  pub writable : Each Writable (stock_from d ds)
  pub inside : us ≤ length u
  pub rest : Rest u us
