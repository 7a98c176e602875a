-- What is true of the records of every dataset that is read, and of every result.
use Rattle.std.specs.Prelude.{List}
use Rattle.rules.specs.Record.{Rec}
use Rattle.sequence.specs.Keyed.{Ordered, Once}
use Rattle.updates.specs.Acts.{chart}

-- the kinds stand in their order, and each key stands once
pub record Sorted (rs : List Rec) : Type 0 where
  pub ordered : Ordered chart 1 rs
  pub once : Once chart rs
