-- A record as in a dataset: it stands in one, or an update inserts it.
use Rattle.std.specs.Prelude.{◌≡◌, List}
use Rattle.base.specs.Check.{ok, pass}
use Rattle.skeleton.specs.File.{Field}
use Rattle.rules.specs.ByTag.{front}
use Rattle.rules.specs.Grammar.{ruin_byte, number4}
use Rattle.rules.specs.Content.{number5}
use Rattle.rules.specs.Trees.{number6}
use Rattle.rules.specs.Record.{update_record}
use Rattle.rules.specs.declared.Kind.{Kind}
use Rattle.rules.specs.declared.Mode.TheVariants.{InDataset}

-- fields of a record of kind k of a dataset that have passed 4, 5 and 6
pub record Stored (k : Kind) (fs : List Field) : Type 0 where
  pub four : number4 InDataset 0 fs ≡ ok k
  pub five : number5 InDataset k fs ≡ pass
  pub six : number6 InDataset k fs ≡ pass

-- the same, or those of an update record that inserts
pub data Loadable (k : Kind) (fs : List Field) : Type 0 where
  stored : Stored k fs → Loadable k fs
  inserted : update_record fs ≡ ok k → ruin_byte k (front fs) ≡ 1 → Loadable k fs
