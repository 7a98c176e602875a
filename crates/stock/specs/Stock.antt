-- The records of a dataset from a byte on.
use Rattle.std.specs.Prelude.{ℕ, ◌≡◌, List}
use Rattle.std.proofs.Math.Option.{Option, some, none}
use Rattle.base.specs.Lists.{each, Each}
use Rattle.skeleton.specs.File.{Field, records_from}
use Rattle.rules.specs.Record.{Rec, rec_of}
use Rattle.rules.specs.declared.Kind.{Kind}
use Rattle.rules.specs.declared.Kind.TheVariants.{Info}
use Rattle.updates.specs.Acts.{kind_in}
use Rattle.stock.specs.Stored.{Stored}

-- the record that fields say, of the kind of their first tag
unfoldable pub rec_by : Option Kind → List Field → Rec
rec_by none fs = rec_of Info fs
rec_by (some k) fs = rec_of k fs

-- the same
abbrev pub rec_in : List Field → Rec
rec_in fs = rec_by (kind_in fs) fs

-- fields of a record as in a dataset, of one kind or another
abbrev pub AnyStored : List Field → Type 0
AnyStored fs = (k : Kind) × Stored k fs

-- the records from byte p on
unfoldable pub stock_from : List ℕ → ℕ → List Rec
stock_from f p = each rec_in (records_from f p).items

-- what a loop over them stands on
pub record Stock (f : List ℕ) (p : ℕ) : Type 0 where
  pub ended : (records_from f p).ending ≡ 0
  pub right : Each AnyStored (records_from f p).items
