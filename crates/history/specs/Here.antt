-- The record that begins at a byte.
use Rattle.std.specs.Prelude.{ℕ, ◌-◌, List, [], length, take, get_or}
use Rattle.skeleton.specs.File.{Field, records_from}
use Rattle.updates.specs.Acts.{kind_in, named_by}

-- its fields
unfoldable pub record_here : List ℕ → ℕ → List Field
record_here f p = get_or (records_from f p).items 0 []

-- the key that an update record names
abbrev pub named_in : List Field → List ℕ
named_in fs = named_by (kind_in fs) fs

-- the records from byte p up to the one that begins at q
unfoldable pub records_up_to : List ℕ → ℕ → ℕ → List (List Field)
records_up_to f p q = let all = (records_from f p).items in take (length all - length (records_from f q).items) all
