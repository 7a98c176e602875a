-- Fields by their number in the records of a file, from 1, with their places in the file.
use Rattle.std.specs.Prelude.{ℕ, ◌+◌, ◌-◌, List, length, ltb, Option as StdOption, Some, None, Result, Ok, Err}
use Rattle.std.proofs.Math.Option.{Option, some, none}
use Rattle.base.specs.Choice.{pick}
use Rattle.base.specs.Walk.{Step, more, over, walk}
use Rattle.skeleton.specs.File.{Field}
use Rattle.skeleton.specs.Place.{between}
use Rattle.skeleton.specs.Leader.{number_of}
use Rattle.skeleton.specs.Record.{record_at}
use Rattle.skeleton.specs.declared.leader.Head.{Head}
use Rattle.skeleton.specs.declared.leader.Broken.{Broken}
use Rattle.fieldwise.specs.Numbered.{numbered, found_at, field_numbered}
use Rattle.fieldwise.specs.declared.numbered.Found.{Found}

-- where a record lies in its file
pub record Lot : Type 0 where
  pub start : ℕ
  pub end : ℕ

-- the record at at, where it is right, and the place after it; else the number of its refusal
abbrev pub lot_step : ℕ → Result Head Broken → Step ℕ Lot
lot_step at (Ok d) = more (record { start = at; end = at + d.len }) (at + d.len)
lot_step at (Err x) = over (number_of x)

-- one step over a file
abbrev pub lots_step : List ℕ → ℕ → Step ℕ Lot
lots_step f at = pick (ltb at (length f)) (lot_step at (record_at f at)) (over 0)

-- where the records lie from the byte at on, up to the first that is not right
unfoldable pub lots_from : List ℕ → ℕ → List Lot
lots_from f at = (walk (lots_step f) (λ q. length f - q) at).items

-- a field of a record that begins at at, by its places in the file
abbrev pub moved_by : ℕ → StdOption Found → StdOption Found
moved_by at (Some e) = found_at e.tag (at + e.start) (at + e.end)
moved_by at None = None

-- the n-th field of the record that lies from start up to end
unfoldable pub field_within : List ℕ → ℕ → ℕ → ℕ → StdOption Found
field_within f start end n = moved_by start (field_numbered (between f start end) n)

-- the n-th field of a record, where there is one
abbrev pub within_lot : List ℕ → ℕ → Option Lot → StdOption Found
within_lot f n (some l) = field_within f l.start l.end n
within_lot f n none = None

-- the n-th field of the m-th record from the byte at on
unfoldable pub field_from : List ℕ → ℕ → ℕ → ℕ → StdOption Found
field_from f at m n = within_lot f n (numbered m (lots_from f at))

-- the n-th field of the m-th record of a file
abbrev pub field_in_file : List ℕ → ℕ → ℕ → StdOption Found
field_in_file f m n = field_from f 0 m n

-- ---- by tags and bytes

-- a field that was found, by its tag and its bytes
abbrev pub as_field : List ℕ → StdOption Found → Option Field
as_field f (Some e) = some (record { tag = e.tag; body = between f e.start e.end })
as_field f None = none

-- the n-th field of a record, where there is one
abbrev pub among_fields : ℕ → Option (List Field) → Option Field
among_fields n (some fs) = numbered n fs
among_fields n none = none
