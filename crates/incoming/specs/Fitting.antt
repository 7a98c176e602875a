-- What is known of an update that has passed.
use Rattle.std.specs.Prelude.{ℕ, ◌+◌, ◌≤◌, ◌≡◌, List, [], length, get_or, drop}
use Rattle.base.specs.Check.{ok, pass}
use Rattle.base.specs.Lists.{Each}
use Rattle.skeleton.specs.File.{Field, records_from, records_of}
use Rattle.skeleton.specs.Leader.{good}
use Rattle.skeleton.specs.Place.{between, fields_at}
use Rattle.skeleton.specs.Record.{record_at}
use Rattle.skeleton.specs.declared.directory.Shape.{Shape}
use Rattle.rules.specs.General.{general_record}
use Rattle.rules.specs.Outcome.{done}
use Rattle.rules.specs.Record.{update_record}
use Rattle.rules.specs.File.{sent_as, read_update}
use Rattle.rules.specs.declared.Kind.{Kind}
use Rattle.rules.specs.declared.Mode.TheVariants.{InUpdate}

-- a record of an update that is right on its own
pub record Single (fs : List Field) : Type 0 where
  pub kind : Kind
  pub right : update_record fs ≡ ok kind

-- the records from byte p on: the skeleton refuses none, and each is right on its own
pub record Rest (u : List ℕ) (p : ℕ) : Type 0 where
  pub ended : (records_from u p).ending ≡ 0
  pub singles : Each Single (records_from u p).items

-- an update that has passed: its records after the second begin at start; the second, its general record, is at `second` and of so many bytes
pub record Fitting (u : List ℕ) (start : ℕ) : Type 0 where
  pub read : read_update u ≡ done (sent_as (records_of u).items)
  pub inside : start ≤ length u
  pub later : (records_from u start).items ≡ drop 2 (records_of u).items
  pub rest : Rest u start
  pub second : ℕ
  pub long : ℕ
  pub first_shape : Shape
  pub shape : Shape
  pub first_there : record_at u 0 ≡ good second first_shape
  pub there : record_at u second ≡ good long shape
  pub behind : second + long ≡ start
  pub general : get_or (records_of u).items 1 [] ≡ fields_at (between u second (second + long)) shape 24
  pub passed : general_record InUpdate (fields_at (between u second (second + long)) shape 24) ≡ pass
