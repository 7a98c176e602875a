-- Records at the front of a file.
use Rattle.std.specs.Prelude.{ℕ, ◌+◌, ◌≤◌, ◌≡◌, List, length}
use Rattle.skeleton.specs.File.{Field}
use Rattle.skeleton.specs.Leader.{good}
use Rattle.skeleton.specs.Place.{between, fields_at}
use Rattle.skeleton.specs.Record.{record_at}
use Rattle.skeleton.specs.Shape.{Bounded}
use Rattle.skeleton.specs.declared.directory.Shape.{Shape}
use Rattle.updater.specs.declared.front.Piece.{Piece}

-- the skeleton finds a record at p
abbrev pub There : List ℕ → ℕ → Type 0
There f p = (len : ℕ) × (h : Shape) × (record_at f p ≡ good len h)

-- r is that record
pub record Cut (f : List ℕ) (p : ℕ) (r : Piece) : Type 0 where
  pub long : ℕ
  pub there : record_at f p ≡ good long r.shape
  pub start : r.start ≡ p
  pub behind : r.end ≡ p + long

-- r lies in a file that is not too long
pub record Lies (f : List ℕ) (r : Piece) : Type 0 where
  pub short : length f ≤ 16777216
  pub bounded : Bounded r.shape
  pub runs : r.start ≤ r.end
  pub inside : r.end ≤ length f

-- the fields of the record that r is
abbrev pub fields_in : List ℕ → Piece → List Field
fields_in f r = fields_at (between f r.start r.end) r.shape 24

-- a record with the fields fs stands from p up to e
pub record Run (f : List ℕ) (p e : ℕ) (fs : List Field) : Type 0 where
  pub long : ℕ
  pub shape : Shape
  pub there : record_at f p ≡ good long shape
  pub behind : p + long ≡ e
  pub fields : fs ≡ fields_at (between f p (p + long)) shape 24
