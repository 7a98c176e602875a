-- What a modify's fields do to the version in the workspace.
use Rattle.std.specs.Prelude.{ℕ, ◌+◌, ◌*◌, ◌≤◌, ◌≡◌, List, Result, Ok, Err}
use Rattle.base.specs.Check.{Check, ok, no}
use Rattle.base.specs.declared.Fault.{Fault}
use Rattle.skeleton.specs.Emit.{size}
use Rattle.skeleton.specs.File.{Field}
use Rattle.rules.specs.Tags.{COCC}
use Rattle.rules.specs.Place.{Place as Edit}
use Rattle.rules.specs.Coordinates.{Coord}
use Rattle.rules.specs.Record.{Parts}
use Rattle.rules.specs.Modify.{act_field}
use Rattle.version.specs.Held.{HeldParts}
use Rattle.version.specs.Present.{FlagsKept}
use Rattle.version.specs.declared.Version.{Version}
use Rattle.acting.specs.Ready.{Rooms}

-- all but what the areas of the workspace hold
pub record SameIdent (v e : Version) : Type 0 where
  pub kind : e.kind ≡ v.kind
  pub rcid : e.rcid ≡ v.rcid
  pub code : e.code ≡ v.code
  pub rver : e.rver ≡ v.rver
  pub foids : e.foids ≡ v.foids
  pub foid : e.foid ≡ v.foid
  pub slice : e.slice ≡ v.slice

-- version v of workspace w holds parts
abbrev pub Holding : (d u w : List ℕ) → Version → Type 0
Holding d u w v = (p : Parts) × HeldParts d u w v p

-- an edit by place
abbrev pub edit_at : ℕ → ℕ → ℕ → Edit
edit_at i x n = record { instruction = i; index = x; count = n }

-- ---- one field

-- the field f acted on version v of workspace w, which is version e of workspace o now; new: the coordinate tuples that its record sends
pub record PartNow (d u : List ℕ) (new : List Coord) (f : Field) (w : List ℕ) (v : Version) (o : List ℕ) (e : Version) : Type 0 where
  pub held : (p : Parts) → HeldParts d u w v p → (q : Parts) × (act_field new f p ≡ ok q) × HeldParts d u o e q
  pub same : SameIdent v e
  pub rooms : (n : ℕ) → Rooms v (size f + n) → Rooms e n
  pub coord : (f.tag ≡ COCC → ⊥) → 8 * v.coord ≤ 99999 → 8 * e.coord ≤ 99999

-- what the code answers
unfoldable pub PartActs : (d u : List ℕ) (new : List Coord) (f : Field) (w : List ℕ) (v : Version) (o : List ℕ) → Result Version Fault → Type 0
PartActs d u new f w v o (Err x) = (p : Parts) → HeldParts d u w v p → act_field new f p ≡ no x
PartActs d u new f w v o (Ok e) = PartNow d u new f w v o e

-- that, and what stands behind the areas is as it was
pub record FieldActs (d u : List ℕ) (new : List Coord) (f : Field) (w : List ℕ) (v : Version) (o : List ℕ) (x : Result Version Fault) : Type 0 where
  pub acts : PartActs d u new f w v o x
  pub flags : FlagsKept w o

-- ---- all fields

-- what `act` makes of the parts of version v of workspace w, and what the code made of it
unfoldable pub ActedBy : (d u w : List ℕ) (v : Version) (act : Parts → Check Parts) (o : List ℕ) → Result Version Fault → Type 0
ActedBy d u w v act o (Err x) = (p : Parts) → HeldParts d u w v p → act p ≡ no x
ActedBy d u w v act o (Ok e) = ((p : Parts) → HeldParts d u w v p → (q : Parts) × (act p ≡ ok q) × HeldParts d u o e q) × SameIdent v e
