-- What an update record is given as, and what its identifier says.
use Rattle.std.specs.Prelude.{ℕ, ◌+◌, ◌≤◌, ◌≡◌, List, length}
use Rattle.std.proofs.Math.Option.{Option}
use Rattle.base.specs.Check.{Check, ok, bind}
use Rattle.skeleton.specs.File.{Field}
use Rattle.skeleton.specs.Place.{between, fields_at}
use Rattle.skeleton.specs.Leader.{good}
use Rattle.skeleton.specs.Record.{record_at}
use Rattle.skeleton.specs.declared.directory.Shape.{Shape}
use Rattle.rules.specs.ByTag.{front}
use Rattle.rules.specs.Coordinates.{sent}
use Rattle.rules.specs.Record.{Rec, ident_of, update_record}
use Rattle.rules.specs.Modify.{act_fields}
use Rattle.rules.specs.Change.{fitting, revised}
use Rattle.rules.specs.declared.Kind.{Kind}
use Rattle.changing.specs.declared.identity.Said.{Said}

-- the record u[at..at + len] of an update, of kind k, has passed its tests; d the dataset, w the workspace
pub record Given (d u w : List ℕ) (at len : ℕ) (h : Shape) (k : Kind) : Type 0 where
  pub there : record_at u at ≡ good len h
  pub old : length d ≤ 16777216
  pub new : length u ≤ 16777216
  pub wide : 400000 ≤ length w
  pub passed : update_record (fields_at (between u at (at + len)) h 24) ≡ ok k

-- what the identifier of a record of kind k with these fields says
pub record Says (k : Kind) (fs : List Field) (s : Said) : Type 0 where
  pub code : s.code ≡ (ident_of k (front fs)).code
  pub rver : s.rver ≡ (ident_of k (front fs)).rver
  pub ruin : s.ruin ≡ (ident_of k (front fs)).ruin

-- the end of a modify: its fields act on the old record, which has a new RVER then, and can be written
unfoldable pub reworked : ℕ → List Field → Rec → Check (Option Rec)
reworked rver fs old = bind (act_fields (sent fs) 1 fs old.parts) (λ new. fitting (revised rver new old))
