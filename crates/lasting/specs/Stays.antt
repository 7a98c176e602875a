-- What code made of a key's history, as a step of the result.
use Rattle.std.specs.Prelude.{ℕ, ◌+◌, ◌/◌, ◌≤◌, ◌<◌, ◌≡◌, Bool, true, false, List, [], ◌∷◌, eqb, length, Option, Some, None, Result}
use Rattle.std.proofs.Math.Option.{some}
use Rattle.base.specs.Check.{ok, pass}
use Rattle.base.specs.declared.Fault.{Fault}
use Rattle.skeleton.specs.File.{records_from}
use Rattle.skeleton.specs.Place.{between, fields_at}
use Rattle.skeleton.specs.declared.directory.Shape.{Shape}
use Rattle.rules.specs.Record.{Rec, key_of}
use Rattle.rules.specs.Written.{written_fields, number12}
use Rattle.sequence.specs.Stream.{kept_of, joined_of}
use Rattle.updates.specs.Acts.{chart}
use Rattle.updates.specs.Accepted.{Writable}
use Rattle.sound.specs.Sound.{SoundRec}
use Rattle.stock.specs.Stock.{rec_in, Stock}
use Rattle.incoming.specs.Fitting.{Rest}
use Rattle.keys.specs.Numbered.{number_of, Ranged}
use Rattle.version.specs.Areas.{flag_area}
use Rattle.version.specs.Held.{Held}
use Rattle.version.specs.Present.{HeldAs, ChangedTo, FlagsKept}
use Rattle.version.specs.declared.Version.{Version}
use Rattle.composing.specs.Acts.{ruin_with, deleted_from}
use Rattle.history.specs.Here.{record_here}
use Rattle.history.specs.Ready.{Short}
use Rattle.history.specs.Played.{Played}
use Rattle.lasting.specs.Whole.{Old, New}
use Rattle.lasting.specs.Step.{Stepped}
use Rattle.lasting.specs.declared.Step.{Step}
use Rattle.lasting.specs.declared.Step.TheVariants.{Loose, One}

-- the step that a record which was made is
unfoldable pub step_by : Option ℕ → Step
step_by None = Loose
step_by (Some n) = One n

-- the old record at p, which can be written, stands under the key with this number
pub record Replayable (d u : List ℕ) (us p key : ℕ) : Type 0 where
  pub short : Short d u
  pub stock : Stock d p
  pub inside : p < length d
  pub rest : Rest u us
  pub start : us ≤ length u
  pub writable : Writable (rec_in (record_here d p))
  pub under : (k : List ℕ) → Ranged k → number_of k ≡ key → key_of (rec_in (record_here d p)) ≡ k

-- it was loaded, and the update records from us on that name the key made c of it; the workspace was w and is w₂
pub record Replayed (d u : List ℕ) (us p key : ℕ) (w w₂ : List ℕ) (c : Result (Option Version) Fault) : Type 0 where
  pub middle : List ℕ
  pub first : Option Version
  pub loaded : (u : List ℕ) → Writable (rec_in (record_here d p)) → HeldAs d u middle first (some (rec_in (record_here d p)))
  pub played : Played d u us (length u) middle first key w₂ c
  pub kept : FlagsKept w w₂

-- the update record at p inserts a record that none of the later ones deletes
pub record Lasting (u : List ℕ) (us p key : ℕ) : Type 0 where
  pub len : ℕ
  pub shape : Shape
  pub there : New u us p len shape key
  pub inserts : eqb (ruin_with key (fields_at (between u p (p + len)) shape 24)) 1 ≡ true
  pub kept : deleted_from u (p + len) key ≡ false

-- a history ends with a sound record, and code found it
pub record Stays (d u w : List ℕ) (c : Result (Option Version) Fault) : Type 0 where
  pub rec : Rec
  pub sound : SoundRec rec
  pub came : ChangedTo d u w (ok (some rec)) c

-- w is the workspace, with its flags; they are named in shut definitions and records alone, since code that hands them on would compute the area's ends
module _ (d : List ℕ) (ds : ℕ) (u : List ℕ) (us : ℕ) (w : List ℕ) (sure : Bool) (to : ℕ) (before out : List ℕ) where
  -- the version v in the workspace is this step
  unfoldable pub HeldStep : Version → Step → Type 0
  HeldStep v s = (r : Rec) → Held d u w v r → SoundRec r → number12 (written_fields r) ≡ pass → Stepped d ds u us (flag_area w) sure (r ∷ []) to before out s

  -- what code made of a history, which ends with a record, is this step
  unfoldable pub LastStep : Result (Option Version) Fault → Step → Type 0
  LastStep c s = (r : Rec) → SoundRec r → ChangedTo d u w (ok (some r)) c → Stepped d ds u us (flag_area w) sure (r ∷ []) to before out s

  -- the old record at p, as it stands
  unfoldable pub SameStep : ℕ → ℕ → Shape → Step → Type 0
  SameStep p len h s = (key : ℕ) → Old d ds p len h key → Stepped d ds u us (flag_area w) sure (rec_in (fields_at (between d p (p + len)) h 24) ∷ []) to before out s

  -- the same after the update records that name it; the workspace is w₂ then
  pub record OldStep (p key : ℕ) (w₂ : List ℕ) (s : Step) : Type 0 where
    pub made : (len : ℕ) (h : Shape) → Old d ds p len h key
        → Stepped d ds u us (flag_area w) sure (kept_of chart (key / 4294967296) (records_from u us).items (rec_in (fields_at (between d p (p + len)) h 24))) to before out s
    pub flags : FlagsKept w w₂

  -- the record that the update record at p inserts; the workspace is w₂ then
  pub record NewStep (p key : ℕ) (w₂ : List ℕ) (s : Step) : Type 0 where
    pub made : (l : Lasting u us p key)
        → Stepped d ds u us (flag_area w) sure (joined_of chart (key / 4294967296) (fields_at (between u p (p + l.len)) l.shape 24) (records_from u (p + l.len)).items) to before out s
    pub flags : FlagsKept w w₂
