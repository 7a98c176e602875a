-- What an accepted update leaves, in the words of its promise.
use Rattle.std.specs.Prelude.{ℕ, ◌+◌, ◌≡◌, false, List, length}
use Rattle.std.proofs.Math.Option.{Option, some, none}
use Rattle.base.specs.Check.{ok, pass}
use Rattle.base.specs.Keys.{same}
use Rattle.skeleton.specs.File.{Field}
use Rattle.rules.specs.Record.{Rec}
use Rattle.rules.specs.General.{name_of, edition_of, number_of}
use Rattle.rules.specs.Written.{Dataset, written_fields, number12}
use Rattle.rules.specs.File.{Sent}
use Rattle.rules.specs.Update.{find}
use Rattle.sequence.specs.History.{version}
use Rattle.sequence.specs.Order.{keep, deleted, untouched, inserts, deletes}
use Rattle.updates.specs.Acts.{kind_in, named_by, chart}
use Rattle.updates.specs.Sorted.{Sorted}
use Rattle.updates.specs.Streamed.{result_records}

-- a record that can be written
abbrev pub Writable : Rec → Type 0
Writable r = number12 (written_fields r) ≡ pass

-- the RVER of a version, 0 where there is none
unfoldable pub rver_of : Option Rec → ℕ
rver_of none = 0
rver_of (some r) = r.rver

-- how many of the update records name key k
unfoldable pub times : List ℕ → List (List Field) → ℕ
times k us = length (keep (λ fs. same (named_by (kind_in fs) fs) k) us)

-- the result r of dataset d and update u
pub record Accepted (d : Dataset) (u : Sent) (r : Dataset) : Type 0 where
  -- the update's number is the dataset's plus one, and so is the result's
  pub follows : number_of u.general ≡ number_of d.general + 1
  pub number : number_of r.general ≡ number_of d.general + 1
  -- name and edition are the dataset's
  pub name : name_of r.general ≡ name_of d.general
  pub edition : edition_of r.general ≡ edition_of d.general
  -- the first and the third record are carried
  pub descriptive : r.descriptive ≡ d.descriptive
  pub systems : r.systems ≡ d.systems
  -- the records: kinds in order and each key once, of each kind those that stay and then those that joined
  pub sorted : Sorted r.records
  pub records : r.records ≡ result_records d.records u.records
  -- their number is the old one and the inserts, less the deletes
  pub count : length r.records + deletes chart u.records ≡ length d.records + inserts chart u.records
  -- those that no update record names stand unchanged, in the same order among their like
  pub untouched_same : untouched chart u.records r.records ≡ untouched chart u.records d.records
  -- under each key stands what the update records that name it make of what stood there
  pub versions : (k : List ℕ) → version chart d.records u.records k ≡ ok (find k r.records)
  -- a record that stands under a key that no update record deletes has the old RVER, 0 where it is new, plus one for each update record that names it
  pub raised : (k : List ℕ) (s : Rec) → deleted chart k u.records ≡ false → find k r.records ≡ some s
      → s.rver ≡ rver_of (find k d.records) + times k u.records
