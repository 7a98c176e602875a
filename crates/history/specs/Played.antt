-- What the update records that name a key make of what stands under it.
use Rattle.std.specs.Prelude.{ℕ, ◌≤◌, ◌<◌, ◌≡◌, true, List, ◌++◌, length, take, Option as StdOption, Result, Ok, Err}
use Rattle.std.proofs.Math.Option.{Option}
use Rattle.base.specs.Check.{ok, no}
use Rattle.base.specs.Keys.{same}
use Rattle.base.specs.declared.Fault.{Fault}
use Rattle.skeleton.specs.File.{Field, records_from}
use Rattle.rules.specs.Record.{Rec}
use Rattle.sequence.specs.Keyed.{Under}
use Rattle.sequence.specs.History.{history}
use Rattle.updates.specs.Acts.{chart}
use Rattle.keys.specs.Look.{Sound}
use Rattle.keys.specs.Numbered.{number_of, Ranged}
use Rattle.keys.specs.Places.{Leads}
use Rattle.version.specs.Present.{HeldAs, ChangedTo, FlagsKept}
use Rattle.version.specs.declared.Version.{Version}
use Rattle.history.specs.Here.{record_here, named_in}
use Rattle.history.specs.declared.playing.Course.{Course}

-- what the workspace w holds as p stands under the key that an update record with these fields names
pub record Acting (d u w : List ℕ) (p : StdOption Version) (fs : List Field) : Type 0 where
  pub what : Option Rec
  pub held : HeldAs d u w p what
  pub under : Under chart (named_in fs) what

-- that update record made r of it, and the workspace is w'
pub record Acted (d u w : List ℕ) (p : StdOption Version) (fs : List Field) (w' : List ℕ) (r : Result (StdOption Version) Fault) : Type 0 where
  pub came : (o : Option Rec) → HeldAs d u w p o → Under chart (named_in fs) o → ChangedTo d u w' (chart.change fs o) r
  pub kept : FlagsKept w w'

-- what the workspace w holds as p stands under the key with this number
pub record Playing (d u w : List ℕ) (p : StdOption Version) (key : ℕ) : Type 0 where
  pub what : Option Rec
  pub held : HeldAs d u w p what
  pub under : (k : List ℕ) → Ranged k → number_of k ≡ key → Under chart k what

-- the first m update records from byte us on made r of it, and the workspace is w'
pub record Played (d u : List ℕ) (us m : ℕ) (w : List ℕ) (p : StdOption Version) (key : ℕ) (w' : List ℕ) (r : Result (StdOption Version) Fault) : Type 0 where
  pub came : (k : List ℕ) → Ranged k → number_of k ≡ key → (o : Option Rec) → HeldAs d u w p o → Under chart k o
      → ChangedTo d u w' (history chart k (take m (records_from u us).items) o) r
  pub kept : FlagsKept w w'

-- such update records end at `at`: the one there is refused of what stands under the key k; or the update ends there, and that is held
unfoldable pub EndsAt : List ℕ → List ℕ → List ℕ → ℕ → List ℕ → Option Rec → Result (StdOption Version) Fault → Type 0
EndsAt d u w at k o (Err x) = (at < length u) × (same (named_in (record_here u at)) k ≡ true) × (chart.change (record_here u at) o ≡ no x)
EndsAt d u w at k o (Ok p) = (length u ≤ at) × HeldAs d u w p o

-- the update records from byte `from` on that name the key with this number took what the workspace w holds as p along this course, and the workspace is w'
pub record Coursed (d u : List ℕ) (from : ℕ) (w : List ℕ) (p : StdOption Version) (key : ℕ) (w' : List ℕ) (c : Course) : Type 0 where
  pub leads : Leads u from c.at
  pub sound : Sound u c.at
  pub passed : List (List Field)
  pub split : (records_from u from).items ≡ passed ++ (records_from u c.at).items
  pub came : (k : List ℕ) → Ranged k → number_of k ≡ key → (o : Option Rec) → HeldAs d u w p o → Under chart k o
      → (q : Option Rec) × (history chart k passed o ≡ ok q) × EndsAt d u w' c.at k q c.left
  pub kept : FlagsKept w w'
