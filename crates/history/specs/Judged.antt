-- The verdicts on an update's records.
use Rattle.std.specs.Prelude.{ℕ, ◌≤◌, ◌<◌, ◌≡◌, true, List, ltb, length, Option as StdOption, Result, Ok, Err}
use Rattle.std.proofs.Math.Option.{Option}
use Rattle.base.specs.Choice.{pick}
use Rattle.base.specs.Check.{ok, no}
use Rattle.base.specs.Lists.{each}
use Rattle.base.specs.Verdict.{refusal}
use Rattle.base.specs.declared.Fault.{Fault}
use Rattle.base.specs.declared.Refusal.{Refusal}
use Rattle.skeleton.specs.File.{records_from}
use Rattle.rules.specs.Outcome.{Outcome, done, refused}
use Rattle.rules.specs.Record.{Rec}
use Rattle.sequence.specs.History.{version, due}
use Rattle.updates.specs.Acts.{chart}
use Rattle.updates.specs.Streamed.{verdicts}
use Rattle.stock.specs.Stock.{stock_from}
use Rattle.keys.specs.Listed.{key_of, keys_from, listed}
use Rattle.keys.specs.Numbered.{number_of, Ranged}
use Rattle.keys.specs.Places.{Leads}
use Rattle.version.specs.Areas.{flag_area}
use Rattle.version.specs.Present.{FlagsKept}
use Rattle.version.specs.declared.Version.{Version}
use Rattle.history.specs.Here.{record_here, named_in, records_up_to}
use Rattle.history.specs.Flags.{Flags}
use Rattle.history.specs.declared.judging.Stop.{Stop}
use Rattle.history.specs.declared.playing.Course.{Course}

-- the keys of the update records from us up to the one at q
abbrev pub keys_up_to : List ℕ → ℕ → ℕ → List ℕ
keys_up_to u us q = each key_of (records_up_to u us q)

-- the update record at q names the key with this number
pub record Naming (u : List ℕ) (q key : ℕ) : Type 0 where
  pub there : q < length u
  pub ranged : Ranged (named_in (record_here u q))
  pub number : number_of (named_in (record_here u q)) ≡ key

module _ (d : List ℕ) (ds : ℕ) (u : List ℕ) (us : ℕ) where
  -- of the update records before the one at b, none that names the key with this number is refused
  unfoldable pub Through : ℕ → ℕ → Type 0
  Through b key = (k : List ℕ) → Ranged k → number_of k ≡ key → (o : Option Rec) × (version chart (stock_from d ds) (records_up_to u us b) k ≡ ok o)

  -- the one at b is refused with this fault, by the history of its own key
  unfoldable pub RefusedAt : ℕ → Fault → Type 0
  RefusedAt b x = due chart (stock_from d ds) (records_up_to u us b) (record_here u b) ≡ no x

  -- the course of the key that the update record at q is the first to name: it goes through, or the record where it ends is refused
  pub record Followed (q key : ℕ) (w w' : List ℕ) (c : Course) : Type 0 where
    pub leads : Leads u q c.at
    pub through : Through c.at key
    pub ends : c.at < length u → (x : Fault) × (c.left ≡ Err x) × RefusedAt c.at x
    pub kept : FlagsKept w w'

-- the first of two refusals: of one that a course may have ended with, and of another
unfoldable pub earlier_by : Result (StdOption Version) Fault → ℕ → Stop → Stop
earlier_by (Err x) at s = pick (ltb at s.at) (record { at = at; fault = x }) s
earlier_by (Ok p) at s = s

abbrev pub earlier_of : Course → Stop → Stop
earlier_of c s = earlier_by c.left c.at s

module _ (d : List ℕ) (ds : ℕ) (u : List ℕ) (us : ℕ) where
  -- s is the first of the refusals in the histories of the keys that update records before the one at q name, and it is not before q
  pub record Judging (q : ℕ) (s : Stop) : Type 0 where
    pub leads : Leads u us s.at
    pub ahead : q ≤ s.at
    pub through : (key : ℕ) → listed key (keys_up_to u us q) ≡ true → Through d ds u us s.at key
    pub ends : s.at < length u → RefusedAt d ds u us s.at s.fault

-- what code answers: no refusal, or it, with its record
unfoldable pub judged_by : Outcome (Unit {0}) → Result (Unit {0}) Refusal
judged_by (done a) = Ok tt
judged_by (refused file n x) = Err (refusal n x)

-- the verdicts on all of them; where none is a refusal, the flags are those of the keys that they name
pub record AllJudged (d : List ℕ) (ds : ℕ) (u : List ℕ) (us : ℕ) (w' : List ℕ) (r : Result (Unit {0}) Refusal) : Type 0 where
  pub came : r ≡ judged_by (verdicts (stock_from d ds) (records_from u us).items)
  pub flags : r ≡ Ok tt → Flags (keys_from u us) (flag_area w')
