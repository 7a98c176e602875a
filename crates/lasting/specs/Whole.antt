-- A dataset and an update none of whose records is refused: where the result's records come from.
use Rattle.std.specs.Prelude.{ℕ, ◌+◌, ◌≤◌, ◌<◌, ◌≡◌, List, ◌++◌, length}
use Rattle.base.specs.Lists.{Each}
use Rattle.skeleton.specs.File.{Field, records_from}
use Rattle.skeleton.specs.Leader.{good}
use Rattle.skeleton.specs.Record.{record_at}
use Rattle.skeleton.specs.declared.directory.Shape.{Shape}
use Rattle.rules.specs.Record.{Rec}
use Rattle.rules.specs.Outcome.{done}
use Rattle.updates.specs.Streamed.{verdicts}
use Rattle.sound.specs.Sound.{SoundRec}
use Rattle.keys.specs.Key.{key_at}
use Rattle.keys.specs.Listed.{keys_from}
use Rattle.keys.specs.Table.{Laid}
use Rattle.stock.specs.Stock.{Stock, stock_from}
use Rattle.incoming.specs.Fitting.{Rest}
use Rattle.keys.specs.Places.{Leads}
use Rattle.version.specs.Areas.{flag_area}
use Rattle.composing.specs.Tied.{TiedFrom}
use Rattle.history.specs.Flags.{Flags}
use Rattle.history.specs.Ready.{Ready}

-- the dataset d from ds on, with its table and map, whose records name records that it has; the update u from us on, which is accepted record by record; in the workspace w the flags of the keys that it names
pub record Whole (d : List ℕ) (ds : ℕ) (t : List ℕ) (n : ℕ) (map u : List ℕ) (us : ℕ) (w : List ℕ) : Type 0 where
  pub ready : Ready d ds u us
  pub laid : Laid d ds t n map
  pub wide : 400000 ≤ length w
  pub sound : Each SoundRec (stock_from d ds)
  pub fine : verdicts (stock_from d ds) (records_from u us).items ≡ done tt
  pub flags : Flags (keys_from u us) (flag_area w)
  pub tied : TiedFrom d ds ds

-- the old record at p, one of those from ds on: len bytes of this shape, and its key has this number
pub record Old (d : List ℕ) (ds p len : ℕ) (h : Shape) (key : ℕ) : Type 0 where
  pub stock : Stock d p
  pub inside : p < length d
  pub there : record_at d p ≡ good len h
  pub number : key_at d (p + h.base) ≡ key
  pub before : List Rec
  pub split : before ++ stock_from d p ≡ stock_from d ds
  pub leads : Leads d ds p

-- the update record at p, one of those from us on
pub record New (u : List ℕ) (us p len : ℕ) (h : Shape) (key : ℕ) : Type 0 where
  pub rest : Rest u p
  pub inside : p < length u
  pub there : record_at u p ≡ good len h
  pub number : key_at u (p + h.base) ≡ key
  pub before : List (List Field)
  pub split : before ++ (records_from u p).items ≡ (records_from u us).items
  pub leads : Leads u us p
