-- What is known of a dataset and an update at each stage, and what the updater leaves behind.
use Rattle.std.specs.Prelude.{ℕ, ◌+◌, ◌≤◌, ◌≡◌, Bool, true, List, [], length, take, get_or}
use Rattle.base.specs.Check.{ok, pass}
use Rattle.memory.specs.Put.{put}
use Rattle.skeleton.specs.File.{Field, records_from, records_of}
use Rattle.rules.specs.General.{general_record, merged}
use Rattle.rules.specs.Written.{Dataset}
use Rattle.rules.specs.Outcome.{done}
use Rattle.rules.specs.File.{read_dataset, writable}
use Rattle.rules.specs.Update.{general}
use Rattle.rules.specs.Answers.{Written, update_outcome, update}
use Rattle.rules.specs.declared.Answer.{Answer}
use Rattle.rules.specs.declared.Mode.TheVariants.{InDataset}
use Rattle.updates.specs.Streamed.{head_length}
use Rattle.keys.specs.Look.{Sound}
use Rattle.stock.specs.Stock.{Stock, stock_from}
use Rattle.incoming.specs.Fitting.{Fitting}
use Rattle.composing.specs.Tied.{TiedFrom}
use Rattle.updater.specs.Pieces.{Run}
use Rattle.result.specs.Rest.{rest_bytes}

-- the general record of an update
abbrev pub sent_general : List ℕ → List Field
sent_general u = get_or (records_of u).items 1 []

-- the update records that begin at us
abbrev pub sent_from : List ℕ → ℕ → List (List Field)
sent_from u us = (records_from u us).items

-- where the first three records of a dataset stand; those behind them begin at ds
pub record Opens (f : List ℕ) (d : Dataset) (ds : ℕ) : Type 0 where
  pub second : ℕ
  pub third : ℕ
  pub one : Run f 0 second d.descriptive
  pub two : Run f second third d.general
  pub three : Run f third ds d.systems
  pub passed : general_record InDataset d.general ≡ pass
  pub inside : ds ≤ length f
  pub stock : Stock f ds
  pub records : d.records ≡ stock_from f ds
  pub sound : length f ≤ 16777216 → Sound f ds
  pub tied : TiedFrom f ds ds

-- a dataset that the reader reads
pub record Legible (f : List ℕ) : Type 0 where
  pub short : length f ≤ 16777216
  pub dataset : Dataset
  pub is_read : read_dataset f ≡ done dataset

-- a dataset that has passed all that is tested of it alone: the reader reads it, and no record of it is too long to be written
pub record Tested (f : List ℕ) : Type 0 where
  pub short : length f ≤ 16777216
  pub dataset : Dataset
  pub is_read : read_dataset f ≡ done dataset
  pub is_writable : writable dataset ≡ done dataset

-- so it is, where t says so
abbrev pub TestedIf : Bool → List ℕ → Type 0
TestedIf t f = t ≡ true → Tested f

-- all that is tested before the general records are compared has passed; the update's records begin at us
pub record Fits (f u : List ℕ) (us : ℕ) : Type 0 where
  pub old_short : length f ≤ 16777216
  pub new_short : length u ≤ 16777216
  pub dataset : Dataset
  pub is_read : read_dataset f ≡ done dataset
  pub is_writable : writable dataset ≡ done dataset
  pub fitting : Fitting u us

-- all that is tested before the update's records act has passed; the first three records of the result have `front` bytes
pub record Begun (f u : List ℕ) (ds us front : ℕ) : Type 0 where
  pub fits : Fits f u us
  pub opens : Opens f fits.dataset ds
  pub follows : general fits.dataset.general (sent_general u) ≡ ok (merged fits.dataset.general (sent_general u))
  pub long : front ≡ head_length fits.dataset (merged fits.dataset.general (sent_general u))
  pub small : front ≤ 299997

-- the answer r is that of the rules; where it is done, the result's records behind the third stand in o from `front` on, over what was `before`
pub record Acted (f u : List ℕ) (ds us front room size : ℕ) (r : Answer) (o : List ℕ) : Type 0 where
  pub said : r ≡ (update f u room size).answer
  pub before : List ℕ
  pub fits : r.number ≡ 0 → front + length (rest_bytes (stock_from f ds) (sent_from u us)) ≤ length before
  pub stands : r.number ≡ 0 → o ≡ put front (rest_bytes (stock_from f ds) (sent_from u us)) before

-- the answer r is that of the rules; where it is done, the result stands at the front of o
pub record Built (f u : List ℕ) (room size : ℕ) (r : Answer) (o : List ℕ) : Type 0 where
  pub said : r ≡ (update f u room size).answer
  pub stands : (w : Written) → update_outcome room size f u ≡ done w → take (length w.bytes) o ≡ w.bytes
