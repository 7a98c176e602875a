-- Demand 3 on the bridge cable: parcels lost, repeated or late, and exchanges that raise a display.
use Rattle.std.specs.Prelude.{ℕ, suc, ◌+◌, ◌-◌, ◌≤◌, ◌<◌, ◌≡◌, true, ◌↔◌, ◌⊎◌, List, [], ◌∷◌, ◌++◌, length}
use Rattle.std.proofs.Math.Option.{Option, some, none}
use Rattle.base.specs.Choice.{pick}
use Rattle.base.specs.Keys.{same}
use Rattle.base.specs.Lists.{Each}
use Rattle.fields.specs.Valid.{Bytes}
use Rattle.skeleton.specs.File.{Field}
use Rattle.rules.specs.General.{number_of}
use Rattle.rules.specs.Written.{Dataset, written_bytes}
use Rattle.rules.specs.Outcome.{Outcome, done, refused}
use Rattle.rules.specs.declared.Mode.TheVariants.{InUpdate}
use Rattle.displays.specs.Display.{number_shown}
use Rattle.displays.specs.Publisher.{Publisher, start, first, in_order}
use Rattle.displays.specs.Demand.{InStep}
use Rattle.parcels.specs.Parcel.{body_of, tells_holding, carries_file}
use Rattle.parcels.specs.Front.{general_in}
use Rattle.parcels.specs.Holding.{number_told, told}
use Rattle.parcels.specs.Shelf.{Placed, file_in, shelf_from}
use Rattle.parcels.specs.Taking.{Reached, after_parcel, shown_by}
use Rattle.parcels.specs.Exchange.{Brought, Exchange, Fits, Exchanges, all_brought, after_all}

-- ---- the shelf

-- the update number of a general record, where it can be read
unfoldable pub number_in : Outcome (List Field) → Option ℕ
number_in (done fs) = some (number_of fs)
number_in (refused file n x) = none

-- a file of the publisher: it was issued under the number that its general record bears
unfoldable pub Issued : Publisher → List ℕ → Type 0
Issued P f = (n : ℕ) → number_in (general_in InUpdate f) ≡ some n → P.issued n ≡ some f

-- how many of these parcels of a shelf carry file f
unfoldable pub copies : List ℕ → List ℕ → List Placed → ℕ
copies s f [] = 0
copies s f (x ∷ xs) = pick (same (file_in s x) f) (suc (copies s f xs)) (copies s f xs)

-- the file issued after number n stands on the shelf (once is enough), and the rules accept it
pub record Waits (P : Publisher) (s : List ℕ) (n : ℕ) : Type 0 where
  pub file : List ℕ
  pub issued : P.issued (n + 1) ≡ some file
  pub stands : 1 ≤ copies s file (shelf_from s 0).items
  pub result : Dataset
  pub accepted : in_order P (suc (n - first P)) ≡ some result

-- a shelf of bytes: no parcel is refused, it holds only files of the publisher, and the next k after number n
pub record Ready (P : Publisher) (s : List ℕ) (n k : ℕ) : Type 0 where
  pub is_bytes : Bytes s
  pub right : (shelf_from s 0).ending ≡ 0
  pub own : Each (λ x. Issued P (file_in s x)) (shelf_from s 0).items
  pub next : (i : ℕ) → i < k → Waits P s (n + i)

-- ---- what is promised

-- the chart of a display after all that reached it
abbrev pub chart_by : Publisher → List Reached → List ℕ
chart_by P ts = shown_by (start P) ts

-- a chart tells a holding that is right and has its number
pub record TellsRight (c : List ℕ) : Type 0 where
  pub holding : List ℕ
  pub tells : told c ≡ done holding
  pub right : tells_holding holding ≡ true
  pub number : number_told holding ≡ number_shown c

pub record OnCable (P : Publisher) : Type 0 where
  -- after every list of parcels a chart is in step
  pub in_step : (ts : List Reached) → Brought P ts → InStep P (chart_by P ts)
  -- two displays hold equal bytes exactly when they show equal numbers
  pub alike : (ts us : List Reached) → Brought P ts → Brought P us → (chart_by P ts ≡ chart_by P us) ↔ (number_shown (chart_by P ts) ≡ number_shown (chart_by P us))
  -- any parcel leaves a chart or moves it on by one
  pub stays : (ts : List Reached) → Brought P ts → (t : Reached) → (after_parcel (chart_by P ts) t ≡ chart_by P ts) ⊎ (number_shown (after_parcel (chart_by P ts) t) ≡ number_shown (chart_by P ts) + 1)
  -- a right parcel with the file that was issued next, where the updates in order go on by it and room suffices, moves it on by one
  pub onward : (ts : List Reached) → Brought P ts → (t : Reached) (r : Dataset) → carries_file t.parcel ≡ true
      → P.issued (number_shown (chart_by P ts) + 1) ≡ some (body_of t.parcel) → in_order P (suc (number_shown (chart_by P ts) - first P)) ≡ some r → Fits t r
      → (after_parcel (chart_by P ts) t ≡ written_bytes r) × (number_shown (after_parcel (chart_by P ts) t) ≡ number_shown (chart_by P ts) + 1)
  -- a display can always tell its holding
  pub tells : (ts : List Reached) → Brought P ts → TellsRight (chart_by P ts)
  -- over a shelf with the next k files, k exchanges that arrive raise a display by at least k
  pub raised : (ts : List Reached) → Brought P ts → (s : List ℕ) (xs : List Exchange) → Ready P s (number_shown (chart_by P ts)) (length xs)
      → Exchanges P s (chart_by P ts) xs → number_shown (chart_by P ts) + length xs ≤ number_shown (after_all (chart_by P ts) xs)
  -- and what they brought is what the cable may bring: all of this holds of the display again, over another shelf too
  pub again : (ts : List Reached) → Brought P ts → (s : List ℕ) (xs : List Exchange) (k : ℕ) → Ready P s (number_shown (chart_by P ts)) k
      → Exchanges P s (chart_by P ts) xs → Brought P (ts ++ all_brought xs) × (after_all (chart_by P ts) xs ≡ chart_by P (ts ++ all_brought xs))
