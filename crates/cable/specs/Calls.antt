-- Displays and a master that run: calls one after the other, of which no more is known than their contracts.
use Rattle.std.specs.Prelude.{ℕ, ◌+◌, ◌≤◌, ◌≡◌, true, ◌↔◌, List, [], ◌∷◌, length, take}
use Rattle.std.proofs.Math.Option.{Option, some, none}
use Rattle.rules.specs.declared.Answer.{Answer}
use Rattle.displays.specs.Display.{number_shown}
use Rattle.displays.specs.Publisher.{Publisher, start}
use Rattle.displays.specs.Demand.{InStep}
use Rattle.display.specs.Pools.{other, chart_in, Begun}
use Rattle.display.specs.declared.Chart.{Chart}
use Rattle.display.specs.declared.Shown.{Shown}
use Rattle.parcels.specs.Parcel.{tells_holding}
use Rattle.parcels.specs.Holding.{number_told}
use Rattle.parcels.specs.Shelf.{reply}
use Rattle.parcels.specs.Taking.{Reached}
use Rattle.parcels.specs.Exchange.{Brought, Exchange, Brings, RoomNext}
use Rattle.parcels.specs.Cable.{Ready}
use Rattle.parcels.specs.declared.Reply.{Reply}
use Rattle.cable.specs.Taken.{Taken}
use Rattle.cable.specs.Promise.{Tells}

-- ---- `take`

-- a call of `take` with what reached a display: its chart was c, and is e now
pub record TakeCall (c : List ℕ) (t : Reached) (e : List ℕ) : Type 0 where
  pub place : Chart
  pub first : List ℕ
  pub second : List ℕ
  pub shown : Shown
  pub first' : List ℕ
  pub second' : List ℕ
  pub work' : List ℕ
  pub was : c ≡ chart_in place first second
  pub lent : t.room ≡ length (other place first second)
  pub took : Taken place first second t.parcel t.work shown first' second' work'
  pub now_is : e ≡ chart_in shown.chart first' second'

-- such calls, one after the other
unfoldable pub Took : List ℕ → List Reached → List ℕ → Type 0
Took c [] e = e ≡ c
Took c (t ∷ ts) e = (m : List ℕ) × TakeCall c t m × Took m ts e

-- a call with an answer that arrived; none after silence
unfoldable pub TookAnswer : List ℕ → Option Reached → List ℕ → Type 0
TookAnswer c none e = e ≡ c
TookAnswer c (some t) e = TakeCall c t e

-- ---- `tell`

-- a call of `tell` that was not refused: of chart c it told holding h
pub record TellCall (c h : List ℕ) : Type 0 where
  pub room : ℕ
  pub answer : Answer
  pub out : List ℕ
  pub told : Tells c room answer out
  pub done : answer.number ≡ 0
  pub holding : h ≡ take answer.length out

-- ---- exchanges

-- one exchange with a master of shelf s, by calls: the display's chart was c, and is e now
pub record ExchangeCalls (P : Publisher) (s c : List ℕ) (x : Exchange) (e : List ℕ) : Type 0 where
  pub earlier : Brought P x.earlier
  pub meanwhile : Brought P x.meanwhile
  pub chart_told : List ℕ
  pub came : Took c x.earlier chart_told
  pub holding : List ℕ
  pub tells : TellCall chart_told holding
  pub answer : Reply
  pub replies : answer ≡ reply holding s
  pub arrives : Brings s answer x.answer
  pub chart_met : List ℕ
  pub came_then : Took chart_told x.meanwhile chart_met
  pub room : RoomNext P chart_met x.answer
  pub took : TookAnswer chart_met x.answer e

-- exchanges one after the other
unfoldable pub AllCalls : Publisher → List ℕ → List ℕ → List Exchange → List ℕ → Type 0
AllCalls P s c [] e = e ≡ c
AllCalls P s c (x ∷ xs) e = (m : List ℕ) × ExchangeCalls P s c x m × AllCalls P s m xs e

-- ---- what is promised of them

-- a display's chart after calls of `take` with what the cable brought, from the written form of the publisher's dataset on
pub record Runs (P : Publisher) (c : List ℕ) : Type 0 where
  pub reached : List Reached
  pub brought : Brought P reached
  pub took : Took (start P) reached c

-- a holding is told wherever there is room for it
pub record CanTell (c : List ℕ) : Type 0 where
  pub holding : List ℕ
  pub right : (tells_holding holding ≡ true) × (number_told holding ≡ number_shown c)
  pub tells : (room : ℕ) (a : Answer) (out : List ℕ) → Tells c room a out → length holding ≤ room → (a.number ≡ 0) × (take a.length out ≡ holding)

pub record ByCalls (P : Publisher) : Type 0 where
  -- a call of `begin` with the publisher's file that is not refused gives the chart that every display starts from
  pub begins : (room : ℕ) (r : Shown) (first second : List ℕ) → Begun P.source room r first → r.answer.number ≡ 0 → chart_in r.chart first second ≡ start P
  -- a display is in step
  pub in_step : (c : List ℕ) → Runs P c → InStep P c
  -- two hold equal bytes exactly when they show equal numbers
  pub alike : (c d : List ℕ) → Runs P c → Runs P d → (c ≡ d) ↔ (number_shown c ≡ number_shown d)
  -- a display can always tell its holding
  pub tells : (c : List ℕ) → Runs P c → CanTell c
  -- over a shelf with the next k files, k exchanges that arrive raise a display by at least k
  pub raised : (c : List ℕ) → Runs P c → (s : List ℕ) (xs : List Exchange) (e : List ℕ) → Ready P s (number_shown c) (length xs) → AllCalls P s c xs e
      → number_shown c + length xs ≤ number_shown e
  -- and all of this holds of the display again, over another shelf too
  pub again : (c : List ℕ) → Runs P c → (s : List ℕ) (xs : List Exchange) (e : List ℕ) (k : ℕ) → Ready P s (number_shown c) k → AllCalls P s c xs e → Runs P e
