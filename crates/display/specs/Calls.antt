-- Displays that run: a call of `begin`, and then of `hand` after `hand`, of which no more is known than their contracts; and demand 3 of them.
use Rattle.std.specs.Prelude.{ℕ, ◌+◌, ◌≡◌, ◌↔◌, List, [], ◌∷◌, length}
use Rattle.rules.specs.Written.{Dataset, written_bytes}
use Rattle.rules.specs.Outcome.{done}
use Rattle.displays.specs.Display.{Handed, number_shown, ruled}
use Rattle.displays.specs.Publisher.{Publisher, Cable}
use Rattle.displays.specs.Demand.{InStep, HasRoom}
use Rattle.display.specs.Pools.{other, chart_in, Begun, Followed}
use Rattle.display.specs.declared.Chart.{Chart}
use Rattle.display.specs.declared.Shown.{Shown}

-- ---- calls

-- a call of `begin` with a file, that was not refused: its chart is c
pub record BeginCall (file c : List ℕ) : Type 0 where
  pub room : ℕ
  pub shown : Shown
  pub first : List ℕ
  pub second : List ℕ
  pub begun : Begun file room shown first
  pub done : shown.answer.number ≡ 0
  pub now_is : c ≡ chart_in shown.chart first second

-- a call of `hand` with what reached a display: its chart was c, wherever it stood, and is e now
pub record HandCall (c : List ℕ) (h : Handed) (e : List ℕ) : Type 0 where
  pub place : Chart
  pub first : List ℕ
  pub second : List ℕ
  pub shown : Shown
  pub first' : List ℕ
  pub second' : List ℕ
  pub work' : List ℕ
  pub was : c ≡ chart_in place first second
  pub lent : h.room ≡ length (other place first second)
  pub followed : Followed place first second h.file h.work shown first' second' work'
  pub now_is : e ≡ chart_in shown.chart first' second'

-- such calls, one after the other
unfoldable pub HandCalls : List ℕ → List Handed → List ℕ → Type 0
HandCalls c [] e = e ≡ c
HandCalls c (h ∷ hs) e = (m : List ℕ) × HandCall c h m × HandCalls m hs e

-- ---- what is promised of them

-- the chart of a display that began with the publisher's file, and was handed what the cable brought
pub record Runs (P : Publisher) (c : List ℕ) : Type 0 where
  pub at_first : List ℕ
  pub begins : BeginCall P.source at_first
  pub files : List Handed
  pub brought : Cable P files
  pub hands : HandCalls at_first files c

-- demand 3, over calls
pub record OverCalls (P : Publisher) : Type 0 where
  -- (i) a display is in step
  pub in_step : (c : List ℕ) → Runs P c → InStep P c
  -- (ii) two hold equal bytes exactly when they show equal numbers
  pub alike : (c d : List ℕ) → Runs P c → Runs P d → (c ≡ d) ↔ (number_shown c ≡ number_shown d)
  -- (iii) a call with a file for which no number but 13 or 15 is due, with room for the result, moves a display on by one
  pub moves_on : (c : List ℕ) → Runs P c → (h : Handed) (r : Dataset) → ruled c h.file ≡ done r → HasRoom h r → (e : List ℕ) → HandCall c h e
      → (e ≡ written_bytes r) × (number_shown e ≡ number_shown c + 1)
