-- Displays that run by C: a call of `ezdurvash_begin`, and then of `ezdurvash_hand` after `ezdurvash_hand`, each with the chart where the call before it said
-- that it stands; of them no more is known than their contracts.
use Rattle.std.specs.Prelude.{ℕ, ◌+◌, ◌≤◌, ◌≡◌, ◌↔◌, List, [], ◌∷◌, length, get_or}
use Rattle.rules.specs.Written.{Dataset, written_bytes}
use Rattle.rules.specs.Outcome.{done}
use Rattle.displays.specs.Display.{Handed, number_shown, ruled}
use Rattle.displays.specs.Publisher.{Publisher, Cable}
use Rattle.displays.specs.Demand.{InStep, HasRoom}
use Rattle.display.specs.Pools.{other, chart_in}
use Rattle.display.specs.declared.Chart.{Chart}
use Rattle.console.specs.Shown.{chart_at, SaysBegin, SaysHand}

-- where a slice of places says that the chart stands
unfoldable pub chart_said : List ℕ → Chart
chart_said places = chart_at (get_or places 0 0) (get_or places 1 0)

-- a call of `ezdurvash_begin` with a file whose result is 0: the chart where it says is c
pub record BeginByC (file c : List ℕ) : Type 0 where
  pub room : ℕ
  pub old : List ℕ
  pub places : List ℕ
  pub first : List ℕ
  pub second : List ℕ
  pub new : List ℕ
  pub places' : List ℕ
  pub lent : 2 ≤ length places
  pub says : SaysBegin file room old places 0 first new places'
  pub now_is : c ≡ chart_in (chart_said places') first second

-- a call of `ezdurvash_hand` with what reached a display: the chart was c, and is e where the call says that it stands now
pub record HandByC (c : List ℕ) (h : Handed) (e : List ℕ) : Type 0 where
  pub place : ℕ
  pub size : ℕ
  pub first : List ℕ
  pub second : List ℕ
  pub old : List ℕ
  pub places : List ℕ
  pub result : ℕ
  pub first' : List ℕ
  pub second' : List ℕ
  pub work' : List ℕ
  pub new : List ℕ
  pub places' : List ℕ
  pub was : c ≡ chart_in (chart_at place size) first second
  pub room : h.room ≡ length (other (chart_at place size) first second)
  pub lent : 2 ≤ length places
  pub says : SaysHand place size first second h.file h.work old places result first' second' work' new places'
  pub now_is : e ≡ chart_in (chart_said places') first' second'

-- such calls, one after the other
unfoldable pub HandsByC : List ℕ → List Handed → List ℕ → Type 0
HandsByC c [] e = e ≡ c
HandsByC c (h ∷ hs) e = (m : List ℕ) × HandByC c h m × HandsByC m hs e

-- the chart of a display that began with the publisher's file, and was handed what the cable brought
pub record RunsByC (P : Publisher) (c : List ℕ) : Type 0 where
  pub at_first : List ℕ
  pub begins : BeginByC P.source at_first
  pub files : List Handed
  pub brought : Cable P files
  pub hands : HandsByC at_first files c

-- demand 3, over calls of C
pub record OverCallsOfC (P : Publisher) : Type 0 where
  -- (i) a display is in step
  pub in_step : (c : List ℕ) → RunsByC P c → InStep P c
  -- (ii) two hold equal bytes exactly when they show equal numbers
  pub alike : (c d : List ℕ) → RunsByC P c → RunsByC P d → (c ≡ d) ↔ (number_shown c ≡ number_shown d)
  -- (iii) a call with a file for which no number but 13 or 15 is due, with room for the result, moves a display on by one
  pub moves_on : (c : List ℕ) → RunsByC P c → (h : Handed) (r : Dataset) → ruled c h.file ≡ done r → HasRoom h r → (e : List ℕ) → HandByC c h e
      → (e ≡ written_bytes r) × (number_shown e ≡ number_shown c + 1)
