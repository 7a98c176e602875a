-- What C sees of a display's calls: the display's own promise, its answer said, and where its chart stands.
use Rattle.std.specs.Prelude.{ℕ, ◌≡◌, not, List, eqb}
use Rattle.base.specs.Choice.{pick}
use Rattle.display.specs.Pools.{Begun, Followed}
use Rattle.display.specs.declared.Chart.{Chart}
use Rattle.display.specs.declared.Shown.{Shown}
use Rattle.console.specs.Numbered.{two_of, Says}

-- the chart of so many bytes in the first pool, where the place is 0, else in the second
unfoldable pub chart_at : ℕ → ℕ → Chart
chart_at place size = record { second = not (eqb place 0); length = size }

-- a chart's place, 0 or 1, and its length in the first two places of a slice
unfoldable pub charted : Chart → List ℕ → List ℕ
charted c old = two_of (pick c.second 1 0) c.length old

-- how a display's call says what it shows: the slice for the answer was old and is new, the one for the chart was places and is places', n is the result
pub record SaysShown (r : Shown) (old places : List ℕ) (n : ℕ) (new places' : List ℕ) : Type 0 where
  pub says : Says r.answer old n new
  pub stands : places' ≡ charted r.chart places

-- a display began
pub record SaysBegin (dataset : List ℕ) (room : ℕ) (old places : List ℕ) (n : ℕ) (first new places' : List ℕ) : Type 0 where
  pub shown : Shown
  pub begun : Begun dataset room shown first
  pub says : SaysShown shown old places n new places'

-- a file reached a display
pub record SaysHand (place size : ℕ) (first second file : List ℕ) (work : ℕ) (old places : List ℕ) (n : ℕ) (first' second' w' new places' : List ℕ) : Type 0 where
  pub shown : Shown
  pub followed : Followed (chart_at place size) first second file work shown first' second' w'
  pub says : SaysShown shown old places n new places'
