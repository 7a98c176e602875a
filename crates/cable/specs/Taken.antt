-- What a parcel does to the two pools of a display.
use Rattle.std.specs.Prelude.{ℕ, ◌≡◌, List, length}
use Rattle.rules.specs.Answers.{work_after}
use Rattle.displays.specs.Display.{taken}
use Rattle.display.specs.Pools.{pool, other, chart_in, next_chart}
use Rattle.display.specs.declared.Chart.{Chart}
use Rattle.display.specs.declared.Shown.{Shown}
use Rattle.parcels.specs.Taking.{taking}

-- a parcel reached a display with chart c: the answer; the chart after it; every byte of both pools and of the workspace: the old chart's pool as it was,
-- the other as the updater leaves it and zero after 27, the workspace zero
pub record Taken (c : Chart) (first second parcel : List ℕ) (work : ℕ) (r : Shown) (first' second' w' : List ℕ) : Type 0 where
  pub said : r.answer ≡ (taking (chart_in c first second) parcel (length (other c first second)) work).answer
  pub stands : r.chart ≡ next_chart c r.answer
  pub holds : chart_in r.chart first' second' ≡ taken (chart_in c first second) (taking (chart_in c first second) parcel (length (other c first second)) work)
  pub in_use : pool c first' second' ≡ pool c first second
  pub built : other c first' second' ≡ (taking (chart_in c first second) parcel (length (other c first second)) work).out
  pub zero : w' ≡ work_after work
