-- The two pools of a display, and what a file does to them.
use Rattle.std.specs.Prelude.{ℕ, ◌≡◌, not, false, List, [], length, take, eqb}
use Rattle.base.specs.Choice.{pick}
use Rattle.rules.specs.Answers.{write, update, work_after}
use Rattle.rules.specs.declared.Answer.{Answer}
use Rattle.displays.specs.Display.{taken}
use Rattle.display.specs.declared.Chart.{Chart}
use Rattle.display.specs.declared.Shown.{Shown}

-- the pool that holds the chart, and the one in which a result is built
unfoldable pub pool : Chart → List ℕ → List ℕ → List ℕ
pool c first second = pick c.second second first

unfoldable pub other : Chart → List ℕ → List ℕ → List ℕ
other c first second = pick c.second first second

-- the chart: the front of its pool
unfoldable pub chart_in : Chart → List ℕ → List ℕ → List ℕ
chart_in c first second = take c.length (pool c first second)

-- where it stands after an answer
unfoldable pub next_chart : Chart → Answer → Chart
next_chart c a = pick (eqb a.number 0) (record { second = not c.second; length = a.length }) c

-- the writer was called with a dataset and the first pool: its answer, every byte of the pool, and as the chart what it wrote
pub record Begun (dataset : List ℕ) (room : ℕ) (r : Shown) (first : List ℕ) : Type 0 where
  pub said : r.answer ≡ (write dataset room).answer
  pub wrote : first ≡ (write dataset room).out
  pub stands : r.chart ≡ record { second = false; length = r.answer.length }
  pub holds : (second : List ℕ) → chart_in r.chart first second ≡ taken [] (write dataset room)

-- a file reached a display with chart c: the updater's answer; the chart that demand 3 has after it; every byte of both pools and of the workspace: the
-- old chart's pool as it was, the other as the updater leaves it, the workspace zero
pub record Followed (c : Chart) (first second file : List ℕ) (work : ℕ) (r : Shown) (first' second' w' : List ℕ) : Type 0 where
  pub said : r.answer ≡ (update (chart_in c first second) file (length (other c first second)) work).answer
  pub stands : r.chart ≡ next_chart c r.answer
  pub holds : chart_in r.chart first' second' ≡ taken (chart_in c first second) (update (chart_in c first second) file (length (other c first second)) work)
  pub in_use : pool c first' second' ≡ pool c first second
  pub built : other c first' second' ≡ (update (chart_in c first second) file (length (other c first second)) work).out
  pub zero : w' ≡ work_after work
