-- Two outcomes of one call are equal. Assumes nothing.
use Prim.Native.Nat.{ℕ}
use mathlib.Core.Path.{◌≡◌, sym, ap, ◌∙◌}
use mathlib.Core.Bool.{Bool, true, false}
use mathlib.Core.List.{List}
use Rattle.base.specs.Choice.{pick}
use Rattle.rules.specs.declared.Answer.{Answer}
use Rattle.display.specs.Pools.{pool, other, next_chart, Begun, Followed}
use Rattle.display.specs.declared.Chart.{Chart}
use Rattle.display.specs.declared.Shown.{Shown}

-- equal answers and charts are shown alike
shown_alike : (q r : Shown) → q.answer ≡ r.answer → q.chart ≡ r.chart → q ≡ r
shown_alike q r a c = λ i. record { answer = a i; chart = c i }

-- of `begin`
pub begins_once : (dataset : List ℕ) (room : ℕ) (q r : Shown) (f g : List ℕ) → Begun dataset room q f → Begun dataset room r g → (q ≡ r) × (f ≡ g)
begins_once dataset room q r f g x y =
    let a : q.answer ≡ r.answer = x.said ∙ sym y.said in
    (shown_alike q r a (x.stands ∙ ap (λ (b : Answer). record { second = false; length = b.length }) a ∙ sym y.stands), x.wrote ∙ sym y.wrote)

-- two pools are what the chart's pool and the other one are
pub pools_once : (c : Chart) (f s g t : List ℕ) → pool c f s ≡ pool c g t → other c f s ≡ other c g t → (f ≡ g) × (s ≡ t)
unfolding pool other
pools_once c f s g t = go c.second
  where
    go : (b : Bool) → pick b s f ≡ pick b t g → pick b f s ≡ pick b g t → (f ≡ g) × (s ≡ t)
    go true x y = (y, x)
    go false x y = (x, y)

-- a chart that moves on after equal answers
pub charts_once : (c : Chart) (q r : Shown) → q.answer ≡ r.answer → q.chart ≡ next_chart c q.answer → r.chart ≡ next_chart c r.answer → q ≡ r
charts_once c q r a x y = shown_alike q r a (x ∙ ap (next_chart c) a ∙ sym y)

-- of `hand`
pub hands_once : (c : Chart) (first second file : List ℕ) (work : ℕ) (q r : Shown) (f s w g t v : List ℕ)
    → Followed c first second file work q f s w → Followed c first second file work r g t v → (q ≡ r) × ((f ≡ g) × (s ≡ t)) × (w ≡ v)
hands_once c first second file work q r f s w g t v x y = (
  charts_once c q r (x.said ∙ sym y.said) x.stands y.stands,
  pools_once c f s g t (x.in_use ∙ sym y.in_use) (x.built ∙ sym y.built),
  x.zero ∙ sym y.zero,
)
