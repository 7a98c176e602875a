-- Two outcomes that satisfy one promise are equal. Assumes nothing.
use Prim.Native.Nat.{ℕ}
use mathlib.Core.Path.{◌≡◌, sym, ◌∙◌}
use mathlib.Core.List.{List}
use Rattle.rules.specs.declared.Answer.{Answer}
use Rattle.display.specs.declared.Chart.{Chart}
use Rattle.display.specs.declared.Shown.{Shown}
use Rattle.display.proofs.Unique.{pools_once, charts_once}
use Rattle.cable.specs.Promise.{Tells}
use Rattle.cable.specs.Taken.{Taken}

-- of a display that tells
pub tells_once : (c : List ℕ) (room : ℕ) (a b : Answer) (o p : List ℕ) → Tells c room a o → Tells c room b p → (a ≡ b) × (o ≡ p)
tells_once c room a b o p x y = (x.answers ∙ sym y.answers, x.fills ∙ sym y.fills)

-- of a display that takes
pub takes_once : (c : Chart) (first second parcel : List ℕ) (work : ℕ) (q r : Shown) (f s w g u v : List ℕ)
    → Taken c first second parcel work q f s w → Taken c first second parcel work r g u v → (q ≡ r) × ((f ≡ g) × (s ≡ u)) × (w ≡ v)
takes_once c first second parcel work q r f s w g u v x y = (
  charts_once c q r (x.said ∙ sym y.said) x.stands y.stands,
  pools_once c f s g u (x.in_use ∙ sym y.in_use) (x.built ∙ sym y.built),
  x.zero ∙ sym y.zero,
)
