-- Laws of what C sees of a display's calls. Assumes nothing.
use Prim.Native.Nat.{ℕ, ◌≤◌, ◌<◌}
use mathlib.Core.Path.{◌≡◌, ap, ◌∙◌}
use mathlib.Core.Bool.{not}
use mathlib.Core.List.{List}
use lib.Dec.{eqb}
use lib.ListN.{length, set}
use Rattle.base.specs.Choice.{pick}
use Rattle.display.specs.Pools.{Followed}
use Rattle.display.specs.declared.Chart.{Chart}
use Rattle.display.specs.declared.Shown.{Shown}
use Rattle.console.specs.Shown.{chart_at, charted, SaysShown, SaysHand}
use Rattle.console.proofs.NumberedLaws.{two_left, two_put}

-- ---- `put_chart`

module _ (c : Chart) (l : List ℕ) where
  pub chart_left : length l < 2 → l ≡ charted c l
  unfolding charted
  chart_left h = two_left _ _ l h

  pub chart_put : (p : ℕ) → p ≡ pick c.second 1 0 → 2 ≤ length l → set (set l 0 p) 1 c.length ≡ charted c l
  unfolding charted
  chart_put p e h = ap (λ (x : ℕ). set (set l 0 x) 1 c.length) e ∙ two_put _ _ l h

-- ---- `ezdurvash_hand`

pub says_hand : (place size : ℕ) (first second file : List ℕ) (work : ℕ) (r : Shown) (old places : List ℕ) (n : ℕ) (first' second' w' new places' : List ℕ)
    → Followed (record { second = not (eqb place 0); length = size }) first second file work r first' second' w' → SaysShown r old places n new places'
    → SaysHand place size first second file work old places n first' second' w' new places'
unfolding chart_at
says_hand place size first second file work r old places n first' second' w' new places' f s = record { shown = r; followed = f; says = s }
