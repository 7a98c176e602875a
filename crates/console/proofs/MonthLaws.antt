-- Laws of what C sees of a month. Assumes nothing.
use Prim.Native.Nat.{ℕ}
use mathlib.Core.Path.{◌≡◌, ap, ◌∙◌}
use mathlib.Core.List.{List}
use Rattle.base.specs.Choice.{pick}
use Rattle.month.specs.Month.{Left}
use Rattle.month.specs.declared.turns.Month.{Month}
use Rattle.console.specs.Numbered.{three_of, Says}
use Rattle.console.specs.Monthly.{SaysMonth}

pub says_month : (list first : List ℕ) (size : ℕ) (second work old three : List ℕ) (n : ℕ) (r : Month) (first' second' work' new three' : List ℕ) (k : ℕ)
    → Left list first size second work r first' second' work' → k ≡ pick r.second 2 1 → three' ≡ three_of r.applied k r.length three → Says r.answer old n new
    → SaysMonth list first size second work old three n first' second' work' new three'
says_month list first size second work old three n r first' second' work' new three' k l p t s =
    record { outcome = r; left = l; says = s; others = t ∙ ap (λ (x : ℕ). three_of r.applied x r.length three) p }
