-- What room does not decide is refused with a fair number. Assumes nothing.
use Prim.Native.Nat.{ℕ}
use mathlib.Core.Path.{◌≡◌, refl, sym, ap, ◌∙◌}
use mathlib.Core.Bool.{Bool, true, false, not}
use lib.Dec.{eqb}
use Rattle.base.specs.Choice.{either}
use Rattle.rules.proofs.ReadOnce.{clash}
use Rattle.numbers.specs.Refusals.{is_in, of_rules}
use Rattle.numbers.specs.Fair.{fair}
use Rattle.numbers.proofs.Lists.{each_passes, in_passes, of_each_file}

-- what the rules alone refuse with is fair
pub rules_fair : (file n : ℕ) → is_in n (of_rules file) ≡ true → fair n ≡ true
unfolding of_rules each_passes fair
rules_fair file n = in_passes fair n (of_rules file) (of_each_file (λ f ns. each_passes fair ns ≡ true) _ _ _ _ refl refl refl refl (λ f. refl) file)

-- a fair number is not 0
pub not_zero : (n : ℕ) → fair n ≡ true → eqb n 0 ≡ false
unfolding fair
not_zero n e = go (eqb n 0) refl
  where
    go : (b : Bool) → eqb n 0 ≡ b → b ≡ false
    go false h = refl
    go true h = unfold fair in absurd (clash true refl (sym e ∙ ap (λ b. not (either b (either (eqb n 13) (eqb n 15)))) h))
