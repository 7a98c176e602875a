-- Laws of the identifier. Assumes nothing.
use mathlib.Core.Path.{◌≡◌, refl}
use mathlib.Core.Bool.{true, false}
use mathlib.Core.Logic.{◌⊎◌, ⊎_elim}
use Rattle.rules.specs.Kind.{coded}
use Rattle.rules.specs.declared.Kind.{Kind}
use Rattle.rules.specs.declared.Kind.TheVariants.{Info, Point, Multi, Feature}

-- ---- where its parts stand

module _ (k : Kind) where
  pub coded_one : (k ≡ Info) ⊎ (k ≡ Feature) → true ≡ coded k
  unfolding coded
  coded_one = ⊎_elim (λ e. rw e) (λ e. rw e)

pub coded_none : (k : Kind) → (k ≡ Info → ⊥) → (k ≡ Feature → ⊥) → false ≡ coded k
unfolding coded
coded_none Info a b = absurd (a refl)
coded_none Point a b = refl
coded_none Multi a b = refl
coded_none Feature a b = absurd (b refl)

pub ruleset coded_ways = (coded_one, coded_none)
