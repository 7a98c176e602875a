-- The fields with a tag, from the first of them on. Assumes nothing.
use mathlib.Core.Path.{◌≡◌, refl}
use mathlib.Core.Bool.{Bool, true, false}
use mathlib.Core.List.{List, [], ◌∷◌}
use Prim.Native.Nat.{ℕ}
use lib.Dec.{eqb}
use Rattle.base.specs.Choice.{pick}
use Rattle.skeleton.specs.File.{Field}
use Rattle.skeleton.specs.Place.{from_tag}
use Rattle.rules.specs.ByTag.{with_tag}

-- the fields before it do not matter
pub with_from : (t : ℕ) (fs : List Field) → with_tag t fs ≡ with_tag t (from_tag t fs)
unfolding with_tag from_tag
with_from t [] = refl
with_from t (f ∷ fs) = go (eqb f.tag t) refl (with_from t fs)
  where
    go : (b : Bool) → eqb f.tag t ≡ b → with_tag t fs ≡ with_tag t (from_tag t fs)
        → pick b (f ∷ with_tag t fs) (with_tag t fs) ≡ with_tag t (pick b (f ∷ fs) (from_tag t fs))
    go true e ih = simp e
    go false e ih = ih
