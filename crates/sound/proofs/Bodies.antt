-- The fields of a record by their tags. Assumes nothing.
use Prim.Native.Nat.{ℕ}
use mathlib.Core.Path.{◌≡◌, refl, ap, subst}
use mathlib.Core.Bool.{false}
use mathlib.Core.List.{List, [], ◌∷◌, ◌++◌}
use lib.ListN.{length}
use lib.Dec.{eqb}
use borrow.Author.Tests.{eqb-true}
use Rattle.base.specs.Lists.{each, Each}
use Rattle.base.proofs.ListLaws.{each_length}
use Rattle.skeleton.specs.File.{Field}
use Rattle.rules.specs.ByTag.{with_tag, body_of, bodies}
use Rattle.rules.specs.Written.{field_as}
use Rattle.sequence.proofs.Tests.{by_bool}

-- what each field has, each body with tag t has as a field
pub each_body : (Q : Field → Type 0) (t : ℕ) (fs : List Field) → Each Q fs → Each (λ b. Q (field_as t b)) (bodies t fs)
unfolding bodies with_tag each Each
each_body Q t [] e = tt
each_body Q t (f ∷ fs) e =
    by_bool (eqb f.tag t)
    (λ h. rw h (subst (λ (u : ℕ). Q (field_as u f.body)) (eqb-true f.tag t h) e.0, each_body Q t fs e.1))
    (λ h. rw h (each_body Q t fs e.1))

-- the bodies of fields joined
pub bodies_join : (t : ℕ) (a b : List Field) → bodies t (a ++ b) ≡ bodies t a ++ bodies t b
unfolding bodies with_tag each
bodies_join t [] b = refl
bodies_join t (f ∷ a) b = by_bool (eqb f.tag t) (λ h. rw h (ap (λ (l : List (List ℕ)). f.body ∷ l) (bodies_join t a b))) (λ h. rw h (bodies_join t a b))

-- behind a field with another tag
pub bodies_skip : (t : ℕ) (f : Field) (fs : List Field) → eqb f.tag t ≡ false → bodies t (f ∷ fs) ≡ bodies t fs
unfolding bodies with_tag
bodies_skip t f fs h = rw h

-- no field has the tag
pub bodies_none : (t : ℕ) (fs : List Field) → with_tag t fs ≡ [] → bodies t fs ≡ []
unfolding bodies each
bodies_none t fs e = rw e

-- as many bodies as fields with the tag
pub bodies_length : (t : ℕ) (fs : List Field) → length (bodies t fs) ≡ length (with_tag t fs)
unfolding bodies
bodies_length t fs = each_length body_of (with_tag t fs)
