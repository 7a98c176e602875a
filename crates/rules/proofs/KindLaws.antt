-- The kinds and their tags. Assumes nothing.
use mathlib.Core.Path.{◌≡◌, refl, ap, ◌∙◌}
use mathlib.Core.Bool.{Bool, true, false}
use mathlib.Core.Option.{some, none}
use Prim.Native.Nat.{ℕ}
use native.Mathlib.Omega.{arith}
use borrow.Author.Tests.{eqb-true}
use lib.Dec.{eqb}
use Rattle.base.specs.Choice.{pick}
use Rattle.rules.specs.Tags.{IRID, PRID, MRID, FRID}
use Rattle.rules.specs.Kind.{kind_of, tag_of}
use Rattle.rules.specs.declared.Kind.{Kind}
use Rattle.rules.specs.declared.Kind.TheVariants.{Info, Point, Multi, Feature}

-- the tag of a kind is that of the kind
pub kind_of_tag : (k : Kind) → kind_of (tag_of k) ≡ some k
unfolding kind_of tag_of
kind_of_tag Info = refl
kind_of_tag Point = refl
kind_of_tag Multi = refl
kind_of_tag Feature = refl

-- a kind has one tag
pub tag_of_kind : (t : ℕ) (k : Kind) → kind_of t ≡ some k → t ≡ tag_of k
unfolding kind_of tag_of
tag_of_kind t k e = go (eqb t IRID) refl (eqb t PRID) refl (eqb t MRID) refl (eqb t FRID) refl e
  where
    same : {j : Kind} → some j ≡ some k → j ≡ k
    same x = cc

    go : (a : Bool) → eqb t IRID ≡ a → (b : Bool) → eqb t PRID ≡ b → (c : Bool) → eqb t MRID ≡ c → (d : Bool) → eqb t FRID ≡ d
        → pick a (some Info) (pick b (some Point) (pick c (some Multi) (pick d (some Feature) none))) ≡ some k → t ≡ tag_of k
    go true p b q c s d u x = eqb-true t IRID p ∙ ap tag_of (same x)
    go false p true q c s d u x = eqb-true t PRID q ∙ ap tag_of (same x)
    go false p false q true s d u x = eqb-true t MRID s ∙ ap tag_of (same x)
    go false p false q false s true u x = eqb-true t FRID u ∙ ap tag_of (same x)
    go false p false q false s false u x = absurd (let z : ◌≡◌ {A = ℕ} 0 1 = cc in omega arith)
