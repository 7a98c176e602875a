-- A record's fields by their tags are its parts. Assumes nothing.
use Prim.Native.Nat.{ℕ}
use mathlib.Core.Path.{◌≡◌, refl, ap, ap₂, ◌∙◌}
use mathlib.Core.Bool.{Bool, true, false}
use mathlib.Core.List.{List, [], ◌∷◌, ◌++◌, append-nil}
use lib.Dec.{eqb}
use Rattle.base.specs.Choice.{pick}
use Rattle.base.specs.Lists.{Each}
use Rattle.skeleton.specs.File.{Field}
use Rattle.rules.specs.Tags.{FOID, ATTR, INAS, SPAS, C2IT, C2IL}
use Rattle.rules.specs.ByTag.{with_tag}
use Rattle.rules.specs.Written.{coord_tag}
use Rattle.rules.specs.declared.Kind.{Kind}
use Rattle.rules.specs.declared.Kind.TheVariants.{Info, Point, Multi, Feature}
use Rattle.writing.proofs.OrderedLaws.{Tagged, Parted}

with_append : (t : ℕ) (xs ys : List Field) → with_tag t (xs ++ ys) ≡ with_tag t xs ++ with_tag t ys
unfolding with_tag
with_append t [] ys = refl
with_append t (f ∷ xs) ys = go (eqb f.tag t) (with_append t xs ys)
  where
    go : (u : Bool) → with_tag t (xs ++ ys) ≡ with_tag t xs ++ with_tag t ys
        → pick u (f ∷ with_tag t (xs ++ ys)) (with_tag t (xs ++ ys)) ≡ pick u (f ∷ with_tag t xs) (with_tag t xs) ++ with_tag t ys
    go true ih = ap (λ (gs : List Field). f ∷ gs) ih
    go false ih = ih

-- fields of one tag are all of that tag, and none of another
with_tagged : (t u : ℕ) (xs : List Field) → Tagged u xs → with_tag t xs ≡ pick (eqb u t) xs []
unfolding with_tag Each
with_tagged t u [] h = go (eqb u t)
  where
    go : (b : Bool) → ◌≡◌ {A = List Field} [] (pick b [] [])
    go true = refl
    go false = refl
with_tagged t u (f ∷ xs) h = go (eqb u t) (ap (λ (w : ℕ). eqb w t) h.0) (with_tagged t u xs h.1)
  where
    go : (b : Bool) → eqb f.tag t ≡ b → with_tag t xs ≡ pick b xs [] → pick (eqb f.tag t) (f ∷ with_tag t xs) (with_tag t xs) ≡ pick b (f ∷ xs) []
    go true e ih = rw (e, ih)
    go false e ih = rw (e, ih)

-- the same with others behind them
with_more : (t u : ℕ) (xs ys : List Field) {zs : List Field} → Tagged u xs → with_tag t ys ≡ zs → with_tag t (xs ++ ys) ≡ pick (eqb u t) xs [] ++ zs
with_more t u xs ys h e = with_append t xs ys ∙ ap₂ (λ (a b : List Field). a ++ b) (with_tagged t u xs h) e

-- the tag of a kind's coordinates is one of two
other_coord : (k : Kind) (t : ℕ) → eqb C2IT t ≡ false → eqb C2IL t ≡ false → eqb (coord_tag k) t ≡ false
unfolding coord_tag
other_coord Info t p l = l
other_coord Point t p l = p
other_coord Multi t p l = l
other_coord Feature t p l = l

module _ (k : Kind) (fs : List Field) (p : Parted k fs) where
  with_parts : (t : ℕ) → with_tag t fs ≡ pick (eqb FOID t) p.foids [] ++ (pick (eqb ATTR t) p.attrs [] ++ (pick (eqb INAS t) p.inass []
      ++ (pick (eqb (coord_tag k) t) p.coords [] ++ pick (eqb SPAS t) p.spass [])))
  with_parts t =
      ap (with_tag t) p.is
      ∙ with_more t FOID p.foids _ p.foid_tags (with_more t ATTR p.attrs _ p.attr_tags (with_more t INAS p.inass _ p.inas_tags
      (with_more t (coord_tag k) p.coords _ p.coord_tags (with_tagged t SPAS p.spass p.spas_tags))))

  pub with_foid : with_tag FOID fs ≡ p.foids
  with_foid = with_parts FOID ∙ rw (other_coord k FOID refl refl) (append-nil p.foids)

  pub with_attr : with_tag ATTR fs ≡ p.attrs
  with_attr = with_parts ATTR ∙ rw (other_coord k ATTR refl refl) (append-nil p.attrs)

  pub with_inas : with_tag INAS fs ≡ p.inass
  with_inas = with_parts INAS ∙ rw (other_coord k INAS refl refl) (append-nil p.inass)

  pub with_spas : with_tag SPAS fs ≡ p.spass
  with_spas = with_parts SPAS ∙ rw (other_coord k SPAS refl refl)

-- both tags of coordinates together
both_coords : (k : Kind) (xs : List Field) → (pick (eqb (coord_tag k) C2IT) xs [] ++ []) ++ (pick (eqb (coord_tag k) C2IL) xs [] ++ []) ≡ xs
unfolding coord_tag
both_coords Info xs = append-nil xs
both_coords Point xs = append-nil (xs ++ []) ∙ append-nil xs
both_coords Multi xs = append-nil xs
both_coords Feature xs = append-nil xs

pub with_coords : (k : Kind) (fs : List Field) (p : Parted k fs) → with_tag C2IT fs ++ with_tag C2IL fs ≡ p.coords
with_coords k fs p = ap₂ (λ (x y : List Field). x ++ y) (with_parts k fs p C2IT) (with_parts k fs p C2IL) ∙ both_coords k p.coords
