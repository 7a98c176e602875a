-- The bodies of a written record's fields, tag by tag. Assumes nothing.
use Prim.Native.Nat.{ℕ}
use mathlib.Core.Path.{◌≡◌, refl, sym, ap, ap₂, ◌∙◌}
use mathlib.Core.Bool.{false}
use mathlib.Core.List.{List, [], ◌∷◌, ◌++◌, append-nil}
use lib.Dec.{eqb}
use borrow.Author.Tests.{eq-eqb}
use Rattle.base.specs.Lists.{each, gather}
use Rattle.rules.specs.Tags.{FOID, ATTR, INAS, SPAS, C2IT, C2IL}
use Rattle.rules.specs.ByTag.{with_tag, bodies}
use Rattle.rules.specs.Kind.{tag_of}
use Rattle.rules.specs.Record.{Rec, Assoc}
use Rattle.rules.specs.Written.{list_field, tree_bytes, assoc_field, coord_tag, part_fields, written_fields}
use Rattle.rules.specs.declared.Kind.{Kind}
use Rattle.rules.specs.declared.Kind.TheVariants.{Info, Point, Multi, Feature}
use Rattle.sound.proofs.Bodies.{bodies_join, bodies_skip}
use Rattle.roundtrip.proofs.Coordinates.{coord_bytes}
use Rattle.roundtrip.proofs.Spatial.{spatial_bytes}
use Rattle.roundtrip.proofs.Idents.{foid_bytes}

-- ---- a list, and associations

-- an empty list has no body
unfoldable pub optional : List ℕ → List (List ℕ)
optional [] = []
optional (x ∷ b) = (x ∷ b) ∷ []

-- the body of a list with the tag
pub list_own : (t : ℕ) (b : List ℕ) → bodies t (list_field t b) ≡ optional b
unfolding bodies with_tag list_field each optional
list_own t [] = refl
list_own t (x ∷ b) = rw (eq-eqb t t refl)

-- a list with another tag
pub list_other : (t u : ℕ) (b : List ℕ) → eqb u t ≡ false → bodies t (list_field u b) ≡ []
unfolding bodies with_tag list_field each
list_other t u [] h = refl
list_other t u (x ∷ b) h = rw h

-- the bodies of associations
inas_own : (l : List Assoc) → bodies INAS (each assoc_field l) ≡ each (λ a. (assoc_field a).body) l
unfolding bodies with_tag each assoc_field
inas_own [] = refl
inas_own (a ∷ l) = ap (λ (m : List (List ℕ)). (assoc_field a).body ∷ m) (inas_own l)

-- for another tag
inas_other : (t : ℕ) (l : List Assoc) → eqb INAS t ≡ false → bodies t (each assoc_field l) ≡ []
unfolding bodies with_tag each assoc_field
inas_other t [] h = refl
inas_other t (a ∷ l) h = rw h (inas_other t l h)

-- what is gathered of an optional body
pub gather_optional : {A : Type 0} (f : List ℕ → List A) (b : List ℕ) → f [] ≡ [] → gather f (optional b) ≡ f b
unfolding gather optional
gather_optional f [] h = sym h
gather_optional f (x ∷ b) h = append-nil (f (x ∷ b))

-- ---- a record

-- joined lists, each known
parts_as : (a a' b b' c c' d d' e e' : List (List ℕ)) → a ≡ a' → b ≡ b' → c ≡ c' → d ≡ d' → e ≡ e'
    → a ++ (b ++ (c ++ (d ++ e))) ≡ a' ++ (b' ++ (c' ++ (d' ++ e')))
parts_as a a' b b' c c' d d' e e' p q r s t = rw (p, q, r, s, t)

module _ (r : Rec) where
  -- the bytes of its coordinates
  abbrev coords : List ℕ
  coords = coord_bytes r.parts.coordinates

  -- those of its spatial associations
  abbrev spatial : List ℕ
  spatial = spatial_bytes r.parts.spatial

  -- tag by tag
  split : (t : ℕ) → eqb (tag_of r.kind) t ≡ false
      → bodies t (written_fields r)
      ≡ bodies t (list_field FOID (foid_bytes r.foid)) ++ (bodies t (list_field ATTR (tree_bytes r.parts.attributes)) ++ (bodies t (each assoc_field r.parts.associations)
      ++ (bodies t (list_field (coord_tag r.kind) coords) ++ bodies t (list_field SPAS spatial))))
  unfolding written_fields part_fields
  split t h =
      bodies_skip t _ _ h
      ∙ bodies_join t (list_field FOID (foid_bytes r.foid)) _
      ∙ ap (λ (l : List (List ℕ)). bodies t (list_field FOID (foid_bytes r.foid)) ++ l)
      (bodies_join t (list_field ATTR (tree_bytes r.parts.attributes)) _
      ∙ ap (λ (l : List (List ℕ)). bodies t (list_field ATTR (tree_bytes r.parts.attributes)) ++ l)
      (bodies_join t (each assoc_field r.parts.associations) _
      ∙ ap (λ (l : List (List ℕ)). bodies t (each assoc_field r.parts.associations) ++ l)
      (bodies_join t (list_field (coord_tag r.kind) coords) (list_field SPAS spatial))))

-- the tag of an identifier is no other field's
tag_apart : (k : Kind) → (eqb (tag_of k) FOID ≡ false) × (eqb (tag_of k) ATTR ≡ false) × (eqb (tag_of k) INAS ≡ false) × (eqb (tag_of k) SPAS ≡ false) × (eqb (tag_of k) C2IT ≡ false) × (eqb (tag_of k) C2IL ≡ false)
unfolding tag_of
tag_apart Info = (refl, refl, refl, refl, refl, refl)
tag_apart Point = (refl, refl, refl, refl, refl, refl)
tag_apart Multi = (refl, refl, refl, refl, refl, refl)
tag_apart Feature = (refl, refl, refl, refl, refl, refl)

-- nor is that of coordinates
coord_apart : (k : Kind) → (eqb (coord_tag k) FOID ≡ false) × (eqb (coord_tag k) ATTR ≡ false) × (eqb (coord_tag k) INAS ≡ false) × (eqb (coord_tag k) SPAS ≡ false)
unfolding coord_tag
coord_apart Info = (refl, refl, refl, refl)
coord_apart Point = (refl, refl, refl, refl)
coord_apart Multi = (refl, refl, refl, refl)
coord_apart Feature = (refl, refl, refl, refl)

module _ (r : Rec) where
  -- FOID
  pub foid_body : bodies FOID (written_fields r) ≡ optional (foid_bytes r.foid)
  foid_body =
      let t = tag_apart r.kind in
      let c = coord_apart r.kind in
      split r FOID t.0
      ∙ parts_as _ (optional (foid_bytes r.foid)) _ [] _ [] _ [] _ [] (list_own FOID _) (list_other FOID ATTR _ refl) (inas_other FOID _ refl) (list_other FOID (coord_tag r.kind) _ c.0) (list_other FOID SPAS _ refl)
      ∙ append-nil (optional (foid_bytes r.foid))

  -- ATTR
  pub attr_body_lem : bodies ATTR (written_fields r) ≡ optional (tree_bytes r.parts.attributes)
  attr_body_lem =
      let t = tag_apart r.kind in
      let c = coord_apart r.kind in
      split r ATTR t.1
      ∙ parts_as _ [] _ (optional (tree_bytes r.parts.attributes)) _ [] _ [] _ [] (list_other ATTR FOID _ refl) (list_own ATTR _) (inas_other ATTR _ refl) (list_other ATTR (coord_tag r.kind) _ c.1) (list_other ATTR SPAS _ refl)
      ∙ append-nil (optional (tree_bytes r.parts.attributes))

  -- INAS
  pub inas_body_lem : bodies INAS (written_fields r) ≡ each (λ a. (assoc_field a).body) r.parts.associations
  inas_body_lem =
      let t = tag_apart r.kind in
      let c = coord_apart r.kind in
      split r INAS t.2
      ∙ parts_as _ [] _ [] _ (each (λ a. (assoc_field a).body) r.parts.associations) _ [] _ [] (list_other INAS FOID _ refl) (list_other INAS ATTR _ refl) (inas_own _) (list_other INAS (coord_tag r.kind) _ c.2) (list_other INAS SPAS _ refl)
      ∙ append-nil (each (λ a. (assoc_field a).body) r.parts.associations)

  -- SPAS
  pub spas_body_lem : bodies SPAS (written_fields r) ≡ optional (spatial_bytes r.parts.spatial)
  spas_body_lem =
      let t = tag_apart r.kind in
      let c = coord_apart r.kind in
      split r SPAS t.3
      ∙ parts_as _ [] _ [] _ [] _ [] _ (optional (spatial_bytes r.parts.spatial)) (list_other SPAS FOID _ refl) (list_other SPAS ATTR _ refl) (inas_other SPAS _ refl) (list_other SPAS (coord_tag r.kind) _ c.3) (list_own SPAS _)

  -- the coordinates'
  coord_body : (t : ℕ) → eqb (tag_of r.kind) t ≡ false → eqb FOID t ≡ false → eqb ATTR t ≡ false → eqb INAS t ≡ false → eqb SPAS t ≡ false
      → bodies t (written_fields r) ≡ bodies t (list_field (coord_tag r.kind) (coord_bytes r.parts.coordinates))
  coord_body t h f a i s =
      let c = bodies t (list_field (coord_tag r.kind) (coord_bytes r.parts.coordinates)) in
      split r t h
      ∙ parts_as _ [] _ [] _ [] _ c _ [] (list_other t FOID _ f) (list_other t ATTR _ a) (inas_other t _ i) refl (list_other t SPAS (spatial_bytes r.parts.spatial) s)
      ∙ append-nil c

  -- C2IT
  pub c2it_body : bodies C2IT (written_fields r) ≡ bodies C2IT (list_field (coord_tag r.kind) (coord_bytes r.parts.coordinates))
  c2it_body = coord_body C2IT (tag_apart r.kind).4 refl refl refl refl

  -- C2IL
  pub c2il_body : bodies C2IL (written_fields r) ≡ bodies C2IL (list_field (coord_tag r.kind) (coord_bytes r.parts.coordinates))
  c2il_body = coord_body C2IL (tag_apart r.kind).5 refl refl refl refl

-- what is gathered of the coordinates' bodies
pub coord_gather : {A : Type 0} (f : List ℕ → List A) (k : Kind) (b : List ℕ) → f [] ≡ [] → gather f (bodies C2IT (list_field (coord_tag k) b) ++ bodies C2IL (list_field (coord_tag k) b)) ≡ f b
unfolding coord_tag
coord_gather f Info b h = ap (gather f) (ap₂ (λ (x y : List (List ℕ)). x ++ y) (list_other C2IT C2IL b refl) (list_own C2IL b)) ∙ gather_optional f b h
coord_gather f Point b h = ap (gather f) (ap₂ (λ (x y : List (List ℕ)). x ++ y) (list_own C2IT b) (list_other C2IL C2IT b refl) ∙ append-nil (optional b)) ∙ gather_optional f b h
coord_gather f Multi b h = ap (gather f) (ap₂ (λ (x y : List (List ℕ)). x ++ y) (list_other C2IT C2IL b refl) (list_own C2IL b)) ∙ gather_optional f b h
coord_gather f Feature b h = ap (gather f) (ap₂ (λ (x y : List (List ℕ)). x ++ y) (list_other C2IT C2IL b refl) (list_own C2IL b)) ∙ gather_optional f b h
