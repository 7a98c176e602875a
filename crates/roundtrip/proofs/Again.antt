-- A sound record is read again, part by part, from its written fields. Assumes nothing.
use Prim.Native.Nat.{ℕ, ◌≤◌}
use mathlib.Core.Path.{◌≡◌, refl, ap, ap₂, ◌∙◌}
use mathlib.Core.Bool.{true}
use mathlib.Core.List.{List, [], ◌∷◌, ◌++◌, append-nil}
use native.Mathlib.Omega.{arith}
use lib.ListN.{length, get_or}
use Rattle.base.specs.Lists.{each, gather, Each}
use Rattle.base.specs.Walk.{Got}
use Rattle.fields.specs.Table.{head_of, tuple_of}
use Rattle.fields.specs.Values.{Val, puts}
use Rattle.fields.specs.Content.{many}
use Rattle.fields.specs.Valid.{pass_all}
use Rattle.fields.specs.declared.Format.TheVariants.{Foid, Spas}
use Rattle.fields.proofs.SizeLaws.{widths}
use Rattle.fields.proofs.TupleLaws.{tuples_end}
use Rattle.fields.proofs.DecodeLaws.{length_numbers}
use Rattle.rules.specs.Tags.{FOID, ATTR, INAS, SPAS, C2IT, C2IL}
use Rattle.rules.specs.ByTag.{bodies, front}
use Rattle.rules.specs.Trees.{attr_tree}
use Rattle.rules.specs.Coordinates.{coords_in}
use Rattle.rules.specs.Record.{Rec, Assoc, ident_of, foid_of, standing, assoc_of, spatial_of, parts_of, rec_of}
use Rattle.rules.specs.Written.{nums, tree_bytes, assoc_field, ident_bytes, written_fields}
use Rattle.rules.specs.declared.Kind.{Kind}
use Rattle.rules.specs.declared.Kind.TheVariants.{Info, Point, Multi, Feature}
use Rattle.rules.proofs.CoordinateLaws.{coords_none}
use Rattle.sound.specs.Sound.{SoundAssoc, SoundFoid, SoundRec}
use Rattle.sound.proofs.Parts.{standing_ok}
use Rattle.roundtrip.proofs.Attributes.{attr_tree_lem}
use Rattle.roundtrip.proofs.Associations.{assoc_again}
use Rattle.roundtrip.proofs.Coordinates.{coords_again}
use Rattle.roundtrip.proofs.Spatial.{spatial_bytes, spatial_many}
use Rattle.roundtrip.proofs.Idents.{foid_bytes, ident_again, foid_again}
use Rattle.roundtrip.proofs.Room.{Roomy}
use Rattle.roundtrip.proofs.Bodies.{optional, gather_optional, foid_body, attr_body_lem, inas_body_lem, spas_body_lem, c2it_body, c2il_body, coord_gather}

-- the first of an optional body is that body
first_optional : (b : List ℕ) → get_or (optional b) 0 [] ≡ b
unfolding optional
first_optional [] = refl
first_optional (x ∷ b) = refl

-- associations
assocs_again : (l : List Assoc) → Each SoundAssoc l → Each (λ a. length (tree_bytes a.attributes) ≤ 99999) l → each assoc_of (each (λ a. (assoc_field a).body) l) ≡ l
unfolding each Each
assocs_again [] s e = refl
assocs_again (a ∷ l) s e = ap₂ (λ (x : Assoc) (m : List Assoc). x ∷ m) (assoc_again a s.0 e.0) (assocs_again l s.1 e.1)

-- no FOID, no bytes
foid_none : (foid : List ℕ) → foid ≡ [] → gather foid_of (optional (foid_bytes foid)) ≡ foid
unfolding gather optional head_of nums each
foid_none foid e = rw e (unfold puts in refl)

-- a FOID has bytes
some_bytes : (foid : List ℕ) → pass_all (head_of Foid) (nums foid) ≡ true → gather foid_of (optional (foid_bytes foid)) ≡ foid_of (foid_bytes foid)
some_bytes foid p = go (foid_bytes foid) (length_numbers (head_of Foid) (nums foid) (unfold head_of in refl) p)
  where
    go : (b : List ℕ) → length b ≡ widths (head_of Foid) → gather foid_of (optional b) ≡ foid_of b
    go [] h = unfold head_of in absurd (omega arith)
    go (x ∷ b) h = unfold gather optional in append-nil (foid_of (x ∷ b))

-- a FOID
foid_some : (foid : List ℕ) → pass_all (head_of Foid) (nums foid) ≡ true → gather foid_of (optional (foid_bytes foid)) ≡ foid
foid_some foid p = some_bytes foid p ∙ foid_again foid p

-- by its kind
foid_kind : (k : Kind) (foid : List ℕ) → SoundFoid k foid → gather foid_of (optional (foid_bytes foid)) ≡ foid
unfolding SoundFoid
foid_kind Info foid s = foid_none foid s
foid_kind Point foid s = foid_none foid s
foid_kind Multi foid s = foid_none foid s
foid_kind Feature foid s = foid_some foid s

-- no bytes, no tuples
spas_none : many (tuple_of Spas) [] ≡ []
unfolding many
spas_none = ap (λ (g : Got (List Val)). g.items) (tuples_end (tuple_of Spas) [] (omega arith))

module _ (r : Rec) (s : SoundRec r) (m : Roomy r) where
  -- the parts
  pub parts_again : parts_of (written_fields r) ≡ r.parts
  unfolding parts_of
  parts_again =
      let p = r.parts in
      let a : standing (attr_tree (get_or (bodies ATTR (written_fields r)) 0 [])) ≡ p.attributes =
      ap (λ (bs : List (List ℕ)). standing (attr_tree (get_or bs 0 []))) (attr_body_lem r)
      ∙ ap (λ (b : List ℕ). standing (attr_tree b)) (first_optional (tree_bytes p.attributes))
      ∙ standing_ok (tree_bytes p.attributes) p.attributes (attr_tree_lem p.attributes s.parts.attributes.tree m.attributes) in
      let b : each assoc_of (bodies INAS (written_fields r)) ≡ p.associations =
      ap (each assoc_of) (inas_body_lem r) ∙ assocs_again p.associations s.parts.associations.all m.associations in
      let c : gather coords_in (bodies C2IT (written_fields r) ++ bodies C2IL (written_fields r)) ≡ p.coordinates =
      ap (gather coords_in) (ap₂ (λ (x y : List (List ℕ)). x ++ y) (c2it_body r) (c2il_body r))
      ∙ coord_gather coords_in r.kind _ coords_none ∙ coords_again p.coordinates s.parts.coordinates.all in
      let d : each spatial_of (gather (many (tuple_of Spas)) (bodies SPAS (written_fields r))) ≡ p.spatial =
      ap (λ (bs : List (List ℕ)). each spatial_of (gather (many (tuple_of Spas)) bs)) (spas_body_lem r)
      ∙ ap (each spatial_of) (gather_optional (many (tuple_of Spas)) (spatial_bytes p.spatial) spas_none)
      ∙ spatial_many p.spatial s.parts.spatial.all in
      λ i. record { attributes = a i; associations = b i; coordinates = c i; spatial = d i }

  -- the identifier is the first field
  front_ident : front (written_fields r) ≡ ident_bytes r
  unfolding front written_fields
  front_ident = refl

  -- the record
  pub record_again : rec_of r.kind (written_fields r) ≡ r
  unfolding rec_of
  record_again =
      let id : ident_of r.kind (front (written_fields r)) ≡ record { rcid = r.rcid; code = r.code; rver = r.rver; ruin = 1 } = ap (ident_of r.kind) front_ident ∙ ident_again r s in
      let f : gather foid_of (bodies FOID (written_fields r)) ≡ r.foid = ap (gather foid_of) (foid_body r) ∙ foid_kind r.kind r.foid s.foid in
      let p = parts_again in
      λ i. record { kind = r.kind; rcid = (id i).rcid; code = (id i).code; rver = (id i).rver; foid = f i; parts = p i }
