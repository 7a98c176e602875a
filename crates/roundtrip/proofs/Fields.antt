-- The written fields of a sound record have their formats and their trees, and none is a COCC. Assumes nothing.
use Prim.Native.Nat.{ℕ, ◌+◌, ◌≤◌}
use mathlib.Core.Path.{◌≡◌, refl}
use mathlib.Core.Bool.{true, false}
use mathlib.Core.List.{List, [], ◌∷◌, ◌++◌}
use lib.ListN.{length}
use lib.Dec.{eqb}
use Rattle.base.specs.Check.{Check, ok, bind, pass, passed}
use Rattle.base.specs.Lists.{each, gather, Each}
use Rattle.base.proofs.EachLaws.{each_zip, each_join}
use Rattle.skeleton.specs.File.{Field}
use Rattle.fields.specs.Table.{head_of}
use Rattle.fields.specs.Values.{puts, put_all}
use Rattle.fields.specs.Valid.{Has}
use Rattle.rules.specs.Tags.{FOID, ATTR, SPAS, COCC, C2IT, C2IL}
use Rattle.rules.specs.Content.{inas_format, format_of, counted}
use Rattle.rules.specs.Coordinates.{Coord}
use Rattle.rules.specs.Trees.{attr_tree, inas_tree, tree_stands}
use Rattle.rules.specs.Record.{Rec, Assoc}
use Rattle.rules.specs.Written.{field_as, list_field, nums, tree_bytes, assoc_field, coord_tag, part_fields}
use Rattle.rules.specs.declared.Kind.{Kind}
use Rattle.rules.specs.declared.Kind.TheVariants.{Info, Point, Multi, Feature}
use Rattle.updates.proofs.Kept.{of_each}
use Rattle.sound.specs.Sound.{SoundAssoc, SoundCoord, Counted, SoundFoid, SoundRec}
use Rattle.sound.proofs.Stand.{Formed}
use Rattle.roundtrip.proofs.Attributes.{attr_has, attr_tree_lem}
use Rattle.roundtrip.proofs.Associations.{inas_has, inas_tree_lem}
use Rattle.roundtrip.proofs.Coordinates.{coord_bytes, c2il_has, c2it_has}
use Rattle.roundtrip.proofs.Spatial.{spatial_bytes, spas_has}
use Rattle.roundtrip.proofs.Idents.{foid_bytes, foid_has}
use Rattle.roundtrip.proofs.Room.{Roomy}

-- a field of a record as in a dataset
pub record Fine (f : Field) : Type 0 where
  pub formed : Formed true f
  pub treed : tree_stands true f ≡ pass
  pub stored : eqb f.tag COCC ≡ false

-- a list of which the one field is fine
fine_list : (t : ℕ) (b : List ℕ) → Fine (field_as t b) → Each Fine (list_field t b)
unfolding list_field Each
fine_list t [] f = tt
fine_list t (x ∷ b) f = (f, tt)

-- no list
fine_none : (t : ℕ) (b : List ℕ) → b ≡ [] → Each Fine (list_field t b)
unfolding list_field Each
fine_none t b e = rw e tt

-- a test of which only the refusal matters passes
passed_ok : {A : Type 0} (c : Check A) (a : A) → c ≡ ok a → passed c ≡ pass
unfolding passed bind
passed_ok c a e = rw e

-- ---- one sort each

-- ATTR
fine_attr : (r : Rec) → SoundRec r → Roomy r → Fine (field_as ATTR (tree_bytes r.parts.attributes))
unfolding format_of tree_stands
fine_attr r s m =
    let f = r.parts.attributes in
    record {
      formed = attr_has f s.parts.attributes.tree m.attributes;
      treed = passed_ok (attr_tree (tree_bytes f)) f (attr_tree_lem f s.parts.attributes.tree m.attributes);
      stored = refl;
    }

-- INAS
fine_inas : (a : Assoc) → SoundAssoc a → length (tree_bytes a.attributes) ≤ 99999 → Fine (assoc_field a)
unfolding inas_format
fine_inas a s l =
    let h = inas_has a s l in
    let t = passed_ok (inas_tree (assoc_field a).body) a.attributes (inas_tree_lem a s l) in
    go h t
  where
    go : Has (inas_format true (assoc_field a).body) (assoc_field a).body → passed (inas_tree (assoc_field a).body) ≡ pass → Fine (assoc_field a)
    go h t = unfold assoc_field format_of inas_format tree_stands in record { formed = h; treed = t; stored = refl }

-- coordinates
fine_coords : (k : Kind) (cs : List Coord) → Each SoundCoord cs → Counted k cs → Each Fine (list_field (coord_tag k) (coord_bytes cs))
unfolding Counted coord_tag
fine_coords Info cs e c = fine_none C2IL (coord_bytes cs) (rw c (unfold each put_all gather in refl))
fine_coords Point cs e c = fine_list C2IT (coord_bytes cs) (unfold format_of tree_stands in record { formed = c2it_has cs e c; treed = refl; stored = refl })
fine_coords Multi cs e c = fine_list C2IL (coord_bytes cs) (unfold format_of tree_stands in record { formed = c2il_has cs e; treed = refl; stored = refl })
fine_coords Feature cs e c = fine_none C2IL (coord_bytes cs) (rw c (unfold each put_all gather in refl))

-- SPAS
fine_spas : (r : Rec) → SoundRec r → Fine (field_as SPAS (spatial_bytes r.parts.spatial))
unfolding format_of tree_stands
fine_spas r s = record { formed = spas_has r.parts.spatial s.parts.spatial.all; treed = refl; stored = refl }

-- no FOID has no bytes
pub foid_empty : (foid : List ℕ) → foid ≡ [] → foid_bytes foid ≡ []
unfolding nums each puts head_of
foid_empty foid e = rw e

-- FOID
fine_foid : (k : Kind) (foid : List ℕ) → SoundFoid k foid → Each Fine (list_field FOID (foid_bytes foid))
unfolding SoundFoid
fine_foid Info foid e = fine_none FOID (foid_bytes foid) (foid_empty foid e)
fine_foid Point foid e = fine_none FOID (foid_bytes foid) (foid_empty foid e)
fine_foid Multi foid e = fine_none FOID (foid_bytes foid) (foid_empty foid e)
fine_foid Feature foid e = fine_list FOID (foid_bytes foid) (unfold format_of tree_stands in record { formed = foid_has foid e; treed = refl; stored = refl })

-- ---- all of them

-- the fields behind the identifier
abbrev pub rest_of : Rec → List Field
rest_of r = list_field FOID (foid_bytes r.foid) ++ part_fields r.kind r.parts

-- each of them is fine
pub fine_rest : (r : Rec) → SoundRec r → Roomy r → Each Fine (rest_of r)
unfolding part_fields
fine_rest r s m =
    let p = r.parts in
    each_join Fine (list_field FOID (foid_bytes r.foid)) _ (fine_foid r.kind r.foid s.foid)
    (each_join Fine (list_field ATTR (tree_bytes p.attributes)) _ (fine_list ATTR (tree_bytes p.attributes) (fine_attr r s m))
    (each_join Fine (each assoc_field p.associations) _
    (of_each Fine assoc_field p.associations (each_zip p.associations (λ a x y. fine_inas a x y) s.parts.associations.all m.associations))
    (each_join Fine (list_field (coord_tag r.kind) (coord_bytes p.coordinates)) _ (fine_coords r.kind p.coordinates s.parts.coordinates.all s.parts.coordinates.counted)
    (fine_list SPAS (spatial_bytes p.spatial) (fine_spas r s)))))

-- no COCC, nothing to count
pub none_counted : (n i : ℕ) (fs : List Field) → Each Fine fs → counted n i fs ≡ pass
unfolding counted Each
none_counted n i [] e = refl
none_counted n i (f ∷ fs) e = rw e.0.stored (none_counted n (i + 1) fs e.1)
