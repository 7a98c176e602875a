-- The fields of a modify leave parts that can be written. Assumes nothing.
use Prim.Native.Nat.{ℕ, ◌+◌}
use mathlib.Core.Path.{◌≡◌, sym, ◌∙◌, subst}
use mathlib.Core.Bool.{Bool, true, false, true≢false}
use mathlib.Core.List.{List, [], ◌∷◌}
use lib.ListN.{length, get_or}
use lib.Dec.{eqb}
use borrow.Author.Tests.{eqb-true}
use Rattle.base.specs.Check.{ok, in_field}
use Rattle.base.specs.Lists.{each, Each}
use Rattle.base.proofs.CheckLaws.{bind_inv, ok_inj, passed_inv, field_inv}
use Rattle.base.proofs.EachLaws.{each_map, each_gathered}
use Rattle.skeleton.specs.File.{Field}
use Rattle.fields.specs.Table.{tuple_of}
use Rattle.fields.specs.Content.{many}
use Rattle.fields.specs.declared.Format.TheVariants.{Spas, InasNew}
use Rattle.fields.specs.Valid.{Has}
use Rattle.forest.specs.Forest.{Forest}
use Rattle.rules.specs.Tags.{ATTR, INAS, SPAS, COCC, C2IT, C2IL}
use Rattle.rules.specs.ByTag.{bodies}
use Rattle.rules.specs.Kind.{rows_of}
use Rattle.rules.specs.Place.{placed}
use Rattle.rules.specs.Coordinates.{Coord, coords_in, sent, place_in}
use Rattle.rules.specs.Content.{inas_format, format_of}
use Rattle.rules.specs.Trees.{inas_tree, tree_stands}
use Rattle.rules.specs.Associations.{inas_key}
use Rattle.rules.specs.Record.{Parts, Assoc, Spatial, assoc_of}
use Rattle.rules.specs.Modify.{assoc_key, with_attributes, with_associations, with_coordinates, with_spatial, act_attr, act_inas, act_spas, act_field, act_fields}
use Rattle.rules.specs.Written.{field_as}
use Rattle.rules.specs.declared.Kind.{Kind}
use Rattle.rules.specs.declared.Kind.TheVariants.{Info, Point, Multi, Feature}
use Rattle.sequence.proofs.Tests.{by_bool}
use Rattle.sound.specs.Sound.{Apart, SoundAssoc, SoundCoord, rowed, Counted, SoundTree, SoundCoords, SoundSpatials, SoundParts}
use Rattle.sound.proofs.Keys.{joined, left}
use Rattle.sound.proofs.Attributes.{attributes_edited}
use Rattle.sound.proofs.Associations.{assoc_read}
use Rattle.sound.proofs.Coordinates.{list_read, point_read, placed_each}
use Rattle.sound.proofs.Spatial.{spatial_read, spatial_acted}
use Rattle.sound.proofs.Records.{Stood}

-- a field with tag t of a modify of a record of kind k
abbrev At : Kind → ℕ → List ℕ → Type 0
At k t b = Stood false k (field_as t b)

-- a tag that has a row is not lacking
not_lacking : {X : Type 0} (b : Bool) → b ≡ true → b ≡ false → X
not_lacking b e f = absurd (true≢false (sym e ∙ f))

-- ---- field by field

module _ (k : Kind) (b : List ℕ) (p : Parts) (s : SoundParts k p) where
  -- ATTR
  by_attr : At k ATTR b → (f : Forest) → act_attr b p.attributes ≡ ok f → SoundParts k (with_attributes f p)
  unfolding format_of
  by_attr a f e =
      let t : SoundTree k f = record {
        tree = attributes_edited b p.attributes f a.bytes a.formed s.attributes.tree e;
        lacking = λ h. not_lacking (rowed ATTR (rows_of k)) a.row h;
      } in
      record { attributes = t; associations = s.associations; coordinates = s.coordinates; spatial = s.spatial }

  -- the associations that INAS leaves
  inas_left : At k INAS b → (ls : List Assoc) → act_inas b p.associations ≡ ok ls → Each SoundAssoc ls × Apart [] (each assoc_key ls)
  unfolding act_inas format_of inas_format tree_stands
  inas_left a ls e =
      let all = s.associations.all in
      let once = s.associations.once in
      by_bool (eqb (get_or b 9 0) 1)
      (λ h.
      let (f, x) = passed_inv (inas_tree b) a.treed in
      let n : Has InasNew b = rw (eqb-true (get_or b 9 0) 1 h) at a.formed in
      joined SoundAssoc assoc_key 0 (assoc_of b) p.associations ls (assoc_read b a.bytes n f x) all once (rw h at e))
      (λ h. left SoundAssoc assoc_key 0 (inas_key b) p.associations ls all once (rw h at e))

  -- INAS
  by_inas : At k INAS b → (ls : List Assoc) → act_inas b p.associations ≡ ok ls → SoundParts k (with_associations ls p)
  by_inas a ls e =
      let (x, y) = inas_left a ls e in
      record { attributes = s.attributes; associations = record { all = x; once = y }; coordinates = s.coordinates; spatial = s.spatial }

  -- other coordinates
  with_coordinates_lem : (cs : List Coord) → SoundCoords k cs → SoundParts k (with_coordinates cs p)
  with_coordinates_lem cs c = record { attributes = s.attributes; associations = s.associations; coordinates = c; spatial = s.spatial }

  -- SPAS
  by_spas : At k SPAS b → (ss : List Spatial) → act_spas 1 (many (tuple_of Spas) b) p.spatial ≡ ok ss → SoundParts k (with_spatial ss p)
  unfolding format_of
  by_spas a ss e =
      let (x, y) = spatial_acted 1 (many (tuple_of Spas) b) p.spatial ss (spatial_read b a.bytes a.formed) (s.spatial.all, s.spatial.once) e in
      let t : SoundSpatials k ss = record { all = x; once = y; lacking = λ h. not_lacking (rowed SPAS (rows_of k)) a.row h } in
      record { attributes = s.attributes; associations = s.associations; coordinates = s.coordinates; spatial = t }

-- COCC stands in a multi point alone, which has any number of tuples
cocc_counts : (k : Kind) (cs : List Coord) → rowed COCC (rows_of k) ≡ true → Counted k cs
unfolding rowed rows_of Counted
cocc_counts Info cs h = absurd (true≢false (sym h))
cocc_counts Point cs h = absurd (true≢false (sym h))
cocc_counts Multi cs h = tt
cocc_counts Feature cs h = absurd (true≢false (sym h))

-- C2IT stands in a point alone, which has one
c2it_counts : (k : Kind) (cs : List Coord) → rowed C2IT (rows_of k) ≡ true → length cs ≡ 1 → Counted k cs
unfolding rowed rows_of Counted
c2it_counts Info cs h l = absurd (true≢false (sym h))
c2it_counts Point cs h l = l
c2it_counts Multi cs h l = tt
c2it_counts Feature cs h l = absurd (true≢false (sym h))

module _ (k : Kind) (new : List Coord) (n : Each SoundCoord new) where
  -- one field
  field_sound : (f : Field) (p q : Parts) → Stood false k f → SoundParts k p → act_field new f p ≡ ok q → SoundParts k q
  unfolding act_field
  field_sound f p q a s e =
      let t = f.tag in
      let b = f.body in
      let to : (u : ℕ) → eqb t u ≡ true → At k u b = λ u h. subst (λ (v : ℕ). Stood false k (field_as v b)) (eqb-true t u h) a in
      by_bool (eqb t ATTR)
      (λ h. let (x, y, z) = bind_inv (act_attr b p.attributes) _ q (rw h at e) in rw (← ok_inj _ q z) (by_attr k b p s (to ATTR h) x y))
      (λ h. by_bool (eqb t INAS)
      (λ i. let (x, y, z) = bind_inv (act_inas b p.associations) _ q (rw (h, i) at e) in rw (← ok_inj _ q z) (by_inas k b p s (to INAS i) x y))
      (λ i. by_bool (eqb t COCC)
      (λ j. let (x, y, z) = bind_inv (placed (place_in b) new p.coordinates) _ q (rw (h, i, j) at e) in
      rw (← ok_inj _ q z) (with_coordinates_lem k b p s x (record { all = placed_each SoundCoord (place_in b) new p.coordinates x n s.coordinates.all y; counted = cocc_counts k x (to COCC j).row })))
      (λ j. by_bool (eqb t C2IT)
      (λ l. rw (← ok_inj _ q (rw (h, i, j, l) at e)) (point p s b (to C2IT l)))
      (λ l. by_bool (eqb t SPAS)
      (λ m. let (x, y, z) = bind_inv (act_spas 1 (many (tuple_of Spas) b) p.spatial) _ q (rw (h, i, j, l, m) at e) in rw (← ok_inj _ q z) (by_spas k b p s (to SPAS m) x y))
      (λ m. rw (← ok_inj p q (rw (h, i, j, l, m) at e)) s)))))
    where
      point : (p : Parts) → SoundParts k p → (b : List ℕ) → At k C2IT b → SoundParts k (with_coordinates (coords_in b) p)
      point p s b a = unfold format_of in let (x, y) = point_read b a.bytes a.formed in with_coordinates_lem k b p s (coords_in b) (record { all = x; counted = c2it_counts k (coords_in b) a.row y })

  -- all of them
  pub fields_sound : (i : ℕ) (fs : List Field) (p q : Parts) → Each (Stood false k) fs → SoundParts k p → act_fields new i fs p ≡ ok q → SoundParts k q
  unfolding act_fields Each
  fields_sound i [] p q a s e = rw (← ok_inj p q e) s
  fields_sound i (f ∷ fs) p q a s e =
      let (r, x, y) = bind_inv (in_field i (act_field new f p)) _ q e in
      fields_sound (i + 1) fs r q a.1 (field_sound f p r a.0 s (field_inv i (act_field new f p) r x)) y

-- the tuples that a modify sends
pub sent_sound : (k : Kind) (fs : List Field) → Each (At k C2IL) (bodies C2IL fs) → Each SoundCoord (sent fs)
unfolding sent format_of
sent_sound k fs e = each_gathered SoundCoord coords_in (bodies C2IL fs) (each_map (bodies C2IL fs) (λ b s. list_read b s.bytes s.formed) e)
