-- The written fields of a sound record pass 4 to 7 and are read as that record. Assumes nothing.
use Prim.Native.Nat.{ℕ, ◌≤◌, ◌<◌}
use mathlib.Core.Path.{◌≡◌, refl, ◌∙◌}
use mathlib.Core.Bool.{true, false}
use mathlib.Core.List.{List, []}
use native.Mathlib.Omega.{arith}
use borrow.Author.Tests.{le-ltb}
use lib.ListN.{length}
use lib.Dec.{eqb}
use Rattle.base.specs.Check.{ok, bind, pass}
use Rattle.base.specs.Lists.{each, gather, Each}
use Rattle.base.specs.Keys.{among}
use Rattle.base.proofs.EachLaws.{each_map, each_join}
use Rattle.fields.specs.Table.{head_of, tuple_of}
use Rattle.fields.specs.Values.{put_all}
use Rattle.fields.specs.declared.Format.TheVariants.{Foid, C2it}
use Rattle.fields.specs.Valid.{pass_all}
use Rattle.fields.proofs.FieldLaws.{head_length_lem}
use Rattle.fields.proofs.DecodeLaws.{length_numbers}
use Rattle.forest.specs.Forest.{Forest, nil, tuples_of, tuples_from}
use Rattle.rules.specs.Tags.{COCC}
use Rattle.rules.specs.ByTag.{has}
use Rattle.rules.specs.Kind.{rank, rows_of}
use Rattle.rules.specs.Grammar.{ruin_byte, coui_byte, as_stored, forbidden, fields_stand, number4}
use Rattle.rules.specs.Content.{insert_only, ident_format, number5}
use Rattle.rules.specs.Trees.{number6}
use Rattle.rules.specs.Coordinates.{Coord, sent}
use Rattle.rules.specs.Associations.{marks, number7, number11}
use Rattle.rules.specs.Record.{Rec, Parts, Spatial, key_of, dataset_record}
use Rattle.rules.specs.Modify.{assoc_key, spatial_key}
use Rattle.rules.specs.Written.{nums, tree_bytes, ident_bytes, part_fields, written_fields, number12}
use Rattle.rules.specs.declared.Kind.{Kind}
use Rattle.rules.specs.declared.Kind.TheVariants.{Info, Point, Multi, Feature}
use Rattle.rules.specs.declared.Mode.TheVariants.{InDataset}
use Rattle.rules.proofs.KindLaws.{kind_of_tag}
use Rattle.updates.proofs.Kept.{of_each}
use Rattle.sound.specs.Sound.{SoundCoord, rowed, Counted, SoundParts, SoundFoid, SoundRec, Named}
use Rattle.sound.proofs.Keys.{apart_two}
use Rattle.sound.proofs.Stand.{fill_stands, formed_all, treed_all}
use Rattle.sound.proofs.Marks.{apart_once, Stands, each_eleven, marks_keys}
use Rattle.sound.proofs.WrittenKeys.{assoc_four, spatial_two, written_keys}
use Rattle.roundtrip.proofs.Coordinates.{coord_bytes, c2it_has}
use Rattle.roundtrip.proofs.Spatial.{spatial_bytes}
use Rattle.roundtrip.proofs.Idents.{foid_bytes, ident_has}
use Rattle.roundtrip.proofs.Room.{Roomy, roomy}
use Rattle.roundtrip.proofs.Again.{record_again}
use Rattle.roundtrip.proofs.Fields.{foid_empty, rest_of, fine_rest, none_counted}
use Rattle.roundtrip.proofs.Order.{Empties, ord_kind, complete_kind}

-- ---- what its kind lacks

-- no tree, no bytes
tree_empty : (f : Forest) → f ≡ nil → tree_bytes f ≡ []
unfolding tree_bytes tuples_of tuples_from each put_all gather
tree_empty f e = rw e

-- no coordinates, no bytes
coord_empty : (cs : List Coord) → cs ≡ [] → coord_bytes cs ≡ []
unfolding each put_all gather
coord_empty cs e = rw e

-- no spatial associations, no bytes
spatial_empty : (ss : List Spatial) → ss ≡ [] → spatial_bytes ss ≡ []
unfolding each put_all gather
spatial_empty ss e = rw e

-- what a kind lacks has no bytes
empties : (k : Kind) (foid : List ℕ) (p : Parts) → SoundFoid k foid → SoundParts k p → Empties k (foid_bytes foid) (tree_bytes p.attributes) (coord_bytes p.coordinates) (spatial_bytes p.spatial)
unfolding SoundFoid Counted rows_of rowed
empties Info foid p f s = (foid_empty foid f, coord_empty p.coordinates s.coordinates.counted, spatial_empty p.spatial (s.spatial.lacking refl))
empties Point foid p f s = (foid_empty foid f, tree_empty p.attributes (s.attributes.lacking refl), spatial_empty p.spatial (s.spatial.lacking refl))
empties Multi foid p f s = (foid_empty foid f, tree_empty p.attributes (s.attributes.lacking refl), spatial_empty p.spatial (s.spatial.lacking refl))
empties Feature foid p f s = coord_empty p.coordinates s.coordinates.counted

-- a feature's FOID has bytes
foid_bytes_lem : (k : Kind) (foid : List ℕ) → SoundFoid k foid → k ≡ Feature → 0 < length (foid_bytes foid)
unfolding SoundFoid head_of
foid_bytes_lem k foid s e =
    let p : pass_all (head_of Foid) (nums foid) ≡ true = rw e at s in
    omega (arith, length_numbers (head_of Foid) (nums foid) refl p)

-- a point's tuple has bytes
coord_bytes_lem : (k : Kind) (cs : List Coord) → Each SoundCoord cs → Counted k cs → k ≡ Point → 0 < length (coord_bytes cs)
unfolding Counted head_of tuple_of
coord_bytes_lem k cs s c e =
    let l : length cs ≡ 1 = rw e at c in
    omega (arith, head_length_lem (head_of C2it) (coord_bytes cs) refl (c2it_has cs s l))

-- ---- number by number

module _ (r : Rec) (s : SoundRec r) where
  -- the fields stand
  fields_stand_lem : fields_stand InDataset r.kind (ident_bytes r) (rest_of r) ≡ pass
  unfolding fields_stand part_fields as_stored bind
  fields_stand_lem =
      let p = r.parts in
      let k = r.kind in
      let e = empties k r.foid p s.foid s.parts in
      let shut = forbidden InDataset (ruin_byte k (ident_bytes r)) (coui_byte (rest_of r)) (has COCC (rest_of r)) in
      let o = ord_kind shut (λ t h. free t h) k (foid_bytes r.foid) (tree_bytes p.attributes) p.associations (coord_bytes p.coordinates) (spatial_bytes p.spatial) e 2 in
      let c = complete_kind k (foid_bytes r.foid) (tree_bytes p.attributes) p.associations (coord_bytes p.coordinates) (spatial_bytes p.spatial) e
      (foid_bytes_lem k r.foid s.foid) (coord_bytes_lem k p.coordinates s.parts.coordinates.all s.parts.coordinates.counted) in
      rw (o, c)
    where
      free : (t : ℕ) → eqb t COCC ≡ false → forbidden InDataset (ruin_byte r.kind (ident_bytes r)) (coui_byte (rest_of r)) (has COCC (rest_of r)) t ≡ false
      free t h = unfold forbidden in h

  -- 4
  pub four_passes : (least : ℕ) → least ≤ rank r.kind → number4 InDataset least (written_fields r) ≡ ok r.kind
  unfolding number4 written_fields bind
  four_passes least l = rw (kind_of_tag r.kind, le-ltb (rank r.kind) least l, fields_stand_lem)

  -- 7
  pub seven_passes : number7 (written_fields r) ≡ pass
  unfolding number7 Each
  seven_passes =
      let p = r.parts in
      let a : Each (λ k. length k ≡ 4) (each assoc_key p.associations) = of_each (λ k. length k ≡ 4) assoc_key p.associations (each_map p.associations assoc_four s.parts.associations.all) in
      let b : Each (λ k. length k ≡ 2) (each spatial_key p.spatial) = of_each (λ k. length k ≡ 2) spatial_key p.spatial (each_map p.spatial spatial_two s.parts.spatial.all) in
      apart_once [] (marks 1 (written_fields r))
      (rw (marks_keys 1 (written_fields r) ∙ written_keys r s) (apart_two 4 2 [] (each assoc_key p.associations) (each spatial_key p.spatial) (λ z. omega arith) tt a b s.parts.associations.once s.parts.spatial.once))

  -- 11
  pub eleven_passes : (keys : List (List ℕ)) → Named keys r → number11 keys (marks 1 (written_fields r)) ≡ pass
  eleven_passes keys n =
      let p = r.parts in
      each_eleven keys (marks 1 (written_fields r))
      (rw (marks_keys 1 (written_fields r) ∙ written_keys r s)
      (each_join (Stands keys) (each assoc_key p.associations) (each spatial_key p.spatial) (of_each (Stands keys) assoc_key p.associations n.associations) (of_each (Stands keys) spatial_key p.spatial n.spatial)))

  module _ (m : Roomy r) where
    -- 5
    pub five_passes : number5 InDataset r.kind (written_fields r) ≡ pass
    unfolding number5 written_fields insert_only as_stored bind
    five_passes =
        let f = fine_rest r s m in
        rw (fill_stands 1 (ident_format true r.kind) (ident_bytes r) (ident_has r s), formed_all true 2 (rest_of r) (each_map (rest_of r) (λ g x. x.formed) f))
        (none_counted (length (sent (rest_of r))) 2 (rest_of r) f)

    -- 6
    pub six_passes : number6 InDataset r.kind (written_fields r) ≡ pass
    unfolding number6 written_fields as_stored
    six_passes = treed_all true 2 (rest_of r) (each_map (rest_of r) (λ g x. x.treed) (fine_rest r s m))

-- the record is read again
pub record_reads : (least : ℕ) (earlier : List (List ℕ)) (r : Rec) → SoundRec r → number12 (written_fields r) ≡ pass → least ≤ rank r.kind → among (key_of r) earlier ≡ false
    → dataset_record least earlier (written_fields r) ≡ ok r
unfolding dataset_record bind
record_reads least earlier r s w l e =
    let m = roomy r w in
    rw (four_passes r s least l, five_passes r s m, six_passes r s m, record_again r s m, e, seven_passes r s)
