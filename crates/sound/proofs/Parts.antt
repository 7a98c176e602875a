-- The parts of a record as in a dataset that was read: each can be written. Assumes nothing.
use Prim.Native.Nat.{ℕ, ◌≤◌}
use mathlib.Core.Path.{◌≡◌, refl, sym, ap, ◌∙◌}
use mathlib.Core.Bool.{true, false, not, true≢false}
use mathlib.Core.Option.{none}
use mathlib.Core.List.{List, [], ◌∷◌, ◌++◌, append-nil}
use native.Mathlib.Omega.{arith}
use lib.ListN.{length, get_or}
use lib.Dec.{eqb}
use borrow.Author.Tests.{eqb-true}
use Rattle.base.specs.Check.{ok, pass}
use Rattle.base.specs.Lists.{each, gather, empty, Each}
use Rattle.base.specs.Walk.{Got}
use Rattle.base.proofs.ChoiceLaws.{both_hold}
use Rattle.base.proofs.CheckLaws.{passed_inv}
use Rattle.base.proofs.ListLaws.{each_each, each_gather}
use Rattle.base.proofs.OptionLaws.{never}
use Rattle.base.proofs.EachLaws.{each_map, each_gathered, each_join}
use Rattle.skeleton.specs.File.{Field}
use Rattle.fields.specs.Table.{head_of, tuple_of}
use Rattle.fields.specs.Values.{Val}
use Rattle.fields.specs.Content.{many}
use Rattle.fields.specs.Valid.{pass_all}
use Rattle.fields.specs.declared.Format.TheVariants.{Foid, AttrNew, Spas}
use Rattle.fields.proofs.TupleLaws.{tuples_end}
use Rattle.fields.proofs.WiderLaws.{spas, format_wider}
use Rattle.forest.specs.Forest.{Forest, nil, tuples_of, tuples_from, p_nil}
use Rattle.forest.specs.Rule.{tree_of}
use Rattle.forest.proofs.TreeLaws.{tree_complete}
use Rattle.rules.specs.Tags.{FOID, ATTR, INAS, SPAS, C2IT, C2IL}
use Rattle.rules.specs.ByTag.{with_tag, has, bodies, front}
use Rattle.rules.specs.Kind.{kind_of, rows_of}
use Rattle.rules.specs.Grammar.{complete}
use Rattle.rules.specs.Content.{inas_format, format_of}
use Rattle.rules.specs.Trees.{tup_of, attr_tree, inas_tree, tree_stands}
use Rattle.rules.specs.Coordinates.{coords_in}
use Rattle.rules.specs.Associations.{inas_key, spas_key, number7, marks, field_keys}
use Rattle.rules.specs.Record.{ident_of, foid_of, standing, assoc_of, spatial_of, parts_of, rec_of}
use Rattle.rules.specs.Modify.{assoc_key, spatial_key}
use Rattle.rules.specs.Written.{field_as, nums}
use Rattle.rules.specs.declared.Kind.{Kind}
use Rattle.rules.specs.declared.Kind.TheVariants.{Info, Point, Multi, Feature}
use Rattle.rules.specs.declared.Mode.{Mode}
use Rattle.rules.proofs.MarkLaws.{mark_key}
use Rattle.sequence.proofs.Tests.{by_bool}
use Rattle.updates.proofs.Kept.{of_each, each_of}
use Rattle.sound.specs.Sound.{Attributes, r_nil, Apart, SoundAssoc, SoundCoord, SoundSpatial, rowed, Counted, SoundParts, SoundFoid, SoundRec, ident_vals, Named}
use Rattle.sound.proofs.Keys.{apart_part}
use Rattle.sound.proofs.Order.{most, tag_none}
use Rattle.sound.proofs.Bodies.{each_body, bodies_skip, bodies_none}
use Rattle.sound.proofs.Attributes.{attributes_read}
use Rattle.sound.proofs.Associations.{assoc_read}
use Rattle.sound.proofs.Coordinates.{list_read, point_read}
use Rattle.sound.proofs.Spatial.{spatial_read}
use Rattle.sound.proofs.Idents.{ident_nums, ident_read, foid_read}
use Rattle.sound.proofs.Marks.{once_apart, Stands, marks_keys, within_inas, within_spas, each_within}
use Rattle.sound.proofs.Records.{Stood, Whole, Through}

-- ---- one part each, of fields that are as in a dataset

-- a field with tag t behind an identifier of kind k
abbrev At : Kind → ℕ → List ℕ → Type 0
At k t b = Stood true k (field_as t b)

-- no ATTR, no attributes
pub attr_nothing : attr_tree [] ≡ ok nil
unfolding attr_tree many tuples_of tuples_from each
attr_nothing = ap (λ (g : Got (List Val)). tree_of (each tup_of g.items)) (tuples_end (tuple_of AttrNew) [] (omega arith)) ∙ tree_complete nil p_nil

-- a tree that stands
pub standing_ok : (b : List ℕ) (f : Forest) → attr_tree b ≡ ok f → standing (attr_tree b) ≡ f
unfolding standing
standing_ok b f e = rw e

-- attributes
attr_part_lem : (k : Kind) (bs : List (List ℕ)) → Each (At k ATTR) bs → Attributes (standing (attr_tree (get_or bs 0 [])))
unfolding Each format_of tree_stands
attr_part_lem k [] e = rw (standing_ok [] nil attr_nothing) (record { plain = p_nil; ranged = r_nil })
attr_part_lem k (b ∷ bs) e =
    let s = e.0 in
    let (f, x) = passed_inv (attr_tree b) s.treed in
    rw (standing_ok b f x) (attributes_read b f s.bytes s.formed x)

-- an association
assoc_part : (k : Kind) (b : List ℕ) → At k INAS b → SoundAssoc (assoc_of b)
unfolding format_of inas_format tree_stands
assoc_part k b s = let (f, x) = passed_inv (inas_tree b) s.treed in assoc_read b s.bytes s.formed f x

-- a point's tuple
point_part : (k : Kind) (b : List ℕ) → At k C2IT b → Each SoundCoord (coords_in b) × (length (coords_in b) ≡ 1)
unfolding format_of
point_part k b s = point_read b s.bytes s.formed

-- a list of tuples
list_part : (k : Kind) (b : List ℕ) → At k C2IL b → Each SoundCoord (coords_in b)
unfolding format_of
list_part k b s = list_read b s.bytes s.formed

-- spatial associations
spatial_part : (k : Kind) (b : List ℕ) → At k SPAS b → Each (λ vs. SoundSpatial (spatial_of vs)) (many (tuple_of Spas) b)
unfolding format_of
spatial_part k b s = spatial_read b s.bytes (format_wider spas b s.formed).0

-- ---- which parts there are

-- exactly one field
exactly_one : (t : ℕ) (fs : List Field) → length (with_tag t fs) ≤ 1 → has t fs ≡ true → (b : List ℕ) × (bodies t fs ≡ b ∷ [])
unfolding has bodies each empty
exactly_one t fs l h = go (with_tag t fs) l h
  where
    go : (gs : List Field) → length gs ≤ 1 → not (empty gs) ≡ true → (b : List ℕ) × (each (λ (g : Field). g.body) gs ≡ b ∷ [])
    go [] l h = absurd (true≢false (sym h))
    go (g ∷ []) l h = (g.body, refl)
    go (g ∷ x ∷ gs) l h = absurd (omega arith)

-- how many coordinate tuples there are, by the bodies of C2IT and C2IL
counted_of : (k : Kind) (x y : List (List ℕ)) → (rowed C2IT (rows_of k) ≡ false → x ≡ []) → (rowed C2IL (rows_of k) ≡ false → y ≡ [])
    → (k ≡ Point → length (gather coords_in x) ≡ 1) → Counted k (gather coords_in (x ++ y))
unfolding Counted rows_of rowed gather
counted_of Info x y a b c = rw (a refl, b refl)
counted_of Point x y a b c = rw (b refl, append-nil) (c refl)
counted_of Multi x y a b c = tt
counted_of Feature x y a b c = rw (a refl, b refl)

-- a feature's FOID, by its bodies
foid_of_lem : (k : Kind) (x : List (List ℕ)) → (rowed FOID (rows_of k) ≡ false → x ≡ []) → (k ≡ Feature → pass_all (head_of Foid) (nums (gather foid_of x)) ≡ true) → SoundFoid k (gather foid_of x)
unfolding SoundFoid rows_of rowed gather
foid_of_lem Info x a c = rw (a refl)
foid_of_lem Point x a c = rw (a refl)
foid_of_lem Multi x a c = rw (a refl)
foid_of_lem Feature x a c = c refl

-- a point needs a C2IT, and may have one
point_needs : (k : Kind) (fs : List Field) → k ≡ Point → complete (rows_of k) fs ≡ true → (has C2IT fs ≡ true) × (most C2IT (rows_of k) ≡ true)
unfolding complete rows_of most rowed
point_needs k fs q e =
    let c : complete (rows_of Point) fs ≡ true = ap (λ (j : Kind). complete (rows_of j) fs) (sym q) ∙ e in
    ((both_hold (has C2IT fs) true c).0, ap (λ (j : Kind). most C2IT (rows_of j)) q)

-- a feature needs a FOID, and may have one
feature_needs : (k : Kind) (fs : List Field) → k ≡ Feature → complete (rows_of k) fs ≡ true → (has FOID fs ≡ true) × (most FOID (rows_of k) ≡ true)
unfolding complete rows_of most rowed
feature_needs k fs q e =
    let c : complete (rows_of Feature) fs ≡ true = ap (λ (j : Kind). complete (rows_of j) fs) (sym q) ∙ e in
    ((both_hold (has FOID fs) true c).0, ap (λ (j : Kind). most FOID (rows_of j)) q)

-- a FOID
foid_part_lem : (k : Kind) (b : List ℕ) → At k FOID b → pass_all (head_of Foid) (nums (gather foid_of (b ∷ []))) ≡ true
unfolding format_of gather
foid_part_lem k b s = rw append-nil (foid_read b s.bytes s.formed)

-- the tuple of the only C2IT
point_one : (k : Kind) (x : List (List ℕ)) (b : List ℕ) → x ≡ b ∷ [] → Each (At k C2IT) x → length (gather coords_in x) ≡ 1
unfolding gather Each
point_one k x b e s =
    let t : Each (At k C2IT) (b ∷ []) = rw e at s in
    rw (e, append-nil) (point_part k b t.0).1

-- the values of the only FOID
foid_one : (k : Kind) (x : List (List ℕ)) (b : List ℕ) → x ≡ b ∷ [] → Each (At k FOID) x → pass_all (head_of Foid) (nums (gather foid_of x)) ≡ true
unfolding Each
foid_one k x b e s = let t : Each (At k FOID) (b ∷ []) = rw e at s in rw e (foid_part_lem k b t.0)

module _ (m : Mode) (k : Kind) (f : Field) (fs : List Field) (t : Through m k f fs) (stood : Each (Stood true k) fs) (whole : Whole k fs) where
  -- the identifier has no other field's tag
  other : (u : ℕ) → kind_of u ≡ none → eqb f.tag u ≡ false
  other u n = by_bool (eqb f.tag u) (λ h. never (sym t.kind ∙ ap kind_of (eqb-true f.tag u h) ∙ n)) (λ h. h)

  -- the bodies with a tag are those behind the identifier
  pub behind : (u : ℕ) → kind_of u ≡ none → bodies u (f ∷ fs) ≡ bodies u fs
  behind u n = bodies_skip u f fs (other u n)

  -- each of them stood
  at_tag : (u : ℕ) → kind_of u ≡ none → Each (At k u) (bodies u (f ∷ fs))
  at_tag u n = rw (behind u n) (each_body (Stood true k) u fs stood)

  -- what the kind lacks is not there
  lacks : (u : ℕ) → kind_of u ≡ none → rowed u (rows_of k) ≡ false → bodies u (f ∷ fs) ≡ []
  lacks u n h = rw (behind u n) (bodies_none u fs (tag_none u (rows_of k) fs (each_map fs (λ g s. s.row) stood) h))

  -- what it needs is there
  needed : (u : ℕ) → kind_of u ≡ none → most u (rows_of k) ≡ true → has u fs ≡ true → (b : List ℕ) × (bodies u (f ∷ fs) ≡ b ∷ [])
  needed u n o h = let (b, e) = exactly_one u fs (whole.once u o) h in (b, behind u n ∙ e)

  -- the keys of its associations
  all_keys : List (List ℕ)
  all_keys = gather field_keys (f ∷ fs)

  -- each of them once
  keys_once_lem : number7 (f ∷ fs) ≡ pass → Apart [] all_keys
  unfolding number7 all_keys
  keys_once_lem e = rw (marks_keys 1 (f ∷ fs)) at (once_apart [] (marks 1 (f ∷ fs)) e)

  -- those of INAS
  inas_same : each assoc_key (each assoc_of (bodies INAS (f ∷ fs))) ≡ each inas_key (bodies INAS (f ∷ fs))
  unfolding assoc_of
  inas_same = each_each assoc_key assoc_of (bodies INAS (f ∷ fs))

  -- those of SPAS
  spas_same : each spatial_key (each spatial_of (gather (many (tuple_of Spas)) (bodies SPAS (f ∷ fs)))) ≡ gather (λ b. each spas_key (many (tuple_of Spas) b)) (bodies SPAS (f ∷ fs))
  unfolding spatial_of
  spas_same = each_each spatial_key spatial_of (gather (many (tuple_of Spas)) (bodies SPAS (f ∷ fs))) ∙ each_gather spas_key (many (tuple_of Spas)) (bodies SPAS (f ∷ fs))

  -- the parts
  pub parts_sound : number7 (f ∷ fs) ≡ pass → SoundParts k (parts_of (f ∷ fs))
  unfolding parts_of kind_of all_keys
  parts_sound e =
      let all = f ∷ fs in
      let apart = keys_once_lem e in
      let c2it = at_tag C2IT refl in
      record {
        attributes = record {
          tree = attr_part_lem k (bodies ATTR all) (at_tag ATTR refl);
          lacking = λ h. ap (λ (bs : List (List ℕ)). standing (attr_tree (get_or bs 0 []))) (lacks ATTR refl h) ∙ standing_ok [] nil attr_nothing;
        };
        associations = record {
          all = of_each SoundAssoc assoc_of (bodies INAS all) (each_map (bodies INAS all) (assoc_part k) (at_tag INAS refl));
          once = rw inas_same (apart_part [] [] (λ q z. z) (within_inas all) apart);
        };
        coordinates = record {
          all =
              each_gathered SoundCoord coords_in (bodies C2IT all ++ bodies C2IL all)
              (each_join (λ b. Each SoundCoord (coords_in b)) (bodies C2IT all) (bodies C2IL all)
              (each_map (bodies C2IT all) (λ b s. (point_part k b s).0) c2it)
              (each_map (bodies C2IL all) (list_part k) (at_tag C2IL refl)));
          counted =
              counted_of k (bodies C2IT all) (bodies C2IL all) (lacks C2IT refl) (lacks C2IL refl)
              (λ q.
              let (h, o) = point_needs k fs q whole.needs in
              let (b, z) = needed C2IT refl o h in
              point_one k (bodies C2IT all) b z c2it);
        };
        spatial = record {
          all =
              of_each SoundSpatial spatial_of (gather (many (tuple_of Spas)) (bodies SPAS all))
              (each_gathered (λ vs. SoundSpatial (spatial_of vs)) (many (tuple_of Spas)) (bodies SPAS all) (each_map (bodies SPAS all) (spatial_part k) (at_tag SPAS refl)));
          once = rw spas_same (apart_part [] [] (λ q z. z) (within_spas all) apart);
          lacking = λ h. ap (λ (bs : List (List ℕ)). each spatial_of (gather (many (tuple_of Spas)) bs)) (lacks SPAS refl h) ∙ none;
        };
      }
    where
      none : each spatial_of (gather (many (tuple_of Spas)) []) ≡ []
      none = unfold gather each in refl

  -- the record
  pub record_sound : number7 (f ∷ fs) ≡ pass → SoundRec (rec_of k (f ∷ fs))
  unfolding rec_of ident_vals ident_nums front ident_of kind_of
  record_sound e =
      record {
        ident = ident_read k f.body t.ident_bytes_lem t.ident;
        code_none = λ h. rw h;
        foid =
            foid_of_lem k (bodies FOID (f ∷ fs)) (lacks FOID refl)
            (λ q.
            let (h, o) = feature_needs k fs q whole.needs in
            let (b, z) = needed FOID refl o h in
            foid_one k (bodies FOID (f ∷ fs)) b z (at_tag FOID refl));
        parts = parts_sound e;
      }

  -- the records that it names
  pub record_named : (keys : List (List ℕ)) → Each (Stands keys) (each mark_key (marks 1 (f ∷ fs))) → Named keys (rec_of k (f ∷ fs))
  unfolding rec_of parts_of assoc_of spatial_of all_keys
  record_named keys e =
      let all : Each (Stands keys) all_keys = rw (marks_keys 1 (f ∷ fs)) at e in
      record {
        associations = each_of (Stands keys) assoc_key (each assoc_of (bodies INAS (f ∷ fs))) (rw inas_same (each_within (Stands keys) (within_inas (f ∷ fs)) all));
        spatial = each_of (Stands keys) spatial_key (each spatial_of (gather (many (tuple_of Spas)) (bodies SPAS (f ∷ fs)))) (rw spas_same (each_within (Stands keys) (within_spas (f ∷ fs)) all));
      }
