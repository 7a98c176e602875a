-- Fields taken one by one are the record that they say together. Assumes nothing.
use Prim.Native.Nat.{ℕ, ◌≤◌}
use mathlib.Core.Path.{◌≡◌, refl, sym, ap, ◌∙◌}
use mathlib.Core.Bool.{Bool, true, false, true≢false}
use mathlib.Core.Option.{some, none}
use mathlib.Core.List.{List, [], ◌∷◌, ◌++◌, append_assoc, append-nil}
use native.Mathlib.Omega.{arith}
use borrow.Author.Tests.{eqb-true}
use lib.ListN.{length, get_or}
use lib.Dec.{eqb}
use Rattle.base.specs.Choice.{pick, either}
use Rattle.base.specs.Lists.{each, gather, Each}
use Rattle.base.proofs.ChoiceLaws.{either_false}
use Rattle.base.proofs.ListLaws.{each_gather}
use Rattle.base.proofs.OptionLaws.{never}
use Rattle.base.proofs.EachLaws.{each_map}
use Rattle.skeleton.specs.File.{Field}
use Rattle.fields.specs.Table.{tuple_of}
use Rattle.fields.specs.Content.{many}
use Rattle.fields.specs.declared.Format.TheVariants.{Spas}
use Rattle.forest.specs.Forest.{Forest}
use Rattle.rules.specs.Tags.{FOID, ATTR, INAS, SPAS, C2IT, C2IL}
use Rattle.rules.specs.ByTag.{with_tag, bodies, front}
use Rattle.rules.specs.Kind.{kind_of, rows_of}
use Rattle.rules.specs.Coordinates.{Coord, coords_in, is_coordinates}
use Rattle.rules.specs.Trees.{attr_tree}
use Rattle.rules.specs.Record.{Rec, Assoc, Spatial, Ident, ident_of, foid_of, standing, assoc_of, spatial_of, parts_of, rec_of}
use Rattle.rules.specs.declared.Kind.{Kind}
use Rattle.rules.specs.declared.Kind.TheVariants.{Info, Point, Multi, Feature}
use Rattle.sequence.proofs.Tests.{by_bool}
use Rattle.sound.specs.Sound.{rowed}
use Rattle.sound.proofs.Order.{most, tag_none}
use Rattle.sound.proofs.Bodies.{bodies_none, bodies_length}
use Rattle.sound.proofs.Records.{Whole}
use Rattle.loading.specs.Taken.{take_parts, take_field, take_fields}

-- ---- one part each

-- the last of values that are set
lastly : {A : Type 0} → (List ℕ → A) → List (List ℕ) → A → A
lastly g [] a = a
lastly g (b ∷ bs) a = lastly g bs (g b)

-- the bodies of coordinates, in order
coord_bodies : List Field → List (List ℕ)
coord_bodies [] = []
coord_bodies (f ∷ fs) = let later = coord_bodies fs in pick (is_coordinates f.tag) (f.body ∷ later) later

-- a part that is set
set_step : {A : Type 0} (g : List ℕ → A) (t : ℕ) (f : Field) (fs : List Field) (a : A)
    → lastly g (bodies t fs) (pick (eqb f.tag t) (g f.body) a) ≡ lastly g (bodies t (f ∷ fs)) a
unfolding bodies with_tag each lastly
set_step g t f fs a = by_bool (eqb f.tag t) (λ h. rw h refl) (λ h. rw h refl)

-- a part that is added to
add_step : {A : Type 0} (g : List ℕ → List A) (t : ℕ) (f : Field) (fs : List Field) (p : List A)
    → pick (eqb f.tag t) (p ++ g f.body) p ++ gather g (bodies t fs) ≡ p ++ gather g (bodies t (f ∷ fs))
unfolding bodies with_tag each gather
add_step g t f fs p = by_bool (eqb f.tag t) (λ h. rw h (append_assoc p (g f.body) (gather g (bodies t fs)))) (λ h. rw h refl)

-- the coordinates
coord_step : (f : Field) (fs : List Field) (p : List Coord)
    → pick (is_coordinates f.tag) (p ++ coords_in f.body) p ++ gather coords_in (coord_bodies fs) ≡ p ++ gather coords_in (coord_bodies (f ∷ fs))
unfolding coord_bodies gather
coord_step f fs p = by_bool (is_coordinates f.tag) (λ h. rw h (append_assoc p (coords_in f.body) (gather coords_in (coord_bodies fs)))) (λ h. rw h refl)

-- what an ATTR says
attr_of : List ℕ → Forest
attr_of b = standing (attr_tree b)

-- an INAS
assocs_of : List ℕ → List Assoc
assocs_of b = assoc_of b ∷ []

-- a SPAS
spatials_of : List ℕ → List Spatial
spatials_of b = each spatial_of (many (tuple_of Spas) b)

-- ---- all of them

-- a record with other parts
build : Rec → List ℕ → Forest → List Assoc → List Coord → List Spatial → Rec
build r foid a b c d =
    record {
      kind = r.kind;
      rcid = r.rcid;
      code = r.code;
      rver = r.rver;
      foid = foid;
      parts = record { attributes = a; associations = b; coordinates = c; spatial = d };
    }

build_same : (r : Rec) (f g : List ℕ) (a b : Forest) (c d : List Assoc) (i j : List Coord) (k l : List Spatial) → f ≡ g → a ≡ b → c ≡ d → i ≡ j → k ≡ l
    → build r f a c i k ≡ build r g b d j l
build_same r f g a b c d i j k l p q s t u =
    ap (λ (z : List ℕ). build r z a c i k) p
    ∙ ap (λ (z : Forest). build r g z c i k) q
    ∙ ap (λ (z : List Assoc). build r g b z i k) s
    ∙ ap (λ (z : List Coord). build r g b d z k) t
    ∙ ap (λ (z : List Spatial). build r g b d j z) u

-- what fields make of a record
made : Rec → List Field → Rec
made r fs =
    build r
    (lastly foid_of (bodies FOID fs) r.foid)
    (lastly attr_of (bodies ATTR fs) r.parts.attributes)
    (r.parts.associations ++ gather assocs_of (bodies INAS fs))
    (r.parts.coordinates ++ gather coords_in (coord_bodies fs))
    (r.parts.spatial ++ gather spatials_of (bodies SPAS fs))

taken : (fs : List Field) (r : Rec) → take_fields fs r ≡ made r fs
unfolding take_fields take_field take_parts made build bodies with_tag each gather lastly coord_bodies attr_of assocs_of spatials_of
taken [] r =
    build_same r _ _ _ _ _ _ _ _ _ _ refl refl (sym (append-nil r.parts.associations)) (sym (append-nil r.parts.coordinates)) (sym (append-nil r.parts.spatial))
taken (f ∷ fs) r =
    taken fs (take_field f r)
    ∙ build_same r _ _ _ _ _ _ _ _ _ _
    (set_step foid_of FOID f fs r.foid)
    (set_step attr_of ATTR f fs r.parts.attributes)
    (add_step assocs_of INAS f fs r.parts.associations)
    (coord_step f fs r.parts.coordinates)
    (add_step spatials_of SPAS f fs r.parts.spatial)

-- ---- as the rules have it

-- one at most
one_set : (bs : List (List ℕ)) → length bs ≤ 1 → lastly attr_of bs (attr_of []) ≡ standing (attr_tree (get_or bs 0 []))
unfolding lastly attr_of
one_set [] h = refl
one_set (b ∷ []) h = refl
one_set (b ∷ c ∷ bs) h = absurd (omega arith)

one_foid : (bs : List (List ℕ)) → length bs ≤ 1 → lastly foid_of bs [] ≡ gather foid_of bs
unfolding lastly gather
one_foid [] h = refl
one_foid (b ∷ []) h = sym (append-nil (foid_of b))
one_foid (b ∷ c ∷ bs) h = absurd (omega arith)

singles : (bs : List (List ℕ)) → gather assocs_of bs ≡ each assoc_of bs
unfolding gather each assocs_of
singles [] = refl
singles (b ∷ bs) = ap (λ (l : List Assoc). assoc_of b ∷ l) (singles bs)

-- coordinates of one tag only
only : (a : ℕ) (fs : List Field) → Each (λ f. is_coordinates f.tag ≡ eqb f.tag a) fs → coord_bodies fs ≡ bodies a fs
unfolding Each coord_bodies bodies with_tag each
only a [] e = refl
only a (f ∷ fs) e = by_bool (eqb f.tag a) (λ h. rw (e.0, h) (ap (λ (l : List (List ℕ)). f.body ∷ l) (only a fs e.1))) (λ h. rw (e.0, h) (only a fs e.1))

abbrev Rowed : Kind → List Field → Type 0
Rowed k fs = Each (λ f. rowed f.tag (rows_of k) ≡ true) fs

-- a tag without a row is not that of a field that has one
not_tag : (k : Kind) (f : Field) (t : ℕ) → rowed t (rows_of k) ≡ false → rowed f.tag (rows_of k) ≡ true → eqb f.tag t ≡ false
not_tag k f t n e =
    by_bool (eqb f.tag t)
    (λ h. absurd (true≢false (sym e ∙ ap (λ (u : ℕ). rowed u (rows_of k)) (eqb-true f.tag t h) ∙ n)))
    (λ h. h)

list_none : (k : Kind) (fs : List Field) → Rowed k fs → rowed C2IL (rows_of k) ≡ false → coord_bodies fs ≡ bodies C2IT fs ++ bodies C2IL fs
unfolding is_coordinates
list_none k fs e n =
    let tags = each_map fs (λ f q. ap (either (eqb f.tag C2IT)) (not_tag k f C2IL n q) ∙ either_false (eqb f.tag C2IT)) e in
    let none = bodies_none C2IL fs (tag_none C2IL (rows_of k) fs e n) in
    only C2IT fs tags ∙ sym (ap (λ (l : List (List ℕ)). bodies C2IT fs ++ l) none ∙ append-nil (bodies C2IT fs))

point_none : (k : Kind) (fs : List Field) → Rowed k fs → rowed C2IT (rows_of k) ≡ false → coord_bodies fs ≡ bodies C2IT fs ++ bodies C2IL fs
unfolding is_coordinates
point_none k fs e n =
    let tags = each_map fs (λ f q. ap (λ (b : Bool). either b (eqb f.tag C2IL)) (not_tag k f C2IT n q)) e in
    let none = bodies_none C2IT fs (tag_none C2IT (rows_of k) fs e n) in
    only C2IL fs tags ∙ sym (ap (λ (l : List (List ℕ)). l ++ bodies C2IL fs) none)

coords_of : (k : Kind) (fs : List Field) → Rowed k fs → coord_bodies fs ≡ bodies C2IT fs ++ bodies C2IL fs
unfolding rows_of rowed
coords_of Info fs e = list_none Info fs e refl
coords_of Point fs e = list_none Point fs e refl
coords_of Multi fs e = point_none Multi fs e refl
coords_of Feature fs e = list_none Feature fs e refl

-- each kind has at most one FOID and one ATTR
once_foid : (k : Kind) → most FOID (rows_of k) ≡ true
unfolding rows_of most rowed
once_foid Info = refl
once_foid Point = refl
once_foid Multi = refl
once_foid Feature = refl

once_attr : (k : Kind) → most ATTR (rows_of k) ≡ true
unfolding rows_of most rowed
once_attr Info = refl
once_attr Point = refl
once_attr Multi = refl
once_attr Feature = refl

-- ---- behind an identifier

-- a record that is nothing but its identifier
unfoldable pub blank : Kind → Ident → Rec
blank k i =
    record {
      kind = k;
      rcid = i.rcid;
      code = i.code;
      rver = i.rver;
      foid = [];
      parts = record { attributes = standing (attr_tree []); associations = []; coordinates = []; spatial = [] };
    }

module _ (k : Kind) (f : Field) (named : kind_of f.tag ≡ some k) where
  -- the tag of an identifier is no other
  other : (t : ℕ) → kind_of t ≡ none → eqb f.tag t ≡ false
  other t n = by_bool (eqb f.tag t) (λ h. never (sym named ∙ ap kind_of (eqb-true f.tag t h) ∙ n)) (λ h. h)

  skipped : (fs : List Field) (t : ℕ) → kind_of t ≡ none → bodies t (f ∷ fs) ≡ bodies t fs
  unfolding bodies with_tag
  skipped fs t n = rw (other t n) refl

  pub taken_record : (fs : List Field) → Whole k fs → Rowed k fs → take_fields fs (blank k (ident_of k f.body)) ≡ rec_of k (f ∷ fs)
  unfolding blank rec_of parts_of front made build kind_of attr_of assocs_of spatials_of
  taken_record fs w e =
      let r = blank k (ident_of k f.body) in
      let foids : length (bodies FOID fs) ≤ 1 = omega (arith, bodies_length FOID fs, w.once FOID (once_foid k)) in
      let attrs : length (bodies ATTR fs) ≤ 1 = omega (arith, bodies_length ATTR fs, w.once ATTR (once_attr k)) in
      let s : (t : ℕ) → kind_of t ≡ none → bodies t (f ∷ fs) ≡ bodies t fs = skipped fs in
      taken fs r
      ∙ build_same r _ _ _ _ _ _ _ _ _ _
      (one_foid (bodies FOID fs) foids ∙ ap (gather foid_of) (sym (s FOID refl)))
      (one_set (bodies ATTR fs) attrs ∙ ap (λ (l : List (List ℕ)). standing (attr_tree (get_or l 0 []))) (sym (s ATTR refl)))
      (singles (bodies INAS fs) ∙ ap (each assoc_of) (sym (s INAS refl)))
      (ap (gather coords_in) (coords_of k fs e)
      ∙ ap (λ (l : List (List ℕ)). gather coords_in (l ++ bodies C2IL fs)) (sym (s C2IT refl))
      ∙ ap (λ (l : List (List ℕ)). gather coords_in (bodies C2IT (f ∷ fs) ++ l)) (sym (s C2IL refl)))
      (sym (each_gather spatial_of (many (tuple_of Spas)) (bodies SPAS fs))
      ∙ ap (λ (l : List (List ℕ)). each spatial_of (gather (many (tuple_of Spas)) l)) (sym (s SPAS refl)))
