-- The written form of a record of a dataset is the house form of its fields. Assumes nothing.
use Prim.Native.Nat.{ℕ}
use mathlib.Core.Path.{◌≡◌, refl, sym, ap, ap₂, ◌∙◌}
use mathlib.Core.Bool.{Bool, true, false}
use mathlib.Core.Option.{Option, some, none}
use mathlib.Core.List.{List, [], ◌∷◌, ◌++◌}
use native.Mathlib.Omega.{arith}
use lib.Dec.{eqb, ltb}
use lib.ListN.{get_or}
use Rattle.base.specs.Choice.{pick}
use Rattle.base.specs.Check.{ok, no, bind, fault, pass}
use Rattle.base.specs.Lists.{each, gather, Each}
use Rattle.base.specs.Keys.{among}
use Rattle.base.proofs.CheckLaws.{refused, bind_inv, ok_inj}
use Rattle.base.proofs.ListLaws.{each_append}
use Rattle.base.proofs.EachLaws.{each_parts}
use Rattle.skeleton.specs.File.{Field}
use Rattle.skeleton.specs.Place.{fields_at}
use Rattle.skeleton.specs.declared.directory.Shape.{Shape}
use Rattle.fields.specs.Table.{head_of, tuple_of}
use Rattle.fields.specs.Values.{puts, put_all}
use Rattle.fields.specs.Valid.{Bytes}
use Rattle.fields.specs.Content.{many, fill}
use Rattle.fields.specs.declared.Format.TheVariants.{Foid, Spas, SpasNew, C2il}
use Rattle.rules.specs.Tags.{FOID, ATTR, INAS, SPAS, COCC, C2IT, C2IL}
use Rattle.rules.specs.ByTag.{with_tag, body_of, bodies, front, has}
use Rattle.rules.specs.Kind.{kind_of, tag_of, rank, rows_of}
use Rattle.rules.specs.Grammar.{in_order, forbidden, ruin_byte, coui_byte, as_stored, fields_stand, on_kind, number4}
use Rattle.rules.specs.Content.{ident_format, insert_only, stands, all_stand, number5}
use Rattle.rules.specs.Trees.{attr_tree, number6}
use Rattle.rules.specs.Coordinates.{coords_in}
use Rattle.rules.specs.Associations.{number7}
use Rattle.rules.specs.Record.{Rec, foid_of, standing, assoc_of, spatial_of, parts_of, rec_of, key_of, dataset_record}
use Rattle.rules.specs.Written.{field_as, list_field, ident_bytes, nums, tree_bytes, assoc_field, coord_vals, spatial_vals, coord_tag, part_fields, written_fields}
use Rattle.rules.specs.declared.Kind.{Kind}
use Rattle.rules.specs.declared.Kind.TheVariants.{Info, Point, Multi, Feature}
use Rattle.rules.specs.declared.Mode.TheVariants.{InDataset}
use Rattle.rules.proofs.KindLaws.{tag_of_kind}
use Rattle.rules.proofs.FilledLaws.{stands_fill}
use Rattle.writing.specs.House.{is_list, in_house_form}
use Rattle.writing.proofs.HouseLaws.{house_plain}
use Rattle.writing.proofs.OrderedLaws.{Tagged, BodiesBytes, Parted, parted}
use Rattle.writing.proofs.SameBytesLaws.{ident_vals, ident_again, Lists, coords_again, spatials_again}
use Rattle.writing.proofs.RecordPartLaws.{Right, all_right, foid_part_lem, attr_part_lem, inas_part_lem, coord_lists, point_lists, spatial_lists}
use Rattle.writing.proofs.BytesLaws.{bytes_fields}
use Rattle.writing.proofs.TagLaws.{with_foid, with_attr, with_inas, with_spas, with_coords}
use Rattle.writing.proofs.HousePartLaws.{Apart, house_plains, house_lists, apart_tagged, apart_list, apart_alone, house_coords, attr_coord}

-- ---- both forms of a record in parts

-- the fields of every part as they are written
abbrev Whole : (k : Kind) (fs : List Field) → Parted k fs → List Field
Whole k fs p =
    p.foids ++ (list_field ATTR (gather body_of p.attrs) ++ (p.inass
    ++ (list_field (coord_tag k) (gather body_of p.coords) ++ list_field SPAS (gather body_of p.spass))))

-- the fields of each part have passed 5 and 6
record Rights (k : Kind) (fs : List Field) (p : Parted k fs) : Type 0 where
  foids : Each Right p.foids
  attrs : Each Right p.attrs
  inass : Each Right p.inass
  coords : Each Right p.coords
  spass : Each Right p.spass

rights_of : (k : Kind) (fs : List Field) (p : Parted k fs) → Each Right fs → Rights k fs p
rights_of k fs p r =
    let a = each_parts Right p.foids _ (rw p.is at r) in
    let b = each_parts Right p.attrs _ a.1 in
    let c = each_parts Right p.inass _ b.1 in
    let d = each_parts Right p.coords p.spass c.1 in
    record { foids = a.0; attrs = b.0; inass = c.0; coords = d.0; spass = d.1 }

house_whole : (k : Kind) (fs : List Field) (p : Parted k fs) → Rights k fs p → in_house_form true fs ≡ Whole k fs p
unfolding is_list
house_whole k fs p r =
    let c = house_coords k p.coords p.spass p.coord_tags p.spas_tags r.coords p.one_coord in
    let i = house_plains INAS p.inass (p.coords ++ p.spass) refl p.inas_tags ∙ ap (λ (gs : List Field). p.inass ++ gs) c in
    let a : Apart ATTR (in_house_form true (p.inass ++ (p.coords ++ p.spass))) =
    rw i (apart_tagged ATTR INAS p.inass _ refl p.inas_tags
    (apart_list ATTR (coord_tag k) _ _ (attr_coord k) (apart_alone ATTR SPAS (gather body_of p.spass) refl))) in
    ap (in_house_form true) p.is
    ∙ house_plains FOID p.foids (p.attrs ++ (p.inass ++ (p.coords ++ p.spass))) refl p.foid_tags
    ∙ ap (λ (gs : List Field). p.foids ++ gs)
    (house_lists ATTR p.attrs (p.inass ++ (p.coords ++ p.spass)) refl p.attr_tags a
    ∙ ap (λ (gs : List Field). list_field ATTR (gather body_of p.attrs) ++ gs) i)

-- the bodies of fields one after the other
gather_bodies : (xs : List Field) → gather (λ b. b) (each body_of xs) ≡ gather body_of xs
unfolding gather each
gather_bodies [] = refl
gather_bodies (f ∷ xs) = ap (λ (b : List ℕ). f.body ++ b) (gather_bodies xs)

coord_bodies_lem : (k : Kind) (xs : List Field) → Tagged (coord_tag k) xs → Each Right xs → Lists (tuple_of C2il) (each body_of xs)
unfolding coord_tag
coord_bodies_lem Info xs h r = coord_lists xs h r
coord_bodies_lem Point xs h r = point_lists xs h r
coord_bodies_lem Multi xs h r = coord_lists xs h r
coord_bodies_lem Feature xs h r = coord_lists xs h r

-- an identifier's tag is none of these
record Foreign (t : ℕ) : Type 0 where
  foid : eqb t FOID ≡ false
  attr : eqb t ATTR ≡ false
  inas : eqb t INAS ≡ false
  c2it : eqb t C2IT ≡ false
  c2il : eqb t C2IL ≡ false
  spas : eqb t SPAS ≡ false

foreign : (k : Kind) → Foreign (tag_of k)
unfolding tag_of
foreign Info = record { foid = refl; attr = refl; inas = refl; c2it = refl; c2il = refl; spas = refl }
foreign Point = record { foid = refl; attr = refl; inas = refl; c2it = refl; c2il = refl; spas = refl }
foreign Multi = record { foid = refl; attr = refl; inas = refl; c2it = refl; c2il = refl; spas = refl }
foreign Feature = record { foid = refl; attr = refl; inas = refl; c2it = refl; c2il = refl; spas = refl }

-- the bodies after the identifier
after_ident : (t : ℕ) (f : Field) (fs xs : List Field) → eqb f.tag t ≡ false → with_tag t fs ≡ xs → bodies t (f ∷ fs) ≡ each body_of xs
unfolding bodies with_tag
after_ident t f fs xs e w = rw (e, w)

-- an identifier is a head alone
ident_fill : (k : Kind) (b : List ℕ) → stands 1 (ident_format true k) b ≡ pass → fill (head_of (ident_format true k)) [] b ≡ true
unfolding ident_format tuple_of
ident_fill Info b e = stands_fill 1 (ident_format true Info) b tt e
ident_fill Point b e = stands_fill 1 (ident_format true Point) b tt e
ident_fill Multi b e = stands_fill 1 (ident_format true Multi) b tt e
ident_fill Feature b e = stands_fill 1 (ident_format true Feature) b tt e

-- it is no list
ident_plain : (k : Kind) → is_list true (tag_of k) ≡ false
unfolding is_list tag_of
ident_plain Info = refl
ident_plain Point = refl
ident_plain Multi = refl
ident_plain Feature = refl

-- the record that the fields say is written as these parts
written_whole : (k : Kind) (f : Field) (fs : List Field) (p : Parted k fs) → f.tag ≡ tag_of k → Bytes f.body → stands 1 (ident_format true k) f.body ≡ pass
    → Rights k fs p → written_fields (rec_of k (f ∷ fs)) ≡ f ∷ Whole k fs p
unfolding written_fields rec_of parts_of part_fields ident_bytes front ident_vals
written_whole k f fs p t g e r =
    let o : Foreign f.tag = rw t (foreign k) in
    let id : field_as (tag_of k) (puts (head_of (ident_format true k)) (nums (ident_vals k f.body))) ≡ f =
    ap (field_as (tag_of k)) (ident_again k f.body g (ident_fill k f.body e)) ∙ ap (λ (u : ℕ). field_as u f.body) (sym t) in
    let foid = ap (λ (bs : List (List ℕ)). list_field FOID (puts (head_of Foid) (nums (gather foid_of bs)))) (after_ident FOID f fs p.foids o.foid (with_foid k fs p))
    ∙ foid_part_lem p.foids p.foid_tags r.foids p.one_foid in
    let attr = ap (λ (bs : List (List ℕ)). list_field ATTR (tree_bytes (standing (attr_tree (get_or bs 0 []))))) (after_ident ATTR f fs p.attrs o.attr (with_attr k fs p))
    ∙ ap (list_field ATTR) (attr_part_lem p.attrs p.attr_tags r.attrs p.one_attr) in
    let inas = ap (λ (bs : List (List ℕ)). each assoc_field (each assoc_of bs)) (after_ident INAS f fs p.inass o.inas (with_inas k fs p))
    ∙ inas_part_lem p.inass p.inas_tags r.inass in
    let both : bodies C2IT (f ∷ fs) ++ bodies C2IL (f ∷ fs) ≡ each body_of p.coords =
    ap₂ (λ (x y : List (List ℕ)). x ++ y) (after_ident C2IT f fs _ o.c2it refl) (after_ident C2IL f fs _ o.c2il refl)
    ∙ sym (each_append body_of (with_tag C2IT fs) (with_tag C2IL fs)) ∙ ap (each body_of) (with_coords k fs p) in
    let coord = ap (λ (bs : List (List ℕ)). list_field (coord_tag k) (put_all (tuple_of C2il) (each coord_vals (gather coords_in bs)))) both
    ∙ ap (list_field (coord_tag k)) (coords_again (each body_of p.coords) (coord_bodies_lem k p.coords p.coord_tags r.coords) ∙ gather_bodies p.coords) in
    let spas = ap (λ (bs : List (List ℕ)). list_field SPAS (put_all (tuple_of SpasNew) (each spatial_vals (each spatial_of (gather (many (tuple_of Spas)) bs)))))
    (after_ident SPAS f fs p.spass o.spas (with_spas k fs p))
    ∙ ap (list_field SPAS) (spatials_again (each body_of p.spass) (spatial_lists p.spass p.spas_tags r.spass) ∙ gather_bodies p.spass) in
    λ i. id i ∷ (foid i ++ (attr i ++ (inas i ++ (coord i ++ spas i))))

-- ---- the tests, turned round

-- number 4 passed
four_inv : (least : ℕ) (f : Field) (fs : List Field) (k : Kind) → number4 InDataset least (f ∷ fs) ≡ ok k
    → (kind_of f.tag ≡ some k) × (fields_stand InDataset k f.body fs ≡ pass)
unfolding number4
four_inv least f fs k e = go (kind_of f.tag) refl e
  where
    by_rank : (j : Kind) (b : Bool) → kind_of f.tag ≡ some j
        → pick b (no (fault 4 1 0)) (bind (fields_stand InDataset j f.body fs) (λ _. ok j)) ≡ ok k
        → (kind_of f.tag ≡ some k) × (fields_stand InDataset k f.body fs ≡ pass)
    by_rank j true p x = refused x
    by_rank j false p x =
        let r = bind_inv (fields_stand InDataset j f.body fs) (λ _. ok j) k x in
        let s : j ≡ k = ok_inj j k r.2 in
        (p ∙ ap (λ (x : Kind). some x) s, ap (λ (x : Kind). fields_stand InDataset x f.body fs) (sym s) ∙ r.1)

    go : (o : Option Kind) → kind_of f.tag ≡ o
        → on_kind o (λ j. pick (ltb (rank j) least) (no (fault 4 1 0)) (bind (fields_stand InDataset j f.body fs) (λ _. ok j))) ≡ ok k
        → (kind_of f.tag ≡ some k) × (fields_stand InDataset k f.body fs ≡ pass)
    go none p x = refused x
    go (some j) p x = by_rank j (ltb (rank j) least) p x

order_inv : (k : Kind) (b : List ℕ) (fs : List Field) → fields_stand InDataset k b fs ≡ pass
    → in_order (forbidden InDataset (ruin_byte k b) (coui_byte fs) (has COCC fs)) (rows_of k) 2 fs ≡ pass
unfolding fields_stand
order_inv k b fs e = (bind_inv (in_order (forbidden InDataset (ruin_byte k b) (coui_byte fs) (has COCC fs)) (rows_of k) 2 fs) _ tt e).1

-- ---- the law

-- a record of a dataset that has passed 4, 5 and 6
pub written_passed : (least : ℕ) (fs : List Field) (k : Kind) → BodiesBytes fs → number4 InDataset least fs ≡ ok k
    → number5 InDataset k fs ≡ pass → number6 InDataset k fs ≡ pass → written_fields (rec_of k fs) ≡ in_house_form true fs
unfolding number4 number5 number6 insert_only as_stored Each
written_passed least [] k g e₄ e₅ e₆ = refused e₄
written_passed least (f ∷ fs) k g e₄ e₅ e₆ =
    let a = four_inv least f fs k e₄ in
    let t = tag_of_kind f.tag k a.0 in
    let p = parted (ruin_byte k f.body) (coui_byte fs) (has COCC fs) k 2 fs (order_inv k f.body fs a.1) in
    let b = bind_inv (stands 1 (ident_format true k) f.body) _ tt e₅ in
    let c = bind_inv (all_stand true 2 fs) _ tt b.2 in
    let r = rights_of k fs p (all_right 2 2 fs g.1 c.1 e₆) in
    let plain : is_list true f.tag ≡ false = ap (is_list true) t ∙ ident_plain k in
    written_whole k f fs p t g.0 b.1 r
    ∙ ap (λ (gs : List Field). f ∷ gs) (sym (house_whole k fs p r))
    ∙ sym (house_plain true f fs plain)

-- a record of a dataset that the rules take is written as the house form of its fields
pub written_house : (least : ℕ) (earlier : List (List ℕ)) (fs : List Field) (r : Rec) → BodiesBytes fs
    → dataset_record least earlier fs ≡ ok r → written_fields r ≡ in_house_form true fs
unfolding dataset_record
written_house least earlier fs r g e =
    let a = bind_inv (number4 InDataset least fs) _ r e in
    let b = bind_inv (number5 InDataset a.0 fs) _ r a.2 in
    let c = bind_inv (number6 InDataset a.0 fs) _ r b.2 in
    let same : rec_of a.0 fs ≡ r = go (among (key_of (rec_of a.0 fs)) earlier) (rec_of a.0 fs) c.2 in
    ap written_fields (sym same) ∙ written_passed least fs a.0 g a.1 b.1 c.1
  where
    go : (t : Bool) (s : Rec) → pick t (no (fault 7 1 0)) (bind (number7 fs) (λ _. ok s)) ≡ ok r → s ≡ r
    go true s x = absurd (let z : ◌≡◌ {A = ℕ} 0 1 = cc in omega arith)
    go false s x = let d = bind_inv (number7 fs) (λ _. ok s) r x in ok_inj s r d.2

-- the same of the fields of a record's bytes
pub written_slice : (r : List ℕ) (h : Shape) (least : ℕ) (earlier : List (List ℕ)) (x : Rec) → Bytes r → dataset_record least earlier (fields_at r h 24) ≡ ok x
    → in_house_form true (fields_at r h 24) ≡ written_fields x
written_slice r h least earlier x g e = sym (written_house least earlier (fields_at r h 24) x (bytes_fields r h 24 g) e)
