-- One field of a modify: what the workspace and the version hold then. Assumes nothing.
use Prim.Native.Nat.{ℕ, ◌+◌, ◌-◌, ◌*◌, ◌/◌, ◌%◌, ◌^◌, ◌≤◌, ◌<◌}
use mathlib.Core.Path.{◌≡◌, refl, sym, ap, ◌∙◌, subst}
use mathlib.Core.Bool.{true, false, true≢false}
use mathlib.Core.List.{List, [], ◌++◌, append-nil}
use native.Mathlib.Omega.{arith}
use borrow.Author.Tests.{eqb-true}
use lib.ListN.{length, get_or, take, drop}
use lib.Dec.{eqb}
use Rattle.std.specs.Prelude.{Option, Some, None, Result, Ok, Err}
use Rattle.base.specs.Check.{Check, ok, no, bind, fault, refuse, pass, passed}
use Rattle.base.specs.declared.Fault.{Fault}
use Rattle.base.specs.Lists.{each, Each}
use Rattle.base.proofs.ListLaws.{none_long}
use Rattle.skeleton.specs.Emit.{sizes}
use Rattle.skeleton.specs.File.{Field}
use Rattle.skeleton.specs.Place.{between, fields_at}
use Rattle.skeleton.specs.Record.{record_at}
use Rattle.skeleton.specs.Shape.{Bounded}
use Rattle.skeleton.specs.declared.directory.Shape.{Shape}
use Rattle.skeleton.proofs.ReadLaws.{bytes_between}
use Rattle.skeleton.proofs.RecordLaws.{right}
use Rattle.skeleton.proofs.BetweenLaws.{length_between}
use Rattle.fields.specs.Bytes.{le}
use Rattle.fields.specs.Table.{head_of, tuple_of}
use Rattle.fields.specs.Values.{values, num_at}
use Rattle.fields.specs.Content.{fill, many}
use Rattle.fields.specs.Valid.{Bytes, allows}
use Rattle.fields.specs.declared.Format.TheVariants.{Attr, Spas, Cocc, C2it}
use Rattle.fields.proofs.FieldLaws.{head_length_lem}
use Rattle.fields.proofs.ValueLaws.{head_number, head_allowed}
use Rattle.fields.proofs.SizeLaws.{in_range_lem}
use Rattle.forest.specs.Forest.{Forest}
use Rattle.rules.specs.Tags.{ATTR, INAS, SPAS, COCC, C2IT}
use Rattle.rules.specs.Place.{placed, Place as Edit}
use Rattle.rules.specs.Coordinates.{Coord, coords_in, place_in, sent}
use Rattle.rules.specs.Content.{inas_format}
use Rattle.rules.specs.Trees.{attr_acts}
use Rattle.rules.specs.Associations.{inas_key}
use Rattle.rules.specs.Record.{Parts, Assoc, Spatial, assoc_of}
use Rattle.rules.specs.Modify.{with_attributes, with_associations, with_coordinates, with_spatial, act_attr, act_inas, act_spas, act_field}
use Rattle.rules.specs.Written.{field_as, tree_bytes}
use Rattle.rules.proofs.CoordinateLaws.{coords_count}
use Rattle.items.specs.Items.{its}
use Rattle.numbering.specs.Tuples.{size_of, Sized}
use Rattle.numbering.proofs.EmittingLaws.{forest_size}
use Rattle.cells.specs.Cells.{bodies_of, fields_size, spatial_in}
use Rattle.cells.specs.Keys.{InasBody, SpasBody}
use Rattle.cells.specs.Acts.{InasNow, InasActs, counts, Totals, SpasNow, SpasActs}
use Rattle.cells.proofs.FindLaws.{bodies_bytes}
use Rattle.cells.proofs.InasLaws.{inas_bytes}
use Rattle.cells.proofs.LiftLaws.{acted_every}
use Rattle.coords.specs.Tuples.{tuples_of}
use Rattle.coords.specs.Placing.{EvenLists, PlacedAs}
use Rattle.edits.specs.Applied.{Outcome, Applied}
use Rattle.stock.proofs.FilledLaws.{record_filled, record_short}
use Rattle.version.specs.Held.{RightInas, RightSpas, takes_tree, HeldParts, attr_now, inas_now, coord_now, spas_now}
use Rattle.version.specs.Areas.{list_area}
use Rattle.version.specs.Present.{FlagsKept}
use Rattle.version.specs.declared.Version.{Version}
use Rattle.version.proofs.AreaLaws.{lent, length_lent, lent_same, lent_behind}
use Rattle.version.proofs.BodyLaws.{spas_every, spas_all}
use Rattle.acting.specs.Ready.{Ready, Sending, Placing}
use Rattle.acting.specs.Acted.{Holding, PartActs, FieldActs, edit_at}
use Rattle.acting.proofs.WideLaws.{list_area_lem, list_same, list_flags, attr_area, inas_area_lem, spas_area_lem}
use Rattle.acting.proofs.VersionLaws.{inas_every, same_ident, with_items, with_tuples, with_inas, with_spas}

-- ---- the rules' acts by tag

bind_ok : {A B : Type 0} (c : Check A) (k : A → Check B) (a : A) → c ≡ ok a → bind c k ≡ k a
unfolding bind
bind_ok c k a e = ap (λ (x : Check _). bind x k) e

bind_no : {A B : Type 0} (c : Check A) (k : A → Check B) (f : Fault) → c ≡ no f → bind c k ≡ no f
unfolding bind
bind_no c k f e = ap (λ (x : Check _). bind x k) e

module _ (new : List Coord) (b : List ℕ) (p : Parts) where
  attr_by : act_field new (field_as ATTR b) p ≡ bind (act_attr b p.attributes) (λ t. ok (with_attributes t p))
  unfolding act_field
  attr_by = refl

  inas_by : act_field new (field_as INAS b) p ≡ bind (act_inas b p.associations) (λ ls. ok (with_associations ls p))
  unfolding act_field
  inas_by = refl

  cocc_by : act_field new (field_as COCC b) p ≡ bind (placed (place_in b) new p.coordinates) (λ cs. ok (with_coordinates cs p))
  unfolding act_field
  cocc_by = refl

  c2it_by : act_field new (field_as C2IT b) p ≡ ok (with_coordinates (coords_in b) p)
  unfolding act_field
  c2it_by = refl

  spas_by : act_field new (field_as SPAS b) p ≡ bind (act_spas 1 (many (tuple_of Spas) b) p.spatial) (λ ss. ok (with_spatial ss p))
  unfolding act_field
  spas_by = refl

-- ---- ATTR

module _ (u w : List ℕ) (v : Version) (from to : ℕ) (r : Ready u w v ATTR from to) where
  abbrev attr_body : List ℕ
  attr_body = between u from to

  attr_long : length attr_body ≡ to - from
  attr_long = length_between u from to r.inside

  pub attr_ready : (from ≤ to) × (to ≤ length u) × (to ≤ 16777216) × (8 * v.attr + (to - from) ≤ length (take 200000 w)) × (length (take 200000 w) < 524288)
      × (fill (head_of Attr) (tuple_of Attr) (between u from to) ≡ true) × (passed (attr_acts (between u from to)) ≡ pass)
  attr_ready =
      let small : length u ≤ 16777216 = r.small in
      let inside : to ≤ length u = r.inside in
      let room = r.rooms.attr in
      let due = r.due.attr refl in
      (r.runs, r.inside, omega arith, omega (arith, attr_area u w v ATTR from to r, attr_long), omega (arith, attr_area u w v ATTR from to r), due.0, due.1)

  module _ (ys : List ℕ) (long : length ys ≡ 200000) (x : Result ℕ Fault) (s : Applied u from to (take 200000 w) v.attr ys x) where
    pub attr_same : length (lent 0 200000 ys w) ≡ length w
    attr_same = list_same w r.wide ys long

    pub attr_wide : 400000 ≤ length (lent 0 200000 ys w)
    attr_wide = omega (arith, attr_same, r.wide)

    attr_flags : FlagsKept w (lent 0 200000 ys w)
    attr_flags = list_flags w r.wide ys long

    -- there is room for the items
    pub attr_room : (m : ℕ) → x ≡ Ok m → 8 * m ≤ 200000
    attr_room m e =
        let more : 8 * m ≤ 8 * v.attr + (to - from) = s.size m e in
        let room = r.rooms.attr in
        omega (arith, attr_long)

    attr_wrong : (f : Fault) → x ≡ Err f → (d : List ℕ) (new : List Coord) → PartActs d u new (field_as ATTR attr_body) w v (lent 0 200000 ys w) (Err f)
    unfolding PartActs Outcome
    attr_wrong f e d new p h =
        let a : act_attr attr_body p.attributes ≡ no f = subst (Outcome d u ys (act_attr attr_body p.attributes)) e (s.is d p.attributes h.attributes) in
        attr_by new attr_body p ∙ bind_no (act_attr attr_body p.attributes) (λ t. ok (with_attributes t p)) f a

    attr_right : (m : ℕ) → x ≡ Ok m → (d : List ℕ) (new : List Coord)
        → PartActs d u new (field_as ATTR attr_body) w v (lent 0 200000 ys w) (Ok (attr_now v m (size_of (its d u ys 0 m))))
    unfolding PartActs Outcome
    attr_right m e d new =
        let more : 8 * m ≤ 8 * v.attr + (to - from) = s.size m e in
        let tree : takes_tree v.kind ≡ true = (r.due.attr refl).2 in
        let t : ℕ = size_of (its d u ys 0 m) in
        record {
          held = λ p h.
              let c : Check Forest = act_attr attr_body p.attributes in
              let a = subst (Outcome d u ys c) e (s.is d p.attributes h.attributes) in
              let bytes : t ≡ length (tree_bytes a.0) = sym (forest_size d u ys m a.0 a.2) in (
                with_attributes a.0 p,
                attr_by new attr_body p ∙ bind_ok c (λ t. ok (with_attributes t p)) a.0 a.1,
                with_items d u w v p h r.wide tree ys long m t a.0 a.2 bytes (attr_room m e) (λ q. absurd (true≢false (sym tree ∙ q))),
              );
          same = same_ident v m v.inas v.coord v.spas t v.inasbytes;
          rooms = λ n q. record { attr = omega (arith, attr_long, q.attr); inas = omega (arith, q.inas); spas = omega (arith, q.spas); bytes = omega (arith, q.bytes) };
          coord = λ _ q. q;
        }

    -- it is refused
    pub attr_err : (f : Fault) → x ≡ Err f → (d : List ℕ) (new : List Coord) → FieldActs d u new (field_as ATTR attr_body) w v (lent 0 200000 ys w) (Err f)
    attr_err f e d new = record { acts = attr_wrong f e d new; flags = attr_flags }

    -- `list`, which is lent of the workspace again, holds the items
    module _ (m : ℕ) (e : x ≡ Ok m) (d list : List ℕ) (is : list ≡ list_area (lent 0 200000 ys w)) where
      list_is : list ≡ ys
      list_is = let wide : 400000 ≤ length w = r.wide in is ∙ lent_same 0 200000 ys w long (omega arith)

      pub attr_sizes : length d ≤ 16777216 → (8 * m ≤ length list) × (length list < 524288) × (length d ≤ 16777216) × (length u ≤ 16777216)
      attr_sizes old =
          let n : length list ≡ 200000 = ap length list_is ∙ long in
          (omega (arith, attr_room m e), omega arith, old, r.small)

      pub attr_ok : (t : ℕ) → Sized d u list m t → (new : List Coord) → FieldActs d u new (field_as ATTR attr_body) w v (lent 0 200000 ys w) (Ok (attr_now v m t))
      attr_ok t z new =
          let size : t ≡ size_of (its d u ys 0 m) = z.sum ∙ ap (λ (l : List ℕ). size_of (its d u l 0 m)) list_is in
          rw size (record { acts = attr_right m e d new; flags = attr_flags })

-- ---- INAS

module _ (d u w : List ℕ) (v : Version) (from to : ℕ) (r : Ready u w v INAS from to) where
  abbrev inas_body : List ℕ
  inas_body = between u from to

  inas_long : (length inas_body ≡ to - from) × (10 ≤ length inas_body)
  unfolding inas_format
  inas_long = (length_between u from to r.inside, inas_bytes (eqb (get_or inas_body 9 0) 2) inas_body (r.due.inas refl).0)

  pub inas_ready : Holding d u w v
      → (from ≤ to) × (to ≤ length u) × (to ≤ 16777216) × (to - from < 16777216) × (7 * v.inas + 7 ≤ length (take 92000 (drop 200000 w)))
      × (fill (head_of (inas_format false (between u from to))) (tuple_of (inas_format false (between u from to))) (between u from to) ≡ true)
      × Each InasBody (bodies_of d u (take 92000 (drop 200000 w)) v.inas) × (v.inasbytes ≡ fields_size (bodies_of d u (take 92000 (drop 200000 w)) v.inas))
      × (v.inasbytes ≤ 1000000000000)
  inas_ready h =
      let small : length u ≤ 16777216 = r.small in
      let inside : to ≤ length u = r.inside in
      let room = r.rooms.inas in
      let l = inas_long in
      (r.runs, r.inside, omega arith, omega (arith, l.0), omega (arith, inas_area_lem u w v INAS from to r, l.1), (r.due.inas refl).0, inas_every _ h.1.inas_right, h.1.inas_sized, omega (arith, r.rooms.bytes))

  module _ (g : Bytes u) (ys : List ℕ) (long : length ys ≡ 92000) (x : Result (ℕ × ℕ) Fault)
      (s : InasActs inas_body (bodies_of d u (take 92000 (drop 200000 w)) v.inas) d u ys v.inas (counts x) × Totals d u ys (v.inasbytes + (to - from) + 1) x) where
    pub inas_same : length (lent 200000 92000 ys w) ≡ length w
    inas_same = let wide : 400000 ≤ length w = r.wide in length_lent 200000 92000 ys w long (omega arith)

    inas_flags : FlagsKept w (lent 200000 92000 ys w)
    inas_flags = let wide : 400000 ≤ length w = r.wide in lent_behind 200000 92000 ys w long (omega arith) 386000 (omega arith)

    abbrev old_inas : List (List ℕ)
    old_inas = bodies_of d u (take 92000 (drop 200000 w)) v.inas

    inas_wrong : (f : Fault) → x ≡ Err f → (new : List Coord) → PartActs d u new (field_as INAS inas_body) w v (lent 200000 92000 ys w) (Err f)
    unfolding PartActs InasActs
    inas_wrong f e new p h =
        let a : act_inas inas_body (each assoc_of old_inas) ≡ no f = subst (λ (y : Result (ℕ × ℕ) Fault). InasActs inas_body old_inas d u ys v.inas (counts y)) e s.0 in
        inas_by new inas_body p ∙ bind_no (act_inas inas_body p.associations) (λ ls. ok (with_associations ls p)) f (ap (act_inas inas_body) h.associations ∙ a)

    -- it is refused
    pub inas_err : (f : Fault) → x ≡ Err f → (new : List Coord) → FieldActs d u new (field_as INAS inas_body) w v (lent 200000 92000 ys w) (Err f)
    inas_err f e new = record { acts = inas_wrong f e new; flags = inas_flags }

    -- an INAS that is inserted
    right_inas : eqb (get_or inas_body 9 0) 1 ≡ true → RightInas inas_body
    unfolding inas_format
    right_inas e =
        let due = r.due.inas refl in
        record { bytes = bytes_between u from to g; filled = rw (eqb-true (get_or inas_body 9 0) 1 e) at due.0; tree = due.1 }

    inas_right : (y : ℕ × ℕ) → x ≡ Ok y → (new : List Coord) → PartActs d u new (field_as INAS inas_body) w v (lent 200000 92000 ys w) (Ok (inas_now v y.0 y.1))
    unfolding PartActs InasActs Totals
    inas_right y e new =
        let m : ℕ = y.0 in
        let t : ℕ = y.1 in
        let bytes : (t ≡ fields_size (bodies_of d u ys m)) × (t ≤ v.inasbytes + (to - from) + 1) = subst (Totals d u ys (v.inasbytes + (to - from) + 1)) e s.1 in
        let a : InasNow inas_body old_inas (bodies_of d u ys m) × (m ≤ v.inas + 1) = subst (λ (y : Result (ℕ × ℕ) Fault). InasActs inas_body old_inas d u ys v.inas (counts y)) e s.0 in
        let few : m ≤ v.inas + 1 = a.1 in
        let room = r.rooms.inas in
        let l = inas_long in
        let ten : 10 ≤ length inas_body = l.1 in
        let full : 7 * m ≤ 92000 = omega arith in
        record {
          held = λ p h.
              let ls : List Assoc = each assoc_of (bodies_of d u ys m) in
              let b : act_inas inas_body p.associations ≡ ok ls = ap (act_inas inas_body) h.associations ∙ a.0.is in
              let every : Each RightInas (bodies_of d u ys m) =
              acted_every RightInas inas_key 0 (eqb (get_or inas_body 9 0) 1) inas_body old_inas (bodies_of d u ys m) h.inas_right right_inas a.0.bodies in (
                with_associations ls p,
                inas_by new inas_body p ∙ bind_ok (act_inas inas_body p.associations) (λ ls. ok (with_associations ls p)) ls b,
                with_inas d u w v p h r.wide ys long m t ls refl every full bytes.0,
              );
          same = same_ident v v.attr m v.coord v.spas v.attrbytes t;
          rooms = λ n q. record { attr = omega (arith, q.attr); inas = omega (arith, q.inas); spas = omega (arith, q.spas); bytes = omega (arith, q.bytes, bytes.1, l.0) };
          coord = λ _ q. q;
        }

    -- it has acted
    pub inas_ok : (y : ℕ × ℕ) → x ≡ Ok y → (new : List Coord) → FieldActs d u new (field_as INAS inas_body) w v (lent 200000 92000 ys w) (Ok (inas_now v y.0 y.1))
    inas_ok y e new = record { acts = inas_right y e new; flags = inas_flags }

-- ---- tuples that are sent

module _ (fs : List Field) (x n : ℕ) (w : List ℕ) (v : Version) (r : Placing fs x n w v) where
  pub sent_wide : 200000 ≤ length w
  sent_wide = let wide : 400000 ≤ length w = r.wide in omega arith

  pub sent_area : length (take 200000 w) ≡ 200000
  sent_area = list_area_lem w r.wide

  pub sent_ready : (h : Shape) → Bounded h
      → Bounded h × EvenLists fs × (8 * v.coord + sizes fs ≤ length (take 200000 w)) × (length (take 200000 w) < 524288) × (0 < x) × (x < 65536) × (n < 65536)
  sent_ready h b = let room = r.room in (b, r.even, omega (arith, sent_area), omega (arith, sent_area), r.first, r.index, r.count)

  module _ (i : ℕ) (ys : List ℕ) (long : length ys ≡ 200000) (e : Option ℕ)
      (s : PlacedAs (placed (record { instruction = i; index = x; count = n }) (sent fs) (tuples_of (take 200000 w) v.coord)) ys e) where
    pub sent_same : length (lent 0 200000 ys w) ≡ length w
    sent_same = list_same w r.wide ys long

    sent_flags : FlagsKept w (lent 0 200000 ys w)
    sent_flags = list_flags w r.wide ys long

    abbrev sent_to : Check (List Coord)
    sent_to = placed (edit_at i x n) (sent fs) (tuples_of (take 200000 w) v.coord)

    sent_so : (d u b : List ℕ) → place_in b ≡ edit_at i x n → (p : Parts) → HeldParts d u w v p → placed (place_in b) (sent fs) p.coordinates ≡ sent_to
    sent_so d u b is p g = ap (λ (z : Edit). placed z (sent fs) p.coordinates) is ∙ ap (placed (edit_at i x n) (sent fs)) g.coordinates

    sent_wrong : e ≡ None → (d u b : List ℕ) → place_in b ≡ edit_at i x n → PartActs d u (sent fs) (field_as COCC b) w v (lent 0 200000 ys w) (Err (fault 9 0 0))
    unfolding PartActs PlacedAs
    sent_wrong z =
        let a : sent_to ≡ refuse 9 0 = subst (PlacedAs sent_to ys) z s in
        λ d u b is p g. cocc_by (sent fs) b p ∙ bind_no (placed (place_in b) (sent fs) p.coordinates) (λ cs. ok (with_coordinates cs p)) (fault 9 0 0) (sent_so d u b is p g ∙ a)

    sent_right : (m : ℕ) → e ≡ Some m → (d u b : List ℕ) → place_in b ≡ edit_at i x n → PartActs d u (sent fs) (field_as COCC b) w v (lent 0 200000 ys w) (Ok (coord_now v m))
    unfolding PartActs PlacedAs
    sent_right m z =
        let a : (sent_to ≡ ok (tuples_of ys m)) × (8 * m ≤ length ys) = subst (PlacedAs sent_to ys) z s in
        let bare : takes_tree v.kind ≡ false = r.bare in
        let full : 8 * m ≤ 200000 = omega (arith, a.1) in
        λ d u b is. record {
          held = λ p g. (
            with_coordinates (tuples_of ys m) p,
            cocc_by (sent fs) b p ∙ bind_ok (placed (place_in b) (sent fs) p.coordinates) (λ cs. ok (with_coordinates cs p)) (tuples_of ys m) (sent_so d u b is p g ∙ a.0),
            with_tuples d u w v p g r.wide bare ys long m (tuples_of ys m) refl full (λ q. absurd (true≢false (sym q ∙ bare))),
          );
          same = same_ident v v.attr v.inas m v.spas v.attrbytes v.inasbytes;
          rooms = λ k q. record { attr = omega (arith, q.attr); inas = omega (arith, q.inas); spas = omega (arith, q.spas); bytes = omega (arith, q.bytes) };
          coord = λ q _. absurd (q refl);
        }

    pub sent_err : e ≡ None → (d u b : List ℕ) → place_in b ≡ edit_at i x n → FieldActs d u (sent fs) (field_as COCC b) w v (lent 0 200000 ys w) (Err (fault 9 0 0))
    sent_err z d u b q = record { acts = sent_wrong z d u b q; flags = sent_flags }

    pub sent_ok : (m : ℕ) → e ≡ Some m → (d u b : List ℕ) → place_in b ≡ edit_at i x n → FieldActs d u (sent fs) (field_as COCC b) w v (lent 0 200000 ys w) (Ok (coord_now v m))
    sent_ok m z d u b q = record { acts = sent_right m z d u b q; flags = sent_flags }

-- ---- COCC

pub from_start : (at len : ℕ) → at ≤ at + len
from_start at len = omega arith

pub sending_inside : (u : List ℕ) (at len : ℕ) (h : Shape) → Sending u at len h → at + len ≤ length u
sending_inside u at len h t = (right u at (record_at u at) refl _ t.there).inside

pub sending_word : (u : List ℕ) (at len : ℕ) (h : Shape) → Sending u at len h → length u ≤ 16777216 → at + len < 2 ^ 64
sending_word u at len h t l = omega (arith, sending_inside u at len h t)

module _ (u w : List ℕ) (v : Version) (from to : ℕ) (r : Ready u w v COCC from to) where
  abbrev cocc_body : List ℕ
  cocc_body = between u from to

  cocc_fill : fill (head_of Cocc) (tuple_of Cocc) cocc_body ≡ true
  cocc_fill = (r.due.cocc refl).0

  pub cocc_first : 0 + 1 ≤ length (between u from to)
  unfolding head_of
  cocc_first = (head_number (head_of Cocc) (tuple_of Cocc) cocc_body cocc_fill 0 0 1 refl refl).0

  pub cocc_second : 1 + 2 ≤ length (between u from to)
  unfolding head_of
  cocc_second = (head_number (head_of Cocc) (tuple_of Cocc) cocc_body cocc_fill 1 1 2 refl refl).0

  pub cocc_third : 3 + 2 ≤ length (between u from to)
  unfolding head_of
  cocc_third = (head_number (head_of Cocc) (tuple_of Cocc) cocc_body cocc_fill 2 3 2 refl refl).0

  pub cocc_byte : (i : ℕ) → i ≡ le 1 (drop 0 (between u from to)) → i < 2 ^ 64
  unfolding head_of allows
  cocc_byte i ei =
      let b = (head_number (head_of Cocc) (tuple_of Cocc) cocc_body cocc_fill 0 0 1 refl refl).1 ∙ sym ei in
      let y = in_range_lem 1 3 (num_at (values (head_of Cocc) cocc_body) 0) (head_allowed (head_of Cocc) (tuple_of Cocc) cocc_body cocc_fill 0 1 refl) in
      omega (arith, y.1, b)

  pub cocc_index : (x : ℕ) → x ≡ le 2 (drop 1 (between u from to)) → (0 < x) × (x < 65536) × (x < 2 ^ 64)
  unfolding head_of allows
  cocc_index x ex =
      let b = (head_number (head_of Cocc) (tuple_of Cocc) cocc_body cocc_fill 1 1 2 refl refl).1 ∙ sym ex in
      let y = in_range_lem 1 65534 (num_at (values (head_of Cocc) cocc_body) 1) (head_allowed (head_of Cocc) (tuple_of Cocc) cocc_body cocc_fill 1 2 refl) in
      (omega (arith, y.0, b), omega (arith, y.1, b), omega (arith, y.1, b))

  pub cocc_count : (n : ℕ) → n ≡ le 2 (drop 3 (between u from to)) → (n < 65536) × (n < 2 ^ 64)
  unfolding head_of allows
  cocc_count n en =
      let b = (head_number (head_of Cocc) (tuple_of Cocc) cocc_body cocc_fill 2 3 2 refl refl).1 ∙ sym en in
      let y = in_range_lem 1 65534 (num_at (values (head_of Cocc) cocc_body) 2) (head_allowed (head_of Cocc) (tuple_of Cocc) cocc_body cocc_fill 2 2 refl) in
      (omega (arith, y.1, b), omega (arith, y.1, b))

  module _ (i x n : ℕ) (ei : i ≡ le 1 (drop 0 (between u from to))) (ex : x ≡ le 2 (drop 1 (between u from to))) (en : n ≡ le 2 (drop 3 (between u from to))) where
    pub place_is : place_in cocc_body ≡ edit_at i x n
    unfolding place_in head_of
    place_is =
        let vs = values (head_of Cocc) cocc_body in
        let a : num_at vs 0 ≡ i = (head_number (head_of Cocc) (tuple_of Cocc) cocc_body cocc_fill 0 0 1 refl refl).1 ∙ sym ei in
        let b : num_at vs 1 ≡ x = (head_number (head_of Cocc) (tuple_of Cocc) cocc_body cocc_fill 1 1 2 refl refl).1 ∙ sym ex in
        let c : num_at vs 2 ≡ n = (head_number (head_of Cocc) (tuple_of Cocc) cocc_body cocc_fill 2 3 2 refl refl).1 ∙ sym en in
        ap (λ (z : ℕ). edit_at z (num_at vs 1) (num_at vs 2)) a ∙ ap (λ (z : ℕ). edit_at i z (num_at vs 2)) b ∙ ap (λ (z : ℕ). edit_at i x z) c

    pub cocc_placing : (at len : ℕ) (h : Shape) → Sending u at len h → 8 * v.coord ≤ 99999
        → Bounded h × Placing (fields_at (between u at (at + len)) h 24) x n w v
    cocc_placing at len h t few =
        let a = right u at (record_at u at) refl _ t.there in
        let b = record_filled u at (record_at u at) refl _ t.there in
        let c = record_short u at (record_at u at) refl _ t.there in
        let l = length_between u at (at + len) a.inside in
        let q = cocc_index x ex in
        (a.bounded, record { even = t.even; room = omega arith; wide = r.wide; first = q.0; index = q.1; count = (cocc_count n en).0; bare = (r.due.cocc refl).1 })

-- ---- C2IT

module _ (u w : List ℕ) (v : Version) (from to : ℕ) (r : Ready u w v C2IT from to) where
  abbrev point_body : List ℕ
  point_body = between u from to

  point_long : to - from ≡ 8
  unfolding head_of tuple_of
  point_long = let a : length point_body ≡ 8 = head_length_lem (head_of C2it) point_body refl (r.due.c2it refl).0 in sym (length_between u from to r.inside) ∙ a

  pub point_ready : (from ≤ to) × (to ≤ length u) × ((to - from) % 8 ≡ 0) × (8 * 0 + (to - from) ≤ length (take 200000 w)) × (0 ≤ 0)
  point_ready = (r.runs, r.inside, omega (arith, point_long), omega (arith, point_long, attr_area u w v C2IT from to r), omega arith)

  pub point_right : (ys : List ℕ) → length ys ≡ 200000 → (m : ℕ)
      → (8 * m ≡ 8 * 0 + (to - from)) × (tuples_of ys m ≡ take 0 (tuples_of (take 200000 w) 0) ++ (coords_in (between u from to) ++ drop 0 (tuples_of (take 200000 w) 0)))
      → (d : List ℕ) (new : List Coord) → FieldActs d u new (field_as C2IT point_body) w v (lent 0 200000 ys w) (Ok (coord_now v m))
  unfolding PartActs
  point_right ys long m s d new =
      let wide : 400000 ≤ length w = r.wide in
      let none : tuples_of (take 200000 w) 0 ≡ [] = none_long _ (omega (arith, coords_count (take 0 (take 200000 w)) 0 refl)) in
      let cs : tuples_of ys m ≡ coords_in point_body = s.1 ∙ ap (λ (z : List Coord). coords_in point_body ++ z) none ∙ append-nil (coords_in point_body) in
      let bare : takes_tree v.kind ≡ false = (r.due.c2it refl).1 in
      let eight : 8 * m ≡ 8 = s.0 ∙ omega (arith, point_long) in
      record {
        acts = record {
          held = λ p g. (
            with_coordinates (coords_in point_body) p,
            c2it_by new point_body p,
            with_tuples d u w v p g wide bare ys long m (coords_in point_body) (sym cs) (omega arith) (λ q. absurd (true≢false (sym q ∙ bare))),
          );
          same = same_ident v v.attr v.inas m v.spas v.attrbytes v.inasbytes;
          rooms = λ k q. record { attr = omega (arith, q.attr); inas = omega (arith, q.inas); spas = omega (arith, q.spas); bytes = omega (arith, q.bytes) };
          coord = λ _ _. omega arith;
        };
        flags = list_flags w wide ys long;
      }

-- ---- SPAS

module _ (d u w : List ℕ) (v : Version) (from to : ℕ) (r : Ready u w v SPAS from to) where
  abbrev spas_body : List ℕ
  spas_body = between u from to

  spas_long : length spas_body ≡ to - from
  spas_long = length_between u from to r.inside

  abbrev old_spas : List (List ℕ)
  old_spas = bodies_of d u (take 94000 (drop 292000 w)) v.spas

  pub spas_ready : Holding d u w v
      → (from ≤ to) × (to ≤ length u) × (to ≤ 16777216) × (7 * (v.spas + (to - from) / 15) ≤ length (take 94000 (drop 292000 w)))
      × (fill (head_of Spas) (tuple_of Spas) (between u from to) ≡ true) × Each SpasBody (bodies_of d u (take 94000 (drop 292000 w)) v.spas)
  spas_ready h =
      let small : length u ≤ 16777216 = r.small in
      let inside : to ≤ length u = r.inside in
      let room = r.rooms.spas in
      (r.runs, r.inside, omega arith, omega (arith, spas_area_lem u w v SPAS from to r, spas_long), r.due.spas refl, spas_every _ h.1.spas_right)

  module _ (gd : Bytes d) (gu : Bytes u) (ys : List ℕ) (long : length ys ≡ 94000) (x : Result ℕ Fault)
      (s : SpasActs (act_spas 1 (many (tuple_of Spas) (between u from to)) (each spatial_in (bodies_of d u (take 94000 (drop 292000 w)) v.spas))) d u ys (v.spas + (to - from) / 15) x) where
    pub spas_same : length (lent 292000 94000 ys w) ≡ length w
    spas_same = let wide : 400000 ≤ length w = r.wide in length_lent 292000 94000 ys w long (omega arith)

    spas_flags : FlagsKept w (lent 292000 94000 ys w)
    spas_flags = let wide : 400000 ≤ length w = r.wide in lent_behind 292000 94000 ys w long (omega arith) 386000 (omega arith)

    abbrev spas_to : List Spatial → Check (List Spatial)
    spas_to ss = act_spas 1 (many (tuple_of Spas) spas_body) ss

    abbrev spas_acts : Result ℕ Fault → Type 0
    spas_acts y = SpasActs (spas_to (each spatial_in old_spas)) d u ys (v.spas + (to - from) / 15) y

    spas_wrong : (f : Fault) → x ≡ Err f → (new : List Coord) → PartActs d u new (field_as SPAS spas_body) w v (lent 292000 94000 ys w) (Err f)
    unfolding PartActs SpasActs
    spas_wrong f e new p h =
        let a : spas_to (each spatial_in old_spas) ≡ no f = subst spas_acts e s in
        spas_by new spas_body p ∙ bind_no (spas_to p.spatial) (λ ss. ok (with_spatial ss p)) f (ap spas_to h.spatial ∙ a)

    -- it is refused
    pub spas_err : (f : Fault) → x ≡ Err f → (new : List Coord) → FieldActs d u new (field_as SPAS spas_body) w v (lent 292000 94000 ys w) (Err f)
    spas_err f e new = record { acts = spas_wrong f e new; flags = spas_flags }

    spas_right : (m : ℕ) → x ≡ Ok m → (new : List Coord) → PartActs d u new (field_as SPAS spas_body) w v (lent 292000 94000 ys w) (Ok (spas_now v m))
    unfolding PartActs SpasActs
    spas_right m e new =
        let a : SpasNow (spas_to (each spatial_in old_spas)) d u ys (v.spas + (to - from) / 15) m = subst spas_acts e s in
        let few : m ≤ v.spas + (to - from) / 15 = a.few in
        let room = r.rooms.spas in
        let full : 7 * m ≤ 94000 = omega (arith, spas_long) in
        let ss : List Spatial = each spatial_in (bodies_of d u ys m) in
        let all : Each RightSpas (bodies_of d u ys m) = spas_all (bodies_of d u ys m) a.right (bodies_bytes d u ys gd gu m 0) in
        record {
          held = λ p h. (
            with_spatial ss p,
            spas_by new spas_body p ∙ bind_ok (spas_to p.spatial) (λ ss. ok (with_spatial ss p)) ss (ap spas_to h.spatial ∙ a.is),
            with_spas d u w v p h r.wide ys long m ss refl all full,
          );
          same = same_ident v v.attr v.inas v.coord m v.attrbytes v.inasbytes;
          rooms = λ n q. record { attr = omega (arith, q.attr); inas = omega (arith, q.inas); spas = omega (arith, q.spas, spas_long); bytes = omega (arith, q.bytes) };
          coord = λ _ q. q;
        }

    -- it has acted
    pub spas_ok : (m : ℕ) → x ≡ Ok m → (new : List Coord) → FieldActs d u new (field_as SPAS spas_body) w v (lent 292000 94000 ys w) (Ok (spas_now v m))
    spas_ok m e new = record { acts = spas_right m e new; flags = spas_flags }
