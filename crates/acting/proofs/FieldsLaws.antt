-- The fields of a modify one after the other. Assumes nothing.
use Prim.Native.Nat.{ℕ, ◌+◌, ◌-◌, ◌*◌, ◌^◌, ◌≤◌, ◌<◌}
use mathlib.Core.Path.{◌≡◌, refl, sym, ap, ◌∙◌, subst}
use mathlib.Core.List.{List, ◌∷◌}
use native.Mathlib.Omega.{arith}
use borrow.Author.Tests.{eq-eqb, ne_eqb, eqb-true, eqb-false}
use lib.ListN.{length}
use lib.Dec.{eqb}
use Rattle.std.specs.Prelude.{Option, Some, None, Result, Ok, Err}
use Rattle.base.specs.Check.{Check, ok, no, bind, fault, in_field}
use Rattle.base.specs.declared.Fault.{Fault}
use Rattle.base.specs.Lists.{Each}
use Rattle.skeleton.specs.Emit.{size, sizes}
use Rattle.skeleton.specs.File.{Field}
use Rattle.skeleton.specs.Place.{between, place_at, fields_at}
use Rattle.skeleton.specs.Record.{record_at}
use Rattle.skeleton.specs.Shape.{Bounded}
use Rattle.skeleton.specs.declared.directory.Shape.{Shape}
use Rattle.skeleton.specs.declared.place.Place.{Place}
use Rattle.skeleton.proofs.PlaceLaws.{place_falls, place_runs, place_in_lem, fields_done}
use Rattle.skeleton.proofs.RecordLaws.{right}
use Rattle.skeleton.proofs.BetweenLaws.{length_between, fields_within}
use Rattle.fields.specs.Valid.{Bytes}
use Rattle.rules.specs.Tags.{ATTR, INAS, SPAS, COCC, C2IT}
use Rattle.rules.specs.ByTag.{with_tag}
use Rattle.rules.specs.Coordinates.{Coord, sent}
use Rattle.rules.specs.Record.{Parts}
use Rattle.rules.specs.Modify.{act_field, act_fields}
use Rattle.rules.specs.Written.{field_as}
use Rattle.rules.specs.declared.Kind.{Kind}
use Rattle.sequence.proofs.Tests.{by_bool}
use Rattle.stock.proofs.FilledLaws.{record_filled, record_short}
use Rattle.version.specs.Held.{HeldParts}
use Rattle.version.specs.Present.{FlagsKept}
use Rattle.version.specs.declared.Version.{Version}
use Rattle.acting.specs.Ready.{Due, Small, Rooms, Ready, Sending, Modifies}
use Rattle.acting.specs.Acted.{SameIdent, Holding, PartNow, PartActs, FieldActs, ActedBy}
use Rattle.acting.proofs.DueLaws.{evens, modify_due}

-- ---- by tag

pub ready_as : (u w : List ℕ) (v : Version) (t from to : ℕ) → Ready u w v t from to → (s : ℕ) → t ≡ s → Ready u w v s from to
ready_as u w v t from to r s e = subst (λ (z : ℕ). Ready u w v z from to) e r

pub acts_as : (d u : List ℕ) (new : List Coord) (t : ℕ) (b w : List ℕ) (v : Version) (o : List ℕ) (x : Result Version Fault) (s : ℕ) → t ≡ s
    → FieldActs d u new (field_as s b) w v o x → FieldActs d u new (field_as t b) w v o x
acts_as d u new t b w v o x s e a = subst (λ (z : ℕ). FieldActs d u new (field_as z b) w v o x) (sym e) a

same_self : (v : Version) → SameIdent v v
same_self v = record { kind = refl; rcid = refl; code = refl; rver = refl; foids = refl; foid = refl; slice = refl }

-- a field of another tag does nothing
pub acts_not : (d u : List ℕ) (new : List Coord) (t : ℕ) (b w : List ℕ) (v : Version)
    → (t ≡ ATTR → ⊥) → (t ≡ INAS → ⊥) → (t ≡ COCC → ⊥) → (t ≡ C2IT → ⊥) → (t ≡ SPAS → ⊥) → FieldActs d u new (field_as t b) w v w (Ok v)
unfolding PartActs act_field
acts_not d u new t b w v na ni nc np ns =
    record {
      acts = record {
        held = λ p h. (p, rw (ne_eqb t ATTR na, ne_eqb t INAS ni, ne_eqb t COCC nc, ne_eqb t C2IT np, ne_eqb t SPAS ns) refl, h);
        same = same_self v;
        rooms = λ n q. record { attr = omega (arith, q.attr); inas = omega (arith, q.inas); spas = omega (arith, q.spas); bytes = omega (arith, q.bytes) };
        coord = λ _ q. q;
      };
      flags = refl;
    }

-- ---- the loop

-- the fields before q, which is number i, have acted on version v of workspace w, and it is version e of workspace o
pub record Going (d u : List ℕ) (at len : ℕ) (h : Shape) (w : List ℕ) (v : Version) (o : List ℕ) (q i : ℕ) (e : Version) : Type 0 where
  pub is : (p : Parts) → HeldParts d u w v p
      → (s : Parts) × HeldParts d u o e s
      × (act_fields (sent (fields_at (between u at (at + len)) h 24)) 1 (fields_at (between u at (at + len)) h 24) p
      ≡ act_fields (sent (fields_at (between u at (at + len)) h 24)) i (fields_at (between u at (at + len)) h q) s)
  pub held : Holding d u w v
  pub bytes_d : Bytes d
  pub bytes_u : Bytes u
  pub small : length u ≤ 16777216
  pub small_d : length d ≤ 16777216
  pub wide : 400000 ≤ length w
  pub long : length o ≡ length w
  pub sending : Sending u at len h
  pub same : SameIdent v e
  pub flags : FlagsKept w o
  pub rooms : Rooms e (sizes (fields_at (between u at (at + len)) h q))
  pub due : Each (Due v.kind) (fields_at (between u at (at + len)) h q)
  pub once : length (with_tag COCC (fields_at (between u at (at + len)) h q)) ≤ 1
  pub coord : 0 < length (with_tag COCC (fields_at (between u at (at + len)) h q)) → 8 * e.coord ≤ 99999
  pub number : i ≤ q

pub going_start : (d u : List ℕ) (at len : ℕ) (h : Shape) (w : List ℕ) (v : Version) → length u ≤ 16777216 → 400000 ≤ length w → Modifies u at len h v → Small v → Holding d u w v → length d ≤ 16777216 → Bytes d → Bytes u
    → Going d u at len h w v w 24 1 v
going_start d u at len h w v small wide m s held small_d bd bu =
    let fs = fields_at (between u at (at + len)) h 24 in
    let a = right u at (record_at u at) refl _ m.there in
    let b = record_filled u at (record_at u at) refl _ m.there in
    let c = record_short u at (record_at u at) refl _ m.there in
    let l = length_between u at (at + len) a.inside in
    let few : sizes (fields_at (between u at (at + len)) h 24) ≤ 99999 = omega arith in
    let (due, once) = modify_due v.kind fs m.passed m.ruin in
    record {
      is = λ p x. (p, x, refl);
      held = held;
      bytes_d = bd;
      bytes_u = bu;
      small = small;
      small_d = small_d;
      wide = wide;
      long = refl;
      sending = record { there = m.there; even = evens v.kind fs due };
      same = same_self v;
      flags = refl;
      rooms = record { attr = omega (arith, s.attr, few); inas = omega (arith, s.inas, few); spas = omega (arith, s.spas, few); bytes = omega (arith, s.bytes, few) };
      due = due;
      once = once;
      coord = λ _. s.coord;
      number = omega arith;
    }

pub modify_word : (u : List ℕ) (at len : ℕ) (h : Shape) (v : Version) → Modifies u at len h v → length u ≤ 16777216 → at + len < 2 ^ 64
modify_word u at len h v m l = omega (arith, modify_inside)
  where
    modify_inside : at + len ≤ length u
    modify_inside = (right u at (record_at u at) refl _ m.there).inside

same_on : (v e f : Version) → SameIdent v e → SameIdent e f → SameIdent v f
same_on v e f a b =
    record {
      kind = b.kind ∙ a.kind;
      rcid = b.rcid ∙ a.rcid;
      code = b.code ∙ a.code;
      rver = b.rver ∙ a.rver;
      foids = b.foids ∙ a.foids;
      foid = b.foid ∙ a.foid;
      slice = b.slice ∙ a.slice;
    }

-- what one field comes to, and then the others
fields_ok : (new : List Coord) (i : ℕ) (f : Field) (fs : List Field) (p q : Parts) → act_field new f p ≡ ok q → act_fields new i (f ∷ fs) p ≡ act_fields new (i + 1) fs q
unfolding act_fields bind in_field
fields_ok new i f fs p q e = ap (λ (c : Check Parts). bind (in_field i c) (λ s. act_fields new (i + 1) fs s)) e

fields_no : (new : List Coord) (i : ℕ) (f : Field) (fs : List Field) (p : Parts) (x : Fault) → act_field new f p ≡ no x → act_fields new i (f ∷ fs) p ≡ no (fault x.number i x.tuple)
unfolding act_fields bind in_field
fields_no new i f fs p x e = ap (λ (c : Check Parts). bind (in_field i c) (λ s. act_fields new (i + 1) fs s)) e

-- how many COCC there are
tag_here : (f : Field) (fs : List Field) → f.tag ≡ COCC → length (with_tag COCC (f ∷ fs)) ≡ 1 + length (with_tag COCC fs)
unfolding with_tag
tag_here f fs e = rw (eq-eqb f.tag COCC e) (omega arith)

tag_other : (f : Field) (fs : List Field) → (f.tag ≡ COCC → ⊥) → length (with_tag COCC (f ∷ fs)) ≡ length (with_tag COCC fs)
unfolding with_tag
tag_other f fs e = rw (ne_eqb f.tag COCC e) refl

module _ (d u : List ℕ) (at len : ℕ) (h : Shape) (w : List ℕ) (v : Version) (o : List ℕ) (q i : ℕ) (e : Version) (g : Going d u at len h w v o q i e) where
  abbrev rs : List ℕ
  rs = between u at (at + len)

  abbrev new : List Coord
  new = sent (fields_at rs h 24)

  inside : at + len ≤ length u
  inside = (right u at (record_at u at) refl _ g.sending.there).inside

  pub going_inside : at + len ≤ length u
  going_inside = inside

  pub going_shape : Bounded h
  going_shape = (right u at (record_at u at) refl _ g.sending.there).bounded

  module _ (x : Option Place) (en : x ≡ place_at (between u at (at + len)) h q) where
    pub going_done : x ≡ None → ActedBy d u w v (act_fields (sent (fields_at (between u at (at + len)) h 24)) 1 (fields_at (between u at (at + len)) h 24)) o (Ok e) × FlagsKept w o
    unfolding ActedBy act_fields
    going_done y =
        ((λ p k. let (s, have, is) = g.is p k in (s, is ∙ ap (λ (fs : List Field). act_fields new i fs s) (fields_done rs h q x en y), have), g.same), g.flags)

    module _ (p : Place) (y : x ≡ Some p) where
      long_is : length rs ≡ len
      long_is = length_between u at (at + len) inside ∙ omega arith

      runs : p.start ≤ p.end
      runs = place_runs rs h q x en p y

      within : p.end ≤ len
      within = omega (arith, place_in_lem rs h q x en p y, long_is)

      pub going_falls : length (between u at (at + len)) - p.next < length (between u at (at + len)) - q
      going_falls = place_falls rs h q x en p y

      pub going_from : at + p.start < 2 ^ 64
      going_from = let m : length u ≤ 16777216 = g.small in omega (arith, runs, within, inside)

      pub going_to : at + p.end < 2 ^ 64
      going_to = let m : length u ≤ 16777216 = g.small in omega (arith, within, inside)

      pub going_number : i + 1 < 2 ^ 64
      going_number = let m : length u ≤ 16777216 = g.small in let n : i ≤ q = g.number in omega (arith, going_falls, long_is, inside)

      abbrev here : Field
      here = field_as p.tag (between u (at + p.start) (at + p.end))

      abbrev rest : List Field
      rest = fields_at rs h p.next

      fields_are : fields_at rs h q ≡ here ∷ rest
      fields_are = fields_within u at len h q x en p y within

      due_here : Due v.kind here × Each (Due v.kind) rest
      unfolding Each
      due_here = subst (Each (Due v.kind)) fields_are g.due

      room_here : Rooms e (size here + sizes rest)
      unfolding sizes
      room_here = subst (λ (fs : List Field). Rooms e (sizes fs)) fields_are g.rooms

      once_here : length (with_tag COCC (here ∷ rest)) ≤ 1
      once_here = subst (λ (fs : List Field). length (with_tag COCC fs) ≤ 1) fields_are g.once

      coord_here : 0 < length (with_tag COCC (here ∷ rest)) → 8 * e.coord ≤ 99999
      coord_here = subst (λ (fs : List Field). 0 < length (with_tag COCC fs) → 8 * e.coord ≤ 99999) fields_are g.coord

      -- behind a COCC there is no other
      rest_once : length (with_tag COCC rest) ≤ 1
      rest_once =
          by_bool (eqb p.tag COCC)
          (λ c. omega (arith, once_here, tag_here here rest (eqb-true p.tag COCC c)))
          (λ c. omega (arith, once_here, tag_other here rest (eqb-false p.tag COCC c)))

      not_place : 0 < length (with_tag COCC rest) → p.tag ≡ COCC → ⊥
      not_place some z = omega (arith, some, once_here, tag_here here rest z)

      going_held : Holding d u o e
      going_held = let (s, have, is) = g.is g.held.0 g.held.1 in (s, have)

      pub going_ready : Ready u o e p.tag (at + p.start) (at + p.end) × Sending u at len h × Bytes d × Bytes u × (p.tag ≡ COCC → 8 * e.coord ≤ 99999) × Holding d u o e
          × (length d ≤ 16777216)
      going_ready =
          let r = room_here in
          let lo : length o ≡ length w = g.long in
          let ww : 400000 ≤ length w = g.wide in (
            record {
              runs = omega (arith, runs);
              inside = omega (arith, within, inside);
              small = g.small;
              wide = omega arith;
              due = subst (λ (k : Kind). Due k here) (sym g.same.kind) due_here.0;
              rooms = record { attr = omega (arith, r.attr); inas = omega (arith, r.inas); spas = omega (arith, r.spas); bytes = omega (arith, r.bytes) };
            },
            g.sending,
            g.bytes_d,
            g.bytes_u,
            λ z. coord_here (omega (arith, tag_here here rest z)),
            going_held,
            g.small_d,
          )

      -- it is refused
      pub going_wrong : (o' : List ℕ) (z : Result Version Fault)
          → FieldActs d u (sent (fields_at (between u at (at + len)) h 24)) (field_as p.tag (between u (at + p.start) (at + p.end))) o e o' z
          → (f : Fault) → z ≡ Err f
          → ActedBy d u w v (act_fields (sent (fields_at (between u at (at + len)) h 24)) 1 (fields_at (between u at (at + len)) h 24)) o' (Err (fault f.number i f.tuple)) × FlagsKept w o'
      unfolding ActedBy PartActs
      going_wrong o' z a f ez =
          let b : (p : Parts) → HeldParts d u o e p → act_field new here p ≡ no f = subst (PartActs d u new here o e o') ez a.acts in (
            λ p hp.
                let (s, have, is) = g.is p hp in
                is ∙ ap (λ (fs : List Field). act_fields new i fs s) fields_are ∙ fields_no new i here rest s f (b s have),
            a.flags ∙ g.flags,
          )

      -- it has acted
      pub going_turn : (o' : List ℕ) → length o' ≡ length o → (z : Result Version Fault)
          → FieldActs d u (sent (fields_at (between u at (at + len)) h 24)) (field_as p.tag (between u (at + p.start) (at + p.end))) o e o' z
          → (n : Version) → z ≡ Ok n → Going d u at len h w v o' p.next (i + 1) n
      unfolding PartActs
      going_turn o' lo z a n ez =
          let b : PartNow d u new here o e o' n = subst (PartActs d u new here o e o') ez a.acts in
          let m : i ≤ q = g.number in
          record {
            is = λ p hp.
                let (s, have, is) = g.is p hp in
                let (t, act, now) = b.held s have in
                (t, now, is ∙ ap (λ (fs : List Field). act_fields new i fs s) fields_are ∙ fields_ok new i here rest s t act);
            held = g.held;
            bytes_d = g.bytes_d;
            bytes_u = g.bytes_u;
            small = g.small;
            small_d = g.small_d;
            wide = g.wide;
            long = lo ∙ g.long;
            sending = g.sending;
            same = same_on v e n g.same b.same;
            flags = a.flags ∙ g.flags;
            rooms = b.rooms (sizes rest) room_here;
            due = due_here.1;
            once = rest_once;
            coord = λ some. b.coord (not_place some) (coord_here (omega (arith, some, tag_other here rest (not_place some))));
            number = omega (arith, going_falls);
          }
