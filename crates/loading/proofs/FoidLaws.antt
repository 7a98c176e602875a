-- A FOID, or a field that says nothing of a stored record, loaded: what the version holds then. Assumes nothing.
use Prim.Native.Nat.{ℕ, ◌+◌, ◌≤◌}
use mathlib.Core.Path.{◌≡◌, refl, sym, ap, ◌∙◌, subst}
use mathlib.Core.Bool.{true}
use mathlib.Core.List.{List, [], ◌++◌, append-nil}
use native.Mathlib.Omega.{arith}
use borrow.Author.Tests.{ne_eqb}
use lib.ListN.{length}
use Rattle.base.specs.Lists.{gather, Each}
use Rattle.skeleton.specs.Place.{between}
use Rattle.skeleton.proofs.ReadLaws.{bytes_between}
use Rattle.skeleton.proofs.BetweenLaws.{length_between}
use Rattle.fields.specs.Table.{head_of, tuple_of}
use Rattle.fields.specs.Content.{fill}
use Rattle.fields.specs.declared.Format.TheVariants.{Foid}
use Rattle.fields.proofs.FieldLaws.{head_length_lem}
use Rattle.rules.specs.Tags.{FOID, ATTR, INAS, SPAS, C2IT, C2IL}
use Rattle.rules.specs.Content.{format_of}
use Rattle.rules.specs.Record.{Rec, foid_of}
use Rattle.rules.specs.Written.{field_as}
use Rattle.rules.specs.Coordinates.{is_coordinates}
use Rattle.items.specs.Items.{source}
use Rattle.version.specs.Held.{RightFoid, foid_bodies, Held}
use Rattle.version.specs.declared.Version.{Version}
use Rattle.loading.specs.Taken.{take_parts, take_field}
use Rattle.loading.specs.Loads.{Loads, Took}

-- a version with a FOID
abbrev pub foid_now : Version → ℕ → ℕ → Version
foid_now v from x =
    record { kind = v.kind; rcid = v.rcid; code = v.code; rver = v.rver; foids = 1; foid = from; slice = x; attr = v.attr; inas = v.inas; coord = v.coord; spas = v.spas; attrbytes = v.attrbytes; inasbytes = v.inasbytes }

module _ (b : List ℕ) (from to : ℕ) (v : Version) (w : List ℕ) (l : Loads b FOID from to v w) where
  foid_fill : fill (head_of Foid) [] (between b from to) ≡ true
  unfolding format_of tuple_of
  foid_fill = l.fits.formed

  foid_end : from + 8 ≡ to
  unfolding head_of
  foid_end =
      let n : length (between b from to) ≡ 8 = head_length_lem (head_of Foid) (between b from to) refl foid_fill in
      let c = length_between b from to l.inside in
      let runs : from ≤ to = l.runs in
      omega arith

  foid_held : (x : ℕ) (d u : List ℕ) (r : Rec) → source x d u ≡ b → Held d u w v r → Held d u w (foid_now v from x) (take_field (field_as FOID (between b from to)) r)
  unfolding take_field take_parts is_coordinates foid_bodies gather Each
  foid_held x d u r e h =
      let is : between (source x d u) from (from + 8) ≡ between b from to = ap (λ (a : List ℕ). between a from (from + 8)) e ∙ ap (between b from) foid_end in
      let right : RightFoid (between b from to) = record { bytes = bytes_between b from to l.bytes; filled = foid_fill } in
      record {
        kind = h.kind;
        rcid = h.rcid;
        code = h.code;
        rver = h.rver;
        foid = sym (ap (λ (a : List ℕ). foid_of a ++ []) is ∙ append-nil (foid_of (between b from to)));
        foid_right = (subst RightFoid (sym is) right, tt);
        parts = record {
          attributes = h.parts.attributes;
          associations = h.parts.associations;
          inas_right = h.parts.inas_right;
          coordinates = h.parts.coordinates;
          spatial = h.parts.spatial;
          spas_right = h.parts.spas_right;
          attr_room = h.parts.attr_room;
          inas_room = h.parts.inas_room;
          coord_room = h.parts.coord_room;
          spas_room = h.parts.spas_room;
          attr_sized = h.parts.attr_sized;
          inas_sized = h.parts.inas_sized;
          no_tree = h.parts.no_tree;
          no_coord = h.parts.no_coord;
        };
      }

  pub foid_took : (x : ℕ) → Took b x (field_as FOID (between b from to)) w v w (foid_now v from x)
  foid_took x =
      record {
        held = foid_held x;
        room = λ m r. record { inas = omega (arith, r.inas); coord = omega (arith, r.coord); spas = omega (arith, r.spas); bytes = omega (arith, r.bytes) };
        kind = refl;
        others = refl;
      }

-- ---- by tag

module _ (b : List ℕ) (t from to : ℕ) (v : Version) (w : List ℕ) (l : Loads b t from to v w) where
  -- the same with the tag by its name
  pub loads_as : (c : ℕ) → t ≡ c → Loads b c from to v w
  loads_as c e = subst (λ (n : ℕ). Loads b n from to v w) e l

  pub took_as : (c : ℕ) → t ≡ c → (x : ℕ) (o : List ℕ) (r : Version) → Took b x (field_as c (between b from to)) w v o r → Took b x (field_as t (between b from to)) w v o r
  took_as c e x o r k = subst (λ (n : ℕ). Took b x (field_as n (between b from to)) w v o r) (sym e) k

  -- a field with another tag says nothing of a stored record
  pub other_took : (x : ℕ) → (t ≡ FOID → ⊥) → (t ≡ ATTR → ⊥) → (t ≡ INAS → ⊥) → (t ≡ SPAS → ⊥) → (t ≡ C2IT → ⊥) → (t ≡ C2IL → ⊥)
      → Took b x (field_as t (between b from to)) w v w v
  unfolding take_field take_parts is_coordinates
  other_took x f a i s p c =
      let same : (r : Rec) → r ≡ take_field (field_as t (between b from to)) r =
      λ r. rw (ne_eqb t FOID f, ne_eqb t ATTR a, ne_eqb t INAS i, ne_eqb t SPAS s, ne_eqb t C2IT p, ne_eqb t C2IL c) refl in
      record {
        held = λ d u r e h. subst (Held d u w v) (same r) h;
        room = λ m r. record { inas = omega (arith, r.inas); coord = omega (arith, r.coord); spas = omega (arith, r.spas); bytes = omega (arith, r.bytes) };
        kind = refl;
        others = refl;
      }
