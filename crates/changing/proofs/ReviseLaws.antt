-- A version that the fields of a modify acted on, with its new RVER. Assumes nothing.
use Prim.Native.Nat.{ℕ, ◌+◌}
use mathlib.Core.Path.{◌≡◌, refl, sym, ap, ◌∙◌, subst}
use mathlib.Core.Option.{Option, some as there}
use mathlib.Core.List.{List}
use native.Mathlib.Omega.{arith}
use Rattle.std.specs.Prelude.{Option as StdOption, Some, Result, Ok, Err}
use Rattle.base.specs.Check.{ok, bind}
use Rattle.base.specs.declared.Fault.{Fault}
use Rattle.base.specs.Lists.{gather, Each}
use Rattle.skeleton.specs.File.{Field}
use Rattle.skeleton.specs.Place.{between, fields_at}
use Rattle.skeleton.specs.declared.directory.Shape.{Shape}
use Rattle.rules.specs.ByTag.{front}
use Rattle.rules.specs.Grammar.{ruin_byte}
use Rattle.rules.specs.Coordinates.{sent}
use Rattle.rules.specs.Record.{Rec, Parts, foid_of, key_named, update_record}
use Rattle.rules.specs.Modify.{act_fields}
use Rattle.rules.specs.Change.{fitting, revised}
use Rattle.rules.specs.declared.Kind.{Kind}
use Rattle.sequence.specs.Keyed.{Under}
use Rattle.updates.specs.Acts.{chart}
use Rattle.sound.proofs.Changed.{key_names}
use Rattle.emission.proofs.SmallLaws.{small_attr, small_inas, small_coord, small_spas, small_bytes}
use Rattle.version.specs.Held.{RightFoid, foid_bodies, HeldParts, Held}
use Rattle.version.specs.Present.{HeldAs, ChangedTo, FlagsKept}
use Rattle.version.specs.declared.Version.{Version}
use Rattle.acting.specs.Ready.{Small, Modifies}
use Rattle.acting.specs.Acted.{SameIdent, ActedBy}
use Rattle.changing.specs.Given.{Given, Says, reworked}
use Rattle.changing.specs.declared.identity.Said.{Said}
use Rattle.changing.proofs.PassedLaws.{ruin_three}
use Rattle.changing.proofs.ActLaws.{Stands, here_stands}

-- a version with an RVER
abbrev pub rver_now : Version → ℕ → Version
rver_now v n =
    record {
      kind = v.kind;
      rcid = v.rcid;
      code = v.code;
      rver = n;
      foids = v.foids;
      foid = v.foid;
      slice = v.slice;
      attr = v.attr;
      inas = v.inas;
      coord = v.coord;
      spas = v.spas;
      attrbytes = v.attrbytes;
      inasbytes = v.inasbytes;
    }

-- what it holds of parts has nothing to do with it
parts_now : (d u w : List ℕ) (v : Version) (n : ℕ) (p : Parts) → HeldParts d u w v p → HeldParts d u w (rver_now v n) p
parts_now d u w v n p h =
    record {
      attributes = h.attributes;
      associations = h.associations;
      inas_right = h.inas_right;
      coordinates = h.coordinates;
      spatial = h.spatial;
      spas_right = h.spas_right;
      attr_room = h.attr_room;
      inas_room = h.inas_room;
      coord_room = h.coord_room;
      spas_room = h.spas_room;
      attr_sized = h.attr_sized;
      inas_sized = h.inas_sized;
      no_tree = h.no_tree;
      no_coord = h.no_coord;
    }

bodies_kept : (d u : List ℕ) (v e : Version) (n : ℕ) → SameIdent v e → foid_bodies d u v ≡ foid_bodies d u (rver_now e n)
unfolding foid_bodies
bodies_kept d u v e n s = rw (s.foids, s.foid, s.slice) refl

held_revised : (d u w o : List ℕ) (v e : Version) (n : ℕ) (r : Rec) (q : Parts) → Held d u w v r → SameIdent v e → HeldParts d u o e q
    → Held d u o (rver_now e n) (revised n q r)
unfolding revised
held_revised d u w o v e n r q h s p =
    record {
      kind = s.kind ∙ h.kind;
      rcid = s.rcid ∙ h.rcid;
      code = s.code ∙ h.code;
      rver = refl;
      foid = h.foid ∙ ap (gather foid_of) (bodies_kept d u v e n s);
      foid_right = subst (Each RightFoid) (bodies_kept d u v e n s) h.foid_right;
      parts = parts_now d u o e n q p;
    }

-- ---- `revise`

module _ (d u w : List ℕ) (v : Version) (fs : List Field) (o : List ℕ) (a : Result Version Fault) (acted : ActedBy d u w v (act_fields (sent fs) 1 fs) o a × FlagsKept w o) where
  pub revise_stops : (f : Fault) → a ≡ Err f → (rver : ℕ)
      → ((r : Rec) → Held d u w v r → ChangedTo d u o (reworked rver fs r) (Err f)) × FlagsKept w o
  unfolding ActedBy ChangedTo reworked bind
  revise_stops f e rver =
      let stops : ActedBy d u w v (act_fields (sent fs) 1 fs) o (Err f) = subst (ActedBy d u w v (act_fields (sent fs) 1 fs) o) e acted.0 in
      (λ r h. rw (stops r.parts h.parts) refl, acted.1)

  module _ (b : Version) (e : a ≡ Ok b) (rver : ℕ) where
    made : (r : Rec) → Held d u w v r → (q : Parts) × (act_fields (sent fs) 1 fs r.parts ≡ ok q) × Held d u o (rver_now b rver) (revised rver q r)
    unfolding ActedBy
    made r h =
        let (all, same) : ActedBy d u w v (act_fields (sent fs) 1 fs) o (Ok b) = subst (ActedBy d u w v (act_fields (sent fs) 1 fs) o) e acted.0 in
        let (q, x, y) = all r.parts h.parts in
        (q, x, held_revised d u w o v b rver r q h same y)

    pub revise_holds : (r : Rec) × Held d u w v r → (r : Rec) × Held d u o (rver_now b rver) r
    revise_holds g = let (q, x, y) = made g.0 g.1 in (revised rver q g.0, y)

    pub revise_made : (c : Result (StdOption Version) Fault) → ((r : Rec) → Held d u o (rver_now b rver) r → ChangedTo d u o (fitting r) c)
        → ((r : Rec) → Held d u w v r → ChangedTo d u o (reworked rver fs r) c) × FlagsKept w o
    unfolding reworked bind
    revise_made c f = (λ r h. let (q, x, y) = made r h in rw x (f (revised rver q r) y), acted.1)

-- ---- what `modify` stands on

module _ (d u w : List ℕ) (at len : ℕ) (h : Shape) (k : Kind) (s : Said) (p : StdOption Version) (v : Version)
    (g : Given d u w at len h k × Says k (fields_at (between u at (at + len)) h 24) s × (s.ruin ≡ 1 → ⊥) × (s.ruin ≡ 2 → ⊥))
    (some : (o : Option Rec) × HeldAs d u w p o × Under chart (key_named k (fields_at (between u at (at + len)) h 24)) o) (e : p ≡ Some v) where
  abbrev fs : List Field
  fs = fields_at (between u at (at + len)) h 24

  stands : Stands d u w p some.0 v
  stands = here_stands d u w p some.0 v e some.1

  pub modify_held : (r : Rec) × Held d u w v r
  modify_held = (stands.old, stands.held)

  pub modify_right : Each RightFoid (foid_bodies d u v)
  modify_right = stands.held.foid_right

  kind_is : k ≡ v.kind
  kind_is =
      let named : Under chart (key_named k fs) (there stands.old) = subst (Under chart (key_named k fs)) stands.is some.2 in
      sym (stands.held.kind ∙ (key_names stands.old k fs named).0)

  pub modify_modifies : Modifies u at len h v
  modify_modifies =
      let ruin = ruin_three k fs g.0.passed s g.1 g.2 g.3 in
      record {
        there = g.0.there;
        passed = subst (λ (j : Kind). update_record fs ≡ ok j) kind_is g.0.passed;
        ruin = subst (λ (j : Kind). ruin_byte j (front fs) ≡ 3) kind_is ruin;
      }

  -- emission's laws of what a record that can be written holds
  pub modify_small : Small v
  modify_small =
      let r = stands.old in
      let held = stands.held in
      let fit = stands.twelve in
      record {
        attr = small_attr d u w v r held fit;
        inas = small_inas d u w v r held fit;
        coord = small_coord d u w v r held fit (omega (arith, g.0.wide));
        spas = small_spas d u w v r held fit;
        bytes = small_bytes d u w v r held fit;
      }
