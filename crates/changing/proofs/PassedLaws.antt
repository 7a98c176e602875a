-- What an update record that passed its tests says. Assumes nothing.
use Prim.Native.Nat.{ℕ, ◌+◌, ◌^◌, ◌≤◌, ◌<◌}
use mathlib.Core.Path.{◌≡◌, refl, sym, ap, ◌∙◌, subst}
use mathlib.Core.Bool.{Bool, true}
use mathlib.Core.List.{List, [], ◌∷◌}
use native.Mathlib.Omega.{arith}
use lib.ListN.{length}
use Rattle.std.specs.Prelude.{Option, Some, None}
use Rattle.base.specs.Check.{ok}
use Rattle.base.specs.Lists.{Each}
use Rattle.base.proofs.CheckLaws.{bind_inv, refused}
use Rattle.base.proofs.OptionLaws.{never}
use Rattle.base.proofs.EachLaws.{each_map}
use Rattle.skeleton.specs.File.{Field}
use Rattle.skeleton.specs.Place.{between, place_at, fields_at}
use Rattle.skeleton.specs.Leader.{good}
use Rattle.skeleton.specs.Record.{record_at}
use Rattle.skeleton.specs.Shape.{Bounded}
use Rattle.skeleton.specs.declared.directory.Shape.{Shape}
use Rattle.skeleton.specs.declared.place.Place.{Place}
use Rattle.skeleton.proofs.PlaceLaws.{place_runs, place_in_lem, fields_more, fields_done}
use Rattle.skeleton.proofs.RecordLaws.{right}
use Rattle.fields.specs.Table.{head_of, tuple_of}
use Rattle.fields.specs.Valid.{allows, Has}
use Rattle.fields.specs.declared.Format.TheVariants.{Irid, Prid, Mrid, Frid}
use Rattle.fields.proofs.ValueLaws.{head_allowed}
use Rattle.fields.proofs.SizeLaws.{in_range_lem}
use Rattle.rules.specs.ByTag.{front, first_tag}
use Rattle.rules.specs.Kind.{kind_of, coded}
use Rattle.rules.specs.Grammar.{ruin_byte, as_stored, number4}
use Rattle.rules.specs.Content.{ident_format, format_of, insert_only, stands, all_stand, number5}
use Rattle.rules.specs.Record.{Ident, ident_of, update_record}
use Rattle.rules.specs.declared.Kind.{Kind}
use Rattle.rules.specs.declared.Kind.TheVariants.{Info, Point, Multi, Feature}
use Rattle.rules.specs.declared.Mode.TheVariants.{InUpdate}
use Rattle.rules.proofs.FilledLaws.{stands_fill}
use Rattle.updates.proofs.ReadEach.{passes_kind}
use Rattle.sound.proofs.Stand.{Formed, all_formed}
use Rattle.sound.proofs.Records.{ruin_byte_lem}
use Rattle.sound.proofs.Changed.{tests}
use Rattle.contents.specs.Fit.{identified}
use Rattle.changing.specs.Foids.{FoidFilled}
use Rattle.changing.specs.Given.{Says}
use Rattle.changing.specs.declared.identity.Said.{Said}

-- ---- its fields

-- the identifier f and the fields behind it: formats
pub record Fronted (k : Kind) (f : Field) (fs : List Field) : Type 0 where
  pub ident : identified k f.body ≡ true
  pub foids : Each FoidFilled (f ∷ fs)

formed_foid : (new : Bool) (f : Field) → Formed new f → FoidFilled f
unfolding format_of tuple_of
formed_foid new f e z = subst (λ (t : ℕ). Has (format_of new t f.body) f.body) z e

-- an identifier is no FOID
ident_other : (k : Kind) (f : Field) (fs : List Field) → update_record (f ∷ fs) ≡ ok k → FoidFilled f
unfolding kind_of first_tag
ident_other k f fs e z = never (sym (passes_kind (f ∷ fs) k e) ∙ ap kind_of z)

fronted : (k : Kind) (f : Field) (fs : List Field) → update_record (f ∷ fs) ≡ ok k → Fronted k f fs
unfolding number5 insert_only identified Each
fronted k f fs e =
    let (four, five, six, seven) = tests (f ∷ fs) k e in
    let (u, ident, more) = bind_inv (stands 1 (ident_format (insert_only InUpdate) k) f.body) _ tt five in
    let new = as_stored InUpdate (ruin_byte k f.body) in
    let (v, all, counted) = bind_inv (all_stand new 2 fs) _ tt more in
    record {
      ident = stands_fill 1 (ident_format (insert_only InUpdate) k) f.body tt ident;
      foids = (ident_other k f fs e, each_map fs (formed_foid new) (all_formed new 2 fs all));
    }

-- it has an identifier
none_passed : {X : Type 0} (k : Kind) → update_record [] ≡ ok k → X
unfolding number4
none_passed k e = refused (tests [] k e).0

-- FOIDs have their format, and the identifier its own
pub passed_foids : (k : Kind) (fs : List Field) → update_record fs ≡ ok k → Each FoidFilled fs
passed_foids k [] e = none_passed k e
passed_foids k (f ∷ fs) e = (fronted k f fs e).foids

passed_ident : (k : Kind) (fs : List Field) → update_record fs ≡ ok k → identified k (front fs) ≡ true
unfolding front
passed_ident k [] e = none_passed k e
passed_ident k (f ∷ fs) e = (fronted k f fs e).ident

-- ---- RUIN

ruin_range : (k : Kind) (b : List ℕ) → identified k b ≡ true → (1 ≤ (ident_of k b).ruin) × ((ident_of k b).ruin ≤ 3)
unfolding identified ident_of ident_format head_of coded allows
ruin_range Info b e = in_range_lem 1 3 _ (head_allowed (head_of Irid) (tuple_of Irid) b e 4 1 refl)
ruin_range Point b e = in_range_lem 1 3 _ (head_allowed (head_of Prid) (tuple_of Prid) b e 3 1 refl)
ruin_range Multi b e = in_range_lem 1 3 _ (head_allowed (head_of Mrid) (tuple_of Mrid) b e 3 1 refl)
ruin_range Feature b e = in_range_lem 1 3 _ (head_allowed (head_of Frid) (tuple_of Frid) b e 4 1 refl)

module _ (k : Kind) (fs : List Field) (e : update_record fs ≡ ok k) (s : Said) (x : Says k fs s) where
  ruin_said : ruin_byte k (front fs) ≡ s.ruin
  unfolding identified
  ruin_said = ruin_byte_lem k (front fs) (passed_ident k fs e) ∙ sym x.ruin

  pub ruin_one : s.ruin ≡ 1 → ruin_byte k (front fs) ≡ 1
  ruin_one z = ruin_said ∙ z

  pub ruin_three : (s.ruin ≡ 1 → ⊥) → (s.ruin ≡ 2 → ⊥) → ruin_byte k (front fs) ≡ 3
  ruin_three a b =
      let r = ruin_range k (front fs) (passed_ident k fs e) in
      ruin_said ∙ omega (arith, r.0, r.1, x.ruin, a, b)

-- ---- `read_ident`

module _ (u : List ℕ) (at len : ℕ) (h : Shape) (k : Kind)
    (pre : (record_at u at ≡ good len h) × (length u ≤ 16777216) × (update_record (fields_at (between u at (at + len)) h 24) ≡ ok k)) where
  pub ident_inside : at + len ≤ length u
  ident_inside = (right u at (record_at u at) refl _ pre.0).inside

  pub ident_word : at + len < 2 ^ 64
  ident_word = omega (arith, ident_inside, pre.1)

  pub ident_bounded : Bounded h
  ident_bounded = (right u at (record_at u at) refl _ pre.0).bounded

  module _ (e : Option Place) (en : e ≡ place_at (between u at (at + len)) h 24) where
    pub ident_some : {X : Type 0} → e ≡ None → X
    ident_some y = none_passed k (subst (λ (fs : List Field). update_record fs ≡ ok k) (fields_done (between u at (at + len)) h 24 e en y) pre.2)

    module _ (d : Place) (y : e ≡ Some d) where
      front_is : front (fields_at (between u at (at + len)) h 24) ≡ between (between u at (at + len)) d.start d.end
      unfolding front
      front_is = ap front (fields_more (between u at (at + len)) h 24 e en d y)

      pub ident_ready : (d.start ≤ d.end) × (d.end ≤ length (between u at (at + len))) × (identified k (between (between u at (at + len)) d.start d.end) ≡ true)
      ident_ready = (
        place_runs (between u at (at + len)) h 24 e en d y,
        place_in_lem (between u at (at + len)) h 24 e en d y,
        subst (λ (b : List ℕ). identified k b ≡ true) front_is (passed_ident k (fields_at (between u at (at + len)) h 24) pre.2),
      )

      pub ident_says : (c v r : ℕ) → c ≡ (ident_of k (between (between u at (at + len)) d.start d.end)).code → v ≡ (ident_of k (between (between u at (at + len)) d.start d.end)).rver
          → r ≡ (ident_of k (between (between u at (at + len)) d.start d.end)).ruin
          → Says k (fields_at (between u at (at + len)) h 24) (record { code = c; rver = v; ruin = r })
      ident_says c v r a b z =
          let same = ap (ident_of k) (sym front_is) in
          record { code = a ∙ ap (λ (i : Ident). i.code) same; rver = b ∙ ap (λ (i : Ident). i.rver) same; ruin = z ∙ ap (λ (i : Ident). i.ruin) same }
