-- The FOIDs of an update record, field by field. Assumes nothing.
use Prim.Native.Nat.{ℕ, ◌+◌, ◌-◌, ◌^◌, ◌≤◌, ◌<◌}
use mathlib.Core.Path.{◌≡◌, refl, sym, ap, ◌∙◌, subst}
use mathlib.Core.Bool.{Bool, true, false}
use mathlib.Core.List.{List, [], ◌∷◌}
use native.Mathlib.Omega.{arith}
use borrow.Author.Tests.{eq-eqb, ne_eqb}
use lib.Dec.{eqb}
use lib.ListN.{length}
use Rattle.std.specs.Prelude.{Option, Some, None}
use Rattle.base.specs.Choice.{pick}
use Rattle.base.specs.Check.{Passed, no, fault}
use Rattle.base.specs.Keys.{same}
use Rattle.base.specs.Lists.{gather, Each}
use Rattle.skeleton.specs.File.{Field}
use Rattle.skeleton.specs.Place.{between, place_at, fields_at}
use Rattle.skeleton.specs.Leader.{good}
use Rattle.skeleton.specs.Record.{record_at}
use Rattle.skeleton.specs.Shape.{Bounded}
use Rattle.skeleton.specs.declared.directory.Shape.{Shape}
use Rattle.skeleton.specs.declared.place.Place.{Place}
use Rattle.skeleton.proofs.PlaceLaws.{place_falls, place_runs, place_in_lem, fields_done}
use Rattle.skeleton.proofs.RecordLaws.{right}
use Rattle.skeleton.proofs.BetweenLaws.{length_between, fields_within}
use Rattle.rules.specs.Tags.{FOID}
use Rattle.rules.specs.Record.{Rec, foid_of}
use Rattle.rules.specs.Change.{same_foid}
use Rattle.rules.specs.Written.{field_as}
use Rattle.version.specs.Held.{RightFoid, foid_bodies}
use Rattle.version.specs.declared.Version.{Version}
use Rattle.changing.specs.Foids.{FoidFilled, agreeing, foid_test, same_from}

-- ---- as in the rules

-- the test is the one of the rules
pub same_rule : (i : ℕ) (fs : List Field) (old : Rec) → same_foid i fs old ≡ same_from old.foid i fs
unfolding same_foid same_from agreeing
same_rule i [] old = refl
same_rule i (f ∷ fs) old = go (eqb f.tag FOID) (same (foid_of f.body) old.foid) (same_foid (i + 1) fs old) (same_from old.foid (i + 1) fs) (same_rule (i + 1) fs old)
  where
    go : (a b : Bool) (l m : Passed) → l ≡ m → pick a (pick b l (no (fault 10 i 0))) l ≡ pick (pick a b true) m (no (fault 10 i 0))
    go true true l m e = e
    go true false l m e = refl
    go false b l m e = e

-- a field by its tag
module _ (old : List ℕ) (tag : ℕ) (b : List ℕ) where
  pub agrees_foid : tag ≡ FOID → (t : Bool) → t ≡ same (foid_of b) old → t ≡ agreeing old (field_as tag b)
  unfolding agreeing
  agrees_foid z t e = e ∙ rw (eq-eqb tag FOID z) refl

  pub agrees_other : (tag ≡ FOID → ⊥) → true ≡ agreeing old (field_as tag b)
  unfolding agreeing
  agrees_other n = rw (ne_eqb tag FOID n) refl

-- ---- the loop

-- the FOID of version v
abbrev held : List ℕ → List ℕ → Version → List ℕ
held d u v = gather foid_of (foid_bodies d u v)

-- the fields before q, numbered up to i, have no other FOID
pub record SameAt (d u : List ℕ) (at len : ℕ) (h : Shape) (v : Version) (q i : ℕ) : Type 0 where
  pub inside : at + len ≤ length u
  pub small : length u ≤ 16777216
  pub count : i + (length (between u at (at + len)) - q) ≤ 1 + length (between u at (at + len))
  pub foids : Each FoidFilled (fields_at (between u at (at + len)) h q)
  pub same : same_from (gather foid_of (foid_bodies d u v)) 1 (fields_at (between u at (at + len)) h 24) ≡ same_from (gather foid_of (foid_bodies d u v)) i (fields_at (between u at (at + len)) h q)

module _ (d u : List ℕ) (at len : ℕ) (h : Shape) (v : Version)
    (pre : (record_at u at ≡ good len h) × (length d ≤ 16777216) × (length u ≤ 16777216) × Each FoidFilled (fields_at (between u at (at + len)) h 24)
    × Each RightFoid (foid_bodies d u v)) where
  pub same_inside : at + len ≤ length u
  same_inside = (right u at (record_at u at) refl _ pre.0).inside

  pub same_word : at + len < 2 ^ 64
  same_word = omega (arith, same_inside, pre.2)

  pub same_bounded : Bounded h
  same_bounded = (right u at (record_at u at) refl _ pre.0).bounded

  pub same_start : SameAt d u at len h v 24 1
  same_start = record { inside = same_inside; small = pre.2; count = omega arith; foids = pre.3; same = refl }

module _ (d u : List ℕ) (at len : ℕ) (h : Shape) (v : Version) (q i : ℕ) (s : SameAt d u at len h v q i) where
  abbrev rs : List ℕ
  rs = between u at (at + len)

  long_is : length rs ≡ len
  long_is = length_between u at (at + len) s.inside ∙ omega arith

  pub number_word : i + 1 < 2 ^ 64
  number_word = omega (arith, s.count, s.inside, s.small, long_is)

  module _ (e : Option Place) (en : e ≡ place_at (between u at (at + len)) h q) where
    pub same_done : e ≡ None → foid_test None ≡ same_from (gather foid_of (foid_bodies d u v)) 1 (fields_at (between u at (at + len)) h 24)
    unfolding same_from foid_test
    same_done y = sym (s.same ∙ ap (same_from (held d u v) i) (fields_done rs h q e en y))

    module _ (p : Place) (y : e ≡ Some p) where
      within : p.end ≤ len
      within = omega (arith, place_in_lem rs h q e en p y, long_is)

      pub body_runs : at + p.start ≤ at + p.end
      body_runs = omega (arith, place_runs rs h q e en p y)

      pub body_inside : at + p.end ≤ length u
      body_inside = omega (arith, within, s.inside)

      pub body_word : at + p.end < 2 ^ 64
      body_word = omega (arith, body_inside, s.small)

      pub same_falls : length (between u at (at + len)) - p.next < length (between u at (at + len)) - q
      same_falls = place_falls rs h q e en p y

      abbrev here : Field
      here = field_as p.tag (between u (at + p.start) (at + p.end))

      abbrev rest : List Field
      rest = fields_at rs h p.next

      fields_are : fields_at rs h q ≡ here ∷ rest
      fields_are = fields_within u at len h q e en p y within

      foids_here : FoidFilled here × Each FoidFilled rest
      unfolding Each
      foids_here = subst (Each FoidFilled) fields_are s.foids

      pub field_filled : FoidFilled (field_as p.tag (between u (at + p.start) (at + p.end)))
      field_filled = foids_here.0

      from_here : same_from (held d u v) 1 (fields_at rs h 24) ≡ pick (agreeing (held d u v) here) (same_from (held d u v) (i + 1) rest) (no (fault 10 i 0))
      unfolding same_from
      from_here = s.same ∙ ap (same_from (held d u v) i) fields_are

      module _ (t : Bool) (et : t ≡ agreeing (gather foid_of (foid_bodies d u v)) (field_as p.tag (between u (at + p.start) (at + p.end)))) where
        pub same_turn : t ≡ true → SameAt d u at len h v p.next (i + 1)
        same_turn x =
            record {
              inside = s.inside;
              small = s.small;
              count = omega (arith, s.count, same_falls);
              foids = foids_here.1;
              same = from_here ∙ rw (← et, x) refl;
            }

        pub same_other : t ≡ false → foid_test (Some i) ≡ same_from (gather foid_of (foid_bodies d u v)) 1 (fields_at (between u at (at + len)) h 24)
        unfolding foid_test
        same_other x = sym (from_here ∙ rw (← et, x) refl)
