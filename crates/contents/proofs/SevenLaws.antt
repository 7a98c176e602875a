-- Number 7 of a record, and the first field of one that number 4 passes. Assumes nothing.
use mathlib.Core.Path.{◌≡◌, refl, sym, ap, ◌∙◌}
use mathlib.Core.Bool.{Bool, true, false}
use mathlib.Core.Option.{Option, some, none}
use mathlib.Core.List.{List, [], ◌∷◌}
use Prim.Native.Nat.{ℕ, ◌+◌}
use native.Mathlib.Omega.{arith}
use lib.Dec.{ltb}
use Rattle.std.specs.Prelude.{Result, Ok}
use Rattle.base.specs.Choice.{pick}
use Rattle.base.specs.Check.{Check, ok, no, bind, fault, Passed, pass}
use Rattle.base.specs.Lists.{gather}
use Rattle.base.proofs.CheckLaws.{bind_inv, ok_inj}
use Rattle.base.specs.Verdict.{verdict_of}
use Rattle.base.specs.declared.Fault.{Fault}
use Rattle.skeleton.specs.File.{Field}
use Rattle.skeleton.specs.Place.{fields_at}
use Rattle.skeleton.specs.RightFrom.{RightFrom}
use Rattle.skeleton.specs.declared.directory.Shape.{Shape}
use Rattle.rules.specs.ByTag.{first_tag}
use Rattle.rules.specs.Kind.{tag_of, kind_of, rank}
use Rattle.rules.specs.Grammar.{ruin_byte, as_stored, fields_stand, on_kind, number4}
use Rattle.rules.specs.Content.{number5}
use Rattle.rules.specs.Associations.{field_marks, marks, number7}
use Rattle.rules.specs.declared.Kind.{Kind}
use Rattle.rules.specs.declared.Kind.TheVariants.{Info, Point, Multi, Feature}
use Rattle.rules.specs.declared.Mode.{Mode}
use Rattle.rules.proofs.KindLaws.{tag_of_kind}
use Rattle.contents.specs.Fit.{all_fit}
use Rattle.contents.specs.Keys.{keys_in, once_from}
use Rattle.contents.proofs.StepLaws.{second_entry, second_right}
use Rattle.contents.proofs.FitLaws.{five_fit, all_any}

-- ---- the record

-- an identifier has no association key
ident_marks : (k : Kind) (f : Field) → f.tag ≡ tag_of k → field_marks 1 f ≡ []
unfolding field_marks tag_of
ident_marks Info f e = rw e
ident_marks Point f e = rw e
ident_marks Multi f e = rw e
ident_marks Feature f e = rw e

-- there is one: no tag of a kind is 0
pub kind_some : (k : Kind) → first_tag [] ≡ tag_of k → ⊥
unfolding first_tag tag_of
kind_some Info e = omega arith
kind_some Point e = omega arith
kind_some Multi e = omega arith
kind_some Feature e = omega arith

module _ (r : List ℕ) (h : Shape) (m : Mode) (k : Kind) (five : number5 m k (fields_at r h 24) ≡ pass) (first : first_tag (fields_at r h 24) ≡ tag_of k) where
  -- the fields are the identifier and those from the second entry on
  parted : (f : Field) × (fields_at r h 24 ≡ f ∷ fields_at r h (28 + h.a + h.b))
  parted = second_entry r h (λ e. kind_some k (rw e at first))

  pub seven_right : RightFrom r h 24 → RightFrom r h (28 + h.a + h.b)
  seven_right = second_right r h (λ e. kind_some k (rw e at first))

  pub seven_fit : all_fit false (fields_at r h (28 + h.a + h.b)) ≡ true
  seven_fit =
      let f : Field = parted.0 in
      let all = five_fit m k f (fields_at r h (28 + h.a + h.b)) tt (rw parted.1 at five) in
      all_any (as_stored m (ruin_byte k f.body)) (fields_at r h (28 + h.a + h.b)) all

  pub seven_rest : (v : Result (Unit {0}) Fault) → v ≡ once_from r h (28 + h.a + h.b) 0 → v ≡ verdict_of (number7 (fields_at r h 24))
  unfolding number7 marks once_from keys_in gather first_tag
  seven_rest v y =
      let f : Field = parted.0 in
      let t : f.tag ≡ tag_of k = rw parted.1 at first in
      rw parted.1 (rw (ident_marks k f t) y)

  -- where a test is sure that each key stands once
  pub seven_sure : (t : Bool) → (t ≡ true → once_from r h (28 + h.a + h.b) 0 ≡ Ok tt) → t ≡ true → Ok tt ≡ verdict_of (number7 (fields_at r h 24))
  seven_sure t sure e = seven_rest (Ok tt) (sym (sure e))

pub ruleset seven_ways = (seven_right, seven_fit, seven_rest, seven_sure)

-- ---- for callers

on_kind_lem : {X : Type 0} (o : Option Kind) (go : Kind → Check X) (a : X) → on_kind o go ≡ ok a → (k : Kind) × (o ≡ some k) × (go k ≡ ok a)
on_kind_lem none go a e = absurd (let y : ◌≡◌ {A = ℕ} 0 1 = cc in omega arith)
on_kind_lem (some k) go a e = (k, refl, e)

pub four_first : (m : Mode) (least : ℕ) (fs : List Field) (k : Kind) → number4 m least fs ≡ ok k → first_tag fs ≡ tag_of k
unfolding number4 first_tag
four_first m least [] k e = absurd (let y : ◌≡◌ {A = ℕ} 0 1 = cc in omega arith)
four_first m least (f ∷ fs) k e = let w = on_kind_lem (kind_of f.tag) _ k e in tag_of_kind f.tag k (w.1 ∙ ap some (same_kind (ltb (rank w.0) least) (fields_stand m w.0 f.body fs) w.0 w.2))
  where
    same_kind : (b : Bool) (c : Passed) (j : Kind) → pick b (no (fault 4 1 0)) (bind c (λ _. ok j)) ≡ ok k → j ≡ k
    same_kind true c j z = absurd (let y : ◌≡◌ {A = ℕ} 0 1 = cc in omega arith)
    same_kind false c j z = let w = bind_inv c (λ _. ok j) k z in ok_inj j k w.2
