-- Laws of number 5, and of 6 in the same walk. Assumes nothing.
use mathlib.Core.Path.{◌≡◌, sym, ◌∙◌}
use mathlib.Core.Bool.{Bool, true, false}
use mathlib.Core.List.{List}
use Prim.Native.Nat.{ℕ, ◌+◌}
use lib.ListN.{length}
use Rattle.std.specs.Prelude.{Option, Some, None, Result, Ok, Err}
use Rattle.base.specs.Check.{bind, pass}
use Rattle.base.specs.Verdict.{verdict_of}
use Rattle.base.specs.declared.Fault.{Fault}
use Rattle.skeleton.specs.Place.{between, place_at, fields_at}
use Rattle.skeleton.specs.declared.directory.Shape.{Shape}
use Rattle.skeleton.specs.declared.place.Place.{Place}
use Rattle.skeleton.proofs.PlaceLaws.{fields_more, fields_done}
use Rattle.rules.specs.Grammar.{ruin_byte, as_stored}
use Rattle.rules.specs.Coordinates.{sent}
use Rattle.rules.specs.Content.{insert_only, ident_format, format_of, stands, all_stand, counted, number5}
use Rattle.rules.specs.Trees.{trees_stand, number6}
use Rattle.rules.specs.declared.Kind.{Kind}
use Rattle.rules.specs.declared.Mode.{Mode}
use Rattle.rules.proofs.FilledLaws.{stands_fill}
use Rattle.contents.specs.Fit.{fits, all_fit}
use Rattle.contents.specs.Answers.{stand_from, counted_from, trees_from, since, rest_right}
use Rattle.contents.proofs.VerdictLaws.{says_pass, answered_pass, says_no}
use Rattle.contents.proofs.StepLaws.{step_bounds}
use Rattle.contents.proofs.SinceLaws.{again_whole}
use Rattle.contents.proofs.FitLaws.{all_fit_lem, all_any}
use Rattle.contents.proofs.CountLaws.{counted_done}
use Rattle.contents.proofs.TreeLaws.{trees_done}

-- ---- the loop over the fields: at place q, field i, where the whole comes to A

module _ (r : List ℕ) (h : Shape) (new : Bool) (q i : ℕ) (A : Result (Unit {0}) Fault) (inv : stand_from r h new q i ≡ A) (e : Option Place) (en : e ≡ place_at r h q) where
  pub stand_done : e ≡ None → Ok tt ≡ A
  unfolding stand_from all_stand verdict_of
  stand_done x = rw (fields_done r h q e en x) at inv

  module _ (d : Place) (x : e ≡ Some d) (v : Result (Unit {0}) Fault)
      (ev : v ≡ verdict_of (stands i (format_of new d.tag (between r d.start d.end)) (between r d.start d.end))) where
    here : verdict_of (bind (stands i (format_of new d.tag (between r d.start d.end)) (between r d.start d.end)) (λ _. all_stand new (i + 1) (fields_at r h d.next))) ≡ A
    unfolding stand_from all_stand
    here = rw (fields_more r h q e en d x) at inv

    pub stand_not : (f : Fault) → v ≡ Err f → Err f ≡ A
    stand_not f z =
        says_no (stands i (format_of new d.tag (between r d.start d.end)) (between r d.start d.end)) (λ _. all_stand new (i + 1) (fields_at r h d.next)) f (sym ev ∙ z) ∙ here

    pub stand_more : v ≡ Ok tt → stand_from r h new d.next (i + 1) ≡ A
    unfolding stand_from bind
    stand_more z = rw (says_pass (stands i (format_of new d.tag (between r d.start d.end)) (between r d.start d.end)) (sym ev ∙ z)) at here

-- what stands in a field so
pub stand_fit : (r : List ℕ) (start end tag : ℕ) (new : Bool) (i : ℕ) (v : Result (Unit {0}) Fault)
    → v ≡ verdict_of (stands i (format_of new tag (between r start end)) (between r start end)) → v ≡ Ok tt
    → fits new (record { tag = tag; body = between r start end }) ≡ true
unfolding fits
stand_fit r start end tag new i v ev z =
    let b = between r start end in
    stands_fill i (format_of new tag b) b tt (answered_pass (stands i (format_of new tag b) b) v ev z)

-- ---- the whole behind the identifier, where no field before place q and number i refuses

module _ (r : List ℕ) (h : Shape) (new : Bool) (p q i : ℕ) (inv : stand_from r h new q i ≡ stand_from r h new p 2) (e : Option Place) (en : e ≡ place_at r h q) where
  pub rest_more : (d : Place) → e ≡ Some d → (v : Result (Unit {0}) Fault)
      → v ≡ verdict_of (stands i (format_of new d.tag (between r d.start d.end)) (between r d.start d.end)) → v ≡ Ok tt → stand_from r h new d.next (i + 1) ≡ stand_from r h new p 2
  rest_more d x v ev z = stand_more r h new q i (stand_from r h new p 2) inv e en d x v ev z

  pub rest_not : (d : Place) → e ≡ Some d → (v : Result (Unit {0}) Fault)
      → v ≡ verdict_of (stands i (format_of new d.tag (between r d.start d.end)) (between r d.start d.end)) → (f : Fault) → v ≡ Err f
      → Err f ≡ rest_right r h new p
  unfolding stand_from rest_right
  rest_not d x v ev f z =
      let fs = fields_at r h p in
      let first = says_no (all_stand new 2 fs) (λ _. counted (length (sent fs)) 2 fs) f
      (sym (stand_not r h new q i (stand_from r h new p 2) inv e en d x v ev f z)) in
      says_no (bind (all_stand new 2 fs) (λ _. counted (length (sent fs)) 2 fs)) (λ _. trees_stand new 2 fs) f (sym first)

  module _ (x : e ≡ None) where
    stood : all_stand new 2 (fields_at r h p) ≡ pass
    unfolding stand_from
    stood = says_pass (all_stand new 2 (fields_at r h p)) (sym (stand_done r h new q i (stand_from r h new p 2) inv e en x))

    pub rest_fit : all_fit new (fields_at r h p) ≡ true
    rest_fit = all_fit_lem new 2 (fields_at r h p) tt stood

    pub rest_any : all_fit false (fields_at r h p) ≡ true
    rest_any = all_any new (fields_at r h p) rest_fit

    module _ (c : Bool) (kc : since c (counted_from r h p p 2) (counted_from r h p q i) ≡ counted_from r h p p 2)
        (v : Result (Unit {0}) Fault) (ev : v ≡ since c (counted_from r h p p 2) (Ok tt)) where
      counts_are : v ≡ counted_from r h p p 2
      counts_are = again_whole (counted_from r h p p 2) (counted_from r h p q i) v c kc (λ k. counted_done r h p q i (counted_from r h p p 2) k e en x) ev

      pub rest_miscounts : (f : Fault) → v ≡ Err f → Err f ≡ rest_right r h new p
      unfolding counted_from rest_right bind
      rest_miscounts f z =
          let fs = fields_at r h p in
          rw stood (says_no (counted (length (sent fs)) 2 fs) (λ _. trees_stand new 2 fs) f (sym counts_are ∙ z))

      pub rest_trees : v ≡ Ok tt → (d : Bool) → since d (trees_from r h new p 2) (trees_from r h new q i) ≡ trees_from r h new p 2
          → (w : Result (Unit {0}) Fault) → w ≡ since d (trees_from r h new p 2) (Ok tt) → w ≡ rest_right r h new p
      unfolding counted_from trees_from rest_right bind
      rest_trees z d kd w ew =
          let fs = fields_at r h p in
          let trees = again_whole (trees_from r h new p 2) (trees_from r h new q i) w d kd (λ k. trees_done r h new q i (trees_from r h new p 2) k e en x) ew in
          rw (stood, says_pass (counted (length (sent fs)) 2 fs) (sym counts_are ∙ z)) trees

pub ruleset rest_turn = (rest_not, rest_fit, rest_any, rest_miscounts, rest_trees, stand_fit, step_bounds)

-- ---- the record

module _ (r : List ℕ) (h : Shape) (m : Mode) (k : Kind) (e : Option Place) (en : e ≡ place_at r h 24) where
  -- what numbers 5 and 6 say
  abbrev five_six : Result (Unit {0}) Fault
  five_six = verdict_of (bind (number5 m k (fields_at r h 24)) (λ _. number6 m k (fields_at r h 24)))

  pub five_none : e ≡ None → Ok tt ≡ five_six
  unfolding number5 number6 bind verdict_of
  five_none x = rw (fields_done r h 24 e en x)

  module _ (d : Place) (x : e ≡ Some d) (v : Result (Unit {0}) Fault)
      (ev : v ≡ verdict_of (stands 1 (ident_format (insert_only m) k) (between r d.start d.end))) where
    pub five_not : (f : Fault) → v ≡ Err f → Err f ≡ five_six
    unfolding number5 number6
    five_not f z =
        rw (fields_more r h 24 e en d x)
        (says_no _ _ f (sym (says_no (stands 1 (ident_format (insert_only m) k) (between r d.start d.end)) _ f (sym ev ∙ z))))

    pub five_rest : v ≡ Ok tt → (new : Bool) → new ≡ as_stored m (ruin_byte k (between r d.start d.end)) → (w : Result (Unit {0}) Fault) → w ≡ rest_right r h new d.next → w ≡ five_six
    unfolding number5 number6 rest_right bind
    five_rest z new eb w y =
        rw (fields_more r h 24 e en d x) (rw (says_pass (stands 1 (ident_format (insert_only m) k) (between r d.start d.end)) (sym ev ∙ z)) (rw eb at y))

pub ruleset five_ways = (five_none, five_not, five_rest)
