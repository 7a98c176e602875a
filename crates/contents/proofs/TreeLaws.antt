-- Laws of number 6. Assumes nothing.
use mathlib.Core.Path.{◌≡◌, refl, sym, ap, ◌∙◌}
use mathlib.Core.Bool.{Bool, true, false, not}
use mathlib.Core.List.{List}
use Prim.Native.Nat.{ℕ, zero, suc, ◌+◌}
use native.Mathlib.Omega.{arith}
use borrow.Author.Tests.{eq-eqb, ne_eqb, eqb-true}
use lib.Dec.{eqb}
use Rattle.std.specs.Prelude.{Option, Some, None, Result, Ok, Err, is_err}
use Rattle.base.specs.Choice.{pick, either}
use Rattle.base.specs.Check.{Check, ok, no, bind, fault, in_field, pass, passed}
use Rattle.base.specs.Verdict.{verdict_of, first_fault}
use Rattle.base.specs.declared.Fault.{Fault}
use Rattle.base.proofs.CheckLaws.{first_none, first_is, first_some}
use Rattle.fields.specs.Table.{head_of, tuple_of}
use Rattle.fields.specs.Content.{fill}
use Rattle.fields.specs.declared.Format.{Format}
use Rattle.fields.specs.declared.Format.TheVariants.{Attr, AttrNew}
use Rattle.skeleton.specs.File.{Field}
use Rattle.skeleton.specs.Place.{between, place_at, fields_at}
use Rattle.skeleton.specs.declared.directory.Shape.{Shape}
use Rattle.skeleton.specs.declared.place.Place.{Place}
use Rattle.skeleton.proofs.PlaceLaws.{fields_more, fields_done}
use Rattle.rules.specs.Tags.{ATTR, INAS}
use Rattle.rules.specs.Content.{inas_format, format_of}
use Rattle.rules.specs.Trees.{attr_tree, inas_tree, attr_acts, tree_stands, trees_stand}
use Rattle.tree.specs.Verdict.{faulty_tuple, verdict}
use Rattle.tree.proofs.VerdictLaws.{attr_verdict, acts_verdict, inas_verdict}
use Rattle.contents.specs.Fit.{fits}
use Rattle.contents.specs.Answers.{trees_from, breaks, since}
use Rattle.contents.proofs.StepLaws.{step_bounds}
use Rattle.contents.proofs.SinceLaws.{since_by}
use Rattle.contents.proofs.FormatLaws.{of_attr, of_inas}
use Rattle.contents.proofs.FitLaws.{fit_here, fit_next, fit_any}

-- ---- one field

passed_place : {A : Type 0} (c : Check A) → faulty_tuple (passed c) ≡ faulty_tuple c
unfolding passed bind faulty_tuple
passed_place (ok a) = refl
passed_place (no x) = refl

passed_says : {A : Type 0} (c : Check A) → passed c ≡ verdict (faulty_tuple c) → passed c ≡ verdict (faulty_tuple (passed c))
passed_says c e = e ∙ ap verdict (sym (passed_place c))

-- the number says all of the field's rule
tree_says : (new : Bool) (f : Field) → tree_stands new f ≡ verdict (faulty_tuple (tree_stands new f))
unfolding tree_stands faulty_tuple verdict
tree_says new f = go (eqb f.tag ATTR) (eqb f.tag INAS) new
  where
    go : (a i n : Bool) → pick a (pick n (passed (attr_tree f.body)) (passed (attr_acts f.body))) (pick i (passed (inas_tree f.body)) pass)
        ≡ verdict (faulty_tuple (pick a (pick n (passed (attr_tree f.body)) (passed (attr_acts f.body))) (pick i (passed (inas_tree f.body)) pass)))
    go true i true = passed_says (attr_tree f.body) (attr_verdict f.body)
    go true i false = passed_says (attr_acts f.body) (acts_verdict f.body)
    go false true n = passed_says (inas_tree f.body) (inas_verdict f.body)
    go false false n = refl

-- what a function returns of it, by its tag
module _ (new : Bool) (t : ℕ) (b : List ℕ) (f : fits new (record { tag = t; body = b }) ≡ true) where
  module _ (z : t ≡ 0x41545452) where
    attr_format : (k : Format) → k ≡ pick new AttrNew Attr → format_of new t b ≡ k
    attr_format k e = sym (of_attr new t b z k e)

    pub tree_new_fits : new ≡ true → fill (head_of AttrNew) (tuple_of AttrNew) b ≡ true
    unfolding fits
    tree_new_fits e = rw (attr_format AttrNew (rw e)) at f

    pub tree_any_fits : new ≡ false → fill (head_of Attr) (tuple_of Attr) b ≡ true
    unfolding fits
    tree_any_fits e = rw (attr_format Attr (rw e)) at f

    pub tree_new : new ≡ true → (a : Result (Unit {0}) ℕ) → a ≡ first_fault (faulty_tuple (attr_tree b)) → a ≡ first_fault (faulty_tuple (tree_stands new (record { tag = t; body = b })))
    unfolding tree_stands
    tree_new e a x = simp (eq-eqb t 0x41545452 z, e) (x ∙ ap first_fault (sym (passed_place (attr_tree b))))

    pub tree_any : new ≡ false → (a : Result (Unit {0}) ℕ) → a ≡ first_fault (faulty_tuple (attr_acts b)) → a ≡ first_fault (faulty_tuple (tree_stands new (record { tag = t; body = b })))
    unfolding tree_stands
    tree_any e a x = simp (eq-eqb t 0x41545452 z, e) (x ∙ ap first_fault (sym (passed_place (attr_acts b))))

  module _ (y : t ≡ 0x41545452 → ⊥) where
    pub tree_inas_fits : t ≡ 0x494e4153 → fill (head_of (inas_format false b)) (tuple_of (inas_format false b)) b ≡ true
    unfolding fits
    tree_inas_fits z =
        let g : format_of false t b ≡ inas_format false b = sym (of_inas false t b y z (inas_format false b) refl) in
        rw g at (fit_any new (record { tag = t; body = b }) f)

    pub tree_inas : t ≡ 0x494e4153 → (a : Result (Unit {0}) ℕ) → a ≡ first_fault (faulty_tuple (inas_tree b)) → a ≡ first_fault (faulty_tuple (tree_stands new (record { tag = t; body = b })))
    unfolding tree_stands
    tree_inas z a x = simp (ne_eqb t 0x41545452 y, eq-eqb t 0x494e4153 z) (x ∙ ap first_fault (sym (passed_place (inas_tree b))))

    pub tree_other : (t ≡ 0x494e4153 → ⊥) → Ok tt ≡ first_fault (faulty_tuple (tree_stands new (record { tag = t; body = b })))
    unfolding tree_stands faulty_tuple
    tree_other z = simp (ne_eqb t 0x41545452 y, ne_eqb t 0x494e4153 z)

pub ruleset tree_ways = (tree_new_fits, tree_any_fits, tree_new, tree_any, tree_inas_fits, tree_inas, tree_other)

-- ---- the loop over the fields: at place q, field i, where the whole comes to A

-- a field's number, and the answer to those after it
bad_at : (i j : ℕ) (k : Unit {0} → Check (Unit {0})) → (j ≡ 0 → ⊥) → Err (fault 6 i j) ≡ verdict_of (bind (in_field i (verdict j)) k)
unfolding verdict in_field bind verdict_of
bad_at i zero k n = absurd (n refl)
bad_at i (suc j) k n = refl

module _ (r : List ℕ) (h : Shape) (new : Bool) (q i : ℕ) (A : Result (Unit {0}) Fault) (inv : trees_from r h new q i ≡ A) (e : Option Place) (en : e ≡ place_at r h q) where
  pub trees_done : e ≡ None → Ok tt ≡ A
  unfolding trees_from trees_stand verdict_of
  trees_done x = rw (fields_done r h q e en x) at inv

  module _ (d : Place) (x : e ≡ Some d) where
    abbrev found : ℕ
    found = faulty_tuple (tree_stands new (record { tag = d.tag; body = between r d.start d.end }))

    here : verdict_of (bind (in_field i (verdict found)) (λ _. trees_stand new (i + 1) (fields_at r h d.next))) ≡ A
    unfolding trees_from trees_stand
    here =
        rw (tree_says new (record { tag = d.tag; body = between r d.start d.end })) at (rw (fields_more r h q e en d x) at inv)

    trees_whole : found ≡ 0 → trees_from r h new d.next (i + 1) ≡ A
    unfolding trees_from verdict in_field bind
    trees_whole z = rw z at here

    -- by what the code answers of the field
    module _ (o : Result (Unit {0}) ℕ) (eo : o ≡ first_fault found) where
      pub trees_bad : (j : ℕ) → o ≡ Err j → Err (fault 6 i j) ≡ A
      trees_bad j y =
          let s = sym y ∙ eo in
          let z : j ≡ found = first_is found j s in
          bad_at i j (λ _. trees_stand new (i + 1) (fields_at r h d.next)) (first_some found j s) ∙ rw (sym z) at here

      pub trees_more : (u : Unit {0}) → o ≡ Ok u → trees_from r h new d.next (i + 1) ≡ A
      trees_more u y = trees_whole (first_none found u (sym y ∙ eo))

pub ruleset trees_turn = (trees_done, trees_bad, trees_more, fit_here, fit_next, step_bounds)

-- ---- broken trees noticed on the way: at place q, field i

err_first : (n : ℕ) → is_err (first_fault n) ≡ not (eqb n 0)
err_first zero = refl
err_first (suc n) = rw (ne_eqb (suc n) 0 (λ z. omega arith))

pub broken_before : (new : Bool) (f : Field) (c : Bool) → c ≡ true → true ≡ either c (breaks new f)
broken_before new f c e = simp e

pub broken_now : (new : Bool) (f : Field) (c : Bool) → c ≡ false → (o : Result (Unit {0}) ℕ) → o ≡ first_fault (faulty_tuple (tree_stands new f)) → (b : Bool) → b ≡ is_err o → b ≡ either c (breaks new f)
unfolding breaks
broken_now new f c e o eo b eb = simp e (eb ∙ ap is_err eo ∙ err_first (faulty_tuple (tree_stands new f)))

pub ruleset broken_ways = (broken_before, broken_now)

whole_tree : (new : Bool) (f : Field) → breaks new f ≡ false → faulty_tuple (tree_stands new f) ≡ 0
unfolding breaks
whole_tree new f e = go (eqb (faulty_tuple (tree_stands new f)) 0) refl e
  where
    go : (t : Bool) → eqb (faulty_tuple (tree_stands new f)) 0 ≡ t → not t ≡ false → faulty_tuple (tree_stands new f) ≡ 0
    go true z y = eqb-true (faulty_tuple (tree_stands new f)) 0 z
    go false z y = absurd (let u : ◌≡◌ {A = ℕ} 0 1 = cc in omega arith)

pub broken_more : (r : List ℕ) (h : Shape) (new : Bool) (p q i : ℕ) (e : Option Place) → e ≡ place_at r h q → (u : Place) → e ≡ Some u → (c : Bool)
    → since c (trees_from r h new p 2) (trees_from r h new q i) ≡ trees_from r h new p 2
    → (d : Bool) → d ≡ either c (breaks new (record { tag = u.tag; body = between r u.start u.end }))
    → since d (trees_from r h new p 2) (trees_from r h new u.next (i + 1)) ≡ trees_from r h new p 2
broken_more r h new p q i e en u x c k d ed =
    let whole = trees_from r h new p 2 in
    let f : Field = record { tag = u.tag; body = between r u.start u.end } in
    let turn : breaks new f ≡ false → trees_from r h new q i ≡ whole → trees_from r h new u.next (i + 1) ≡ whole
    = λ z inv. trees_whole r h new q i whole inv e en u x (whole_tree new f z) in
    rw ed (since_by whole (trees_from r h new q i) (trees_from r h new u.next (i + 1)) (breaks new f) turn c k)
