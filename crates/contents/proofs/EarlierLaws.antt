-- Laws of the keys of earlier fields. Assumes nothing.
use mathlib.Core.Path.{◌≡◌, refl, sym, ap, ◌∙◌}
use mathlib.Core.Bool.{Bool, true, false}
use mathlib.Core.List.{List, [], ◌∷◌}
use Prim.Native.Nat.{ℕ, suc, ◌+◌, ◌-◌, ◌/◌, ◌≤◌, ◌<◌}
use native.Mathlib.Omega.{arith}
use borrow.Author.Tests.{eq-eqb, ne_eqb}
use lib.Dec.{eqb}
use lib.ListN.{length, get_or, take, drop}
use lib.Seq.{take-nil}
use Rattle.std.specs.Prelude.{Option, Some, None}
use Rattle.base.specs.Choice.{pick, both, either}
use Rattle.base.specs.Keys.{same, among}
use Rattle.base.specs.Lists.{each, gather}
use Rattle.base.proofs.ChoiceLaws.{both_false, either_false}
use Rattle.fields.specs.Bytes.{le}
use Rattle.fields.specs.Values.{values, num_at}
use Rattle.fields.specs.Table.{head_of, tuple_of}
use Rattle.fields.specs.Content.{many, fill}
use Rattle.fields.specs.declared.Format.TheVariants.{InasNew, InasGone, Spas}
use Rattle.fields.specs.declared.Sub.{Sub}
use Rattle.fields.proofs.ValueLaws.{is_number, lies, head_number}
use Rattle.skeleton.specs.Place.{between, place_at, fields_at}
use Rattle.skeleton.specs.declared.directory.Shape.{Shape}
use Rattle.skeleton.specs.declared.place.Place.{Place}
use Rattle.skeleton.proofs.PlaceLaws.{fields_more, fields_done}
use Rattle.rules.specs.Tags.{INAS, SPAS}
use Rattle.rules.specs.Content.{inas_format, format_of}
use Rattle.rules.specs.Associations.{inas_key, spas_key, spas_keys, field_keys}
use Rattle.contents.specs.Fit.{fits}
use Rattle.contents.specs.Keys.{list_of, inas_key_at, keys_in, has_from, seen_from}
use Rattle.contents.specs.declared.earlier.Key.{Key}
use Rattle.contents.specs.declared.earlier.Key.TheVariants.{Information, Spatial}
use Rattle.contents.proofs.StepLaws.{step_bounds}
use Rattle.contents.proofs.FormatLaws.{of_inas, of_spas}
use Rattle.contents.proofs.FitLaws.{fit_here, fit_next}
use Rattle.contents.proofs.KeyLaws.{among_append, four_new}
use Rattle.contents.proofs.SpatialLaws.{eqb_swap, spas_all, spas_fits}

-- ---- the key of an INAS

eqb_alone : (a c : ℕ) → eqb a c ≡ both (eqb c a) true
eqb_alone a c = eqb_swap a c ∙ go (eqb c a)
  where
    go : (t : Bool) → t ≡ both t true
    go true = refl
    go false = refl

-- its four numbers, at the front
abbrev four : List ℕ → List ℕ
four b = le 1 (drop 0 b) ∷ le 4 (drop 1 b) ∷ le 2 (drop 5 b) ∷ le 2 (drop 7 b) ∷ []

-- the first four numbers of a head
abbrev first_four : List Sub → List ℕ → List ℕ
first_four h b = let v = values h b in num_at v 0 ∷ num_at v 1 ∷ num_at v 2 ∷ num_at v 3 ∷ []

four_by : (h t : List Sub) (b : List ℕ) → fill h t b ≡ true → is_number h 0 1 ≡ true → is_number h 1 4 ≡ true → is_number h 2 2 ≡ true → is_number h 3 2 ≡ true
    → lies h 1 1 ≡ true → lies h 2 5 ≡ true → lies h 3 7 ≡ true → (7 + 2 ≤ length b) × (first_four h b ≡ four b)
four_by h t b e n0 n1 n2 n3 l1 l2 l3 =
    let a = (head_number h t b e 0 0 1 n0 refl).1 in
    let c = (head_number h t b e 1 1 4 n1 l1).1 in
    let d = (head_number h t b e 2 5 2 n2 l2).1 in
    let f = head_number h t b e 3 7 2 n3 l3 in
    (f.0, rw (a, c, d, f.1))

inas_four : (b : List ℕ) → fill (head_of (inas_format false b)) (tuple_of (inas_format false b)) b ≡ true → (7 + 2 ≤ length b) × (inas_key b ≡ four b)
unfolding inas_format inas_key head_of
inas_four b e = go (eqb (get_or b 9 0) 2) e
  where
    go : (gone : Bool) → fill (head_of (pick gone InasGone InasNew)) (tuple_of (pick gone InasGone InasNew)) b ≡ true
        → (7 + 2 ≤ length b) × (first_four (head_of (pick gone InasGone InasNew)) b ≡ four b)
    go true f = four_by (head_of InasGone) (tuple_of InasGone) b f refl refl refl refl refl refl refl
    go false f = four_by (head_of InasNew) (tuple_of InasNew) b f refl refl refl refl refl refl refl

module _ (b : List ℕ) (f : fill (head_of (inas_format false b)) (tuple_of (inas_format false b)) b ≡ true) where
  -- they lie in the field
  pub inas_first : 0 + 1 ≤ length b
  inas_first = omega (arith, (inas_four b f).0)

  pub inas_second : 1 + 4 ≤ length b
  inas_second = omega (arith, (inas_four b f).0)

  pub inas_third : 5 + 2 ≤ length b
  inas_third = omega (arith, (inas_four b f).0)

  pub inas_fourth : 7 + 2 ≤ length b
  inas_fourth = (inas_four b f).0

  -- the key as code holds it
  pub inas_listed : list_of (inas_key_at b) ≡ inas_key b
  inas_listed = sym (inas_four b f).1

  -- a key is compared number by number
  module _ (x y z w m : ℕ) (em : m ≡ le 1 (drop 0 b)) where
    pub differs_first : (m ≡ x → ⊥) → false ≡ same (x ∷ y ∷ z ∷ w ∷ []) (inas_key b)
    unfolding same
    differs_first d = rw ((inas_four b f).1, ← em) (simp (ne_eqb x m (λ e. d (sym e))))

    module _ (am : m ≡ x) (n : ℕ) (en : n ≡ le 4 (drop 1 b)) where
      pub differs_second : (n ≡ y → ⊥) → false ≡ same (x ∷ y ∷ z ∷ w ∷ []) (inas_key b)
      unfolding same
      differs_second d = rw ((inas_four b f).1, ← em, ← en) (simp (eq-eqb x m (sym am), ne_eqb y n (λ e. d (sym e))))

      module _ (an : n ≡ y) (o : ℕ) (eo : o ≡ le 2 (drop 5 b)) where
        pub differs_third : (o ≡ z → ⊥) → false ≡ same (x ∷ y ∷ z ∷ w ∷ []) (inas_key b)
        unfolding same
        differs_third d =
            rw ((inas_four b f).1, ← em, ← en, ← eo) (simp (eq-eqb x m (sym am), eq-eqb y n (sym an), ne_eqb z o (λ e. d (sym e))))

        pub differs_fourth : o ≡ z → (p : ℕ) → p ≡ le 2 (drop 7 b) → eqb p w ≡ same (x ∷ y ∷ z ∷ w ∷ []) (inas_key b)
        unfolding same
        differs_fourth ao p ep =
            rw ((inas_four b f).1, ← em, ← en, ← eo, ← ep)
            (simp (eq-eqb x m (sym am), eq-eqb y n (sym an), eq-eqb z o (sym ao)) (eqb_alone p w))

pub ruleset inas_is_ways = (inas_first, inas_second, inas_third, inas_fourth, differs_first, differs_second, differs_third, differs_fourth)

-- what the reader of the key returns
pub key_made : (b : List ℕ) (x y z w : ℕ) → x ≡ le 1 (drop 0 b) → y ≡ le 4 (drop 1 b) → z ≡ le 2 (drop 5 b) → w ≡ le 2 (drop 7 b) → Information x y z w ≡ inas_key_at b
key_made b x y z w ex ey ez ew = rw (ex, ey, ez, ew)

pub ruleset inas_key_ways = (inas_first, inas_second, inas_third, inas_fourth, key_made)

-- ---- one field

two_new : (x y : ℕ) (b : List ℕ) → same (x ∷ y ∷ []) (inas_key b) ≡ false
unfolding same inas_key
two_new x y b = rw (both_false, both_false)

-- a field with the tag has the format
module _ (b : List ℕ) (tag : ℕ) (f : fits false (record { tag = tag; body = b }) ≡ true) where
  pub inas_filled : tag ≡ 0x494e4153 → fill (head_of (inas_format false b)) (tuple_of (inas_format false b)) b ≡ true
  unfolding fits
  inas_filled e =
      let k : format_of false tag b ≡ inas_format false b = sym (of_inas false tag b (λ z. omega arith) e (inas_format false b) refl) in
      rw k at f

  pub spas_filled : tag ≡ 0x53504153 → fill (head_of Spas) (tuple_of Spas) b ≡ true
  unfolding fits
  spas_filled e =
      let k : format_of false tag b ≡ Spas = sym (of_spas false tag b (λ z. omega arith) (λ z. omega arith) e Spas refl) in
      rw k at f

module _ (b : List ℕ) (tag : ℕ) (key : Key) (f : fits false (record { tag = tag; body = b }) ≡ true) where
  module _ (x y z w : ℕ) (ek : key ≡ Information x y z w) where
    pub other_inas : (tag ≡ 0x494e4153 → ⊥) → eqb tag 0x494e4153 ≡ among (list_of key) (field_keys (record { tag = tag; body = b }))
    unfolding field_keys spas_keys among
    other_inas n = rw ek (simp (ne_eqb tag 0x494e4153 n) (go (eqb tag SPAS)))
      where
        go : (t : Bool) → false ≡ among (x ∷ y ∷ z ∷ w ∷ []) (pick t (each spas_key (many (tuple_of Spas) b)) [])
        go true = sym (four_new x y z w (many (tuple_of Spas) b))
        go false = refl

    pub inas_has : tag ≡ 0x494e4153 → (t : Bool) → t ≡ same (x ∷ y ∷ z ∷ w ∷ []) (inas_key b) → t ≡ among (list_of key) (field_keys (record { tag = tag; body = b }))
    unfolding field_keys among
    inas_has e t et = rw ek (simp (eq-eqb tag 0x494e4153 e, either_false) et)

  module _ (x y : ℕ) (ek : key ≡ Spatial x y) where
    pub other_spas : (tag ≡ 0x53504153 → ⊥) → eqb tag 0x53504153 ≡ among (list_of key) (field_keys (record { tag = tag; body = b }))
    unfolding field_keys among
    other_spas n = rw ek (simp (ne_eqb tag 0x53504153 n) (go (eqb tag INAS)))
      where
        go : (t : Bool) → false ≡ among (x ∷ y ∷ []) (pick t (inas_key b ∷ []) [])
        go true = sym (rw (two_new x y b))
        go false = refl

    pub spas_has : tag ≡ 0x53504153 → (t : Bool) → t ≡ has_from b 0 (length b / 15) x y → t ≡ among (list_of key) (field_keys (record { tag = tag; body = b }))
    unfolding field_keys has_from
    spas_has e t et =
        let n : tag ≡ 0x494e4153 → ⊥ = λ z. omega arith in
        rw ek (simp (ne_eqb tag 0x494e4153 n, eq-eqb tag 0x53504153 e) (et ∙ ap (among (x ∷ y ∷ [])) (spas_all b (spas_filled b tag f e))))

pub ruleset field_has_ways = (inas_filled, spas_filled, other_inas, inas_has, other_spas, spas_has, spas_fits)

-- ---- the loop over n fields: at place q, behind i of them, where the whole comes to A

module _ (r : List ℕ) (h : Shape) (q n i : ℕ) (k : List ℕ) (A : Bool) (inv : seen_from r h q (n - i) k ≡ A) where
  pub seen_none : n ≤ i → false ≡ A
  unfolding seen_from keys_in gather among
  seen_none l = let z : n - i ≡ 0 = omega arith in rw z at inv

  module _ (l : i < n) (e : Option Place) (en : e ≡ place_at r h q) where
    pub seen_done : e ≡ None → false ≡ A
    unfolding seen_from keys_in gather among
    seen_done x = rw (fields_done r h q e en x, take-nil (n - i)) at inv

    module _ (d : Place) (x : e ≡ Some d) where
      one_more : (m : ℕ) → seen_from r h q (suc m) k ≡ either (among k (field_keys (record { tag = d.tag; body = between r d.start d.end }))) (seen_from r h d.next m k)
      unfolding seen_from keys_in gather
      one_more m =
          rw (fields_more r h q e en d x)
          (among_append k (field_keys (record { tag = d.tag; body = between r d.start d.end })) (gather field_keys (take m (fields_at r h d.next))))

      module _ (t : Bool) (et : t ≡ among k (field_keys (record { tag = d.tag; body = between r d.start d.end }))) where
        turn : either t (seen_from r h d.next (n - (i + 1)) k) ≡ A
        turn = let s : n - i ≡ suc (n - (i + 1)) = omega arith in rw et (sym (one_more (n - (i + 1))) ∙ ap (λ (m : ℕ). seen_from r h q m k) (sym s) ∙ inv)

        pub seen_here : t ≡ true → true ≡ A
        seen_here z = rw z at turn

        pub seen_more : t ≡ false → seen_from r h d.next (n - (i + 1)) k ≡ A
        seen_more z = rw z at turn

pub ruleset seen_turn = (seen_none, seen_done, seen_here, seen_more, fit_here, fit_next, step_bounds)
