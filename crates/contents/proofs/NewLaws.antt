-- A key behind earlier ones: what says that it is new. Assumes nothing.
use mathlib.Core.Path.{◌≡◌, refl, sym, ap, ◌∙◌}
use mathlib.Core.Bool.{Bool, true, false, not}
use mathlib.Core.List.{List, [], ◌∷◌, ◌++◌}
use Prim.Native.Nat.{ℕ, ◌+◌, ◌*◌, ◌<◌}
use native.Mathlib.Omega.{arith}
use borrow.Author.Tests.{le-ltb}
use lib.Dec.{eqb}
use lib.ListN.{take}
use Rattle.std.specs.Prelude.{Ok, Err}
use Rattle.base.specs.Choice.{pick, either}
use Rattle.base.specs.Check.{bind}
use Rattle.base.specs.Keys.{among}
use Rattle.base.specs.Lists.{empty, each, gather}
use Rattle.base.proofs.ChoiceLaws.{either_false, either_true}
use Rattle.fields.specs.Table.{head_of, tuple_of}
use Rattle.fields.specs.Content.{fill, many}
use Rattle.fields.specs.declared.Format.TheVariants.{Spas}
use Rattle.skeleton.specs.File.{Field}
use Rattle.skeleton.specs.Place.{fields_at}
use Rattle.skeleton.specs.declared.directory.Shape.{Shape}
use Rattle.rules.specs.Tags.{INAS, SPAS}
use Rattle.rules.specs.ByTag.{with_tag, has}
use Rattle.rules.specs.Content.{inas_format}
use Rattle.rules.specs.Associations.{inas_key, spas_key, keys_once, spas_keys, field_keys}
use Rattle.contents.specs.Keys.{list_of, inas_key_at, keys_in, has_from, seen_from, seen_before, top_with, said_by, inas_once}
use Rattle.contents.specs.declared.earlier.Key.{Key}
use Rattle.contents.proofs.KeyLaws.{among_append, above_new, four_new}
use Rattle.contents.proofs.EarlierLaws.{inas_listed}

-- ---- a key that is new

-- what is seen before j tuples
before_among : (r : List ℕ) (h : Shape) (p n : ℕ) (b : List ℕ) (j : ℕ) (k : List ℕ)
    → among k (seen_before r h p n b j) ≡ either (seen_from r h p n k) (among k (take j (spas_keys b)))
unfolding seen_before seen_from
before_among r h p n b j k = among_append k (keys_in (take n (fields_at r h p))) (take j (spas_keys b))

pub not_not : (a t : Bool) → not (not a) ≡ t → a ≡ t
not_not true t e = e
not_not false t e = e

module _ (r : List ℕ) (h : Shape) (p n : ℕ) (b : List ℕ) (j x y : ℕ) where
  pub new_above : (top : ℕ) → top ≡ top_with 0 (seen_before r h p n b j) → (v : ℕ) → v ≡ x * 4294967296 + y → top < v
      → true ≡ not (among (x ∷ y ∷ []) (seen_before r h p n b j))
  new_above top et v ev l =
      let g : top_with 0 (seen_before r h p n b j) < x * 4294967296 + y = omega arith in
      rw (above_new (seen_before r h p n b j) 0 x y g)

  module _ (t : Bool) (et : t ≡ has_from b 0 j x y) where
    pub new_tuple : t ≡ true → false ≡ not (among (x ∷ y ∷ []) (seen_before r h p n b j))
    unfolding has_from
    new_tuple z =
        let w : among (x ∷ y ∷ []) (take j (spas_keys b)) ≡ true = sym et ∙ z in
        rw (before_among r h p n b j (x ∷ y ∷ []), w, either_true)

    pub new_field : t ≡ false → (s : Bool) → s ≡ seen_from r h p n (x ∷ y ∷ []) → not s ≡ not (among (x ∷ y ∷ []) (seen_before r h p n b j))
    unfolding has_from
    new_field z s es =
        let w : among (x ∷ y ∷ []) (take j (spas_keys b)) ≡ false = sym et ∙ z in
        rw (before_among r h p n b j (x ∷ y ∷ []), w, either_false, ← es)

pub ruleset new_ways = (new_above, new_tuple, new_field)

-- ---- an INAS

-- so it is among the keys of no field but an INAS
never_other : (x y z w : ℕ) (f : Field) → eqb f.tag INAS ≡ false → among (x ∷ y ∷ z ∷ w ∷ []) (field_keys f) ≡ false
unfolding field_keys spas_keys among
never_other x y z w f e = rw e (go (eqb f.tag SPAS))
  where
    go : (s : Bool) → among (x ∷ y ∷ z ∷ w ∷ []) (pick s (each spas_key (many (tuple_of Spas) f.body)) []) ≡ false
    go true = four_new x y z w (many (tuple_of Spas) f.body)
    go false = refl

-- nor of fields without one
never_inas : (x y z w : ℕ) (fs : List Field) → has INAS fs ≡ false → among (x ∷ y ∷ z ∷ w ∷ []) (keys_in fs) ≡ false
unfolding has with_tag empty keys_in gather among
never_inas x y z w [] e = refl
never_inas x y z w (f ∷ fs) e = go (eqb f.tag INAS) refl e (never_inas x y z w fs)
  where
    go : (t : Bool) → eqb f.tag INAS ≡ t → not (empty (pick t (f ∷ with_tag INAS fs) (with_tag INAS fs))) ≡ false → (not (empty (with_tag INAS fs)) ≡ false → among (x ∷ y ∷ z ∷ w ∷ []) (gather field_keys fs) ≡ false)
        → among (x ∷ y ∷ z ∷ w ∷ []) (field_keys f ++ gather field_keys fs) ≡ false
    go true ft et later = absurd (let u : ◌≡◌ {A = ℕ} 0 1 = cc in omega arith)
    go false ft et later = among_append (x ∷ y ∷ z ∷ w ∷ []) (field_keys f) (gather field_keys fs) ∙ (rw (never_other x y z w f ft) (later et))

module _ (r : List ℕ) (h : Shape) (p n : ℕ) (b : List ℕ) (top : ℕ) where
  inas_new : among (inas_key b) (keys_in (take n (fields_at r h p))) ≡ false → said_by (n + 2) (Ok top) ≡ inas_once r h p n b top
  unfolding said_by bind inas_once keys_once top_with inas_key
  inas_new z = rw z (simp (le-ltb top 0 (omega arith)))

  -- the first
  pub inas_first_one : (t : Bool) → t ≡ has INAS (take n (fields_at r h p)) → t ≡ false → said_by (n + 2) (Ok top) ≡ inas_once r h p n b top
  unfolding inas_key
  inas_first_one t et z = inas_new (never_inas _ _ _ _ (take n (fields_at r h p)) (sym et ∙ z))

  module _ (f : fill (head_of (inas_format false b)) (tuple_of (inas_format false b)) b ≡ true)
      (key : Key) (ek : key ≡ inas_key_at b) (t : Bool) (et : t ≡ seen_from r h p n (list_of key)) where
    seen : among (inas_key b) (keys_in (take n (fields_at r h p))) ≡ t
    unfolding seen_from
    seen = sym (et ∙ ap (λ (k : Key). among (list_of k) (keys_in (take n (fields_at r h p)))) ek ∙ ap (λ (k : List ℕ). among k (keys_in (take n (fields_at r h p)))) (inas_listed b f))

    pub inas_twice : t ≡ true → said_by (n + 2) (Err 0) ≡ inas_once r h p n b top
    unfolding said_by bind inas_once keys_once
    inas_twice z = rw (seen, z)

    pub inas_fresh : t ≡ false → said_by (n + 2) (Ok top) ≡ inas_once r h p n b top
    inas_fresh z = inas_new (seen ∙ z)

pub ruleset inas_once_ways = (inas_first_one, inas_twice, inas_fresh)

-- ---- an INAS noticed on the way

-- the last of some fields
pub has_last : (t : ℕ) (fs : List Field) (f : Field) → has t (fs ++ (f ∷ [])) ≡ either (has t fs) (eqb f.tag t)
unfolding has with_tag empty
has_last t [] f = go (eqb f.tag t)
  where
    go : (b : Bool) → not (empty (pick b (f ∷ []) [])) ≡ b
    go true = refl
    go false = refl
has_last t (g ∷ fs) f = go (eqb g.tag t) (has_last t fs f)
  where
    go : (b : Bool) → not (empty (with_tag t (fs ++ (f ∷ [])))) ≡ either (not (empty (with_tag t fs))) (eqb f.tag t)
        → not (empty (pick b (g ∷ with_tag t (fs ++ (f ∷ []))) (with_tag t (fs ++ (f ∷ []))))) ≡ either (not (empty (pick b (g ∷ with_tag t fs) (with_tag t fs)))) (eqb f.tag t)
    go true e = refl
    go false e = e
