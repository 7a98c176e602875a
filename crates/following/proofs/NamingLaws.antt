-- Laws of number 8. Assumes nothing.
use mathlib.Core.Path.{◌≡◌, refl, sym, ◌∙◌, ap, ap₂}
use mathlib.Core.Bool.{Bool, true, false, not}
use mathlib.Core.List.{List, [], ◌∷◌}
use Prim.Native.Nat.{ℕ, ◌+◌, ◌-◌, ◌≤◌, ◌<◌}
use native.Mathlib.Omega.{arith}
use borrow.Author.Tests.{eq-eqb, ne_eqb, not-true, not-false, eqb-true, eqb-false}
use lib.Dec.{eqb}
use lib.Pointwise.{pointwise}
use lib.ListN.{length, take, drop}
use Rattle.std.specs.Prelude.{◌&&◌, Option, Some, None}
use Rattle.std.specs.Option.{unwrap_or}
use Rattle.base.specs.Choice.{pick, both}
use Rattle.base.specs.Check.{no, fault, pass}
use Rattle.base.specs.Keys.{same}
use Rattle.fields.specs.Bytes.{le, run}
use Rattle.fields.specs.Table.{head_of, tuple_of}
use Rattle.fields.specs.Values.{values, num_at, text_at}
use Rattle.fields.specs.Places.{head_place}
use Rattle.fields.specs.declared.Format.TheVariants.{Dsid}
use Rattle.fields.proofs.ValueLaws.{is_number, place_found, placed_number, placed_text}
use Rattle.skeleton.specs.Place.{between, place_at, fields_at}
use Rattle.skeleton.specs.declared.directory.Shape.{Shape}
use Rattle.skeleton.specs.declared.place.Place.{Place}
use Rattle.skeleton.proofs.PlaceLaws.{fields_more, place_runs, place_in_lem}
use Rattle.rules.specs.ByTag.{front}
use Rattle.rules.specs.General.{general_record, dsid_of, name_of, edition_of, number_of, number8}
use Rattle.rules.specs.declared.Mode.TheVariants.{InDataset, InUpdate}
use Rattle.following.specs.Naming.{Identified, dsid_follows}
use Rattle.following.proofs.PassedLaws.{identified, never_none}

-- ---- `same_bytes`

pub same_is : (xs ys : List ℕ) → pointwise eqb xs ys ≡ same xs ys
unfolding same
same_is [] [] = refl
same_is [] (y ∷ ys) = refl
same_is (x ∷ xs) [] = refl
same_is (x ∷ xs) (y ∷ ys) = go (eqb x y) (same_is xs ys)
  where
    go : (t : Bool) → pointwise eqb xs ys ≡ same xs ys → (t && pointwise eqb xs ys) ≡ both t (same xs ys)
    go true ih = ih
    go false ih = refl

-- ---- where the subfields of DSID stand

module _ (b : List ℕ) (j : ℕ) (g : Identified b) where
  pub found_place : j < 11 → (r : Option ℕ) → r ≡ head_place (head_of Dsid) j b → (p : ℕ) → p ≡ unwrap_or r 0 → Some p ≡ head_place (head_of Dsid) j b
  unfolding head_of
  found_place h (Some q) er p e = ap (λ (n : ℕ). Some n) e ∙ er
  found_place h None er p e = absurd (place_found (head_of Dsid) (tuple_of Dsid) b g j None er h refl)

  module _ (p : ℕ) (ep : Some p ≡ head_place (head_of Dsid) j b) where
    two_bytes : 8 ≤ j → j ≤ 9 → is_number (head_of Dsid) j 2 ≡ true
    unfolding head_of
    two_bytes l m = go (eqb j 8) refl
      where
        go : (t : Bool) → eqb j 8 ≡ t → is_number (head_of Dsid) j 2 ≡ true
        go true e = rw (eqb-true j 8 e)
        go false e = let n = eqb-false j 8 e in let z : j ≡ 9 = omega arith in rw z

    number_there : 8 ≤ j → j ≤ 9 → (p + 2 ≤ length b) × (num_at (values (head_of Dsid) b) j ≡ le 2 (drop p b))
    number_there l m = placed_number (head_of Dsid) (tuple_of Dsid) b g j (Some p) ep p 2 (two_bytes l m) refl

    pub number_room : 8 ≤ j → j ≤ 9 → p + 2 ≤ length b
    number_room l m = (number_there l m).0

    pub number_is : 8 ≤ j → j ≤ 9 → (n : ℕ) → n ≡ le 2 (drop p b) → n ≡ num_at (values (head_of Dsid) b) j
    number_is l m n e = e ∙ sym (number_there l m).1

pub ruleset number_ways = (number_room, number_is, arith)

module _ (b : List ℕ) (g : Identified b) (p : ℕ) (ep : Some p ≡ head_place (head_of Dsid) 7 b) where
  text_there : (p + run (drop p b) < length b) × (text_at (values (head_of Dsid) b) 7 ≡ take (run (drop p b)) (drop p b))
  unfolding head_of
  text_there = placed_text (head_of Dsid) (tuple_of Dsid) b g 7 (Some p) ep p refl refl

  pub name_in : p ≤ length b
  name_in = let t = text_there.0 in omega arith

  module _ (m : ℕ) (em : m ≡ p + run (drop p b)) where
    pub name_runs : p ≤ m
    name_runs = omega arith

    pub name_ends : m ≤ length b
    name_ends = let t = text_there.0 in omega arith

    pub name_is : between b p m ≡ text_at (values (head_of Dsid) b) 7
    name_is = let z : m - p ≡ run (drop p b) = omega arith in ap (λ (k : ℕ). take k (drop p b)) z ∙ sym text_there.1

pub names_same : (a b : List ℕ) (ga : Identified a) (gb : Identified b) (p q : ℕ) (ep : Some p ≡ head_place (head_of Dsid) 7 a) (eq : Some q ≡ head_place (head_of Dsid) 7 b)
    (m n : ℕ) (em : m ≡ p + run (drop p a)) (en : n ≡ q + run (drop q b)) (r : Bool) → r ≡ same (between a p m) (between b q n)
    → r ≡ same (text_at (values (head_of Dsid) a) 7) (text_at (values (head_of Dsid) b) 7)
names_same a b ga gb p q ep eq m n em en r e = e ∙ ap₂ same (name_is a ga p ep m em) (name_is b gb q eq n en)

pub ruleset name_ways = (name_in, name_runs, name_ends, names_same, arith)

-- ---- `dsid_follows`

module _ (a b : List ℕ) (t : Bool) (et : t ≡ same (text_at (values (head_of Dsid) b) 7) (text_at (values (head_of Dsid) a) 7)) where
  pub other_name : not t ≡ true → false ≡ dsid_follows a b
  unfolding dsid_follows
  other_name x = rw (← et, not-true t x)

  module _ (x : not t ≡ false) (y z : ℕ) (ey : y ≡ num_at (values (head_of Dsid) b) 8) (ez : z ≡ num_at (values (head_of Dsid) a) 8) where
    pub other_edition : (y ≡ z → ⊥) → false ≡ dsid_follows a b
    unfolding dsid_follows
    other_edition n = rw (← et, not-false t x, ← ey, ← ez) (simp (ne_eqb y z n))

    pub number_next : y ≡ z → (m n : ℕ) → m ≡ num_at (values (head_of Dsid) a) 9 → n ≡ num_at (values (head_of Dsid) b) 9 → eqb n (m + 1) ≡ dsid_follows a b
    unfolding dsid_follows
    number_next e m n em en = rw (← et, not-false t x, ← ey, ← ez, ← em, ← en) (simp (eq-eqb y z e))

pub ruleset dsid_ways = (other_name, other_edition, number_next, arith)

-- ---- `follows`

module _ (old : List ℕ) (ho : Shape) (new : List ℕ) (hn : Shape) (go : general_record InDataset (fields_at old ho 24) ≡ pass)
    (gn : general_record InUpdate (fields_at new hn 24) ≡ pass) (d : Option Place) (ed : d ≡ place_at old ho 24) where
  pub old_none : d ≡ None → number8 (fields_at old ho 24) (fields_at new hn 24) ≡ pick false pass (no (fault 8 1 0))
  old_none x = never_none InDataset old ho d ed go x

  module _ (i : Place) (x : d ≡ Some i) where
    pub old_dsid : Identified (between old i.start i.end)
    old_dsid = identified InDataset old ho d ed go i x

    module _ (e : Option Place) (ee : e ≡ place_at new hn 24) where
      pub new_none : e ≡ None → number8 (fields_at old ho 24) (fields_at new hn 24) ≡ pick false pass (no (fault 8 1 0))
      new_none y = never_none InUpdate new hn e ee gn y

      module _ (k : Place) (y : e ≡ Some k) where
        pub new_dsid : Identified (between new k.start k.end)
        new_dsid = identified InUpdate new hn e ee gn k y

        pub eight : (r : Bool) → r ≡ dsid_follows (between old i.start i.end) (between new k.start k.end)
            → number8 (fields_at old ho 24) (fields_at new hn 24) ≡ pick r pass (no (fault 8 1 0))
        unfolding number8 name_of edition_of number_of dsid_of front dsid_follows
        eight r er = rw (fields_more old ho 24 d ed i x, fields_more new hn 24 e ee k y, er)

pub ruleset follows_ways = (old_none, old_dsid, new_none, new_dsid, eight, place_runs, place_in_lem)
