-- Laws of the formats of fields. Assumes nothing.
use mathlib.Core.Path.{◌≡◌, refl}
use mathlib.Core.Bool.{Bool, true, false, not}
use mathlib.Core.List.{List}
use Prim.Native.Nat.{ℕ, ◌≤◌, ◌<◌}
use borrow.Author.Tests.{eq-eqb, ne_eqb}
use lib.Dec.{ltb}
use lib.ListN.{length, get_or, get_or-eq_default}
use Rattle.std.specs.Prelude.{Result, Ok, Err}
use Rattle.base.specs.Choice.{pick}
use Rattle.base.specs.Lists.{empty}
use Rattle.base.specs.Check.{fault}
use Rattle.base.specs.Verdict.{verdict_of}
use Rattle.fields.specs.Table.{head_of, tuple_of}
use Rattle.fields.specs.Rows.{shape_of}
use Rattle.fields.specs.Content.{tally_field}
use Rattle.fields.specs.declared.Format.{Format}
use Rattle.fields.specs.declared.Format.TheVariants.{Dsid, DsidUpdate, Irid, IridNew, Prid, PridNew, Mrid, MridNew, Frid, FridNew, Foid, Attr, AttrNew, InasNew, InasGone, Spas, SpasNew, Cocc, C2it, C2il}
use Rattle.fields.specs.declared.row.Shape.{Shape}
use Rattle.rules.specs.Content.{insert_only, ident_format, inas_format, format_of, stands}
use Rattle.rules.specs.declared.Kind.{Kind}
use Rattle.rules.specs.declared.Kind.TheVariants.{Info, Point, Multi, Feature}
use Rattle.rules.specs.declared.Mode.{Mode}
use Rattle.rules.specs.declared.Mode.TheVariants.{InDataset, InUpdate}

-- ---- identifiers

module _ (m : Mode) where
  pub only_dataset : m ≡ InDataset → true ≡ insert_only m
  unfolding insert_only
  only_dataset e = rw e

pub only_not : (m : Mode) → (m ≡ InDataset → ⊥) → false ≡ insert_only m
unfolding insert_only
only_not InDataset n = absurd (n refl)
only_not InUpdate n = refl

pub ruleset insert_only_ways = (only_dataset, only_not)

module _ (new : Bool) (k : Kind) where
  module _ (t : new ≡ true) where
    pub info_new : k ≡ Info → IridNew ≡ ident_format new k
    unfolding ident_format
    info_new e = simp (e, t)

    pub point_new : k ≡ Point → PridNew ≡ ident_format new k
    unfolding ident_format
    point_new e = simp (e, t)

    pub multi_new : k ≡ Multi → MridNew ≡ ident_format new k
    unfolding ident_format
    multi_new e = simp (e, t)

    pub feature_new : k ≡ Feature → FridNew ≡ ident_format new k
    unfolding ident_format
    feature_new e = simp (e, t)

  module _ (t : new ≡ false) where
    pub info_any : k ≡ Info → Irid ≡ ident_format new k
    unfolding ident_format
    info_any e = simp (e, t)

    pub point_any : k ≡ Point → Prid ≡ ident_format new k
    unfolding ident_format
    point_any e = simp (e, t)

    pub multi_any : k ≡ Multi → Mrid ≡ ident_format new k
    unfolding ident_format
    multi_any e = simp (e, t)

    pub feature_any : k ≡ Feature → Frid ≡ ident_format new k
    unfolding ident_format
    feature_any e = simp (e, t)

pub ruleset ident_format_ways = (info_new, point_new, multi_new, feature_new, info_any, point_any, multi_any, feature_any)

-- ---- other fields

module _ (new : Bool) (b : List ℕ) where
  pub inas_new : new ≡ true → InasNew ≡ inas_format new b
  unfolding inas_format
  inas_new e = simp e

  module _ (t : new ≡ false) where
    pub inas_short : length b ≤ 9 → InasNew ≡ inas_format new b
    unfolding inas_format
    inas_short h = simp (t, get_or-eq_default b 0 h)

    module _ (h : 9 < length b) where
      pub inas_gone : get_or b 9 0 ≡ 2 → InasGone ≡ inas_format new b
      unfolding inas_format
      inas_gone e = simp (t, eq-eqb (get_or b 9 0) 2 e)

      pub inas_there : (get_or b 9 0 ≡ 2 → ⊥) → InasNew ≡ inas_format new b
      unfolding inas_format
      inas_there n = simp (t, ne_eqb (get_or b 9 0) 2 n)

pub ruleset inas_format_ways = (inas_new, inas_short, inas_gone, inas_there)

module _ (new : Bool) (t : ℕ) (b : List ℕ) where
  pub of_attr : t ≡ 0x41545452 → (f : Format) → f ≡ pick new AttrNew Attr → f ≡ format_of new t b
  unfolding format_of
  of_attr e f x = rw e x

  pub at_inas : t ≡ 0x494e4153 → (f : Format) → f ≡ inas_format new b → f ≡ format_of new t b
  unfolding format_of
  at_inas e f x = rw e x

  module _ (n : new ≡ true) where
    pub attr_new : t ≡ 0x41545452 → AttrNew ≡ format_of new t b
    unfolding format_of
    attr_new e = rw (e, n)

    pub spas_new : t ≡ 0x53504153 → SpasNew ≡ format_of new t b
    unfolding format_of
    spas_new e = rw (e, n)

  module _ (n : new ≡ false) where
    pub attr_any : t ≡ 0x41545452 → Attr ≡ format_of new t b
    unfolding format_of
    attr_any e = rw (e, n)

    pub spas_any : t ≡ 0x53504153 → Spas ≡ format_of new t b
    unfolding format_of
    spas_any e = rw (e, n)

  pub of_foid : t ≡ 0x464f4944 → Foid ≡ format_of new t b
  unfolding format_of
  of_foid e = rw e

  pub of_cocc : t ≡ 0x434f4343 → Cocc ≡ format_of new t b
  unfolding format_of
  of_cocc e = rw e

  pub of_c2it : t ≡ 0x43324954 → C2it ≡ format_of new t b
  unfolding format_of
  of_c2it e = rw e

  module _ (n1 : t ≡ 0x41545452 → ⊥) where
    pub of_inas : t ≡ 0x494e4153 → (f : Format) → f ≡ inas_format new b → f ≡ format_of new t b
    of_inas = at_inas

    module _ (n2 : t ≡ 0x494e4153 → ⊥) where
      pub of_spas : t ≡ 0x53504153 → (f : Format) → f ≡ pick new SpasNew Spas → f ≡ format_of new t b
      unfolding format_of
      of_spas e f x = rw e x

      pub of_c2il : (t ≡ 0x53504153 → ⊥) → (t ≡ 0x464f4944 → ⊥) → (t ≡ 0x434f4343 → ⊥) → (t ≡ 0x43324954 → ⊥) → C2il ≡ format_of new t b
      unfolding format_of
      of_c2il n3 n4 n5 n6 =
          simp (ne_eqb t 0x41545452 n1, ne_eqb t 0x494e4153 n2, ne_eqb t 0x53504153 n3, ne_eqb t 0x464f4944 n4, ne_eqb t 0x434f4343 n5, ne_eqb t 0x43324954 n6)

pub ruleset format_ways = (attr_new, attr_any, at_inas, spas_new, spas_any, of_foid, of_cocc, of_c2it, of_c2il)

-- ---- a field of a format

-- a format has tuples where it has rows of them
tupled : (f : Format) → ltb (shape_of f).1 (shape_of f).2 ≡ not (empty (tuple_of f))
unfolding tuple_of empty
tupled Dsid = refl
tupled DsidUpdate = refl
tupled Irid = refl
tupled IridNew = refl
tupled Prid = refl
tupled PridNew = refl
tupled Mrid = refl
tupled MridNew = refl
tupled Frid = refl
tupled FridNew = refl
tupled Foid = refl
tupled Attr = refl
tupled AttrNew = refl
tupled InasNew = refl
tupled InasGone = refl
tupled Spas = refl
tupled SpasNew = refl
tupled Cocc = refl
tupled C2it = refl
tupled C2il = refl

pub has_tuples : (f : Format) (s : Shape) → s ≡ shape_of f → ltb s.1 s.2 ≡ not (empty (tuple_of f))
has_tuples f s e = rw e (tupled f)

module _ (i : ℕ) (f : Format) (b : List ℕ) (y : Result ℕ ℕ) (e : y ≡ tally_field (head_of f) (tuple_of f) b) where
  pub format_whole : (n : ℕ) → y ≡ Ok n → Ok tt ≡ verdict_of (stands i f b)
  unfolding verdict_of stands
  format_whole n x = simp (← e, x)

  module _ (j : ℕ) (x : y ≡ Err j) (t : Bool) (et : t ≡ not (empty (tuple_of f))) where
    pub format_tuple : t ≡ true → Err (fault 5 i j) ≡ verdict_of (stands i f b)
    unfolding verdict_of stands
    format_tuple z = simp (← e, x, ← et, z)

    pub format_head : t ≡ false → Err (fault 5 i 0) ≡ verdict_of (stands i f b)
    unfolding verdict_of stands
    format_head z = simp (← e, x, ← et, z)

pub ruleset has_format_ways = (format_whole, format_tuple, format_head)
