-- Laws of what a record's line counts. Assumes nothing.
use mathlib.Core.Path.{◌≡◌, refl, sym, ap, ◌∙◌}
use mathlib.Core.Bool.{Bool, true, false}
use mathlib.Core.List.{List, [], ◌∷◌}
use mathlib.Core.Logic.{◌⊎◌, inl, inr}
use Prim.Native.Nat.{ℕ, ◌+◌, ◌-◌, ◌*◌, ◌/◌, ◌^◌, ◌≤◌, ◌<◌}
use native.Mathlib.Omega.{arith}
use borrow.Author.Tests.{eq-eqb, ne_eqb}
use lib.Dec.{eqb}
use lib.ListN.{length, get_or}
use Rattle.std.specs.Prelude.{Option, Some, None, Result, Ok, Err}
use Rattle.std.specs.Result.{result_unwrap_or}
use Rattle.base.specs.Choice.{pick}
use Rattle.base.specs.Lists.{empty, each}
use Rattle.base.specs.Walk.{steps, walk}
use Rattle.fields.specs.Table.{head_of, tuple_of}
use Rattle.fields.specs.Sizes.{sizes}
use Rattle.fields.specs.Content.{tuple_step, tuples, tally, tally_field}
use Rattle.fields.specs.declared.Format.TheVariants.{AttrNew}
use Rattle.skeleton.specs.File.{Field}
use Rattle.skeleton.specs.Place.{between, place_at, fields_at, find_from, from_tag}
use Rattle.skeleton.specs.declared.directory.Shape.{Shape}
use Rattle.skeleton.specs.declared.place.Place.{Place}
use Rattle.skeleton.proofs.PlaceLaws.{fields_more, fields_done, place_runs, place_in_lem, place_falls, held}
use Rattle.skeleton.proofs.FindLaws.{found_none, found_first, found_runs, found_in}
use Rattle.skeleton.proofs.BetweenLaws.{length_between}
use Rattle.rules.specs.Tags.{ATTR}
use Rattle.rules.specs.ByTag.{with_tag, bodies}
use Rattle.rules.specs.Coordinates.{is_coordinates}
use Rattle.listing.specs.Said.{whole, entries_of, entries_in, tuples_of, tuples_in}

-- ---- entries of an ATTR

pub entries_counted : (b : List ℕ) (t : Result ℕ ℕ) → t ≡ tally_field (head_of AttrNew) (tuple_of AttrNew) b → result_unwrap_or t 0 ≡ entries_of b
unfolding entries_of
entries_counted b t et = or_none t ∙ ap whole et
  where
    or_none : (r : Result ℕ ℕ) → result_unwrap_or r 0 ≡ whole r
    or_none (Ok n) = refl
    or_none (Err j) = refl

-- of none there are none
pub entries_none : entries_of [] ≡ 0
unfolding entries_of head_of tuple_of tally_field sizes tally tuples tuple_step walk steps empty
entries_none = refl

-- the first field with a tag, found by a walk or by a search
first_body : (t : ℕ) (fs : List Field) → get_or (bodies t fs) 0 [] ≡ get_or (each (λ (f : Field). f.body) (from_tag t fs)) 0 []
unfolding bodies with_tag from_tag each
first_body t [] = refl
first_body t (f ∷ fs) = go (eqb f.tag t) (first_body t fs)
  where
    go : (b : Bool) → get_or (each (λ (g : Field). g.body) (with_tag t fs)) 0 [] ≡ get_or (each (λ (g : Field). g.body) (from_tag t fs)) 0 []
        → get_or (each (λ (g : Field). g.body) (pick b (f ∷ with_tag t fs) (with_tag t fs))) 0 [] ≡ get_or (each (λ (g : Field). g.body) (pick b (f ∷ fs) (from_tag t fs))) 0 []
    go true e = refl
    go false e = e

module _ (r : List ℕ) (h : Shape) (e : Option Place) (en : e ≡ find_from r h 0x41545452 24) where
  pub entries_lack : e ≡ None → 0 ≡ entries_in (fields_at r h 24)
  unfolding entries_in each
  entries_lack x = rw (first_body ATTR (fields_at r h 24), found_none r h ATTR 24 e en x) (sym entries_none)

  module _ (field : Place) (x : e ≡ Some field) where
    pub entries_there : (n : ℕ) → n ≡ entries_of (between r field.start field.end) → n ≡ entries_in (fields_at r h 24)
    unfolding entries_in each
    entries_there n y = rw (first_body ATTR (fields_at r h 24), found_first r h ATTR 24 e en field x) y

pub ruleset entries_ways = (entries_lack, entries_there, found_runs, found_in)

-- ---- coordinate tuples

module _ (t n : ℕ) where
  tuples_point : t ≡ 0x43324954 → n / 8 ≡ tuples_of t n
  unfolding tuples_of is_coordinates
  tuples_point e = simp (eq-eqb t 0x43324954 e)

  tuples_list : (t ≡ 0x43324954 → ⊥) → t ≡ 0x4332494c → n / 8 ≡ tuples_of t n
  unfolding tuples_of is_coordinates
  tuples_list m e = simp (ne_eqb t 0x43324954 m, eq-eqb t 0x4332494c e)

  pub tuples_some : (t ≡ 0x43324954) ⊎ ((t ≡ 0x43324954 → ⊥) × (t ≡ 0x4332494c)) → n / 8 ≡ tuples_of t n
  tuples_some (inl e) = tuples_point e
  tuples_some (inr e) = tuples_list e.0 e.1

  pub tuples_other : (t ≡ 0x43324954 → ⊥) → (t ≡ 0x4332494c → ⊥) → 0 ≡ tuples_of t n
  unfolding tuples_of is_coordinates
  tuples_other m e = simp (ne_eqb t 0x43324954 m, ne_eqb t 0x4332494c e)

pub ruleset tuples_of_ways = (tuples_some, tuples_other)

tuples_most : (t n : ℕ) → tuples_of t n ≤ n
unfolding tuples_of
tuples_most t n = go (is_coordinates t)
  where
    go : (b : Bool) → pick b (n / 8) 0 ≤ n
    go true = omega arith
    go false = omega arith

-- the loop over the fields: n tuples stand before the field at q
pub record CountedTo (r : List ℕ) (h : Shape) (q n : ℕ) : Type 0 where
  pub sum : n + tuples_in (fields_at r h q) ≡ tuples_in (fields_at r h 24)
  pub small : n ≤ 65536 * q
  pub inside : q ≤ length r + 24

pub counted_first : (r : List ℕ) (h : Shape) → CountedTo r h 24 0
counted_first r h = record { sum = omega arith; small = omega arith; inside = omega arith }

module _ (r : List ℕ) (h : Shape) (q n : ℕ) (inv : CountedTo r h q n) (e : Option Place) (en : e ≡ place_at r h q) where
  pub counted_over : e ≡ None → n ≡ tuples_in (fields_at r h 24)
  unfolding tuples_in
  counted_over x = let z : tuples_in (fields_at r h q) ≡ 0 = ap tuples_in (fields_done r h q e en x) in omega (arith, inv.sum)

  module _ (field : Place) (x : e ≡ Some field) (m : ℕ) (em : m ≡ tuples_of field.tag (field.end - field.start)) (g : length r ≤ 65536) where
    runs : field.start ≤ field.end
    runs = place_runs r h q e en field x

    ends : field.end ≤ length r
    ends = place_in_lem r h q e en field x

    most : m ≤ 65536
    most = let k = tuples_most field.tag (field.end - field.start) in let i = ends in omega arith

    pub counted_word : n + m < 2 ^ 64
    counted_word = let a = most in let b = inv.small in let c = inv.inside in omega arith

    pub counted_next : CountedTo r h field.next (n + m)
    unfolding tuples_in
    counted_next =
        let l = length_between r field.start field.end ends in
        let s : tuples_in (fields_at r h q) ≡ m + tuples_in (fields_at r h field.next) =
        ap tuples_in (fields_more r h q e en field x) ∙ ap (λ (k : ℕ). tuples_of field.tag k + tuples_in (fields_at r h field.next)) l ∙ ap (λ (k : ℕ). k + tuples_in (fields_at r h field.next)) (sym em) in
        let k = held r h q e en field x in
        let a = most in let b = inv.small in
        record { sum = omega (arith, inv.sum); small = omega (arith, k.next_is); inside = omega (arith, k.next_in) }

pub ruleset tuples_turn = (counted_first, counted_over, counted_word, counted_next, place_falls, place_runs, place_in_lem, arith)
