-- Laws of fields found by their tags. Assumes nothing.
use mathlib.Core.Path.{◌≡◌, refl, sym, ◌∙◌}
use mathlib.Core.Bool.{Bool, true, false}
use mathlib.Core.List.{List, [], ◌∷◌}
use Rattle.std.specs.Prelude.{Option, Some, None}
use Prim.Native.Nat.{ℕ, ◌+◌, ◌-◌, ◌≤◌, ◌<◌}
use native.Mathlib.Omega.{arith}
use native.Mathlib.Nat.{add-zero}
use borrow.Author.Tests.{eq-eqb, ne_eqb}
use lib.ListN.{length, get_or, drop, length-take, get_or-eq_default}
use lib.Seq.{get_or-take, get_or-drop}
use Rattle.base.specs.Lists.{each, empty}
use Rattle.skeleton.specs.Directory.{tag_at}
use Rattle.skeleton.specs.Place.{between, at_place, place_at, fields_at, find_from}
use Rattle.skeleton.specs.RightFrom.{RightFrom}
use Rattle.skeleton.specs.declared.directory.Shape.{Shape}
use Rattle.skeleton.specs.declared.place.Place.{Place}
use Rattle.skeleton.proofs.PlaceLaws.{fields_more, fields_done}
use Rattle.skeleton.proofs.RightLaws.{Next, right_next, right_done, right_in, right_tag, right_on, right_word, right_falls}
use Rattle.skeleton.proofs.FindLaws.{found_none, found_first, found_tag, found_in}
use Rattle.rules.specs.ByTag.{with_tag, has, bodies}
use Rattle.rules.specs.Grammar.{coui_byte}
use Rattle.rules.proofs.ByTagLaws.{with_from}

-- ---- a byte of a part

-- byte i of the bytes from start up to end
module _ (r : List ℕ) (start end i : ℕ) where
  pub part_byte : i < end - start → get_or (between r start end) i 0 ≡ get_or r (start + i) 0
  part_byte h = get_or-take (end - start) (drop start r) i 0 h ∙ get_or-drop start r i 0

  pub part_past : end - start ≤ i → get_or (between r start end) i 0 ≡ 0
  part_past h =
      let l : length (between r start end) ≤ i = simp length-take (omega arith) in
      get_or-eq_default (between r start end) 0 l

-- ---- the first field with a tag

module _ (r : List ℕ) (h : Shape) (t p : ℕ) (e : Option Place) (en : e ≡ find_from r h t p) where
  pub with_none : e ≡ None → with_tag t (fields_at r h p) ≡ []
  unfolding with_tag
  with_none x = with_from t (fields_at r h p) ∙ rw (found_none r h t p e en x)

  module _ (d : Place) (x : e ≡ Some d) where
    pub with_first : with_tag t (fields_at r h p) ≡ record { tag = d.tag; body = between r d.start d.end } ∷ with_tag t (fields_at r h d.next)
    unfolding with_tag
    with_first =
        with_from t (fields_at r h p)
        ∙ rw (found_first r h t p e en d x) (simp (eq-eqb d.tag t (found_tag r h t p e en d x)))

-- ---- a tag in a directory that is right: from q on, where the whole comes to A

module _ (r : List ℕ) (h : Shape) (t q : ℕ) (k : RightFrom r h q) (A : Bool) (inv : has t (fields_at r h q) ≡ A) where
  pub has_end : get_or r q 0 ≡ 30 → false ≡ A
  unfolding has with_tag empty
  has_end y = rw (fields_done r h q None (right_done r h q k y) refl) at inv

  module _ (o : get_or r q 0 ≡ 30 → ⊥) where
    next : Next r h q
    next = right_next r h q k o

    module _ (tag : ℕ) (et : tag ≡ tag_at r q) where
      here : at_place tag next.start next.end (q + (4 + h.a + h.b)) ≡ place_at r h q
      here = rw et next.place

      pub has_here : tag ≡ t → true ≡ A
      unfolding has with_tag empty
      has_here z = simp (eq-eqb tag t z) at (rw (fields_more r h q _ here _ refl) at inv)

      pub has_on : (tag ≡ t → ⊥) → has t (fields_at r h (q + (4 + h.a + h.b))) ≡ A
      unfolding has with_tag
      has_on z = simp (ne_eqb tag t z) at (rw (fields_more r h q _ here _ refl) at inv)

pub ruleset has_turn = (has_end, has_here, has_on, right_in, right_tag, right_on, right_word, right_falls)

-- ---- COUI

module _ (r : List ℕ) (h : Shape) (p : ℕ) (e : Option Place) (en : e ≡ find_from r h 0x434f4343 p) where
  pub coui_none : e ≡ None → 0 ≡ coui_byte (fields_at r h p)
  unfolding coui_byte bodies each
  coui_none x = rw (with_none r h 0x434f4343 p e en x)

  module _ (d : Place) (x : e ≡ Some d) where
    coui_is : coui_byte (fields_at r h p) ≡ get_or (between r d.start d.end) 0 0
    unfolding coui_byte bodies each
    coui_is = rw (with_first r h 0x434f4343 p e en d x)

    pub coui_byte_lem : d.start < d.end → get_or r d.start 0 ≡ coui_byte (fields_at r h p)
    coui_byte_lem l = sym (coui_is ∙ part_byte r d.start d.end 0 (omega arith) ∙ simp add-zero)

    pub coui_empty : d.end ≤ d.start → 0 ≡ coui_byte (fields_at r h p)
    coui_empty l = sym (coui_is ∙ part_past r d.start d.end 0 (omega arith))

    pub coui_in : d.start < d.end → d.start < length r
    coui_in l = let i = found_in r h 0x434f4343 p e en d x in omega arith

pub ruleset coui_ways = (coui_none, coui_byte_lem, coui_empty, coui_in)
