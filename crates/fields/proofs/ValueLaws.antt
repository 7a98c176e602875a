-- One value of a field where it stands: numbers and texts behind numbers alone have constant places, the others the place that a walk over the
-- head gives. Assumes nothing.
use Prim.Native.Nat.{ℕ, zero, suc, ◌+◌, ◌-◌, ◌≤◌, ◌<◌}
use mathlib.Core.Path.{◌≡◌, refl, sym, ap, ◌∙◌}
use mathlib.Core.Bool.{Bool, true, false, true≢false}
use mathlib.Core.Option.{Option, some}
use mathlib.Core.List.{List, [], ◌∷◌}
use native.Mathlib.Nat.{not-suc-le-zero, le_of_suc-le-suc, zero-add}
use native.Mathlib.Omega.{arith}
use lib.ListN.{length, get_or, take, drop, length-drop}
use lib.Seq.{drop-drop}
use lib.Dec.{leb, eqb}
use borrow.Author.Tests.{leb-true, eqb-true}
use Rattle.std.specs.Prelude.{Option as StdOption, Some, None}
use Rattle.base.specs.Choice.{both}
use Rattle.base.proofs.ChoiceLaws.{both_hold}
use Rattle.base.proofs.OptionLaws.{some_inj}
use Rattle.fields.specs.Bytes.{le, run}
use Rattle.fields.specs.Sizes.{size, sizes, amount}
use Rattle.fields.specs.Values.{Val, num, txt, value, values, num_of, text_of, num_at, text_at, width}
use Rattle.fields.specs.Valid.{allows}
use Rattle.fields.specs.Content.{fill}
use Rattle.fields.specs.Places.{subfield_end, subfields_end, head_place}
use Rattle.fields.specs.declared.Sub.{Sub}
use Rattle.fields.specs.declared.Sub.TheVariants.{B11, B12, B14, Among, Raw, Text, Fixed}
use Rattle.fields.proofs.SizeLaws.{is_num, num_size_lem, num_some, text_some, size_bound, sizes_cons, at_inj, end_nil, end_cons}
use Rattle.fields.proofs.TupleLaws.{Next}
use Rattle.fields.proofs.FieldLaws.{filled}

-- ---- which subfields they are: tests that compute for the subfields of a format

-- the subfield is a text that 1F ends
abbrev pub is_text : Sub → Bool
is_text (B11 lo hi) = false
is_text (B12 lo hi) = false
is_text (B14 lo hi) = false
is_text (Among p q s t) = false
is_text (Raw n) = false
is_text Text = true
is_text (Fixed n) = false

-- subfield j, from 0, is a number of w bytes
abbrev pub is_number : List Sub → ℕ → ℕ → Bool
is_number [] j w = false
is_number (d ∷ ds) zero w = both (is_num d) (eqb (width d) w)
is_number (d ∷ ds) (suc j) w = is_number ds j w

-- subfield j is a text that 1F ends
abbrev pub is_text_at : List Sub → ℕ → Bool
is_text_at [] j = false
is_text_at (d ∷ ds) zero = is_text d
is_text_at (d ∷ ds) (suc j) = is_text_at ds j

-- subfield j lies o bytes from the front: behind numbers alone
abbrev pub lies : List Sub → ℕ → ℕ → Bool
lies ds zero o = eqb o 0
lies [] (suc j) o = false
lies (d ∷ ds) (suc j) o = both (is_num d) (both (leb (width d) o) (lies ds j (o - width d)))

-- ---- what a subfield holds

pub num_value : (d : Sub) (l : List ℕ) → is_num d ≡ true → value d l ≡ num (le (width d) l)
unfolding value
num_value (B11 lo hi) l i = refl
num_value (B12 lo hi) l i = refl
num_value (B14 lo hi) l i = refl
num_value (Among p q s t) l i = refl
num_value (Raw n) l i = refl
num_value Text l i = absurd (true≢false (sym i))
num_value (Fixed n) l i = absurd (true≢false (sym i))

num_takes : (d : Sub) (l : List ℕ) (m : ℕ) → is_num d ≡ true → size d l ≡ some m → width d ≡ m
num_takes d l m i e = (num_some (width d) (allows d) l m (sym (num_size_lem d l i) ∙ e)).0

num_allowed : (d : Sub) (l : List ℕ) (m : ℕ) → is_num d ≡ true → size d l ≡ some m → allows d (num_of (value d l)) ≡ true
num_allowed d l m i e = rw (num_value d l i) (num_some (width d) (allows d) l m (sym (num_size_lem d l i) ∙ e)).2

text_takes : (d : Sub) (l : List ℕ) (m : ℕ) → is_text d ≡ true → size d l ≡ some m → (run l + 1 ≡ m) × (value d l ≡ txt (take (run l) l))
unfolding size value
text_takes (B11 lo hi) l m i e = absurd (true≢false (sym i))
text_takes (B12 lo hi) l m i e = absurd (true≢false (sym i))
text_takes (B14 lo hi) l m i e = absurd (true≢false (sym i))
text_takes (Among p q s t) l m i e = absurd (true≢false (sym i))
text_takes (Raw n) l m i e = absurd (true≢false (sym i))
text_takes Text l m i e = ((text_some l m e).0, refl)
text_takes (Fixed n) l m i e = absurd (true≢false (sym i))

-- ---- the subfields before subfield j, and those from it on

-- the first of them takes m bytes
pub values_first : (d : Sub) (ds : List Sub) (l : List ℕ) (m : ℕ) → size d l ≡ some m → values (d ∷ ds) l ≡ value d l ∷ values ds (drop m l)
unfolding values
values_first d ds l m e = ap (λ (o : Option ℕ). value d l ∷ values ds (drop (amount o) l)) e

end_first : (d : Sub) (ds : List Sub) (b : List ℕ) (at m : ℕ) → size d (drop at b) ≡ some m → subfields_end (d ∷ ds) b at ≡ subfields_end ds b (at + m)
unfolding subfield_end
end_first d ds b at m e = end_cons d ds b at ∙ rw e

-- subfields of n bytes from a place on; subfield j of them stands at p
pub record Stands (ds : List Sub) (j : ℕ) (b : List ℕ) (at n p : ℕ) : Type 0 where
  pub before : subfields_end (take j ds) b at ≡ Some p
  pub number : (w : ℕ) → is_number ds j w ≡ true → (p + w ≤ length b) × (num_at (values ds (drop at b)) j ≡ le w (drop p b))
  pub allowed : (w : ℕ) → is_number ds j w ≡ true → allows (get_or ds j Text) (num_at (values ds (drop at b)) j) ≡ true
  pub text : is_text_at ds j ≡ true → (p + run (drop p b) < length b) × (text_at (values ds (drop at b)) j ≡ take (run (drop p b)) (drop p b))
  pub last_text : is_text_at ds j ≡ true → length ds ≡ suc j → p + run (drop p b) + 1 ≡ at + n
  pub constant : (o : ℕ) → lies ds j o ≡ true → p ≡ at + o

none_left : (ds : List Sub) (l : List ℕ) (k : ℕ) → length ds ≡ 0 → sizes ds l ≡ some k → k ≡ 0
unfolding sizes
none_left [] l k h e = sym (some_inj e)
none_left (d ∷ ds) l k h e = absurd (omega arith)

-- the first of them
module _ (d : Sub) (ds : List Sub) (b : List ℕ) (at m k n : ℕ) (g : at ≤ length b)
    (e : size d (drop at b) ≡ some m) (q : sizes ds (drop m (drop at b)) ≡ some k) (s : m + k ≡ n) where
  in_bytes : at + m ≤ length b
  in_bytes = omega (arith, size_bound d (drop at b) m e, length-drop at b)

  first_stands : Stands (d ∷ ds) 0 b at n at
  unfolding values
  first_stands = record {
    before = end_nil b at;
    number = λ w i.
        let r = both_hold (is_num d) (eqb (width d) w) i in
        let v : width d ≡ w = eqb-true (width d) w r.1 in
        (omega (arith, num_takes d (drop at b) m r.0 e, in_bytes), ap num_of (num_value d (drop at b) r.0) ∙ ap (λ (x : ℕ). le x (drop at b)) v);
    allowed = λ w i. num_allowed d (drop at b) m (both_hold (is_num d) (eqb (width d) w) i).0 e;
    text = λ i.
        let r = text_takes d (drop at b) m i e in
        (omega (arith, r.0, in_bytes), ap text_of r.1);
    last_text = λ i h.
        let r = text_takes d (drop at b) m i e in
        omega (arith, r.0, none_left ds (drop m (drop at b)) k (omega arith) q);
    constant = λ o i. omega (arith, eqb-true o 0 i);
  }

  value_later : (j : ℕ) → get_or (values (d ∷ ds) (drop at b)) (suc j) (num 0) ≡ get_or (values ds (drop (at + m) b)) j (num 0)
  value_later j =
      ap (λ (vs : List Val). get_or vs (suc j) (num 0)) (values_first d ds (drop at b) m e)
      ∙ ap (λ (l : List ℕ). get_or (values ds l) j (num 0)) (drop-drop m at b)

  later_stands : (j p : ℕ) → Stands ds j b (at + m) k p → Stands (d ∷ ds) (suc j) b at n p
  later_stands j p r = record {
    before = end_first d (take j ds) b at m e ∙ r.before;
    number = λ w i. let v = r.number w i in (v.0, ap num_of (value_later j) ∙ v.1);
    allowed = λ w i. ap (λ (v : Val). allows (get_or ds j Text) (num_of v)) (value_later j) ∙ r.allowed w i;
    text = λ i. let v = r.text i in (v.0, ap text_of (value_later j) ∙ v.1);
    last_text = λ i h. omega (arith, r.last_text i (omega arith));
    constant = λ o i.
        let u = both_hold (is_num d) (both (leb (width d) o) (lies ds j (o - width d))) i in
        let v = both_hold (leb (width d) o) (lies ds j (o - width d)) u.1 in
        omega (arith, num_takes d (drop at b) m u.0 e, leb-true (width d) o v.0, r.constant (o - width d) v.1);
  }

pub stands : (ds : List Sub) (j : ℕ) (b : List ℕ) (at n : ℕ) → at ≤ length b → sizes ds (drop at b) ≡ some n → j < length ds
    → (p : ℕ) × Stands ds j b at n p
stands [] j b at n g e h = absurd (not-suc-le-zero h)
stands (d ∷ ds) zero b at n g e h = let r = sizes_cons d ds (drop at b) n e in (at, first_stands d ds b at r.0 r.1 n g r.2 r.3 r.4)
stands (d ∷ ds) (suc j) b at n g e h =
    let r = sizes_cons d ds (drop at b) n e in
    let inside : at + r.0 ≤ length b = in_bytes d ds b at r.0 r.1 n g r.2 r.3 r.4 in
    let rest : sizes ds (drop (at + r.0) b) ≡ some r.1 = ap (sizes ds) (sym (drop-drop r.0 at b)) ∙ r.3 in
    let ih = stands ds j b (at + r.0) r.1 inside rest (le_of_suc-le-suc h) in
    (ih.0, later_stands d ds b at r.0 r.1 n g r.2 r.3 r.4 j ih.0 ih.1)

-- ---- in a head

is_there : (ds : List Sub) (j w : ℕ) → is_number ds j w ≡ true → j < length ds
is_there [] j w i = absurd (true≢false (sym i))
is_there (d ∷ ds) zero w i = omega arith
is_there (d ∷ ds) (suc j) w i = let h : j < length ds = is_there ds j w i in omega arith

text_there : (ds : List Sub) (j : ℕ) → is_text_at ds j ≡ true → j < length ds
text_there [] j i = absurd (true≢false (sym i))
text_there (d ∷ ds) zero i = omega arith
text_there (d ∷ ds) (suc j) i = let h : j < length ds = text_there ds j i in omega arith

module _ (h t : List Sub) (b : List ℕ) (e : fill h t b ≡ true) where
  head_stands : (j : ℕ) → j < length h → (p : ℕ) × Stands h j b 0 (filled h t b e).bytes p
  head_stands j g = stands h j b 0 (filled h t b e).bytes (omega arith) (filled h t b e).taken g

  -- a number behind numbers alone
  pub head_number : (j o w : ℕ) → is_number h j w ≡ true → lies h j o ≡ true → (o + w ≤ length b) × (num_at (values h b) j ≡ le w (drop o b))
  head_number j o w i q =
      let r = head_stands j (is_there h j w i) in
      let p : r.0 ≡ o = r.1.constant o q ∙ zero-add o in
      rw p at (r.1.number w i)

  -- any number is within its range
  pub head_allowed : (j w : ℕ) → is_number h j w ≡ true → allows (get_or h j Text) (num_at (values h b) j) ≡ true
  head_allowed j w i = (head_stands j (is_there h j w i)).1.allowed w i

  -- r, what the walk to subfield j gives
  module _ (j : ℕ) (r : StdOption ℕ) (got : r ≡ head_place h j b) where
    -- it comes there
    pub place_found : j < length h → r ≡ None → ⊥
    unfolding head_place
    place_found g q = let x = head_stands j g in let z : ◌≡◌ {A = ℕ} 0 1 = cc x.1.before in omega arith

    placed : (p : ℕ) → j < length h → r ≡ Some p → Stands h j b 0 (filled h t b e).bytes p
    unfolding head_place
    placed p g q = let x = head_stands j g in let s : x.0 ≡ p = at_inj (sym x.1.before ∙ sym got ∙ q) in rw s at x.1

    -- a number there
    pub placed_number : (p w : ℕ) → is_number h j w ≡ true → r ≡ Some p → (p + w ≤ length b) × (num_at (values h b) j ≡ le w (drop p b))
    placed_number p w i q = (placed p (is_there h j w i) q).number w i

    -- a text there, which ends before the field does
    pub placed_text : (p : ℕ) → is_text_at h j ≡ true → r ≡ Some p
        → (p + run (drop p b) < length b) × (text_at (values h b) j ≡ take (run (drop p b)) (drop p b))
    placed_text p i q = (placed p (text_there h j i) q).text i

-- ---- in a tuple from p to n

module _ (t : List Sub) (b : List ℕ) (p n : ℕ) (x : Next t b p n) where
  tuple_stands : (j : ℕ) → j < length t → (q : ℕ) × Stands t j b p (n - p) q
  tuple_stands j g = let later : p < n = x.later in let inside : n ≤ length b = x.inside in stands t j b p (n - p) (omega arith) x.taken g

  -- a number behind numbers alone
  pub tuple_number : (j o w : ℕ) → is_number t j w ≡ true → lies t j o ≡ true
      → (p + o + w ≤ length b) × (num_at (values t (drop p b)) j ≡ le w (drop (p + o) b))
  tuple_number j o w i q =
      let r = tuple_stands j (is_there t j w i) in
      let s : r.0 ≡ p + o = r.1.constant o q in
      rw s at (r.1.number w i)

  -- any number is within its range
  pub tuple_allowed : (j w : ℕ) → is_number t j w ≡ true → allows (get_or t j Text) (num_at (values t (drop p b)) j) ≡ true
  tuple_allowed j w i = (tuple_stands j (is_there t j w i)).1.allowed w i

  -- a text behind numbers alone, which is the last subfield: it ends one byte before the tuple
  pub tuple_text : (j o : ℕ) → is_text_at t j ≡ true → lies t j o ≡ true → length t ≡ suc j
      → (p + o < n) × (text_at (values t (drop p b)) j ≡ take (n - 1 - (p + o)) (drop (p + o) b))
  tuple_text j o i q l =
      let r = tuple_stands j (text_there t j i) in
      let later : p < n = x.later in
      let s : r.0 ≡ p + o = r.1.constant o q in
      let v = rw s at (r.1.text i) in
      let u : p + o + run (drop (p + o) b) + 1 ≡ p + (n - p) = rw s at (r.1.last_text i l) in
      let m : run (drop (p + o) b) ≡ n - 1 - (p + o) = omega arith in
      (omega arith, v.1 ∙ ap (λ (k : ℕ). take k (drop (p + o) b)) m)
