-- Lists whose tuples are numbers alone, and so are all of one length: where the next stands, how many there are, and parts of them.
-- Assumes nothing.
use Prim.Native.Nat.{ℕ, ◌+◌, ◌*◌, ◌-◌, ◌/◌, ◌%◌, ◌≤◌, ◌<◌}
use mathlib.Core.Path.{◌≡◌, refl, sym, ap, ◌∙◌}
use mathlib.Core.Bool.{true}
use mathlib.Core.List.{List, [], ◌∷◌, ◌++◌}
use native.Mathlib.Nat.{mul-zero, mul-suc, mul-sub, mul-mod_right, mul-le-mul_left, eq_of_mul-eq-mul_left, le_trans, le_of_eq}
use native.Mathlib.Omega.{arith}
use lib.ListN.{length, take, drop, length-drop, take-append-drop}
use lib.Seq.{take_at, drop_at, length-take-le}
use borrow.Author.Tests.{eq-eqb}
use Rattle.base.specs.Walk.{Got}
use Rattle.fields.specs.Sizes.{sizes}
use Rattle.fields.specs.Values.{Val, values}
use Rattle.fields.specs.Content.{tuples, many, fill}
use Rattle.fields.specs.Places.{ending_at, all_raw}
use Rattle.fields.specs.declared.Sub.{Sub}
use Rattle.fields.specs.declared.Sub.TheVariants.{B11, B12, B14, Among, Raw, Text, Fixed}
use Rattle.fields.proofs.SizeLaws.{all_num, widths, num_widths, sizes_bound}
use Rattle.fields.proofs.TupleLaws.{First, Next, tuples_end, tuples_ind, tuple_there}
use Rattle.fields.proofs.CountLaws.{not_raw, raw_tally}
use Rattle.fields.proofs.FieldLaws.{field_some, count_fill, fill_list}
use Rattle.fields.proofs.JoinLaws.{many_join}

module _ (t : List Sub) (even : all_num t ≡ true) where
  -- the next tuple is as many bytes further on as the subfields are wide
  pub even_next : (b : List ℕ) (p : ℕ) → p < length b → ending_at t b p ≡ 0 → Next t b p (p + widths t)
  even_next b p h z =
      let r = tuple_there t b p h z in
      let x : Next t b p r.0 = r.2 in
      let later : p < r.0 = x.later in
      let n : r.0 ≡ p + widths t = omega (arith, num_widths t (drop p b) (r.0 - p) even x.taken) in
      rw n at x

  none : (l : List ℕ) → length l ≤ 0 → many t l ≡ []
  unfolding many
  none l h = ap (λ (g : Got (List Val)). g.items) (tuples_end t l h)

  -- the first of them is that long, and then the others
  first_width : (l : List ℕ) (f : First t l) → f.bytes ≡ widths t
  first_width l f = num_widths t l f.bytes even f.taken

  first_many : (l : List ℕ) (f : First t l) → many t l ≡ values t l ∷ many t (drop f.bytes l)
  unfolding many
  first_many l f = ap (λ (g : Got (List Val)). g.items) f.found

  first_bytes : (l : List ℕ) (f : First t l) → f.bytes ≤ length l
  first_bytes l f = sizes_bound t l f.bytes f.taken

  -- the bytes are so many tuples
  pub even_length : (l : List ℕ) → (tuples t l).ending ≡ 0 → length l ≡ widths t * length (many t l)
  even_length = tuples_ind t (λ l. length l ≡ widths t * length (many t l)) base turn
    where
      base : (l : List ℕ) → length l ≤ 0 → length l ≡ widths t * length (many t l)
      base l h = rw (none l h, mul-zero) (omega arith)

      turn : (l : List ℕ) → 0 < length l → (f : First t l) → length (drop f.bytes l) ≡ widths t * length (many t (drop f.bytes l))
          → length l ≡ widths t * length (many t l)
      turn l h f ih =
          rw (first_many l f, mul-suc) (omega (arith, ih, first_width l f, first_bytes l f, length-drop f.bytes l))

  pub fill_even : (b : List ℕ) → fill [] t b ≡ true → length b ≡ widths t * length (many t b)
  unfolding ending_at
  fill_even b e = even_length b (fill_list t b e)

-- ---- lists of which the length alone is tested: any part of whole tuples is one

raw_even : (t : List Sub) → all_raw t ≡ true → all_num t ≡ true
unfolding all_raw
raw_even [] e = refl
raw_even (B11 lo hi ∷ ds) e = not_raw e
raw_even (B12 lo hi ∷ ds) e = not_raw e
raw_even (B14 lo hi ∷ ds) e = not_raw e
raw_even (Among p q s t ∷ ds) e = not_raw e
raw_even (Raw n ∷ ds) e = raw_even ds e
raw_even (Text ∷ ds) e = not_raw e
raw_even (Fixed n ∷ ds) e = not_raw e

module _ (t : List Sub) (raw : all_raw t ≡ true) (pos : 0 < widths t) where
  -- any bytes whose length is a multiple of the tuple's
  pub raw_fill : (b : List ℕ) → length b % widths t ≡ 0 → fill [] t b ≡ true
  unfolding sizes
  raw_fill b z =
      count_fill [] t b (0 + length b / widths t) (field_some [] t b 0 refl ∙ raw_tally t raw pos b 0 ∙ simp (eq-eqb (length b % widths t) 0 z))

  raw_ending : (b : List ℕ) (i : ℕ) → length b ≡ widths t * i → (tuples t b).ending ≡ 0
  unfolding ending_at
  raw_ending b i e = fill_list t b (raw_fill b (ap (λ (k : ℕ). k % widths t) e ∙ mul-mod_right (widths t) i))

  raw_count : (b : List ℕ) (i : ℕ) → length b ≡ widths t * i → length (many t b) ≡ i
  raw_count b i e =
      eq_of_mul-eq-mul_left (widths t) pos (length (many t b)) i (sym (even_length t (raw_even t raw) b (raw_ending b i e)) ∙ e)

  module _ (l : List ℕ) (z : (tuples t l).ending ≡ 0) (i : ℕ) (h : i ≤ length (many t l)) where
    before_bytes : length (take (widths t * i) l) ≡ widths t * i
    before_bytes =
        length-take-le (widths t * i) l (le_trans (mul-le-mul_left (widths t) h) (le_of_eq (sym (even_length t (raw_even t raw) l z))))

    behind_bytes : length (drop (widths t * i) l) ≡ widths t * (length (many t l) - i)
    behind_bytes =
        length-drop (widths t * i) l
        ∙ ap (λ (k : ℕ). k - widths t * i) (even_length t (raw_even t raw) l z)
        ∙ sym (mul-sub (widths t) (length (many t l)) i)

    -- both parts are lists
    pub raw_parts : ((tuples t (take (widths t * i) l)).ending ≡ 0) × ((tuples t (drop (widths t * i) l)).ending ≡ 0)
    raw_parts = (raw_ending (take (widths t * i) l) i before_bytes, raw_ending (drop (widths t * i) l) (length (many t l) - i) behind_bytes)

    both_parts : many t l ≡ many t (take (widths t * i) l) ++ many t (drop (widths t * i) l)
    both_parts =
        ap (many t) (sym (take-append-drop (widths t * i) l)) ∙ many_join t (drop (widths t * i) l) (take (widths t * i) l) raw_parts.0

    -- of the first i tuples, and of the others
    pub raw_take : many t (take (widths t * i) l) ≡ take i (many t l)
    raw_take =
        sym (ap (take i) both_parts ∙ take_at (many t (take (widths t * i) l)) (many t (drop (widths t * i) l)) i (raw_count (take (widths t * i) l) i before_bytes))

    pub raw_drop : many t (drop (widths t * i) l) ≡ drop i (many t l)
    raw_drop =
        sym (ap (drop i) both_parts ∙ drop_at (many t (take (widths t * i) l)) (many t (drop (widths t * i) l)) i (raw_count (take (widths t * i) l) i before_bytes))
