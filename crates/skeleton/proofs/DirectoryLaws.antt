-- Laws of a directory's entries and of the walk over them. Assumes nothing.
use mathlib.Core.Path.{◌≡◌, refl, sym, ◌∙◌}
use mathlib.Core.List.{List}
use mathlib.Core.Bool.{Bool, true, false, not}
use Prim.Native.Nat.{ℕ, ◌+◌, ◌-◌, ◌*◌, ◌^◌, ◌≤◌, ◌<◌}
use native.Mathlib.Nat.{zero-add, add-zero}
use native.Mathlib.Omega.{arith}
use borrow.Author.Tests.{le-leb, lt-leb, lt-ltb, le-ltb, eq-eqb, ne_eqb, leb-true, leb-false, ltb-false, eqb-true, eqb-false, not-true, not-false}
use lib.ListN.{length, get_or}
use lib.Dec.{leb, ltb, eqb}
use Rattle.base.specs.Choice.{both}
use Rattle.base.specs.Walk.{Step, follow, Lower}
use Rattle.base.proofs.ChoiceLaws.{by_test, both_hold}
use Rattle.base.proofs.WalkLaws.{walk_step, by_measure}
use Rattle.skeleton.specs.Digits.{number_at, digits_from}
use Rattle.skeleton.specs.Directory.{Body, tag_at, entry_of, entry_in, entry_past, entry_at, zeros_at, small_at, lies, ended, step_by, dir_step, fields_from, directed}
use Rattle.std.specs.Prelude.{Option, Some, None, Ok, Err}
use Rattle.skeleton.specs.declared.leader.Broken.TheVariants.{Directory}
use Rattle.skeleton.specs.declared.directory.Entry.{Entry}
use Rattle.skeleton.specs.declared.directory.Entry.TheVariants.{Field, End, Bad}
use Rattle.skeleton.proofs.DigitsLaws.{number_small, digit_more}

-- ---- what holds of an entry

-- where the entry at p is a field: it lies in the record, its first byte is not 1E, and its numbers are digits
pub record Entered (r : List ℕ) (a b p pos len : ℕ) : Type 0 where
  pub fits : p + (4 + a + b) ≤ length r
  pub opens : get_or r p 0 ≡ 30 → ⊥
  pub length_read : number_at r (p + 4) a ≡ Some len
  pub position_read : number_at r (p + 4 + a) b ≡ Some pos

-- what holds of the three that may stand at p holds of what stands there
module _ (P : Entry → Type 0) (r : List ℕ) (a b p : ℕ) (bad : P Bad) (end : p < length r → get_or r p 0 ≡ 30 → P End)
    (field : (pos len : ℕ) → Entered r a b p pos len → P (Field (tag_at r p) pos len (p + (4 + a + b)))) where
  by_numbers : (n m : Option ℕ) → ((pos len : ℕ) → n ≡ Some len → m ≡ Some pos → P (Field (tag_at r p) pos len (p + (4 + a + b))))
      → P (entry_of (tag_at r p) (p + (4 + a + b)) n m)
  by_numbers (Some len) (Some pos) go = go pos len refl refl
  by_numbers (Some len) None go = bad
  by_numbers None m go = bad

  pub by_entry : P (entry_at r a b p)
  unfolding entry_at entry_in
  by_entry =
      by_test P (leb (length r) p) _ _ (λ _. bad) (λ x.
      let h : p < length r = leb-false _ _ x in
      by_test P (eqb (get_or r p 0) 30) _ _ (λ y. end h (eqb-true _ _ y)) (λ y.
      by_test P (ltb (length r - p) (4 + a + b)) _ _ (λ _. bad) (λ z.
      let g : 4 + a + b ≤ length r - p = ltb-false _ _ z in
      by_numbers (number_at r (p + 4) a) (number_at r (p + 4 + a) b)
      (λ pos len n m. field pos len (record { fits = omega arith; opens = eqb-false _ _ y; length_read = n; position_read = m })))))

-- the next place is one entry on, in the record
abbrev Goes : List ℕ → ℕ → ℕ → ℕ → Entry → Type 0
Goes r a b p (Field tag pos len next) = (next ≡ p + (4 + a + b)) × (next ≤ length r)
Goes r a b p End = p < length r
Goes r a b p Bad = Unit {0}

entry_goes : (r : List ℕ) (a b p : ℕ) → Goes r a b p (entry_at r a b p)
entry_goes r a b p = by_entry (Goes r a b p) r a b p tt (λ h _. h) (λ pos len e. (refl, e.fits))

-- a field's numbers have at most nine digits
abbrev Small : Entry → Type 0
Small (Field tag pos len next) = (pos < 10 ^ 9) × (len < 10 ^ 9)
Small End = Unit {0}
Small Bad = Unit {0}

entry_small : (r : List ℕ) (a b p : ℕ) → a ≤ 9 → b ≤ 9 → Small (entry_at r a b p)
entry_small r a b p ha hb =
    by_entry Small r a b p tt (λ _ _. tt) (λ pos len e.
    (rw e.position_read at (number_small r (p + 4 + a) b hb), rw e.length_read at (number_small r (p + 4) a ha)))

-- by the entry e that was read at p
module _ (r : List ℕ) (a b p : ℕ) (e : Entry) (en : e ≡ entry_at r a b p) where
  goes : Goes r a b p e
  goes = rw en (entry_goes r a b p)

  pub end_in : e ≡ End → p < length r
  end_in x = rw x at goes

  module _ (tag pos len next : ℕ) (x : e ≡ Field tag pos len next) where
    field_goes : (next ≡ p + (4 + a + b)) × (next ≤ length r)
    field_goes = rw x at goes

    pub field_falls : length r - next < length r - p
    field_falls = let h = field_goes in omega arith

    pub field_small : a ≤ 9 → b ≤ 9 → (pos < 10 ^ 9) × (len < 10 ^ 9)
    field_small ha hb = let h : Small e = rw en (entry_small r a b p ha hb) in rw x at h

    pub pos_small : a ≤ 9 → b ≤ 9 → pos < 10 ^ 9
    pos_small ha hb = (field_small ha hb).0

    pub len_small : a ≤ 9 → b ≤ 9 → len < 10 ^ 9
    len_small ha hb = (field_small ha hb).1

-- ---- the walk

-- a field that lies where it has to
pub record Lies (r : List ℕ) (base at pos len : ℕ) : Type 0 where
  pub follows : pos ≡ at
  pub not_empty : len ≡ 0 → ⊥
  pub inside : base + pos + len ≤ length r

pub lies_in : (r : List ℕ) (base at pos len : ℕ) → lies r base at pos len ≡ true → Lies r base at pos len
unfolding lies
lies_in r base at pos len e =
    let x = both_hold (eqb pos at) _ e in
    let y = both_hold (not (eqb len 0)) _ x.1 in
    let z = both_hold (leb (base + pos + len) (length r)) _ y.1 in
    record { follows = eqb-true pos at x.0; not_empty = eqb-false len 0 (not-true _ y.0); inside = leb-true _ _ z.0 }

-- a step of the walk leads further on
lower_of : (r : List ℕ) (base a b p at : ℕ) (e : Entry) → Goes r a b p e
    → Lower (λ (s : ℕ × ℕ). length r - s.0) (p, at) (step_by r base p at e)
lower_of r base a b p at (Field tag pos len next) h =
    by_test (Lower (λ (s : ℕ × ℕ). length r - s.0) (p, at)) (lies r base at pos len) _ _ (λ _. omega arith) (λ _. tt)
lower_of r base a b p at End h = tt
lower_of r base a b p at Bad h = tt

pub directory_falls : (r : List ℕ) (base a b : ℕ) (s : ℕ × ℕ) → Lower (λ (t : ℕ × ℕ). length r - t.0) s (dir_step r base a b s)
directory_falls r base a b s = lower_of r base a b s.0 s.1 (entry_at r a b s.0) (entry_goes r a b s.0)

-- the fields are what the first entry says, and then the fields from the next one on
pub fields_step : (r : List ℕ) (base a b p at : ℕ)
    → fields_from r base a b p at ≡ follow (step_by r base p at (entry_at r a b p)) (λ s. fields_from r base a b s.0 s.1)
unfolding fields_from
fields_step r base a b p at =
    walk_step (dir_step r base a b) (λ s. length r - s.0) (directory_falls r base a b) (p, at)

-- a walk ends well, or with 3
abbrev Ends : ℕ → Type 0
Ends n = (n ≡ 0 → ⊥) → n ≡ 3

module _ (r : List ℕ) (base a b p at : ℕ) (later : (s : ℕ × ℕ) → length r - s.0 < length r - p → Ends (fields_from r base a b s.0 s.1).ending) where
  ends_by : (e : Entry) → Goes r a b p e → Ends (follow (step_by r base p at e) (λ s. fields_from r base a b s.0 s.1)).ending
  ends_by (Field tag pos len next) h =
      by_test (λ (x : Step (ℕ × ℕ) Body). Ends (follow x (λ s. fields_from r base a b s.0 s.1)).ending) (lies r base at pos len) _ _
      (λ _. later (next, at + len) (omega arith)) (λ _ _. refl)
  ends_by End h = by_test Ends (ended r base p at) 0 3 (λ _ n. absurd (n refl)) (λ _ _. refl)
  ends_by Bad h = λ _. refl

pub directory_ends : (r : List ℕ) (base a b p at : ℕ) → ((fields_from r base a b p at).ending ≡ 0 → ⊥) → (fields_from r base a b p at).ending ≡ 3
directory_ends r base a b p at =
    by_measure (λ (s : ℕ × ℕ). length r - s.0) (λ s. Ends (fields_from r base a b s.0 s.1).ending)
    (λ s later. rw fields_step (ends_by r base a b s.0 s.1 later (entry_at r a b s.0) (entry_goes r a b s.0))) (p, at)

-- a turn of `directory`, by the entry e that was read at p
module _ (r : List ℕ) (base a b p at n : ℕ) (inv : (fields_from r base a b p at).ending ≡ n) (e : Entry) (en : e ≡ entry_at r a b p) where
  turn : (follow (step_by r base p at e) (λ s. fields_from r base a b s.0 s.1)).ending ≡ n
  turn = rw en (rw fields_step at inv)

  pub dir_bad : e ≡ Bad → 3 ≡ n
  dir_bad x = simp x at turn

  module _ (x : e ≡ End) (t : Bool) (y : t ≡ ended r base p at) where
    pub dir_end : t ≡ true → 0 ≡ n
    dir_end z = simp (x, ← y, z) at turn

    pub dir_end_not : t ≡ false → 3 ≡ n
    dir_end_not z = simp (x, ← y, z) at turn

  module _ (tag pos len next : ℕ) (x : e ≡ Field tag pos len next) (t : Bool) (y : t ≡ lies r base at pos len) where
    pub dir_not : not t ≡ true → 3 ≡ n
    dir_not z = simp (x, ← y, not-true t z) at turn

    module _ (z : not t ≡ false) where
      pub dir_more : (fields_from r base a b next (at + len)).ending ≡ n
      dir_more = simp (x, ← y, not-false t z) at turn

      pub dir_in : at + len ≤ length r
      dir_in = let l = lies_in r base at pos len (sym y ∙ not-false t z) in omega arith

      pub dir_word : length r < 2 ^ 64 → at + len < 2 ^ 64
      dir_word w = let h = dir_in in omega arith

-- what the number n with which the walk ended says
pub dir_right : (n : ℕ) → 0 ≡ n → Ok tt ≡ directed n
dir_right n z = rw (← z)

pub dir_wrong : (n : ℕ) → 3 ≡ n → Err Directory ≡ directed n
dir_wrong n z = rw (← z)

pub ruleset directory_turn =
    (dir_right, dir_wrong, dir_not, dir_more, dir_end, dir_end_not, dir_bad, dir_in, dir_word, field_falls, pos_small, len_small, end_in, arith)

-- ---- one entry

-- a number of five digits that begins with two zeros
five_small : (s : List ℕ) (at : ℕ) → at + 5 ≤ length s → zeros_at s at ≡ true → number_at s (at + 2) 3 ≡ number_at s at 5
unfolding zeros_at
five_small s at l z =
    let x = both_hold (eqb (get_or s at 0) 48) _ z in
    let f : get_or s at 0 ≡ 48 = eqb-true _ _ x.0 in
    let g : get_or s (at + 1) 0 ≡ 48 = eqb-true _ _ x.1 in
    let one = digit_more s at 5 0 (omega arith) l (omega arith) (omega arith) in
    let two = digit_more s (at + 1) 4 0 (omega arith) (omega arith) (omega arith) (omega arith) in
    let e : at + 1 + 1 ≡ at + 2 = omega arith in
    let one' : digits_from s (at + 1) 4 0 ≡ digits_from s at 5 0 = rw f at one in
    let two' : digits_from s (at + 2) 3 0 ≡ digits_from s (at + 1) 4 0 = rw (g, e) at two in
    two' ∙ one'

past_zeros : (r : List ℕ) (p : ℕ) → p + 14 ≤ length r → zeros_at r (p + 4) ≡ true → zeros_at r (p + 9) ≡ true → entry_past r 2 3 3 p ≡ entry_in r 5 5 p
unfolding entry_past entry_in
past_zeros r p l y z =
    let e : p + 4 + 5 ≡ p + 9 = omega arith in
    let m = five_small r (p + 4) (omega arith) y in
    let n = five_small r (p + 9) (omega arith) z in
    let w : p + 9 + 5 ≡ p + 14 = omega arith in
    rw (e, w, m, n) refl

past_none : (r : List ℕ) (a b p : ℕ) → entry_past r 0 a b p ≡ entry_in r a b p
unfolding entry_past entry_in
past_none r a b p = let w : p + 4 + a + b ≡ p + (4 + a + b) = omega arith in simp (zero-add, add-zero, w)

-- what smallness says
small_holds : (r : List ℕ) (a b p : ℕ) → small_at r a b p ≡ true → (a ≡ 5) × (b ≡ 5) × (zeros_at r (p + 4) ≡ true) × (zeros_at r (p + 9) ≡ true)
unfolding small_at
small_holds r a b p e =
    let x = both_hold (eqb a 5) _ e in
    let y = both_hold (eqb b 5) _ x.1 in
    let z = both_hold (zeros_at r (p + 4)) _ y.1 in
    (eqb-true a 5 x.0, eqb-true b 5 y.0, z.0, z.1)

-- what `entry_at` returns, by its tests
module _ (r : List ℕ) (a b p : ℕ) where
  pub entry_past_lem : length r ≤ p → Bad ≡ entry_at r a b p
  unfolding entry_at
  entry_past_lem h = simp (le-leb _ _ h)

  module _ (h : p < length r) where
    pub entry_end : get_or r p 0 ≡ 30 → End ≡ entry_at r a b p
    unfolding entry_at
    entry_end e = simp (lt-leb _ _ h, eq-eqb _ _ e)

    module _ (n : get_or r p 0 ≡ 30 → ⊥) where
      pub entry_short : length r - p < 4 + a + b → Bad ≡ entry_at r a b p
      unfolding entry_at
      entry_short w = simp (lt-leb _ _ h, ne_eqb _ _ n, lt-ltb _ _ w)

      pub entry_there : 4 + a + b ≤ length r - p → (e : Entry) → e ≡ entry_in r a b p → e ≡ entry_at r a b p
      unfolding entry_at
      entry_there w e x = simp (lt-leb _ _ h, ne_eqb _ _ n, le-ltb _ _ w, x)

      module _ (w : 4 + a + b ≤ length r - p) (t : Bool) (et : t ≡ small_at r a b p) where
        pub entry_zeros : t ≡ true → (e : Entry) → e ≡ entry_past r 2 3 3 p → e ≡ entry_at r a b p
        entry_zeros y e x =
            let s = small_holds r a b p (sym et ∙ y) in
            let f : p + 14 ≤ length r = omega (arith, s.0, s.1) in
            entry_there w e (rw (s.0, s.1) (x ∙ past_zeros r p f s.2 s.3))

        pub entry_any : t ≡ false → (e : Entry) → e ≡ entry_past r 0 a b p → e ≡ entry_at r a b p
        entry_any y e x = entry_there w e (x ∙ past_none r a b p)

        pub entry_zeros_fits : t ≡ true → 4 + (2 + 3) + (2 + 3) ≤ length r - p
        entry_zeros_fits y = let s = small_holds r a b p (sym et ∙ y) in omega (arith, s.0, s.1)

pub ruleset entry_ways = (entry_past_lem, entry_end, entry_short, entry_zeros, entry_any)

-- ---- what `zeros_at` and `is_small` return

pub zeros_are : (r : List ℕ) (p x y : ℕ) → x < 256 → y < 256 → x ≡ get_or r p 0 → y ≡ get_or r (p + 1) 0
    → eqb (x + y * 256) 12336 ≡ zeros_at r p
unfolding zeros_at
zeros_are r p x y u v e f = rw (← e, ← f) (go (eqb x 48) refl (eqb y 48) refl)
  where
    go : (s : Bool) → eqb x 48 ≡ s → (t : Bool) → eqb y 48 ≡ t → eqb (x + y * 256) 12336 ≡ both s t
    go true a true b = let m = eqb-true x 48 a in let n = eqb-true y 48 b in eq-eqb (x + y * 256) 12336 (omega arith)
    go true a false b = let m = eqb-true x 48 a in let n = eqb-false y 48 b in ne_eqb (x + y * 256) 12336 (λ (z : x + y * 256 ≡ 12336). n (omega arith))
    go false a t b = let n = eqb-false x 48 a in ne_eqb (x + y * 256) 12336 (λ (z : x + y * 256 ≡ 12336). n (omega arith))

module _ (r : List ℕ) (a b p : ℕ) where
  pub small_first : (a ≡ 5 → ⊥) → false ≡ small_at r a b p
  unfolding small_at
  small_first n = simp (ne_eqb a 5 n)

  module _ (i : a ≡ 5) where
    pub small_second : (b ≡ 5 → ⊥) → false ≡ small_at r a b p
    unfolding small_at
    small_second n = simp (eq-eqb a 5 i, ne_eqb b 5 n)

    module _ (j : b ≡ 5) (t : Bool) (et : t ≡ zeros_at r (p + 4)) where
      pub small_third : not t ≡ true → false ≡ small_at r a b p
      unfolding small_at
      small_third y = simp (eq-eqb a 5 i, eq-eqb b 5 j, ← et, not-true t y)

      pub small_last : not t ≡ false → (s : Bool) → s ≡ zeros_at r (p + 9) → s ≡ small_at r a b p
      unfolding small_at
      small_last y s es = simp (eq-eqb a 5 i, eq-eqb b 5 j, ← et, not-false t y, es)

pub ruleset small_ways = (small_first, small_second, small_third, small_last)

-- ---- what `entry_in` returns, by what it reads
module _ (r : List ℕ) (z a b p : ℕ) (m : Option ℕ) (em : m ≡ number_at r (p + 4 + z) a) where
  pub entry_no_len : m ≡ None → Bad ≡ entry_past r z a b p
  unfolding entry_past
  entry_no_len x = simp (← em, x)

  module _ (len : ℕ) (x : m ≡ Some len) (k : Option ℕ) (ek : k ≡ number_at r (p + 4 + (z + a) + z) b) where
    pub entry_no_pos : k ≡ None → Bad ≡ entry_past r z a b p
    unfolding entry_past
    entry_no_pos y = simp (← em, x, ← ek, y)

    pub entry_field : (pos tag : ℕ) → k ≡ Some pos → tag ≡ tag_at r p → Field tag pos len (p + 4 + (z + a) + (z + b)) ≡ entry_past r z a b p
    unfolding entry_past
    entry_field pos tag y w = simp (← em, x, ← ek, y, ← w)

pub ruleset entry_in_ways = (entry_no_len, entry_no_pos, entry_field)
