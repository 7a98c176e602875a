-- Laws of a glance at a file. Assumes nothing.
use mathlib.Core.Path.{◌≡◌, refl, sym, ap, ◌∙◌}
use mathlib.Core.Bool.{Bool, true, false}
use mathlib.Core.List.{List}
use mathlib.Core.Logic.{◌⊎◌, ⊎_elim}
use Prim.Native.Nat.{ℕ, ◌+◌, ◌-◌, ◌^◌, ◌≤◌, ◌<◌}
use native.Mathlib.Omega.{arith}
use borrow.Author.Tests.{le-leb, lt-leb, ltb-false}
use lib.Dec.{leb, ltb}
use lib.ListN.{length, drop, length-drop}
use Rattle.std.specs.Prelude.{Option, Some, None, Result, Ok, Err}
use Rattle.base.specs.Choice.{pick, both}
use Rattle.base.proofs.ChoiceLaws.{by_test}
use Rattle.skeleton.specs.Digits.{number_at, value_of}
use Rattle.skeleton.specs.Leader.{within, stated_of}
use Rattle.skeleton.specs.Place.{between, place_at}
use Rattle.skeleton.specs.Record.{stated_at}
use Rattle.skeleton.specs.Shape.{Bounded}
use Rattle.skeleton.specs.declared.leader.Head.{Head}
use Rattle.skeleton.specs.declared.leader.Broken.{Broken}
use Rattle.skeleton.specs.declared.place.Place.{Place}
use Rattle.skeleton.proofs.BetweenLaws.{length_between}
use Rattle.skeleton.proofs.DigitsLaws.{number_small}
use Rattle.skeleton.proofs.PlaceLaws.{held}
use Rattle.cable.specs.Glance.{Glance, field_by, second_by, glance_by, glance_of}

-- ---- what the numbers of a leader say lies in the file

-- the stated length lies in what is left, and the base address has five digits
abbrev Lies : List ℕ → Result Head Broken → Type 0
Lies s (Ok d) = (d.len ≤ length s) × (d.shape.base < 10 ^ 9)
Lies s (Err x) = Unit {0}

within_lies : (s : List ℕ) (n m : Option ℕ) → value_of m < 10 ^ 9 → Lies s (within s n m)
within_lies s (Some len) (Some base) h = by_test (Lies s) (ltb (length s) len) _ _ (λ _. tt) (λ e. (ltb-false (length s) len e, h))
within_lies s (Some len) None h = tt
within_lies s None m h = tt

stated_lies : (f : List ℕ) (p : ℕ) → Lies (drop p f) (stated_at f p)
unfolding stated_at stated_of
stated_lies f p = by_test (Lies (drop p f)) (ltb (length f - p) 24) _ _ (λ _. tt) (λ _. within_lies (drop p f) (number_at (drop p f) 0 5) (number_at (drop p f) 12 5) (number_small (drop p f) 12 5 (omega arith)))

module _ (f : List ℕ) (p : ℕ) (l : p ≤ length f) (s : Result Head Broken) (es : s ≡ stated_at f p) (d : Head) (x : s ≡ Ok d) where
  lying : (d.len ≤ length (drop p f)) × (d.shape.base < 10 ^ 9)
  lying = let g : Lies (drop p f) s = rw es (stated_lies f p) in rw x at g

  pub stated_in : p + d.len ≤ length f
  stated_in = omega (arith, lying.0, length-drop p f)

  pub stated_word : length f < 2 ^ 64 → p + d.len < 2 ^ 64
  stated_word w = omega (arith, stated_in)

  pub stated_runs : p ≤ p + d.len
  stated_runs = omega arith

  -- ---- `second`

  wide_a : 9 < d.shape.a → None ≡ second_by f p (stated_at f p)
  unfolding second_by
  wide_a h = rw (← es, x) (simp (lt-leb d.shape.a 9 h))

  wide_b : 9 < d.shape.b → None ≡ second_by f p (stated_at f p)
  unfolding second_by
  wide_b h = rw (← es, x) (go (leb d.shape.a 9))
    where
      go : (t : Bool) → None ≡ pick (both t (leb d.shape.b 9)) (field_by p (place_at (between f p (p + d.len)) d.shape 24)) None
      go true = simp (lt-leb d.shape.b 9 h)
      go false = refl

  pub wide : (9 < d.shape.a) ⊎ ((d.shape.a ≤ 9) × (9 < d.shape.b)) → None ≡ second_by f p (stated_at f p)
  wide h = ⊎_elim wide_a (λ (k : (d.shape.a ≤ 9) × (9 < d.shape.b)). wide_b k.1) h

  module _ (ha : d.shape.a ≤ 9) (hb : d.shape.b ≤ 9) where
    pub stated_bounded : Bounded d.shape
    stated_bounded = record { base_small = lying.1; a_small = ha; b_small = hb }

    module _ (q : Option Place) (eq : q ≡ place_at (between f p (p + d.len)) d.shape 24) where
      second_is : field_by p q ≡ second_by f p (stated_at f p)
      unfolding second_by
      second_is = rw (← es, x) (simp (le-leb d.shape.a 9 ha, le-leb d.shape.b 9 hb, eq))

      pub second_none : q ≡ None → None ≡ second_by f p (stated_at f p)
      unfolding field_by
      second_none y = ap (field_by p) (sym y) ∙ second_is

      module _ (c : Place) (y : q ≡ Some c) where
        place_in_lem : (c.start ≤ c.end) × (c.end ≤ d.len)
        place_in_lem =
            let w = held (between f p (p + d.len)) d.shape 24 q eq c y in
            (w.body_runs, omega (arith, w.body_in, length_between f p (p + d.len) stated_in))

        pub start_word : length f < 2 ^ 64 → p + c.start < 2 ^ 64
        start_word w = omega (arith, place_in_lem.0, place_in_lem.1, stated_in)

        pub end_word : length f < 2 ^ 64 → p + c.end < 2 ^ 64
        end_word w = omega (arith, place_in_lem.1, stated_in)

        pub second_there : Some (p + c.start, p + c.end) ≡ second_by f p (stated_at f p)
        unfolding field_by
        second_there = ap (field_by p) (sym y) ∙ second_is

pub second_refused : (f : List ℕ) (p : ℕ) (s : Result Head Broken) → s ≡ stated_at f p → (n : Broken) → s ≡ Err n → None ≡ second_by f p (stated_at f p)
unfolding second_by
second_refused f p s es n x = rw (← es, x) refl

pub ruleset second_ways = (stated_in, stated_word, stated_runs, wide, stated_bounded, second_none, start_word, end_word, second_there, second_refused, arith)

-- ---- `glance`

module _ (f : List ℕ) (s : Result Head Broken) (es : s ≡ stated_at f 0) where
  pub glance_in : (d : Head) → s ≡ Ok d → d.len ≤ length f
  glance_in d x = omega (arith, stated_in f 0 (omega arith) s es d x)

  pub glance_there : (d : Head) → s ≡ Ok d → (r : Glance) → r ≡ second_by f d.len (stated_at f d.len) → r ≡ glance_of f
  unfolding glance_of glance_by
  glance_there d x r e = rw (← es, x) e

  pub glance_refused : (n : Broken) → s ≡ Err n → None ≡ glance_of f
  unfolding glance_of glance_by
  glance_refused n x = rw (← es, x) refl

pub ruleset glance_ways = (glance_in, glance_there, glance_refused, arith)

-- ---- what a glance sees lies in the file

-- from a place up to a later one, both in the file
abbrev pub SeenIn : List ℕ → Glance → Type 0
SeenIn f (Some s) = (s.0 ≤ s.1) × (s.1 ≤ length f)
SeenIn f None = Unit {0}

field_in_lem : (f : List ℕ) (p : ℕ) → p ≤ length f → (d : Head) → stated_at f p ≡ Ok d → (q : Option Place)
    → q ≡ place_at (between f p (p + d.len)) d.shape 24 → SeenIn f (field_by p q)
unfolding field_by
field_in_lem f p l d e None eq = tt
field_in_lem f p l d e (Some c) eq =
    let w = held (between f p (p + d.len)) d.shape 24 (Some c) eq c refl in
    let i = stated_in f p l (Ok d) (sym e) d refl in
    (omega (arith, w.body_runs), omega (arith, w.body_in, length_between f p (p + d.len) i))

second_in : (f : List ℕ) (p : ℕ) → p ≤ length f → (s : Result Head Broken) → stated_at f p ≡ s → SeenIn f (second_by f p s)
unfolding second_by
second_in f p l (Ok d) e = by_test (SeenIn f) (both (leb d.shape.a 9) (leb d.shape.b 9)) _ _ (λ _. field_in_lem f p l d e _ refl) (λ _. tt)
second_in f p l (Err n) e = tt

glance_seen : (f : List ℕ) (s : Result Head Broken) → stated_at f 0 ≡ s → SeenIn f (glance_by f s)
unfolding glance_by
glance_seen f (Ok d) e = second_in f d.len (glance_in f (Ok d) (sym e) d refl) (stated_at f d.len) refl
glance_seen f (Err n) e = tt

module _ (f : List ℕ) (g : Glance) (eg : g ≡ glance_of f) (i j : ℕ) (x : g ≡ Some (i, j)) where
  seen_in : (i ≤ j) × (j ≤ length f)
  unfolding glance_of
  seen_in = let w : SeenIn f g = rw eg (glance_seen f (stated_at f 0) refl) in rw x at w

  pub seen_runs : i ≤ j
  seen_runs = seen_in.0

  pub seen_inside : j ≤ length f
  seen_inside = seen_in.1
