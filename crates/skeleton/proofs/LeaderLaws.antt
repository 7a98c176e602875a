-- Laws of a leader's bytes and of what they say. Assumes nothing.
use mathlib.Core.Path.{◌≡◌, refl, sym}
use mathlib.Core.List.{List, [], ◌∷◌}
use mathlib.Core.Bool.{Bool, true, false, not, true≢false}
use Prim.Native.Nat.{ℕ, zero, suc, ◌+◌, ◌-◌, ◌^◌, ◌≤◌, ◌<◌}
use native.Mathlib.Numerals.{add-one}
use native.Mathlib.Omega.{arith}
use borrow.Author.Tests.{not-true, not-false, leb-true, ltb-false, lt-ltb, le-ltb}
use lib.ListN.{length, get_or, drop_of_length-le}
use lib.Seq.{drop-cons}
use lib.Dec.{leb, ltb}
use Rattle.base.specs.Choice.{both}
use Rattle.base.proofs.ChoiceLaws.{by_test, both_hold}
use Rattle.skeleton.specs.Digits.{number_at, value_of}
use Rattle.skeleton.specs.Leader.{fits_byte, shaped, shaped_from, template, number_of, good, shape, within, stated_of, leader_of}
use Rattle.std.specs.Prelude.{Option, Some, None, Result, Ok, Err}
use Rattle.skeleton.specs.declared.leader.Head.{Head}
use Rattle.skeleton.specs.declared.leader.Broken.{Broken}
use Rattle.skeleton.specs.declared.leader.Broken.TheVariants.{Cut, Leader, Directory}
use Rattle.skeleton.proofs.DigitsLaws.{number_small}

-- ---- the bytes

-- a turn of `begins`: each law takes `inv`, what the answer has to be, one way out
module _ (t s : List ℕ) (i : ℕ) (r : Bool) (inv : shaped_from t s i ≡ r) where
  pub shaped_done : length t ≤ i → true ≡ r
  unfolding shaped_from shaped
  shaped_done h = rw (drop_of_length-le t h) at inv

  module _ (h : i < length t) (g : length t ≤ length s) where
    shaped_cons : both (fits_byte (get_or t i 0) (get_or s i 0)) (shaped_from t s (i + 1)) ≡ r
    unfolding shaped_from shaped
    shaped_cons = simp (add-one) (rw (drop-cons t i 0 h, drop-cons s i 0 (omega arith)) at inv)

    module _ (b : Bool) (e : b ≡ fits_byte (get_or t i 0) (get_or s i 0)) where
      pub shaped_not : not b ≡ true → false ≡ r
      shaped_not n = simp (← e, not-true b n) at shaped_cons

      pub shaped_more : not b ≡ false → shaped_from t s (i + 1) ≡ r
      shaped_more n = simp (← e, not-false b n) at shaped_cons

pub ruleset shaped_turn = (shaped_done, shaped_not, shaped_more, arith)

-- what begins as a template fits it at each place
shaped_at : (t s : List ℕ) (i : ℕ) → i < length t → shaped t s ≡ true → fits_byte (get_or t i 0) (get_or s i 0) ≡ true
unfolding shaped
shaped_at [] s i h e = absurd (omega arith)
shaped_at (t ∷ ts) [] i h e = absurd (true≢false (sym e))
shaped_at (t ∷ ts) (x ∷ xs) zero h e = (both_hold (fits_byte t x) (shaped ts xs) e).0
shaped_at (t ∷ ts) (x ∷ xs) (suc i) h e = shaped_at ts xs i (omega arith) (both_hold (fits_byte t x) (shaped ts xs) e).1

-- a leader's two widths are '1' to '9'
fits_plus : (x : ℕ) → fits_byte 43 x ≡ true → x ≤ 57
unfolding fits_byte
fits_plus x e = leb-true x 57 (both_hold (leb 49 x) (leb x 57) e).1

width_a : (first : Bool) (s : List ℕ) → shaped (template first) s ≡ true → get_or s 20 0 ≤ 57
width_a true s e = fits_plus _ (shaped_at (template true) s 20 (omega arith) e)
width_a false s e = fits_plus _ (shaped_at (template false) s 20 (omega arith) e)

width_b : (first : Bool) (s : List ℕ) → shaped (template first) s ≡ true → get_or s 21 0 ≤ 57
width_b true s e = fits_plus _ (shaped_at (template true) s 21 (omega arith) e)
width_b false s e = fits_plus _ (shaped_at (template false) s 21 (omega arith) e)

-- ---- what they say

-- the number of a refusal is not 0
pub number_some : (x : Broken) → 0 < number_of x
number_some Cut = omega arith
number_some Leader = omega arith
number_some Directory = omega arith

-- the bounds of what a leader says
abbrev pub Fitting : List ℕ → Result Head Broken → Type 0
Fitting s (Ok d) = (d.len ≤ length s) × (d.shape.base < 10 ^ 9) × (d.shape.a ≤ 9) × (d.shape.b ≤ 9)
Fitting s (Err x) = Unit {0}

fitting_of : (s : List ℕ) (n m : Option ℕ) → value_of m < 10 ^ 9 → get_or s 20 0 ≤ 57 → get_or s 21 0 ≤ 57 → Fitting s (within s n m)
fitting_of s (Some len) (Some base) h a b =
    by_test (Fitting s) (ltb (length s) len) _ _ (λ _. tt) (λ e. (ltb-false (length s) len e, h, omega arith, omega arith))
fitting_of s (Some len) None h a b = tt
fitting_of s None m h a b = tt

pub leader_fitting : (s : List ℕ) (first : Bool) → Fitting s (leader_of s first)
unfolding leader_of stated_of
leader_fitting s first =
    by_test (Fitting s) (ltb (length s) 24) _ _ (λ _. tt) (λ _.
    by_test (Fitting s) (not (shaped (template first) s)) _ _ (λ _. tt) (λ e.
    let x = not-false _ e in
    fitting_of s (number_at s 0 5) (number_at s 12 5) (number_small s 12 5 (omega arith)) (width_a first s x) (width_b first s x)))

-- a leader that says something says what its numbers say
abbrev pub Stated : List ℕ → Result Head Broken → Type 0
Stated s (Ok d) = (24 ≤ length s) × (stated_of s ≡ Ok d)
Stated s (Err x) = Unit {0}

stated_of_lem : (s : List ℕ) (h : Result Head Broken) → 24 ≤ length s → stated_of s ≡ h → Stated s h
stated_of_lem s (Ok d) l e = (l, e)
stated_of_lem s (Err x) l e = tt

pub leader_stated : (s : List ℕ) (first : Bool) → Stated s (leader_of s first)
unfolding leader_of
leader_stated s first =
    by_test (Stated s) (ltb (length s) 24) _ _ (λ _. tt) (λ x.
    by_test (Stated s) (not (shaped (template first) s)) _ _ (λ _. tt) (λ _. stated_of_lem s (stated_of s) (ltb-false _ _ x) refl))

-- what `leader` returns, by its tests
module _ (s : List ℕ) (first : Bool) where
  pub leader_short : length s < 24 → Err Cut ≡ leader_of s first
  unfolding leader_of
  leader_short h = simp (lt-ltb _ _ h)

  module _ (h : 24 ≤ length s) (b : Bool) (e : b ≡ shaped (template first) s) where
    pub leader_bytes : not b ≡ true → Err Leader ≡ leader_of s first
    unfolding leader_of
    leader_bytes n = simp (le-ltb _ _ h, ← e, n)

    pub leader_numbers : not b ≡ false → (r : Result Head Broken) → r ≡ stated_of s → r ≡ leader_of s first
    unfolding leader_of
    leader_numbers n r x = simp (le-ltb _ _ h, ← e, n, x)

pub ruleset leader_ways = (leader_short, leader_bytes, leader_numbers)

-- what `stated` returns, by its tests
module _ (s : List ℕ) (n : Option ℕ) (en : n ≡ number_at s 0 5) where
  pub stated_no_len : n ≡ None → Err Leader ≡ stated_of s
  unfolding stated_of
  stated_no_len x = simp (← en, x)

  module _ (len : ℕ) (x : n ≡ Some len) (m : Option ℕ) (em : m ≡ number_at s 12 5) where
    pub stated_no_base : m ≡ None → Err Leader ≡ stated_of s
    unfolding stated_of
    stated_no_base y = simp (← en, x, ← em, y)

    module _ (base : ℕ) (y : m ≡ Some base) where
      pub stated_past : length s < len → Err Cut ≡ stated_of s
      unfolding stated_of
      stated_past h = simp (← en, x, ← em, y, lt-ltb _ _ h)

      pub stated_good : len ≤ length s → (a b : ℕ) → a ≡ get_or s 20 0 - 48 → b ≡ get_or s 21 0 - 48 → good len (shape base a b) ≡ stated_of s
      unfolding stated_of
      stated_good h a b p q = simp (← en, x, ← em, y, le-ltb _ _ h, p, q)

pub ruleset stated_ways = (stated_no_len, stated_no_base, stated_past, stated_good)
