-- Laws of numbers read from digits, and of the room that so many digits need. Assumes nothing.
use mathlib.Core.Path.{◌≡◌}
use mathlib.Core.List.{List, [], ◌∷◌}
use Prim.Native.Nat.{ℕ, zero, suc, ◌+◌, ◌-◌, ◌*◌, ◌^◌, ◌≤◌, ◌<◌}
use native.Mathlib.Nat.{pow-suc, mul-le-mul_left, mul-le-mul_right, one-le-pow, pow-le-pow_right}
use native.Mathlib.Numerals.{sub-one}
use native.Mathlib.Omega.{arith}
use borrow.Author.Tests.{le-leb, lt-leb, leb-true}
use lib.ListN.{length, get_or, length-take}
use lib.Dec.{leb}
use Rattle.base.specs.Choice.{both}
use Rattle.base.proofs.ChoiceLaws.{by_test, both_hold}
use Rattle.base.proofs.ListLaws.{take_drop_cons}
use Rattle.skeleton.specs.Digits.{is_digit, digits, digits_from, window, number_at, value_of}
use Rattle.std.specs.Prelude.{Option, Some, None}

-- a window is its first byte and the window after it
window_cons : (s : List ℕ) (i k : ℕ) → 0 < k → i + k ≤ length s → window s i k ≡ get_or s i 0 ∷ window s (i + 1) (k - 1)
window_cons s i k h g = take_drop_cons i k s (omega arith) h

-- a digit more
pub digit_more : (s : List ℕ) (i k acc : ℕ) → 0 < k → i + k ≤ length s → 48 ≤ get_or s i 0 → get_or s i 0 ≤ 57
    → digits_from s (i + 1) (k - 1) (acc * 10 + (get_or s i 0 - 48)) ≡ digits_from s i k acc
unfolding digits_from digits is_digit
digit_more s i k acc h g l m = rw (window_cons s i k h g) (simp (le-leb _ _ l, le-leb _ _ m))

-- what the number of the digits from i up to e is, by the byte at i: each law takes `inv`, what it has to be, one way out of a turn
module _ (s : List ℕ) (i e acc : ℕ) (r : Option ℕ) (inv : digits_from s i (e - i) acc ≡ r) where
  pub number_done : e ≤ i → Some acc ≡ r
  unfolding digits_from digits
  number_done h = let z : e - i ≡ 0 = omega arith in rw z at inv

  module _ (h : i < e) (g : e ≤ length s) where
    there : window s i (e - i) ≡ get_or s i 0 ∷ window s (i + 1) (e - (i + 1))
    there = let z : e - (i + 1) ≡ e - i - 1 = omega arith in rw z (window_cons s i (e - i) (omega arith) (omega arith))

    pub number_low : get_or s i 0 < 48 → None ≡ r
    unfolding digits_from digits is_digit
    number_low l = simp (lt-leb _ _ l) at (rw there at inv)

    pub number_high : 48 ≤ get_or s i 0 → 57 < get_or s i 0 → None ≡ r
    unfolding digits_from digits is_digit
    number_high l m = simp (le-leb _ _ l, lt-leb _ _ m) at (rw there at inv)

    pub number_more : 48 ≤ get_or s i 0 → get_or s i 0 ≤ 57 → digits_from s (i + 1) (e - (i + 1)) (acc * 10 + (get_or s i 0 - 48)) ≡ r
    unfolding digits_from digits is_digit
    number_more l m = simp (le-leb _ _ l, le-leb _ _ m) at (rw there at inv)

-- ---- room

-- k more digits after acc stay below m
abbrev pub Room : ℕ → ℕ → ℕ → Type 0
Room m k acc = (acc + 1) * 10 ^ k ≤ m

-- no digit read, k to come
pub room_start : (m k : ℕ) → k ≤ m → Room (10 ^ m) k 0
room_start m k h = omega (arith, pow-le-pow_right {n = 10} (omega arith) h)

-- with no digit to come there is still room
room_below : (m k acc : ℕ) → Room m k acc → acc < m
room_below m k acc h = omega (arith, mul-le-mul_left (acc + 1) (one-le-pow k 10 (omega arith)))

room_digit : (acc d : ℕ) → d ≤ 9 → acc * 10 + d + 1 ≤ (acc + 1) * 10
room_digit acc d h = omega arith

room_next : (m k acc d : ℕ) → 0 < k → d ≤ 9 → Room m k acc → Room m (k - 1) (acc * 10 + d)
room_next m zero acc d h n r = absurd (omega arith)
room_next m (suc k) acc d h n r =
    let s : (acc + 1) * (10 ^ k * 10) ≤ m = rw (pow-suc 10 k) at r in
    rw (sub-one) (omega (arith, mul-le-mul_right (10 ^ k) (room_digit acc d n)))

-- a digit's byte is read
room_byte : (m k acc b : ℕ) → Room m k acc → 0 < k → b ≤ 57 → Room m (k - 1) (acc * 10 + (b - 48))
room_byte m k acc b r h n = room_next m k acc (b - 48) h (omega arith) r

-- the same of the digits from i up to e
pub room_digits : (m i e acc b : ℕ) → Room m (e - i) acc → i < e → b ≤ 57 → Room m (e - (i + 1)) (acc * 10 + (b - 48))
room_digits m i e acc b r h n = let z : e - (i + 1) ≡ e - i - 1 = omega arith in rw z (room_byte m (e - i) acc b r (omega arith) n)

-- what nine digits hold, and a digit more, fit a machine word
pub room_times : (k acc : ℕ) → Room (10 ^ 9) k acc → acc * 10 < 2 ^ 64
room_times k acc r = omega (arith, room_below (10 ^ 9) k acc r)

pub room_plus : (k acc b : ℕ) → Room (10 ^ 9) k acc → b ≤ 57 → acc * 10 + (b - 48) < 2 ^ 64
room_plus k acc b r h = omega (arith, room_below (10 ^ 9) k acc r)

-- ---- a number's size

-- digits that have room below m are a number below m
digits_below : (m : ℕ) (bs : List ℕ) (acc : ℕ) → 0 < m → Room m (length bs) acc → value_of (digits bs acc) < m
unfolding digits is_digit
digits_below m [] acc z h = room_below m 0 acc h
digits_below m (b ∷ bs) acc z h =
    by_test (λ n. value_of n < m) (both (leb 48 b) (leb b 57)) _ _
    (λ e.
    let x = leb-true b 57 (both_hold (leb 48 b) _ e).1 in
    digits_below m bs (acc * 10 + (b - 48)) z (rw sub-one at (room_byte m (suc (length bs)) acc b h (omega arith) x)))
    (λ _. z)

-- a number of at most nine digits
pub number_small : (s : List ℕ) (at w : ℕ) → w ≤ 9 → value_of (number_at s at w) < 10 ^ 9
unfolding digits_from
number_small s at w h =
    digits_below (10 ^ 9) (window s at w) 0 (omega arith) (room_start 9 (length (window s at w)) (simp length-take (omega arith)))

-- a turn of `number_at`
pub ruleset number_turn = (number_done, number_low, number_high, number_more, room_digits, room_times, room_plus, arith)
