-- Laws of numbers as digits. Assumes nothing.
use mathlib.Core.Path.{◌≡◌, refl, sym, ap, ◌∙◌}
use mathlib.Core.List.{List, [], ◌∷◌, ◌++◌, map, map-map, map-append, reverse, reverse-cons, reverse-reverse}
use Prim.Native.Nat.{ℕ, zero, suc, ◌+◌, ◌-◌, ◌*◌, ◌/◌, ◌%◌, ◌^◌, ◌<◌}
use native.Mathlib.Nat.{add-zero, zero-add, sub-zero, add-mul-mod_self_left, add-mul-div_left, mod-eq_of_lt, div-eq_of_lt, pow-zero, pow-suc, div-add-mod', div-lt_iff_lt-mul}
use native.Mathlib.Numerals.{sub-one}
use native.Mathlib.Omega.{arith}
use lib.ListN.{length, take, drop, get_or, length-map, length-reverse}
use lib.Seq.{drop-drop, get_or-drop, get_or-take, take-take, take_all, take_at, get_or_at}
use Rattle.memory.specs.Digits.{digits, number, little_endian, from_little_endian, decimal, from_decimal}

-- ---- in every base and width

-- w digits are w elements
pub length_digits : (b w x : ℕ) → length (digits b w x) ≡ w
unfolding digits
length_digits b zero x = refl
length_digits b (suc w) x = ap suc (length_digits b w (x / b))

-- a number that fits its digits is read back from them
pub number_digits : (b w x : ℕ) → 0 < b → x < b ^ w → number b (digits b w x) ≡ x
unfolding digits number
number_digits b zero x k h = let one : b ^ 0 ≡ 1 = pow-zero b in omega arith
number_digits b (suc w) x k h =
    let fits : x < b ^ w * b = rw pow-suc at h in
    rw (number_digits b w (x / b) k ((div-lt_iff_lt-mul k).1 fits)) (omega (arith, div-add-mod' x b))

-- digits, each below the base, are those of the number that they say
pub digits_number : (b : ℕ) (ds : List ℕ) → 0 < b → ((i : ℕ) → get_or ds i 0 < b) → digits b (length ds) (number b ds) ≡ ds
unfolding digits number
digits_number b [] k small = refl
digits_number b (d ∷ ds) k small =
    let h : d < b = small 0 in
    rw (add-mul-mod_self_left, add-mul-div_left d (number b ds) k, mod-eq_of_lt h, div-eq_of_lt h, zero-add, digits_number b ds k (λ i. small (suc i)))

-- ---- little-endian

-- it is w bytes long
pub length_little_endian : (w x : ℕ) → length (little_endian w x) ≡ w
unfolding little_endian
length_little_endian w x = length_digits 256 w x

-- a number that fits w bytes is read back
pub little_endian_back : (w x : ℕ) → x < 256 ^ w → from_little_endian (little_endian w x) ≡ x
unfolding little_endian from_little_endian
little_endian_back w x h = number_digits 256 w x (omega arith) h

-- the start of the loop that writes it
pub little_endian_start : (w x : ℕ) → drop 0 (little_endian w x) ≡ little_endian (w - 0) x
little_endian_start w x = rw sub-zero

-- a turn of it: k bytes are written, and those that are not are the lowest of `rest`
pub little_endian_turn : (w k rest : ℕ) (ys : List ℕ) → k < w → drop k ys ≡ little_endian (w - k) rest
    → (rest % 256 ≡ get_or ys k 0) × (drop (k + 1) ys ≡ little_endian (w - (k + 1)) (rest / 256))
unfolding little_endian digits
little_endian_turn w k rest ys h e =
    let more : w - k ≡ suc (w - (k + 1)) = omega arith in
    let now : drop k ys ≡ rest % 256 ∷ digits 256 (w - (k + 1)) (rest / 256) = rw more at e in
    (sym (ap (λ (l : List ℕ). get_or l 0 0) now) ∙ rw add-zero at (get_or-drop k ys 0 0), sym (drop-drop 1 k ys) ∙ ap (drop 1) now)

-- ---- decimal

-- it is w characters long
pub length_decimal : (w x : ℕ) → length (decimal w x) ≡ w
unfolding decimal
length_decimal w x = length-map (reverse (digits 10 w x)) (λ (d : ℕ). 48 + d) ∙ length-reverse (digits 10 w x) ∙ length_digits 10 w x

-- the lowest digit comes last
pub decimal_snoc : (w x : ℕ) → decimal (suc w) x ≡ decimal w (x / 10) ++ ((48 + x % 10) ∷ [])
unfolding decimal digits
decimal_snoc w x = rw (reverse-cons, map-append)

-- a number that fits w characters is read back
pub decimal_back : (w x : ℕ) → x < 10 ^ w → from_decimal (decimal w x) ≡ x
unfolding decimal from_decimal
decimal_back w x h =
    ap (λ (l : List ℕ). number 10 (reverse l)) (map-map (λ (c : ℕ). c - 48) (λ (d : ℕ). 48 + d) (reverse (digits 10 w x)) ∙ same (reverse (digits 10 w x)))
    ∙ ap (number 10) (reverse-reverse (digits 10 w x))
    ∙ number_digits 10 w x (omega arith) h
  where
    same : (l : List ℕ) → map (λ (d : ℕ). 48 + d - 48) l ≡ l
    same [] = refl
    same (d ∷ l) = let e : 48 + d - 48 ≡ d = omega arith in rw (e, same l)

-- the start of the loop that writes it
pub decimal_start : (w x : ℕ) → take w (decimal w x) ≡ decimal w x
decimal_start w x = take_all w (decimal w x) (omega (arith, length_decimal w x))

-- a turn of it: the first k characters are left to write, and they are the lowest of `rest`
pub decimal_turn : (k rest : ℕ) (ys : List ℕ) → 0 < k → take k ys ≡ decimal k rest
    → (48 + rest % 10 ≡ get_or ys (k - 1) 0) × (take (k - 1) ys ≡ decimal (k - 1) (rest / 10))
decimal_turn zero rest ys h e = absurd (omega arith)
decimal_turn (suc k) rest ys h e =
    let now : take (suc k) ys ≡ decimal k (rest / 10) ++ ((48 + rest % 10) ∷ []) = e ∙ decimal_snoc k rest in
    let size : length (decimal k (rest / 10)) ≡ k = length_decimal k (rest / 10) in
    rw sub-one (
      sym (sym (get_or-take (suc k) ys k 0 (omega arith)) ∙ ap (λ (l : List ℕ). get_or l k 0) now ∙ get_or_at (decimal k (rest / 10)) (48 + rest % 10) [] 0 k size),
      sym (take-take k (suc k) ys (omega arith)) ∙ ap (take k) now ∙ take_at (decimal k (rest / 10)) ((48 + rest % 10) ∷ []) k size,
    )
