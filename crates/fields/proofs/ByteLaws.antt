-- Numbers in bytes, the bytes of numbers, and runs of text, at a place of a list. Assumes nothing.
use Prim.Native.Nat.{ℕ, zero, suc, ◌+◌, ◌*◌, ◌/◌, ◌%◌, ◌^◌, ◌≤◌, ◌<◌, zero-le, suc-le-suc}
use mathlib.Core.Path.{◌≡◌, refl, sym, ap, ◌∙◌}
use mathlib.Core.Bool.{Bool, true, false, true≢false}
use mathlib.Core.Logic.{◌⊎◌, inl, inr}
use mathlib.Core.List.{List, [], ◌∷◌, ◌++◌}
use native.Mathlib.Numerals.{add-one}
use native.Mathlib.Nat.{not-suc-le-zero, le_of_suc-le-suc, pow-suc, div-lt_iff_lt-mul}
use native.Mathlib.Omega.{arith}
use lib.ListN.{length, get_or, take, drop, drop_of_length-le}
use lib.Seq.{drop-cons, get_or-drop}
use lib.Dec.{lit<, ltb}
use borrow.Author.Tests.{eq-eqb, ne_eqb, ltb-true}
use Rattle.base.specs.Choice.{pick, both}
use Rattle.base.proofs.ChoiceLaws.{both_hold}
use Rattle.fields.specs.Bytes.{sep, le, bytes, run, clean}
use Rattle.fields.specs.Valid.{Bytes}

-- ---- numbers

-- the first byte, and the number behind it
le_more : (w : ℕ) (l : List ℕ) (at : ℕ) → at < length l → le (suc w) (drop at l) ≡ get_or l at 0 + 256 * le w (drop (at + 1) l)
unfolding le
le_more w l at h = rw (drop-cons l at 0, add-one)

le0 : (l : List ℕ) → le 0 l ≡ 0
unfolding le
le0 l = refl

pub le1 : (l : List ℕ) (at : ℕ) → at + 1 ≤ length l → le 1 (drop at l) ≡ get_or l at 0
le1 l at h = omega (arith, le_more 0 l at (omega arith), le0 (drop (at + 1) l))

pub le2 : (l : List ℕ) (at : ℕ) → at + 2 ≤ length l → le 2 (drop at l) ≡ get_or l at 0 + 256 * get_or l (at + 1) 0
le2 l at h = omega (arith, le_more 1 l at (omega arith), le1 l (at + 1) (omega arith))

pub le4 : (l : List ℕ) (at : ℕ) → at + 4 ≤ length l → le 4 (drop at l) ≡ le 2 (drop at l) + 65536 * le 2 (drop (at + 2) l)
le4 l at h =
    let e : at + 1 + 1 ≡ at + 2 = omega arith in
    let p : le 4 (drop at l) ≡ get_or l at 0 + 256 * le 3 (drop (at + 1) l) = le_more 3 l at (omega arith) in
    let q : le 3 (drop (at + 1) l) ≡ get_or l (at + 1) 0 + 256 * le 2 (drop (at + 2) l) = rw e at (le_more 2 l (at + 1) (omega arith)) in
    omega (arith, le2 l at (omega arith))

pub le4_bytes : (l : List ℕ) (at : ℕ) → at + 4 ≤ length l
    → le 4 (drop at l) ≡ get_or l at 0 + 256 * get_or l (at + 1) 0 + 65536 * get_or l (at + 2) 0 + 16777216 * get_or l (at + 3) 0
le4_bytes l at h =
    let e : at + 2 + 1 ≡ at + 3 = omega arith in
    let q : le 2 (drop (at + 2) l) ≡ get_or l (at + 2) 0 + 256 * get_or l (at + 3) 0 = rw e at (le2 l (at + 2) (omega arith)) in
    omega (arith, le4 l at h, le2 l at (omega arith))

-- ---- runs

run_le_by : (t : Bool) (l : List ℕ) → run l ≤ length l → pick t 0 (suc (run l)) ≤ suc (length l)
run_le_by true l ih = omega arith
run_le_by false l ih = omega arith

pub run_le : (l : List ℕ) → run l ≤ length l
unfolding run
run_le [] = omega arith
run_le (x ∷ l) = run_le_by (sep x) l (run_le l)

run_at : (l : List ℕ) (i : ℕ) → i < length l → run (drop i l) ≡ pick (sep (get_or l i 0)) 0 (suc (run (drop (i + 1) l)))
unfolding run
run_at l i h = rw (drop-cons l i 0, add-one)

-- the ways through a loop over the bytes of a text; e, where the run ends, is the same from each place on
module _ (l : List ℕ) (i e : ℕ) (inv : e ≡ i + run (drop i l)) where
  pub run_none : length l ≤ i → i ≡ e
  unfolding run
  run_none h = let r : run (drop i l) ≡ 0 = rw (drop_of_length-le l h) in omega arith

  pub run_sep : i < length l → (get_or l i 0 ≡ 30) ⊎ ((get_or l i 0 ≡ 30 → ⊥) × (get_or l i 0 ≡ 31)) → i ≡ e
  run_sep h (inl q) = let r : run (drop i l) ≡ 0 = run_at l i h ∙ simp (eq-eqb _ _ q) in omega arith
  run_sep h (inr q) = let r : run (drop i l) ≡ 0 = run_at l i h ∙ rw q.1 in omega arith

  pub run_more : i < length l → (get_or l i 0 ≡ 30 → ⊥) → (get_or l i 0 ≡ 31 → ⊥) → e ≡ i + 1 + run (drop (i + 1) l)
  run_more h n m =
      let r : run (drop i l) ≡ suc (run (drop (i + 1) l)) = run_at l i h ∙ simp (ne_eqb _ _ n, ne_eqb _ _ m) in
      omega arith

pub ruleset text_turn = (run_none, run_sep, run_more, arith)

-- ---- the bytes of a number

pub bytes_drop : (l : List ℕ) (n : ℕ) → Bytes l → Bytes (drop n l)
bytes_drop l n h k = rw (get_or-drop n l k 0) (h (n + k))

pub bytes_take : (n : ℕ) (l : List ℕ) → Bytes l → Bytes (take n l)
bytes_take zero l g k = omega arith
bytes_take (suc n) [] g k = omega arith
bytes_take (suc n) (x ∷ l) g zero = g zero
bytes_take (suc n) (x ∷ l) g (suc k) = bytes_take n l (λ j. g (suc j)) k

-- each number of a list is a byte, by computation
unfoldable pub are_bytes : List ℕ → Bool
are_bytes [] = true
are_bytes (x ∷ l) = both (ltb x 256) (are_bytes l)

pub are_bytes_lem : (l : List ℕ) → are_bytes l ≡ true → Bytes l
unfolding are_bytes
are_bytes_lem [] e k = omega arith
are_bytes_lem (x ∷ l) e zero = ltb-true x 256 (both_hold (ltb x 256) (are_bytes l) e).0
are_bytes_lem (x ∷ l) e (suc k) = are_bytes_lem l (both_hold (ltb x 256) (are_bytes l) e).1 k

low : (x y : ℕ) → x < 256 → (x + 256 * y) % 256 ≡ x
low x y h = omega arith

high : (x y : ℕ) → x < 256 → (x + 256 * y) / 256 ≡ y
high x y h = omega arith

pub bytes_le : (w : ℕ) (l : List ℕ) → Bytes l → w ≤ length l → bytes w (le w l) ≡ take w l
unfolding bytes le
bytes_le zero l h g = refl
bytes_le (suc w) [] h g = absurd (not-suc-le-zero g)
bytes_le (suc w) (x ∷ l) h g =
    rw (low x (le w l) (h 0), high x (le w l) (h 0)) (ap (λ (r : List ℕ). x ∷ r) (bytes_le w l (λ k. h (suc k)) (le_of_suc-le-suc g)))

pub length_bytes : (w n : ℕ) → length (bytes w n) ≡ w
unfolding bytes
length_bytes zero n = refl
length_bytes (suc w) n = ap suc (length_bytes w (n / 256))

pub le_bytes : (w n : ℕ) (r : List ℕ) → n < 256 ^ w → le w (bytes w n ++ r) ≡ n
unfolding bytes le
le_bytes zero n r h = omega arith
le_bytes (suc w) n r h =
    let q : n / 256 < 256 ^ w = (div-lt_iff_lt-mul {k = 256} (lit< tt)).1 (rw pow-suc at h) in
    let e : le w (bytes w (n / 256) ++ r) ≡ n / 256 = le_bytes w (n / 256) r q in
    rw e (omega arith)

-- w bytes are a number below 256 ^ w
pub le_bound : (w : ℕ) (l : List ℕ) → Bytes l → le w l < 256 ^ w
unfolding le
le_bound zero l h = lit< tt
le_bound (suc w) [] h = rw pow-suc (let q : le w [] < 256 ^ w = le_bound w [] h in omega arith)
le_bound (suc w) (x ∷ l) h = rw pow-suc (let q : le w l < 256 ^ w = le_bound w l (λ k. h (suc k)) in let b : x < 256 = h 0 in omega arith)

-- a number put together again from its three bytes
pub three_bytes_lem : (x : ℕ) → x < 16777216 → x % 256 + 256 * (x / 256 % 256) + 65536 * (x / 65536 % 256) ≡ x
three_bytes_lem x h = omega arith

-- ---- texts without separators

clean_both : (u v : Bool) → pick u false v ≡ true → (u ≡ false) × (v ≡ true)
clean_both true v e = absurd (true≢false (sym e))
clean_both false v e = (refl, e)

pub clean_run : (t : List ℕ) (x : ℕ) (r : List ℕ) → clean t ≡ true → sep x ≡ true → run (t ++ x ∷ r) ≡ length t
unfolding run clean
clean_run [] x r c e = rw e
clean_run (y ∷ t) x r c e = let p = clean_both (sep y) (clean t) c in rw p.0 (ap suc (clean_run t x r p.1 e))

pub clean_le : (t r : List ℕ) → clean t ≡ true → length t ≤ run (t ++ r)
unfolding run clean
clean_le [] r c = zero-le
clean_le (y ∷ t) r c = let p = clean_both (sep y) (clean t) c in rw p.0 (suc-le-suc (clean_le t r p.1))

clean_by : (u : Bool) (w n : ℕ) (t : List ℕ) → (w ≤ n → clean t ≡ true) → suc w ≤ pick u 0 (suc n) → pick u false (clean t) ≡ true
clean_by true w n t ih h = absurd (not-suc-le-zero h)
clean_by false w n t ih h = ih (le_of_suc-le-suc h)

-- what stands before a separator is clean
pub clean_take : (w : ℕ) (l : List ℕ) → w ≤ run l → clean (take w l) ≡ true
unfolding run clean
clean_take zero l h = refl
clean_take (suc w) [] h = absurd (not-suc-le-zero h)
clean_take (suc w) (x ∷ l) h = clean_by (sep x) w (run l) (take w l) (clean_take w l) h
