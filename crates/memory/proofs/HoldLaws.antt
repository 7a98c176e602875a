-- Laws of cleared memory. Assumes nothing.
use mathlib.Core.Path.{◌≡◌, ap, ◌∙◌}
use mathlib.Core.List.{List, [], ◌++◌}
use Prim.Native.Nat.{ℕ, zero, suc, ◌+◌, ◌-◌, ◌≤◌, ◌<◌}
use native.Mathlib.Nat.{sub-zero, zero-sub, zero-add, suc-sub-suc}
use native.Mathlib.Omega.{arith}
use lib.ListN.{length, take, drop, get_or, replicate, length-append, length-take, length-drop, length-replicate, get_or-replicate}
use lib.Seq.{take_at, drop_at, length-take-le}
use Rattle.memory.specs.Put.{put}
use Rattle.memory.specs.Hold.{zeros, hold}
use Rattle.memory.proofs.PutLaws.{put_is, put_rest, put_lent}

-- n zeroes are n elements
pub length_zeros : (n : ℕ) → length (zeros n) ≡ n
unfolding zeros
length_zeros n = length-replicate n 0

-- each of them is zero
pub get_d_zeros : (n i : ℕ) → i < n → get_or (zeros n) i 0 ≡ 0
unfolding zeros
get_d_zeros n i h = get_or-replicate n i 0 0 h

-- zeroes without the first m
drop_zeros : (m n : ℕ) → drop m (zeros n) ≡ zeros (n - m)
unfolding zeros
drop_zeros zero n = rw sub-zero
drop_zeros (suc m) zero = rw zero-sub
drop_zeros (suc m) (suc n) = rw suc-sub-suc (drop_zeros m n)

-- the place keeps its length
pub length_hold : (n : ℕ) (xs : List ℕ) → length xs ≤ n → length (hold n xs) ≡ n
unfolding hold
length_hold n xs h = simp (length-append, length_zeros) (omega arith)

-- what is held
pub take_hold : (n u : ℕ) (xs : List ℕ) → length xs ≡ u → take u (hold n xs) ≡ xs
unfolding hold
take_hold n u xs e = take_at xs (zeros (n - length xs)) u e

-- what stands behind that
pub drop_hold : (n u : ℕ) (xs : List ℕ) → length xs ≡ u → drop u (hold n xs) ≡ zeros (n - u)
unfolding hold
drop_hold n u xs e = rw e (drop_at xs (zeros (n - u)) u e)

-- a place that holds nothing
pub hold_nil : (n : ℕ) → hold n [] ≡ zeros n
unfolding hold
hold_nil n = rw sub-zero

-- what is written at the front of a cleared place is held there
pub put_on_zeros : (n : ℕ) (ys : List ℕ) → length ys ≤ n → put 0 ys (zeros n) ≡ hold n ys
unfolding hold
put_on_zeros n ys h = put_is 0 ys (zeros n) (omega (arith, length_zeros n)) ∙ rw (zero-add, drop_zeros)

-- a place that is cleared from index `at` on
pub put_zeros : (at : ℕ) (s : List ℕ) → at ≤ length s → put at (zeros (length s - at)) s ≡ hold (length s) (take at s)
unfolding hold
put_zeros at s h = rw (length-take-le at s) (put_rest at (zeros (length s - at)) s (simp length_zeros (omega arith)))

-- k elements from index `at` on that were lent and have come back as zeroes, where k is n
pub zeros_lent : (at n k : ℕ) (ys s : List ℕ) → k ≡ n → at + n ≤ length s → ys ≡ replicate (length (take k (drop at s))) 0
    → take at s ++ (ys ++ drop k (drop at s)) ≡ put at (zeros n) s
unfolding zeros
zeros_lent at n k ys s e h is =
    let size : length (take k (drop at s)) ≡ n = simp (length-take, length-drop) (omega arith) in
    let all : ys ≡ replicate n 0 = is ∙ ap (λ (m : ℕ). replicate m 0) size in
    rw (e, all) (put_lent at n (replicate n 0) s (length-replicate n 0) h)
