-- Laws of the keys that bodies begin with. Assumes nothing.
use Prim.Native.Nat.{ℕ, zero, suc, ◌+◌, ◌*◌, ◌≤◌}
use mathlib.Core.Path.{◌≡◌, refl, ap}
use mathlib.Core.Bool.{Bool, true, false}
use mathlib.Core.List.{List, [], ◌∷◌}
use native.Mathlib.Nat.{not-suc-le-zero, le_of_suc-le-suc}
use native.Mathlib.Omega.{arith}
use borrow.Author.Tests.{eq-eqb, ne_eqb}
use lib.ListN.{take, drop}
use lib.Seq.{drop-drop}
use lib.Dec.{eqb}
use Rattle.base.specs.Choice.{both}
use Rattle.base.specs.Keys.{same}
use Rattle.fields.specs.Bytes.{le}
use Rattle.cells.specs.Keys.{key_in, key_size}

-- ---- numbers in the front of some bytes

-- the first w of m bytes
pub le_take : (w m : ℕ) (l : List ℕ) → w ≤ m → le w (take m l) ≡ le w l
unfolding le
le_take zero m l h = refl
le_take (suc w) zero l h = absurd (not-suc-le-zero h)
le_take (suc w) (suc m) [] h = refl
le_take (suc w) (suc m) (x ∷ l) h = ap (λ (n : ℕ). x + 256 * n) (le_take w m l (le_of_suc-le-suc h))

-- w of them from k on
le_part : (k w m : ℕ) (l : List ℕ) → k + w ≤ m → le w (drop k (take m l)) ≡ le w (drop k l)
le_part zero w m l h = le_take w m l (omega arith)
le_part (suc k) w zero l h = absurd (omega arith)
le_part (suc k) w (suc m) [] h = refl
le_part (suc k) w (suc m) (x ∷ l) h = le_part k w m l (omega arith)

-- the key of a part of some bytes that has room for it is that of the bytes
pub key_part : (inas : Bool) (m : ℕ) (l : List ℕ) → key_size inas ≤ m → key_in inas (take m l) ≡ key_in inas l
unfolding key_in
key_part true m l h = rw (le_take 1 m l (omega arith), le_part 1 4 m l (omega arith), le_part 5 2 m l (omega arith), le_part 7 2 m l (omega arith))
key_part false m l h = rw (le_take 1 m l (omega arith), le_part 1 4 m l (omega arith))

-- ---- the ways through `same_key`

module _ (a b : List ℕ) (i j : ℕ) (x y : ℕ) (ex : x ≡ le 1 (drop i a)) (ey : y ≡ le 1 (drop j b)) where
  pub first_differs : (inas : Bool) → (x ≡ y → ⊥) → false ≡ same (key_in inas (drop i a)) (key_in inas (drop j b))
  unfolding key_in same
  first_differs inas n = simp (← ex, ← ey, ne_eqb x y n)

  module _ (e : x ≡ y) (z w : ℕ) (ez : z ≡ le 4 (drop (i + 1) a)) (ew : w ≡ le 4 (drop (j + 1) b)) where
    pub second_differs : (inas : Bool) → (z ≡ w → ⊥) → false ≡ same (key_in inas (drop i a)) (key_in inas (drop j b))
    unfolding key_in same
    second_differs inas n = simp (drop-drop, ← ex, ← ey, eq-eqb x y e, ← ez, ← ew, ne_eqb z w n)

    module _ (f : z ≡ w) where
      pub short_same : (inas : Bool) → inas ≡ false → true ≡ same (key_in inas (drop i a)) (key_in inas (drop j b))
      unfolding key_in same
      short_same inas n = rw n (simp (drop-drop, ← ex, ← ey, eq-eqb x y e, ← ez, ← ew, eq-eqb z w f))

      module _ (inas : Bool) (long : inas ≡ true) (p q : ℕ) (ep : p ≡ le 2 (drop (i + 5) a)) (eq : q ≡ le 2 (drop (j + 5) b)) where
        pub third_differs : (p ≡ q → ⊥) → false ≡ same (key_in inas (drop i a)) (key_in inas (drop j b))
        unfolding key_in same
        third_differs n =
            rw long (simp (drop-drop, ← ex, ← ey, eq-eqb x y e, ← ez, ← ew, eq-eqb z w f, ← ep, ← eq, ne_eqb p q n))

        last_both : (t : Bool) → t ≡ both t true
        last_both true = refl
        last_both false = refl

        pub fourth_decides : p ≡ q → (r s : ℕ) → r ≡ le 2 (drop (i + 7) a) → s ≡ le 2 (drop (j + 7) b)
            → eqb r s ≡ same (key_in inas (drop i a)) (key_in inas (drop j b))
        unfolding key_in same
        fourth_decides g r s er es =
            rw long
            (simp (drop-drop, ← ex, ← ey, eq-eqb x y e, ← ez, ← ew, eq-eqb z w f, ← ep, ← eq, eq-eqb p q g, ← er, ← es) (last_both (eqb r s)))

-- ---- the bytes of a key are there

pub key_least : (inas : Bool) → 5 ≤ key_size inas
key_least true = omega arith
key_least false = omega arith

module _ (inas : Bool) (i n : ℕ) (h : i + key_size inas ≤ n) where
  pub first_there : i + 1 ≤ n
  first_there = omega (arith, key_least inas)

  pub second_there : i + 1 + 4 ≤ n
  second_there = omega (arith, key_least inas)

  long_size : (t : Bool) → t ≡ true → key_size t ≡ 9
  long_size t e = rw e

  pub third_there : inas ≡ true → i + 5 + 2 ≤ n
  third_there e = omega (arith, long_size inas e)

  pub fourth_there : inas ≡ true → i + 7 + 2 ≤ n
  fourth_there e = omega (arith, long_size inas e)

pub ruleset key_ways = (
  first_differs,
  second_differs,
  short_same,
  third_differs,
  fourth_decides,
  first_there,
  second_there,
  third_there,
  fourth_there,
  arith,
)
