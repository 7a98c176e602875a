-- Laws of lists of keys. Assumes nothing.
use mathlib.Core.Path.{◌≡◌, refl, sym, ap, ◌∙◌}
use mathlib.Core.List.{List, [], ◌∷◌, ◌++◌}
use mathlib.Core.Bool.{Bool, true, false, true≢false}
use Prim.Native.Nat.{ℕ, zero, suc, ◌+◌, ◌-◌, ◌≤◌, ◌<◌}
use native.Mathlib.Omega.{arith}
use native.Mathlib.Numerals.{add-one, sub-one}
use borrow.Author.Tests.{eq-eqb, ne_eqb}
use lib.ListN.{length, get_or, take, drop, length-drop}
use lib.Seq.{take-suc, drop-cons}
use lib.Dec.{eqb}
use Rattle.base.specs.Choice.{either}
use Rattle.keys.specs.Listed.{listed}

-- ---- which keys are listed

pub listed_here : (k x : ℕ) (l : List ℕ) → x ≡ k → listed k (x ∷ l) ≡ true
unfolding listed
listed_here k x l e = simp (eq-eqb x k e)

pub listed_later : (k x : ℕ) (l : List ℕ) → (x ≡ k → ⊥) → listed k (x ∷ l) ≡ listed k l
unfolding listed
listed_later k x l n = simp (ne_eqb x k n)

pub listed_none : (k : ℕ) → listed k [] ≡ false
unfolding listed
listed_none k = refl

-- a key that is not listed is not the first, and not among the others
pub not_first : (k x : ℕ) (l : List ℕ) → listed k (x ∷ l) ≡ false → x ≡ k → ⊥
not_first k x l e h = true≢false (sym (listed_here k x l h) ∙ e)

pub not_later : (k x : ℕ) (l : List ℕ) → listed k (x ∷ l) ≡ false → listed k l ≡ false
not_later k x l e = sym (listed_later k x l (not_first k x l e)) ∙ e

-- one more at the end
pub listed_more : (k x : ℕ) (l : List ℕ) → listed k (l ++ (x ∷ [])) ≡ either (listed k l) (eqb x k)
unfolding listed
listed_more k x [] = last (eqb x k)
  where
    last : (b : Bool) → either b false ≡ b
    last true = refl
    last false = refl
listed_more k x (y ∷ ys) = more (eqb y k) _ _ (listed_more k x ys)
  where
    more : (b u v : Bool) → u ≡ either v (eqb x k) → either b u ≡ either (either b v) (eqb x k)
    more true u v e = refl
    more false u v e = e

-- what is among the later ones is among them all
pub listed_drop : (i : ℕ) (l : List ℕ) (k : ℕ) → listed k (drop i l) ≡ true → listed k l ≡ true
unfolding listed
listed_drop zero l k e = e
listed_drop (suc i) [] k e = e
listed_drop (suc i) (x ∷ xs) k e = go (eqb x k) (listed_drop i xs k e)
  where
    go : (b : Bool) → listed k xs ≡ true → either b (listed k xs) ≡ true
    go true h = refl
    go false h = h

-- ---- lists whose first m members are keys

-- a list that begins with a key
pub record Begins (l : List ℕ) : Type 0 where
  pub first : ℕ
  pub others : List ℕ
  pub parts : l ≡ first ∷ others
  pub keyed : first ≡ 0 → ⊥

pub begins : (l : List ℕ) (m : ℕ) → 0 < m → m ≤ length l → listed 0 (take m l) ≡ false → Begins l
begins l zero h g e = absurd (omega arith)
begins [] (suc m) h g e = absurd (omega arith)
begins (x ∷ xs) (suc m) h g e = record { first = x; others = xs; parts = refl; keyed = not_first 0 x (take m xs) e }

-- a list is x and then xs
module _ (l : List ℕ) (x : ℕ) (xs : List ℕ) (e : l ≡ x ∷ xs) where
  -- its first m members, and those of xs
  pub take_first : (m : ℕ) → 0 < m → take m l ≡ x ∷ take (m - 1) xs
  take_first m h = rw e (go m h)
    where
      go : (n : ℕ) → 0 < n → take n (x ∷ xs) ≡ x ∷ take (n - 1) xs
      go zero z = absurd (omega arith)
      go (suc n) z = rw sub-one refl

  pub rest_keyed : (m : ℕ) → 0 < m → listed 0 (take m l) ≡ false → listed 0 (take (m - 1) xs) ≡ false
  rest_keyed m h k = not_later 0 x (take (m - 1) xs) (rw (take_first m h) at k)

-- a list from m on is x and then xs
module _ (l : List ℕ) (m x : ℕ) (xs : List ℕ) (e : drop m l ≡ x ∷ xs) where
  pub split_room : m < length l
  split_room = omega (arith, ap length e, length-drop m l)

  split_parts : get_or l m 0 ∷ drop (suc m) l ≡ x ∷ xs
  split_parts = sym (drop-cons l m 0 split_room) ∙ e

  pub split_drop : drop (m + 1) l ≡ xs
  split_drop = let c = split_parts in rw add-one (cc)

  pub split_take : take (m + 1) l ≡ take m l ++ (x ∷ [])
  split_take =
      let c = split_parts in
      let h : get_or l m 0 ≡ x = cc in
      rw add-one (take-suc l m 0 split_room ∙ ap (λ (y : ℕ). take m l ++ (y ∷ [])) h)
