-- The tuples of a field, offset by offset: where they end, and how many of them have a code and parent. Assumes nothing.
use mathlib.Core.Path.{◌≡◌, refl, sym, ap, ◌∙◌}
use mathlib.Core.List.{List}
use mathlib.Core.Logic.{⊎_elim}
use mathlib.Core.Bool.{Bool, true, false}
use Prim.Native.Nat.{ℕ, zero, suc, ◌+◌, ◌-◌, ◌≤◌, ◌<◌}
use native.Mathlib.Omega.{arith}
use lib.ListN.{length}
use lib.Dec.{eqb}
use borrow.Author.Tests.{lt-ltb, le-ltb, eq-eqb, ne_eqb}
use Rattle.base.specs.Choice.{pick}
use Rattle.forest.proofs.Numbers.{lt_or_le}
use Rattle.tree.specs.Source.{two, past, hit, count_up_to, count}
use Rattle.tree.specs.Known.{Whole, ended, onward, Reach, there, further}

-- ---- where tuples end

-- a tuple has at least 8 bytes
pub past_above : (b : List ℕ) (at : ℕ) → at + 8 ≤ past b at
unfolding past
past_above b at = omega arith

-- before the end there is a whole tuple
pub whole_past : (b : List ℕ) (at : ℕ) → Whole b at → at < length b → past b at ≤ length b
whole_past b at (ended e) h = absurd (omega arith)
whole_past b at (onward l w) h = l

-- and behind it the rest is whole
pub whole_next : (b : List ℕ) (at : ℕ) → Whole b at → at < length b → Whole b (past b at)
whole_next b at (ended e) h = absurd (omega arith)
whole_next b at (onward l w) h = w

-- whole tuples do not go past the end
pub whole_within : (b : List ℕ) (at : ℕ) → Whole b at → at ≤ length b
whole_within b at (ended e) = omega arith
whole_within b at (onward l w) = omega (arith, past_above b at)

-- one tuple further
pub reach_next : (b : List ℕ) (i at : ℕ) → Reach b i at → Reach b i (past b at)
reach_next b i at (there e) = further {i = i} {at = past b at} (omega (arith, past_above b at)) (there (ap (past b) e))
reach_next b i at (further l r) = further {i = i} {at = past b at} (omega (arith, past_above b at)) (reach_next b (past b i) at r)

-- tuples lead forward
pub reach_on : (b : List ℕ) (i at : ℕ) → Reach b i at → i ≤ at
reach_on b i at (there e) = omega arith
reach_on b i at (further l r) = omega arith

-- ---- one tuple

-- it has the code and the parent
pub hit_both : (b : List ℕ) (at c p : ℕ) → two b at ≡ c → two b (at + 4) ≡ p → hit b at c p ≡ 1
unfolding hit
hit_both b at c p e f = rw (eq-eqb _ _ e, eq-eqb _ _ f)

-- it has another code
pub hit_code : (b : List ℕ) (at c p : ℕ) → (two b at ≡ c → ⊥) → hit b at c p ≡ 0
unfolding hit
hit_code b at c p n = rw (ne_eqb _ _ n)

-- it has another parent
pub hit_parent : (b : List ℕ) (at c p : ℕ) → (two b (at + 4) ≡ p → ⊥) → hit b at c p ≡ 0
unfolding hit
hit_parent b at c p n = go (eqb (two b at) c)
  where
    go : (t : Bool) → ◌≡◌ {A = ℕ} (pick t (pick (eqb (two b (at + 4)) p) 1 0) 0) 0
    go true = rw (ne_eqb _ _ n)
    go false = refl

-- it counts at most once
pub hit_once : (b : List ℕ) (at c p : ℕ) → hit b at c p ≤ 1
unfolding hit
hit_once b at c p = go (eqb (two b at) c) (eqb (two b (at + 4)) p)
  where
    go : (s t : Bool) → pick s (pick t 1 0) 0 ≤ 1
    go true true = omega arith
    go true false = omega arith
    go false t = omega arith

-- ---- all of them

-- none between an offset and one before it
up_to_none : (n : ℕ) (b : List ℕ) (i e c p : ℕ) → e ≤ i → count_up_to n b i e c p ≡ 0
unfolding count_up_to
up_to_none zero b i e c p h = refl
up_to_none (suc n) b i e c p h = rw (le-ltb i e h)

-- any two bounds that are enough give the same
up_to_bound : (n m : ℕ) (b : List ℕ) (i e c p : ℕ) → e ≤ n + i → e ≤ m + i → count_up_to n b i e c p ≡ count_up_to m b i e c p
unfolding count_up_to
up_to_bound zero m b i e c p h k = sym (up_to_none m b i e c p (omega arith))
up_to_bound (suc n) zero b i e c p h k = rw (le-ltb i e (omega arith))
up_to_bound (suc n) (suc m) b i e c p h k = rw (up_to_bound n m b (past b i) e c p (omega (arith, past_above b i)) (omega (arith, past_above b i)))

-- none between an offset and one before it
pub count_none : (b : List ℕ) (i e c p : ℕ) → e ≤ i → count b i e c p ≡ 0
unfolding count
count_none b i e c p h = up_to_none (e - i) b i e c p h

-- the tuple at an offset, and those behind it
pub count_more : (b : List ℕ) (i e c p : ℕ) → i < e → count b i e c p ≡ hit b i c p + count b (past b i) e c p
unfolding count count_up_to
count_more b i e c p h =
    up_to_bound (e - i) (suc (e - i)) b i e c p (omega arith) (omega arith)
    ∙ rw (lt-ltb i e h, up_to_bound (e - i) (e - past b i) b (past b i) e c p (omega (arith, past_above b i)) (omega arith))

-- no more than there are bytes
up_to_within : (n : ℕ) (b : List ℕ) (i e c p : ℕ) → count_up_to n b i e c p ≤ e - i
unfolding count_up_to
up_to_within zero b i e c p = omega arith
up_to_within (suc n) b i e c p =
    ⊎_elim
    (λ (l : i < e). rw (lt-ltb i e l) (omega (arith, hit_once b i c p, past_above b i, up_to_within n b (past b i) e c p)))
    (λ (l : e ≤ i). rw (le-ltb i e l) (omega arith))
    (lt_or_le i e)

-- no more than there are bytes
pub count_within : (b : List ℕ) (i e c p : ℕ) → count b i e c p ≤ e - i
unfolding count
count_within b i e c p = up_to_within (e - i) b i e c p

-- one tuple further
pub count_next : (b : List ℕ) (i at c p : ℕ) → Reach b i at → count b i (past b at) c p ≡ count b i at c p + hit b at c p
count_next b i at c p (there e) =
    let x = count_more b i (past b at) c p (omega (arith, past_above b at)) in
    let y = count_none b (past b i) (past b at) c p (omega (arith, ap (past b) e)) in
    let z = count_none b i at c p (omega arith) in
    let w = ap (λ (j : ℕ). hit b j c p) e in
    omega arith
count_next b i at c p (further l r) =
    let x = count_more b i (past b at) c p (omega (arith, past_above b at)) in
    let y = count_more b i at c p l in
    let z = count_next b (past b i) at c p r in
    omega arith

-- those before an offset on the way, and those behind it
pub count_split : (b : List ℕ) (i m e c p : ℕ) → Reach b i m → m ≤ e → count b i e c p ≡ count b i m c p + count b m e c p
count_split b i m e c p (there x) h =
    let y = count_none b i m c p (omega arith) in
    let z = ap (λ (j : ℕ). count b j e c p) x in
    omega arith
count_split b i m e c p (further l r) h =
    let x = count_more b i e c p (omega arith) in
    let y = count_more b i m c p l in
    let z = count_split b (past b i) m e c p r h in
    omega arith
