-- Laws of how long the bodies are that cells refer to. Assumes nothing.
use Prim.Native.Nat.{ℕ, suc, ◌+◌, ◌-◌, ◌*◌, ◌≤◌, ◌<◌, min}
use mathlib.Core.Path.{◌≡◌, sym, ap, ◌∙◌}
use mathlib.Core.List.{List, [], ◌∷◌, ◌++◌}
use native.Mathlib.Nat.{zero-add}
use native.Mathlib.Omega.{arith}
use borrow.Author.Tests.{eq-eqb, ne_eqb}
use lib.ListN.{length, get_or, take, drop, length-take, length-drop}
use Rattle.skeleton.specs.Place.{between}
use Rattle.items.specs.Items.{source}
use Rattle.cells.specs.Cells.{u24, body_at, bodies_from, bodies_of, fields_size}
use Rattle.cells.proofs.CellLaws.{bodies_split, bodies_more, take_bodies, drop_bodies}

-- ---- bytes that may run past the end of a slice

-- how many there are
pub between_long : (b : List ℕ) (start n : ℕ) → length (between b start (start + n)) ≡ min (start + n - start) (length b - start)
between_long b start n = simp (length-take, length-drop)

pub inside_none : (b : List ℕ) (start n : ℕ) → length b ≤ start → (0 ≡ length (between b start (start + n))) × (0 ≤ n)
inside_none b start n h = (omega (arith, between_long b start n), omega arith)

pub inside_all : (b : List ℕ) (start n : ℕ) → n ≤ length b - start → (n ≡ length (between b start (start + n))) × (n ≤ n)
inside_all b start n h = (omega (arith, between_long b start n), omega arith)

pub inside_some : (b : List ℕ) (start n : ℕ) → length b - start < n → (length b - start ≡ length (between b start (start + n))) × (length b - start ≤ n)
inside_some b start n h = (omega (arith, between_long b start n), omega arith)

pub ruleset inside_ways = (inside_none, inside_all, inside_some)

-- ---- the body of one cell

-- the body of cell i, in the slice that the cell names
module _ (d u c : List ℕ) (i start n : ℕ) (s : (start ≡ u24 c (7 * i)) × (start < 16777216)) (e : (n ≡ u24 c (7 * i + 4)) × (n < 16777216)) where
  pub body_old : get_or c (7 * i + 3) 0 ≡ 0 → between d start (start + n) ≡ body_at d u c i
  unfolding body_at source
  body_old z = rw (eq-eqb (get_or c (7 * i + 3) 0) 0 z, s.0, e.0)

  pub body_new : (get_or c (7 * i + 3) 0 ≡ 0 → ⊥) → between u start (start + n) ≡ body_at d u c i
  unfolding body_at source
  body_new z = rw (ne_eqb (get_or c (7 * i + 3) 0) 0 z, s.0, e.0)

  module _ (k : ℕ) where
    pub length_old : get_or c (7 * i + 3) 0 ≡ 0 → (k ≡ length (between d start (start + n))) × (k ≤ n) → (k ≡ length (body_at d u c i)) × (k ≤ 16777215)
    length_old z h = (h.0 ∙ ap length (body_old z), omega (arith, h.1, e.1))

    pub length_new : (get_or c (7 * i + 3) 0 ≡ 0 → ⊥) → (k ≡ length (between u start (start + n))) × (k ≤ n) → (k ≡ length (body_at d u c i)) × (k ≤ 16777215)
    length_new z h = (h.0 ∙ ap length (body_new z), omega (arith, h.1, e.1))

-- ---- bodies as fields

pub size_append : (bs cs : List (List ℕ)) → fields_size (bs ++ cs) ≡ fields_size bs + fields_size cs
unfolding fields_size
size_append [] cs = sym (zero-add (fields_size cs))
size_append (b ∷ bs) cs = omega (arith, size_append bs cs)

-- one more
pub size_joined : (bs : List (List ℕ)) (b : List ℕ) → fields_size (bs ++ (b ∷ [])) ≡ fields_size bs + (length b + 1)
unfolding fields_size
size_joined bs b = size_append bs (b ∷ []) ∙ omega arith

-- one less
pub size_left : (d u c : List ℕ) (n i : ℕ) → i < n
    → fields_size (bodies_of d u c n) ≡ fields_size (take i (bodies_of d u c n) ++ drop (suc i) (bodies_of d u c n)) + (length (body_at d u c i) + 1)
unfolding fields_size
size_left d u c n i h =
    let bs = bodies_of d u c n in
    let front : take i bs ≡ bodies_of d u c i = take_bodies d u c i n (omega arith) in
    let rest : drop (suc i) bs ≡ bodies_from d u c (suc i) (n - suc i) = drop_bodies d u c (suc i) n (omega arith) in
    let e : n ≡ i + (n - i) = omega arith in
    let z : n - i - 1 ≡ n - suc i = omega arith in
    let y : i + 1 ≡ suc i = omega arith in
    let whole : bs ≡ bodies_of d u c i ++ (body_at d u c i ∷ bodies_from d u c (suc i) (n - suc i)) =
    ap (bodies_of d u c) e
    ∙ bodies_split d u c i (n - i) 0
    ∙ ap (λ (k : ℕ). bodies_of d u c i ++ bodies_from d u c k (n - i)) (zero-add i)
    ∙ ap (λ (l : List (List ℕ)). bodies_of d u c i ++ l) (bodies_more d u c i (n - i) (omega arith))
    ∙ rw (y, z) in
    let before = bodies_of d u c i in
    let behind = bodies_from d u c (suc i) (n - suc i) in
    rw (front, rest) (omega (arith, ap fields_size whole, size_append before (body_at d u c i ∷ behind), size_append before behind))
