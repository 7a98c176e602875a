-- Laws of cells: bodies one by one and in a row, and what a store or a removal makes of them. Assumes nothing.
use Prim.Native.Nat.{ℕ, zero, suc, ◌+◌, ◌-◌, ◌*◌, ◌≤◌, ◌<◌}
use mathlib.Core.Path.{◌≡◌, refl, ap, ◌∙◌}
use mathlib.Core.List.{List, [], ◌∷◌, ◌++◌}
use native.Mathlib.Nat.{add-zero, zero-add, suc-add}
use native.Mathlib.Omega.{arith}
use lib.ListN.{length, get_or, take, drop}
use lib.Seq.{take_at, drop_at}
use Rattle.memory.specs.Put.{put}
use Rattle.memory.specs.Splice.{spliced_in}
use Rattle.memory.proofs.PutLaws.{get_d_put_in, get_d_put_below}
use Rattle.memory.proofs.SpliceLaws.{spliced_in_before, spliced_in_after}
use Rattle.skeleton.specs.Place.{between}
use Rattle.fields.specs.Bytes.{le}
use Rattle.fields.proofs.ByteLaws.{le1, le2}
use Rattle.fields.proofs.TupleLaws.{split}
use Rattle.items.specs.Items.{source}
use Rattle.cells.specs.Cells.{u24, start_of, slice_of, size_of, body_at, bodies_from, bodies_of, three_bytes, cell_bytes}

-- ---- bodies in a row

module _ (d u c : List ℕ) where
  pub length_bodies : (m i : ℕ) → length (bodies_from d u c i m) ≡ m
  unfolding bodies_from
  length_bodies zero i = refl
  length_bodies (suc m) i = ap suc (length_bodies m (i + 1))

  -- the first m, and the others
  pub bodies_split : (m k i : ℕ) → bodies_from d u c i (m + k) ≡ bodies_from d u c i m ++ bodies_from d u c (i + m) k
  unfolding bodies_from
  bodies_split zero k i = rw (zero-add, add-zero)
  bodies_split (suc m) k i =
      let e : i + 1 + m ≡ i + suc m = omega arith in
      rw (suc-add, ← e) (ap (λ (bs : List (List ℕ)). body_at d u c i ∷ bs) (bodies_split m k (i + 1)))

  -- the first, and the others
  pub bodies_more : (i m : ℕ) → 0 < m → bodies_from d u c i m ≡ body_at d u c i ∷ bodies_from d u c (i + 1) (m - 1)
  unfolding bodies_from
  bodies_more i zero h = absurd (omega arith)
  bodies_more i (suc m) h = let e : suc m - 1 ≡ m = omega arith in rw e

  -- the last, and those before
  pub bodies_last : (n : ℕ) → bodies_of d u c (n + 1) ≡ bodies_of d u c n ++ (body_at d u c n ∷ [])
  unfolding bodies_from
  bodies_last n = bodies_split n 1 0 ∙ rw zero-add

  pub take_bodies : (i n : ℕ) → i ≤ n → take i (bodies_of d u c n) ≡ bodies_of d u c i
  take_bodies i n h =
      let e : n ≡ i + (n - i) = omega arith in
      ap (λ (m : ℕ). take i (bodies_of d u c m)) e
      ∙ ap (take i) (bodies_split i (n - i) 0)
      ∙ take_at (bodies_of d u c i) (bodies_from d u c (0 + i) (n - i)) i (length_bodies i 0)

  pub drop_bodies : (i n : ℕ) → i ≤ n → drop i (bodies_of d u c n) ≡ bodies_from d u c i (n - i)
  drop_bodies i n h =
      let e : n ≡ i + (n - i) = omega arith in
      ap (λ (m : ℕ). drop i (bodies_of d u c m)) e
      ∙ ap (drop i) (bodies_split i (n - i) 0)
      ∙ drop_at (bodies_of d u c i) (bodies_from d u c (0 + i) (n - i)) i (length_bodies i 0)
      ∙ ap (λ (j : ℕ). bodies_from d u c j (n - i)) (zero-add i)

-- ---- the same bytes are the same bodies

-- m cells of e from j on are those of c from i on
abbrev pub SameCells : List ℕ → List ℕ → ℕ → ℕ → ℕ → Type 0
SameCells c e i j m = (k : ℕ) → k < 7 * m → get_or e (7 * j + k) 0 ≡ get_or c (7 * i + k) 0

module _ (d u c e : List ℕ) where
  pub body_same : (i j : ℕ) → SameCells c e i j 1 → body_at d u e j ≡ body_at d u c i
  unfolding body_at u24
  body_same i j h =
      let at : (k p q : ℕ) → k < 7 → p ≡ 7 * j + k → q ≡ 7 * i + k → get_or e p 0 ≡ get_or c q 0 = λ k p q l x y. rw (x, y) (h k (omega arith)) in
      rw (
        at 0 (7 * j) (7 * i) (omega arith) (omega arith) (omega arith),
        at 1 (7 * j + 1) (7 * i + 1) (omega arith) (omega arith) (omega arith),
        at 2 (7 * j + 2) (7 * i + 2) (omega arith) (omega arith) (omega arith),
        at 3 (7 * j + 3) (7 * i + 3) (omega arith) (omega arith) (omega arith),
        at 4 (7 * j + 4) (7 * i + 4) (omega arith) (omega arith) (omega arith),
        at 5 (7 * j + 4 + 1) (7 * i + 4 + 1) (omega arith) (omega arith) (omega arith),
        at 6 (7 * j + 4 + 2) (7 * i + 4 + 2) (omega arith) (omega arith) (omega arith),
      )

  pub bodies_same : (m i j : ℕ) → SameCells c e i j m → bodies_from d u e j m ≡ bodies_from d u c i m
  unfolding bodies_from
  bodies_same zero i j h = refl
  bodies_same (suc m) i j h =
      let later : SameCells c e (i + 1) (j + 1) m = λ k l.
      let x : 7 * (j + 1) + k ≡ 7 * j + (7 + k) = omega arith in
      let y : 7 * (i + 1) + k ≡ 7 * i + (7 + k) = omega arith in
      rw (x, y) (h (7 + k) (omega arith)) in
      rw (body_same i j (λ k l. h k (omega arith)), bodies_same m (i + 1) (j + 1) later)

-- ---- a cell that is stored

module _ (d u c : List ℕ) (i at x n : ℕ) (room : 7 * i + 7 ≤ length c) where
  abbrev new : List ℕ
  new = put (7 * i) (cell_bytes at x n) c

  -- byte k of it, at p
  byte : (k p : ℕ) → k < 7 → p ≡ 7 * i + k → get_or new p 0 ≡ get_or (cell_bytes at x n) k 0
  unfolding cell_bytes three_bytes
  byte k p h e = rw e (get_d_put_in k (7 * i) (cell_bytes at x n) c h room)

  -- what it names
  start_put : at < 16777216 → start_of new i ≡ at
  unfolding cell_bytes three_bytes u24
  start_put h =
      omega (arith, byte 0 (7 * i) (omega arith) (omega arith), byte 1 (7 * i + 1) (omega arith) (omega arith), byte 2 (7 * i + 2) (omega arith) (omega arith))

  size_put : n < 16777216 → size_of new i ≡ n
  unfolding cell_bytes three_bytes u24
  size_put h =
      omega (arith, byte 4 (7 * i + 4) (omega arith) (omega arith), byte 5 (7 * i + 4 + 1) (omega arith) (omega arith), byte 6 (7 * i + 4 + 2) (omega arith) (omega arith))

  slice_put : slice_of new i ≡ x
  unfolding cell_bytes three_bytes
  slice_put = byte 3 (7 * i + 3) (omega arith) refl

  -- the body from at to end; at the very end of a slice it is empty, and then its offset, which does not fit, does not matter
  body_put : (end : ℕ) → at ≤ end → n ≡ end - at → end ≤ 16777216 → n < 16777216 → body_at d u new i ≡ between (source x d u) at end
  unfolding body_at
  body_put end h e l s =
      split at 16777215
      (λ g. let z : at + n - at ≡ end - at = omega arith in rw (slice_put, start_put (omega arith), size_put s, z))
      (λ g.
      let o : ℕ = start_of new i in
      let y : o + n - o ≡ 0 = omega arith in
      let z : end - at ≡ 0 = omega arith in
      rw (size_put s, y, z))

  pub bodies_put : (end : ℕ) → at ≤ end → n ≡ end - at → end ≤ 16777216 → n < 16777216
      → bodies_of d u new (i + 1) ≡ bodies_of d u c i ++ (between (source x d u) at end ∷ [])
  bodies_put end h e l s =
      let before : bodies_of d u new i ≡ bodies_of d u c i = bodies_same d u c new i 0 0 (λ k g. get_d_put_below (7 * i) (7 * 0 + k) (cell_bytes at x n) c (omega arith)) in
      bodies_last d u new i ∙ rw (before, body_put end h e l s)

-- what `add` promises
pub added : (c e : List ℕ) (n at end x : ℕ) → (at ≤ end) × (end ≤ 16777216) × (end - at < 16777216) × (7 * n + 7 ≤ length c) → e ≡ put (7 * n) (cell_bytes at x (end - at)) c
    → (d u : List ℕ) → bodies_of d u e (n + 1) ≡ bodies_of d u c n ++ (between (source x d u) at end ∷ [])
added c e n at end x p is d u = rw is (bodies_put d u c n at x (end - at) p.3 end p.0 refl p.1 p.2)

-- ---- a cell that is taken out

pub bodies_closed : (d u c e : List ℕ) (n i : ℕ) → i < n → 7 * n ≤ length c → e ≡ spliced_in (7 * n) (7 * i) 7 [] c
    → bodies_of d u e (n - 1) ≡ take i (bodies_of d u c n) ++ drop (suc i) (bodies_of d u c n)
bodies_closed d u c e n i h room is =
    let whole : n - 1 ≡ i + (n - 1 - i) = omega arith in
    let rest : n - suc i ≡ n - 1 - i = omega arith in
    let front : bodies_from d u e 0 i ≡ bodies_from d u c 0 i = bodies_same d u c e i 0 0
    (λ k l. rw is (spliced_in_before (7 * n) (7 * i) 7 (7 * 0 + k) [] c (omega arith))) in
    let back : bodies_from d u e i (n - 1 - i) ≡ bodies_from d u c (suc i) (n - 1 - i) = bodies_same d u c e (n - 1 - i) (suc i) i
    (λ k l.
    let x : 7 * i + k ≡ 7 * i + 0 + k = omega arith in
    let y : 7 * suc i + k ≡ 7 * i + 7 + k = omega arith in
    rw (is, x, y) (spliced_in_after (7 * n) (7 * i) 7 0 [] c refl (omega arith) (omega arith) (omega arith) k (omega arith))) in
    ap (λ (m : ℕ). bodies_of d u e m) whole
    ∙ bodies_split d u e i (n - 1 - i) 0
    ∙ rw (zero-add, front, back, take_bodies d u c i n (omega arith), drop_bodies d u c (suc i) n (omega arith), rest)

-- ---- the number of three bytes

pub u24_is : (c : List ℕ) (i low high : ℕ) → i + 3 ≤ length c → low ≡ le 2 (drop i c) → high ≡ le 1 (drop (i + 2) c) → low + 65536 * high ≡ u24 c i
unfolding u24
u24_is c i low high h x y = omega (arith, le2 c i (omega arith), le1 c (i + 2) (omega arith))

pub ruleset number_ways = (u24_is, arith)
