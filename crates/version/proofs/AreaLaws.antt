-- The areas of the workspace: how long they are; and a part that was lent and has come back is as it was left, the other areas as they were. Assumes nothing.
use Prim.Native.Nat.{ℕ, ◌+◌, ◌-◌, ◌≤◌}
use mathlib.Core.Path.{◌≡◌, sym, ap, ◌∙◌}
use mathlib.Core.List.{List, ◌++◌, append_assoc}
use native.Mathlib.Omega.{arith}
use lib.ListN.{length, take, drop, length-take, length-drop, length-append, take-append-drop}
use lib.Seq.{take_at, drop_at, drop-drop, take-append-le, drop-append-le, drop-append-add}
use Rattle.version.specs.Areas.{area, list_area, inas_area, spas_area}

-- ---- how long they are

module _ (w : List ℕ) (wide : 400000 ≤ length w) where
  pub list_long : length (list_area w) ≡ 200000
  list_long = simp (length-take, length-drop) (omega arith)

  pub inas_long : length (inas_area w) ≡ 92000
  inas_long = simp (length-take, length-drop) (omega arith)

  pub spas_long : length (spas_area w) ≡ 94000
  spas_long = simp (length-take, length-drop) (omega arith)

-- ---- a part that was lent

-- w with ys in place of the k bytes from a on
unfoldable pub lent : ℕ → ℕ → List ℕ → List ℕ → List ℕ
lent a k ys w = take a w ++ (ys ++ drop k (drop a w))

module _ (a k : ℕ) (ys w : List ℕ) (long : length ys ≡ k) (inside : a + k ≤ length w) where
  front : length (take a w) ≡ a
  front = simp length-take (omega arith)

  pub length_lent : length (lent a k ys w) ≡ length w
  unfolding lent
  length_lent = simp (length-append, length-take, length-drop) (omega arith)

  -- the part itself
  pub lent_same : area a k (lent a k ys w) ≡ ys
  unfolding lent
  lent_same = ap (take k) (drop_at (take a w) (ys ++ drop k (drop a w)) a front) ∙ take_at ys (drop k (drop a w)) k long

  -- what stands behind it
  pub lent_behind : (b : ℕ) → a + k ≤ b → drop b (lent a k ys w) ≡ drop b w
  unfolding lent
  lent_behind b h =
      let f : length (take a w ++ ys) ≡ a + k = length-append (take a w) ys ∙ omega (arith, front) in
      let e : length (take a w ++ ys) + (b - (a + k)) ≡ b = omega arith in
      let g : k + (b - (a + k)) ≡ b - a = omega arith in
      let i : a + (b - a) ≡ b = omega arith in
      ap (drop b) (sym (append_assoc (take a w) ys (drop k (drop a w))))
      ∙ ap (λ (n : ℕ). drop n ((take a w ++ ys) ++ drop k (drop a w))) (sym e)
      ∙ drop-append-add (take a w ++ ys) (drop k (drop a w)) (b - (a + k))
      ∙ drop-drop (b - (a + k)) k (drop a w)
      ∙ ap (λ (n : ℕ). drop n (drop a w)) g
      ∙ drop-drop (b - a) a w
      ∙ ap (λ (n : ℕ). drop n w) i

  -- an area before it
  pub lent_before : (b n : ℕ) → b + n ≤ a → area b n (lent a k ys w) ≡ area b n w
  unfolding lent
  lent_before b n h =
      let z = ys ++ drop k (drop a w) in
      let l : length (drop b (take a w)) ≡ a - b = simp (length-drop, length-take) (omega arith) in
      let m : length (drop b w) ≡ length w - b = length-drop b w in
      ap (take n) (drop-append-le b (take a w) z (omega (arith, front)))
      ∙ take-append-le n (drop b (take a w)) z (omega arith)
      ∙ sym (ap (λ (x : List ℕ). take n (drop b x)) (sym (take-append-drop a w))
      ∙ ap (take n) (drop-append-le b (take a w) (drop a w) (omega (arith, front)))
      ∙ take-append-le n (drop b (take a w)) (drop a w) (omega arith))

  -- an area behind it
  pub lent_after : (b n : ℕ) → a + k ≤ b → area b n (lent a k ys w) ≡ area b n w
  lent_after b n h = ap (take n) (lent_behind b h)
