-- Laws of the working form. Assumes nothing.
use mathlib.Core.Path.{◌≡◌, refl, ap, ◌∙◌}
use mathlib.Core.List.{List, [], ◌∷◌, ◌++◌}
use Prim.Native.Nat.{ℕ, zero, suc, ◌+◌, ◌-◌, ◌*◌, ◌/◌, ◌%◌, ◌≤◌, ◌<◌}
use native.Mathlib.Nat.{sub-eq-zero_of_le, add-zero}
use native.Mathlib.Omega.{arith}
use mathlib.Core.Bool.{Bool, true, false}
use lib.ListN.{length, get_or, drop}
use lib.Dec.{eqb}
use borrow.Author.Tests.{eq-eqb, ne_eqb}
use Rattle.base.specs.Choice.{pick, both}
use Rattle.fields.specs.Bytes.{le}
use Rattle.fields.proofs.ByteLaws.{le2, three_bytes_lem}
use Rattle.memory.specs.Put.{put}
use Rattle.memory.proofs.PutLaws.{get_d_put_below, get_d_put_above, get_d_put_in}
use Rattle.forest.specs.Flat.{Item, item, named}
use Rattle.items.specs.Items.{u16, text_from, depth_of, code_of, offset_of, source, value_of, item_at, items_from, its, ref_bytes, item_bytes, under, twin_at, Same}

-- no items
pub its_end : (s u w : List ℕ) (i n : ℕ) → n ≤ i → its s u w i n ≡ []
unfolding its items_from
its_end s u w i n h = rw (sub-eq-zero_of_le h)

-- one item and the others
pub its_more : (s u w : List ℕ) (i n : ℕ) → i < n → its s u w i n ≡ item_at s u w i ∷ its s u w (i + 1) n
unfolding its items_from
its_more s u w i n h = go (n - i) refl
  where
    go : (m : ℕ) → n - i ≡ m → items_from s u w i (n - i) ≡ item_at s u w i ∷ items_from s u w (i + 1) (n - (i + 1))
    go zero e = absurd (omega arith)
    go (suc m) e = let f : n - (i + 1) ≡ m = omega arith in rw (e, f)

-- at a place that is so many items ahead
its_at : (m : ℕ) (s u w : List ℕ) (i n j : ℕ) → i + m ≡ j → j ≤ n → its s u w i n ≡ its s u w i j ++ its s u w j n
its_at zero s u w i n j e h =
    let f : i ≡ j = omega arith in
    rw (f, its_end s u w j j (omega arith))
its_at (suc m) s u w i n j e h =
    rw (its_more s u w i n (omega arith), its_more s u w i j (omega arith), its_at m s u w (i + 1) n j (omega arith) h)

-- items up to a place and from there on
pub its_split : (s u w : List ℕ) (i j n : ℕ) → i ≤ j → j ≤ n → its s u w i n ≡ its s u w i j ++ its s u w j n
its_split s u w i j n h l = its_at (j - i) s u w i n j (omega arith) l

-- the others and the last item
pub its_snoc : (s u w : List ℕ) (i n : ℕ) → i ≤ n → its s u w i (n + 1) ≡ its s u w i n ++ (item_at s u w n ∷ [])
its_snoc s u w i n h =
    its_split s u w i n (n + 1) h (omega arith)
    ∙ ap (λ (l : List Item). its s u w i n ++ l) (its_more s u w n (n + 1) (omega arith) ∙ ap (λ (l : List Item). item_at s u w n ∷ l) (its_end s u w (n + 1) (n + 1) (omega arith)))

-- so many items are so many
length_by_lem : (m : ℕ) (s u w : List ℕ) (i n : ℕ) → i + m ≡ n → length (its s u w i n) ≡ m
length_by_lem zero s u w i n e = rw (its_end s u w i n (omega arith))
length_by_lem (suc m) s u w i n e = rw (its_more s u w i n (omega arith)) (omega (arith, length_by_lem m s u w (i + 1) n (omega arith)))

-- how many items there are
pub length_its : (s u w : List ℕ) (i n : ℕ) → i ≤ n → length (its s u w i n) ≡ n - i
length_its s u w i n h = length_by_lem (n - i) s u w i n (omega arith)

-- the 8 m bytes of w from item i on stand in v from item j on
unfoldable pub Moved : List ℕ → List ℕ → ℕ → ℕ → ℕ → Type 0
Moved w v i j m = (k : ℕ) → k < 8 * m → get_or v (8 * j + k) 0 ≡ get_or w (8 * i + k) 0

-- the same bytes are the same item
pub item_same : (s u w v : List ℕ) (i j : ℕ) → ((k : ℕ) → k < 8 → get_or v (8 * j + k) 0 ≡ get_or w (8 * i + k) 0) → item_at s u v j ≡ item_at s u w i
unfolding item_at value_of offset_of u16
item_same s u w v i j h =
    let e0 : get_or v (8 * j) 0 ≡ get_or w (8 * i) 0 = simp add-zero at (h 0 (omega arith)) in
    let e1 : get_or v (8 * j + 1) 0 ≡ get_or w (8 * i + 1) 0 = h 1 (omega arith) in
    let e2 : get_or v (8 * j + 2) 0 ≡ get_or w (8 * i + 2) 0 = h 2 (omega arith) in
    let e3 : get_or v (8 * j + 2 + 1) 0 ≡ get_or w (8 * i + 2 + 1) 0 = let p : 8 * j + 2 + 1 ≡ 8 * j + 3 = omega arith in let q : 8 * i + 2 + 1 ≡ 8 * i + 3 = omega arith in rw (p, q) (h 3 (omega arith)) in
    let e4 : get_or v (8 * j + 4) 0 ≡ get_or w (8 * i + 4) 0 = h 4 (omega arith) in
    let e5 : get_or v (8 * j + 5) 0 ≡ get_or w (8 * i + 5) 0 = h 5 (omega arith) in
    let e6 : get_or v (8 * j + 6) 0 ≡ get_or w (8 * i + 6) 0 = h 6 (omega arith) in
    let e7 : get_or v (8 * j + 7) 0 ≡ get_or w (8 * i + 7) 0 = h 7 (omega arith) in
    rw (e0, e1, e2, e3, e4, e5, e6, e7)

-- by the number of items
same_by : (m : ℕ) (s u w v : List ℕ) (i n j p : ℕ) → i + m ≡ n → j + m ≡ p → Moved w v i j m → its s u v j p ≡ its s u w i n
unfolding Moved
same_by zero s u w v i n j p e f h = rw (its_end s u v j p (omega arith), its_end s u w i n (omega arith))
same_by (suc m) s u w v i n j p e f h =
    let g : Moved w v (i + 1) (j + 1) m = λ k l.
    let x : 8 * (j + 1) + k ≡ 8 * j + (8 + k) = omega arith in
    let y : 8 * (i + 1) + k ≡ 8 * i + (8 + k) = omega arith in
    rw (x, y) (h (8 + k) (omega arith)) in
    rw (its_more s u v j p (omega arith), its_more s u w i n (omega arith), item_same s u w v i j (λ k l. h k (omega arith)), same_by m s u w v (i + 1) n (j + 1) p (omega arith) (omega arith) g)

-- the same bytes are the same items
pub its_same : (s u w v : List ℕ) (i n j p m : ℕ) → i + m ≡ n → j + m ≡ p → Moved w v i j m → its s u v j p ≡ its s u w i n
its_same s u w v i n j p m e f h = same_by m s u w v i n j p e f h

-- what stays twice stays
pub same_trans : (w v z : List ℕ) (m n : ℕ) → m ≤ n → Same w v m → Same v z n → Same w z m
unfolding Same
same_trans w v z m n h p q = λ k l. q k (omega arith) ∙ p k l

-- nothing changed
pub same_refl : (w : List ℕ) (m : ℕ) → Same w w m
unfolding Same
same_refl w m = λ k l. refl

-- fewer bytes stay
pub same_less : (w v : List ℕ) (m n : ℕ) → m ≤ n → Same w v n → Same w v m
unfolding Same
same_less w v m n h p = λ k l. p k (omega arith)

-- items among bytes that stay
pub same_its : (s u w v : List ℕ) (i n m : ℕ) → i ≤ n → 8 * n ≤ m → Same w v m → its s u v i n ≡ its s u w i n
unfolding Same Moved
same_its s u w v i n m h l p = its_same s u w v i n i n (n - i) (omega arith) (omega arith) (λ k q. p (8 * i + k) (omega arith))

-- a number of two bytes put together again
two : (x : ℕ) → x < 65536 → x % 256 + 256 * (x / 256 % 256) ≡ x
two x h = omega arith

-- an item that was stored
module _ (w : List ℕ) (i d c o x : ℕ) (room : 8 * i + 8 ≤ length w) (hd : d < 65536) (hc : c < 65536) (ho : o < 16777216) where
  -- the bytes afterwards
  abbrev new : List ℕ
  new = put (8 * i) (item_bytes d c o x) w

  -- one of its bytes
  at_byte : (t : ℕ) → t < 8 → get_or new (8 * i + t) 0 ≡ get_or (item_bytes d c o x) t 0
  unfolding item_bytes ref_bytes
  at_byte t h = get_d_put_in t (8 * i) (item_bytes d c o x) w h room

  -- it is read back
  pub item_put : (s u : List ℕ) → item_at s u new i ≡ item d c (text_from (source x s u) o)
  unfolding item_at value_of offset_of u16 item_bytes ref_bytes
  item_put s u =
      let e0 : get_or new (8 * i) 0 ≡ d % 256 = simp add-zero at (at_byte 0 (omega arith)) in
      let e1 : get_or new (8 * i + 1) 0 ≡ d / 256 % 256 = at_byte 1 (omega arith) in
      let e2 : get_or new (8 * i + 2) 0 ≡ c % 256 = at_byte 2 (omega arith) in
      let e3 : get_or new (8 * i + 2 + 1) 0 ≡ c / 256 % 256 = let p : 8 * i + 2 + 1 ≡ 8 * i + 3 = omega arith in rw p (at_byte 3 (omega arith)) in
      let e4 : get_or new (8 * i + 4) 0 ≡ o % 256 = at_byte 4 (omega arith) in
      let e5 : get_or new (8 * i + 5) 0 ≡ o / 256 % 256 = at_byte 5 (omega arith) in
      let e6 : get_or new (8 * i + 6) 0 ≡ o / 65536 % 256 = at_byte 6 (omega arith) in
      let e7 : get_or new (8 * i + 7) 0 ≡ x = at_byte 7 (omega arith) in
      rw (e0, e1, e2, e3, e4, e5, e6, e7, two d hd, two c hc, three_bytes_lem o ho)

  -- and its depth
  pub depth_put : depth_of new i ≡ d
  unfolding item_at
  depth_put = ap (λ (y : Item). y.depth) (item_put [] [])

  -- what stands before it stays
  pub put_below : Same w new (8 * i)
  unfolding Same
  put_below = λ k h. get_d_put_below (8 * i) k (item_bytes d c o x) w h

-- where a value stands, stored anew
module _ (w : List ℕ) (i o x : ℕ) (room : 8 * i + 8 ≤ length w) (ho : o < 16777216) where
  -- the bytes afterwards
  abbrev new_ref : List ℕ
  new_ref = put (8 * i + 4) (ref_bytes o x) w

  -- one of its bytes
  at_ref : (t : ℕ) → t < 4 → get_or new_ref (8 * i + 4 + t) 0 ≡ get_or (ref_bytes o x) t 0
  unfolding ref_bytes
  at_ref t h = get_d_put_in t (8 * i + 4) (ref_bytes o x) w h (omega arith)

  -- the item has the new value
  pub ref_put : (s u : List ℕ) → item_at s u new_ref i ≡ item (depth_of w i) (code_of w i) (text_from (source x s u) o)
  unfolding item_at value_of offset_of u16 ref_bytes
  ref_put s u =
      let e0 : get_or new_ref (8 * i) 0 ≡ get_or w (8 * i) 0 = get_d_put_below (8 * i + 4) (8 * i) (ref_bytes o x) w (omega arith) in
      let e1 : get_or new_ref (8 * i + 1) 0 ≡ get_or w (8 * i + 1) 0 = get_d_put_below (8 * i + 4) (8 * i + 1) (ref_bytes o x) w (omega arith) in
      let e2 : get_or new_ref (8 * i + 2) 0 ≡ get_or w (8 * i + 2) 0 = get_d_put_below (8 * i + 4) (8 * i + 2) (ref_bytes o x) w (omega arith) in
      let e3 : get_or new_ref (8 * i + 2 + 1) 0 ≡ get_or w (8 * i + 2 + 1) 0 = get_d_put_below (8 * i + 4) (8 * i + 2 + 1) (ref_bytes o x) w (omega arith) in
      let e4 : get_or new_ref (8 * i + 4) 0 ≡ o % 256 = simp add-zero at (at_ref 0 (omega arith)) in
      let e5 : get_or new_ref (8 * i + 5) 0 ≡ o / 256 % 256 = let p : 8 * i + 5 ≡ 8 * i + 4 + 1 = omega arith in rw p (at_ref 1 (omega arith)) in
      let e6 : get_or new_ref (8 * i + 6) 0 ≡ o / 65536 % 256 = let p : 8 * i + 6 ≡ 8 * i + 4 + 2 = omega arith in rw p (at_ref 2 (omega arith)) in
      let e7 : get_or new_ref (8 * i + 7) 0 ≡ x = let p : 8 * i + 7 ≡ 8 * i + 4 + 3 = omega arith in rw p (at_ref 3 (omega arith)) in
      rw (e0, e1, e2, e3, e4, e5, e6, e7, three_bytes_lem o ho)

  -- what stands before it stays
  pub ref_below : Same w new_ref (8 * i)
  unfolding Same
  ref_below = λ k h. get_d_put_below (8 * i + 4) k (ref_bytes o x) w (omega arith)

  -- and what stands behind it
  pub ref_above : (k : ℕ) → 8 * i + 8 ≤ k → get_or new_ref k 0 ≡ get_or w k 0
  unfolding ref_bytes
  ref_above k h = get_d_put_above (8 * i + 4) k (ref_bytes o x) w (omega arith)

-- at the top
pub under_zero : (w : List ℕ) (p : ℕ) → p ≡ 0 → under w p ≡ 0
unfolding under
under_zero w zero e = refl
under_zero w (suc p) e = absurd (omega arith)

-- below an item
pub under_suc : (w : List ℕ) (p : ℕ) → (p ≡ 0 → ⊥) → under w p ≡ depth_of w (p - 1) + 1
unfolding under
under_suc w zero e = absurd (e refl)
under_suc w (suc p) e = let f : p ≡ suc p - 1 = omega arith in ap (λ (j : ℕ). depth_of w j + 1) f

-- ---- numbers and twins

-- a number read as the code does
pub number_is : (w : List ℕ) (at : ℕ) (n r : ℕ) → at + 2 ≤ length w → n ≡ le 2 (drop at w) → r ≡ n → r ≡ u16 w at
unfolding u16
number_is w at n r h e f = f ∙ e ∙ le2 w at h

-- the item has the depth and the code
pub twin_both : (w : List ℕ) (i d c : ℕ) → depth_of w i ≡ d → code_of w i ≡ c → twin_at w i d c ≡ 1
unfolding twin_at
twin_both w i d c e f = rw (eq-eqb (depth_of w i) d e, eq-eqb (code_of w i) c f)

-- it has another depth
pub twin_depth : (w : List ℕ) (i d c : ℕ) → (depth_of w i ≡ d → ⊥) → twin_at w i d c ≡ 0
unfolding twin_at
twin_depth w i d c e = rw (ne_eqb (depth_of w i) d e)

-- it has another code
pub twin_code : (w : List ℕ) (i d c : ℕ) → depth_of w i ≡ d → (code_of w i ≡ c → ⊥) → twin_at w i d c ≡ 0
unfolding twin_at
twin_code w i d c e f = rw (eq-eqb (depth_of w i) d e, ne_eqb (code_of w i) c f)

-- it counts at most once
pub twin_once : (w : List ℕ) (i d c : ℕ) → twin_at w i d c ≤ 1
unfolding twin_at
twin_once w i d c = go (eqb (depth_of w i) d) (eqb (code_of w i) c)
  where
    go : (s t : Bool) → pick s (pick t 1 0) 0 ≤ 1
    go true true = omega arith
    go true false = omega arith
    go false t = omega arith

-- and is what a list of items has
pub twin_is : (s u w : List ℕ) (i d c : ℕ) → named d c (item_at s u w i) ≡ eqb (twin_at w i d c) 1
unfolding named twin_at item_at
twin_is s u w i d c = go (eqb (depth_of w i) d) (eqb (code_of w i) c)
  where
    go : (x y : Bool) → both x y ≡ eqb (pick x (pick y 1 0) 0) 1
    go true true = refl
    go true false = refl
    go false y = refl
