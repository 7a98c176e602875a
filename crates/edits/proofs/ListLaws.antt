-- The searches by index are those of lists of items. Assumes nothing.
use mathlib.Core.Path.{◌≡◌, refl, ◌∙◌}
use mathlib.Core.List.{List}
use mathlib.Core.Logic.{⊎_elim}
use mathlib.Core.Bool.{Bool, true, false, not}
use Prim.Native.Nat.{ℕ, zero, suc, ◌+◌, ◌-◌, ◌≤◌, ◌<◌}
use native.Mathlib.Numerals.{add-one}
use native.Mathlib.Omega.{arith}
use lib.Dec.{ltb}
use borrow.Author.Tests.{lt-ltb, le-ltb, eq-eqb, ne_eqb}
use Rattle.base.specs.Choice.{pick}
use Rattle.base.specs.Check.{Check, ok, refuse}
use Rattle.forest.specs.Flat as F
use Rattle.forest.specs.Flat.{Split, split, push, over, count_flat, spot, pushed, deeper}
use Rattle.forest.proofs.Numbers.{lt_or_le, eq_or_ne}
use Rattle.items.specs.Items.{depth_of, item_at, its, twin_at}
use Rattle.items.proofs.ItemLaws.{its_end, its_more, twin_once, twin_is}
use Rattle.edits.specs.Search.{place_of, end_of, twins, spot_of, deeper_at}
use Rattle.edits.proofs.SearchLaws.{place_end, place_out, place_here, place_count, place_skip, place_bound, end_end, end_here, end_on, end_bound, twins_end, twins_out, twins_on, behind_none, spot_zero, spot_past, spot_at, spot_bound, spot_last, spot_later, spot_skip}

-- item j parts the items, or there is none and tuple q is refused
unfoldable pub found_at : ℕ → List ℕ → List ℕ → List ℕ → ℕ → ℕ → ℕ → Check Split
found_at q s u w i n j = pick (ltb j n) (ok (split (its s u w i j) (its s u w (j + 1) n))) (refuse 9 q)

-- with one more item in front
push_found : (q : ℕ) (s u w : List ℕ) (i n j : ℕ) → i < j → pushed (item_at s u w i) (found_at q s u w (i + 1) n j) ≡ found_at q s u w i n j
unfolding found_at pushed push
push_found q s u w i n j h =
    ⊎_elim (λ l. rw (lt-ltb j n l, its_more s u w i j h)) (λ l. rw (le-ltb j n l)) (lt_or_le j n)

-- by the number of items
place_by : (q : ℕ) (m : ℕ) (s u w : List ℕ) (i n d c k : ℕ) → i + m ≡ n → F.locate q d c k (its s u w i n) ≡ found_at q s u w i n (place_of w i n d c k)
unfolding F.locate found_at item_at
place_by q zero s u w i n d c k e = rw (its_end s u w i n (omega arith), place_end w i n d c k (omega arith), le-ltb n n (omega arith))
place_by q (suc m) s u w i n d c k e = go (place_by q m s u w (i + 1) n d c k (omega arith)) (place_by q m s u w (i + 1) n d c (k - 1) (omega arith))
  where
    l : i < n
    l = omega arith

    go : F.locate q d c k (its s u w (i + 1) n) ≡ found_at q s u w (i + 1) n (place_of w (i + 1) n d c k)
        → F.locate q d c (k - 1) (its s u w (i + 1) n) ≡ found_at q s u w (i + 1) n (place_of w (i + 1) n d c (k - 1))
        → F.locate q d c k (its s u w i n) ≡ found_at q s u w i n (place_of w i n d c k)
    go p r =
        ⊎_elim
        (λ (o : depth_of w i < d). rw (its_more s u w i n l, lt-ltb (depth_of w i) d o, place_out w i n d c k l o, le-ltb n n (omega arith)))
        (λ (o : d ≤ depth_of w i).
        ⊎_elim
        (λ (t : twin_at w i d c ≡ 1).
        ⊎_elim
        (λ (z : k ≡ 1). rw (its_more s u w i n l, le-ltb (depth_of w i) d o, twin_is s u w i d c, t, eq-eqb k 1 z, place_here w i n d c k l o t z, lt-ltb i n l, its_end s u w i i (omega arith)))
        (λ (z : k ≡ 1 → ⊥). rw (its_more s u w i n l, le-ltb (depth_of w i) d o, twin_is s u w i d c, t, ne_eqb k 1 z, r, place_count w i n d c k l o t z)
        (push_found q s u w i n _ (omega (arith, place_bound w (i + 1) n d c (k - 1) (omega arith)))))
        (eq_or_ne k 1))
        (λ (t : twin_at w i d c ≡ 1 → ⊥). rw (its_more s u w i n l, le-ltb (depth_of w i) d o, twin_is s u w i d c, ne_eqb (twin_at w i d c) 1 t, p, place_skip w i n d c k l o t)
        (push_found q s u w i n _ (omega (arith, place_bound w (i + 1) n d c k (omega arith)))))
        (eq_or_ne (twin_at w i d c) 1))
        (lt_or_le (depth_of w i) d)

-- the number that is looked for in the list of items
pub place_list : (q : ℕ) (s u w : List ℕ) (i n d c k : ℕ) → i ≤ n → F.locate q d c k (its s u w i n) ≡ found_at q s u w i n (place_of w i n d c k)
place_list q s u w i n d c k h = place_by q (n - i) s u w i n d c k (omega arith)

-- it is not there
pub place_absent : (q : ℕ) (s u w : List ℕ) (i n d c k : ℕ) → i ≤ n → n ≤ place_of w i n d c k → F.locate q d c k (its s u w i n) ≡ refuse 9 q
unfolding found_at
place_absent q s u w i n d c k h l = place_list q s u w i n d c k h ∙ rw (le-ltb (place_of w i n d c k) n l)

-- it is item j
pub place_there : (q : ℕ) (s u w : List ℕ) (i n d c k j : ℕ) → i ≤ n → j ≡ place_of w i n d c k → j < n → F.locate q d c k (its s u w i n) ≡ ok (split (its s u w i j) (its s u w (j + 1) n))
unfolding found_at
place_there q s u w i n d c k j h e l = place_list q s u w i n d c k h ∙ rw (← e, lt-ltb j n l)

-- by the number of items
end_by : (m : ℕ) (s u w : List ℕ) (i n d : ℕ) → i + m ≡ n → over d (its s u w i n) ≡ split (its s u w i (end_of w i n d)) (its s u w (end_of w i n d) n)
unfolding over item_at push
end_by zero s u w i n d e = let z : i ≡ n = omega arith in rw (end_end w i n d (omega arith), its_end s u w i n (omega arith), its_end s u w n n (omega arith))
end_by (suc m) s u w i n d e = go (end_by m s u w (i + 1) n d (omega arith))
  where
    l : i < n
    l = omega arith

    go : over d (its s u w (i + 1) n) ≡ split (its s u w (i + 1) (end_of w (i + 1) n d)) (its s u w (end_of w (i + 1) n d) n)
        → over d (its s u w i n) ≡ split (its s u w i (end_of w i n d)) (its s u w (end_of w i n d) n)
    go p =
        ⊎_elim
        (λ (o : depth_of w i < d). rw (end_here w i n d l o, its_end s u w i i (omega arith), its_more s u w i n l, lt-ltb (depth_of w i) d o))
        (λ (o : d ≤ depth_of w i). rw (end_on w i n d l o, its_more s u w i n l, le-ltb (depth_of w i) d o, p, its_more s u w i (end_of w (i + 1) n d) (omega (arith, end_bound w (i + 1) n d (omega arith)))))
        (lt_or_le (depth_of w i) d)

-- the end of what is below, in the list of items
pub end_list : (s u w : List ℕ) (i n d : ℕ) → i ≤ n → over d (its s u w i n) ≡ split (its s u w i (end_of w i n d)) (its s u w (end_of w i n d) n)
end_list s u w i n d h = end_by (n - i) s u w i n d (omega arith)

-- by the number of items
twins_by : (m : ℕ) (s u w : List ℕ) (i n d c : ℕ) → i + m ≡ n → count_flat d c (its s u w i n) ≡ twins w i n d c
unfolding count_flat item_at
twins_by zero s u w i n d c e = rw (its_end s u w i n (omega arith), twins_end w i n d c (omega arith))
twins_by (suc m) s u w i n d c e = go (twins_by m s u w (i + 1) n d c (omega arith))
  where
    l : i < n
    l = omega arith

    go : count_flat d c (its s u w (i + 1) n) ≡ twins w (i + 1) n d c → count_flat d c (its s u w i n) ≡ twins w i n d c
    go p =
        ⊎_elim
        (λ (o : depth_of w i < d). rw (twins_out w i n d c l o, its_more s u w i n l, lt-ltb (depth_of w i) d o))
        (λ (o : d ≤ depth_of w i).
        ⊎_elim
        (λ (t : twin_at w i d c ≡ 1). rw (twins_on w i n d c l o, its_more s u w i n l, le-ltb (depth_of w i) d o, twin_is s u w i d c, t, p) (omega arith))
        (λ (t : twin_at w i d c ≡ 1 → ⊥). rw (twins_on w i n d c l o, its_more s u w i n l, le-ltb (depth_of w i) d o, twin_is s u w i d c, ne_eqb (twin_at w i d c) 1 t, p) (omega (arith, twin_once w i d c, t)))
        (eq_or_ne (twin_at w i d c) 1))
        (lt_or_le (depth_of w i) d)

-- how many twins the list of items has
pub twins_list : (s u w : List ℕ) (i n d c : ℕ) → i ≤ n → count_flat d c (its s u w i n) ≡ twins w i n d c
twins_list s u w i n d c h = twins_by (n - i) s u w i n d c (omega arith)

-- an item below, in the list of items
pub deeper_list : (s u w : List ℕ) (j n d : ℕ) → deeper d (its s u w j n) ≡ deeper_at w n j d
unfolding deeper deeper_at item_at
deeper_list s u w j n d =
    ⊎_elim (λ l. rw (lt-ltb j n l, its_more s u w j n l) (go (ltb (depth_of w j) d))) (λ l. rw (le-ltb j n l, its_end s u w j n l)) (lt_or_le j n)
  where
    go : (t : Bool) → pick t false true ≡ not t
    go true = refl
    go false = refl

-- the items before j and from j on
Parts : List ℕ → List ℕ → List ℕ → ℕ → ℕ → ℕ → Split
Parts s u w i n j = split (its s u w i j) (its s u w j n)

-- with one more item in front
push_parts : (s u w : List ℕ) (i n j : ℕ) → i < j → push (item_at s u w i) (Parts s u w (i + 1) n j) ≡ Parts s u w i n j
unfolding push Parts
push_parts s u w i n j h = rw (its_more s u w i j h)

-- by the number of items
spot_by : (m : ℕ) (s u w : List ℕ) (i n d c k : ℕ) → i + m ≡ n → spot d c k (its s u w i n) ≡ Parts s u w i n (spot_of w i n d c k (twins w i n d c))
unfolding spot item_at Parts
spot_by zero s u w i n d c k e =
    let b = spot_bound w i n d c k (twins w i n d c) (omega arith) in
    rw (its_end s u w i n (omega arith), its_end s u w i (spot_of w i n d c k (twins w i n d c)) (omega arith), its_end s u w (spot_of w i n d c k (twins w i n d c)) n (omega arith))
spot_by (suc m) s u w i n d c k e = go (spot_by m s u w (i + 1) n d c k (omega arith)) (spot_by m s u w (i + 1) n d c (k - 1) (omega arith))
  where
    l : i < n
    l = omega arith

    go : spot d c k (its s u w (i + 1) n) ≡ Parts s u w (i + 1) n (spot_of w (i + 1) n d c k (twins w (i + 1) n d c))
        → spot d c (k - 1) (its s u w (i + 1) n) ≡ Parts s u w (i + 1) n (spot_of w (i + 1) n d c (k - 1) (twins w (i + 1) n d c))
        → spot d c k (its s u w i n) ≡ Parts s u w i n (spot_of w i n d c k (twins w i n d c))
    go p r =
        ⊎_elim
        (λ (o : depth_of w i < d).
        let here : spot_of w i n d c k (twins w i n d c) ≡ i =
        ⊎_elim (λ (x : k ≡ 0). spot_zero w i n d c k (twins w i n d c) x) (λ (x : k ≡ 0 → ⊥). spot_past w i n d c k (twins w i n d c) (omega (arith, x, twins_out w i n d c l o))) (eq_or_ne k 0)
        ∙ behind_none w i n d c (twins w i n d c) (twins_out w i n d c l o) ∙ end_here w i n d l o in
        rw (here, its_end s u w i i (omega arith), its_more s u w i n l, lt-ltb (depth_of w i) d o))
        (λ (o : d ≤ depth_of w i).
        ⊎_elim
        (λ (t : twin_at w i d c ≡ 1).
        ⊎_elim
        (λ (z : k ≡ 1).
        let here : spot_of w i n d c k (twins w i n d c) ≡ i =
        spot_at w i n d c k (twins w i n d c) (λ x. omega (arith, x)) (omega (arith, twins_on w i n d c l o)) ∙ place_here w i n d c k l o t z in
        rw (here, its_end s u w i i (omega arith), its_more s u w i n l, le-ltb (depth_of w i) d o, twin_is s u w i d c, t, eq-eqb k 1 z))
        (λ (z : k ≡ 1 → ⊥).
        ⊎_elim
        (λ (y : twins w (i + 1) n d c ≡ 0).
        rw (spot_last w i n d c k l o t y z, its_more s u w i n l, le-ltb (depth_of w i) d o, twin_is s u w i d c, t, ne_eqb k 1 z, twins_list s u w (i + 1) n d c (omega arith), eq-eqb (twins w (i + 1) n d c) 0 y, ← add-one d, end_list s u w (i + 1) n (d + 1) (omega arith))
        (push_parts s u w i n (end_of w (i + 1) n (d + 1)) (omega (arith, end_bound w (i + 1) n (d + 1) (omega arith)))))
        (λ (y : twins w (i + 1) n d c ≡ 0 → ⊥).
        rw (spot_later w i n d c k l o t y z, its_more s u w i n l, le-ltb (depth_of w i) d o, twin_is s u w i d c, t, ne_eqb k 1 z, twins_list s u w (i + 1) n d c (omega arith), ne_eqb (twins w (i + 1) n d c) 0 y, r)
        (push_parts s u w i n _ (omega (arith, spot_bound w (i + 1) n d c (k - 1) (twins w (i + 1) n d c) (omega arith)))))
        (eq_or_ne (twins w (i + 1) n d c) 0))
        (eq_or_ne k 1))
        (λ (t : twin_at w i d c ≡ 1 → ⊥).
        rw (spot_skip w i n d c k l o t, its_more s u w i n l, le-ltb (depth_of w i) d o, twin_is s u w i d c, ne_eqb (twin_at w i d c) 1 t, p)
        (push_parts s u w i n _ (omega (arith, spot_bound w (i + 1) n d c k (twins w (i + 1) n d c) (omega arith)))))
        (eq_or_ne (twin_at w i d c) 1))
        (lt_or_le (depth_of w i) d)

-- where a new item goes in the list of items
pub spot_list : (s u w : List ℕ) (i n d c k j : ℕ) → i ≤ n → j ≡ spot_of w i n d c k (twins w i n d c) → spot d c k (its s u w i n) ≡ split (its s u w i j) (its s u w j n)
unfolding Parts
spot_list s u w i n d c k j h e = rw e (spot_by (n - i) s u w i n d c k (omega arith))
