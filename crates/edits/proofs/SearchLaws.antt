-- Laws of the searches among the items, by index. Assumes nothing.
use mathlib.Core.Path.{◌≡◌, refl, sym, ap, ◌∙◌}
use mathlib.Core.List.{List}
use mathlib.Core.Logic.{⊎_elim}
use mathlib.Core.Bool.{Bool, true, false}
use Prim.Native.Nat.{ℕ, zero, suc, ◌+◌, ◌-◌, ◌≤◌, ◌<◌}
use native.Mathlib.Nat.{sub-eq-zero_of_le}
use native.Mathlib.Omega.{arith}
use lib.Dec.{ltb, eqb}
use borrow.Author.Tests.{lt-ltb, le-ltb, eq-eqb, ne_eqb}
use Rattle.std.specs.Prelude.{Option, Some, None, IfSome}
use Rattle.std.proofs.lemmas.Option.{none-some, same_Some}
use Rattle.base.specs.Choice.{pick}
use Rattle.forest.proofs.Numbers.{lt_or_le, eq_or_ne}
use Rattle.items.specs.Items.{depth_of, code_of, twin_at}
use Rattle.items.proofs.ItemLaws.{twin_depth, twin_code, twin_once}
use Rattle.edits.specs.Search.{found_in, place_up_to, place_of, end_up_to, end_of, twins_up_to, twins, behind_last, spot_of, gone_count}

-- ---- what a search answers

module _ (n i : ℕ) where
  pub found_is : (j : ℕ) → j ≡ i → j < n → Some j ≡ found_in n i
  unfolding found_in
  found_is j e h = rw (lt-ltb i n (omega arith), e)

  pub found_nowhere : n ≤ i → None ≡ found_in n i
  unfolding found_in
  found_nowhere h = rw (le-ltb i n h)

  pub found_at : (j : ℕ) → Some j ≡ found_in n i → (i < n) × (j ≡ i)
  found_at j e = ⊎_elim (λ (l : i < n). (l, same_Some j i (e ∙ sym (found_is i refl l)))) (λ (l : n ≤ i). absurd (none-some j (sym (e ∙ sym (found_nowhere l))))) (lt_or_le i n)

  pub found_none : None ≡ found_in n i → n ≤ i
  found_none e = ⊎_elim (λ (l : i < n). absurd (none-some i (e ∙ sym (found_is i refl l)))) (λ (l : n ≤ i). l) (lt_or_le i n)

-- ---- number k of a code in a run

-- at the end of the items
pub place_end : (w : List ℕ) (i n d c k : ℕ) → n ≤ i → place_of w i n d c k ≡ n
unfolding place_of place_up_to
place_end w i n d c k h = rw (sub-eq-zero_of_le h)

-- one item and the others
place_open : (w : List ℕ) (i n d c k : ℕ) → i < n
    → place_of w i n d c k ≡ pick (ltb (depth_of w i) d) n (pick (eqb (twin_at w i d c) 1) (pick (eqb k 1) i (place_of w (i + 1) n d c (k - 1))) (place_of w (i + 1) n d c k))
unfolding place_of place_up_to
place_open w i n d c k h = go (n - i) refl
  where
    go : (m : ℕ) → n - i ≡ m → place_up_to (n - i) w i n d c k ≡ pick (ltb (depth_of w i) d) n (pick (eqb (twin_at w i d c) 1) (pick (eqb k 1) i (place_up_to (n - (i + 1)) w (i + 1) n d c (k - 1))) (place_up_to (n - (i + 1)) w (i + 1) n d c k))
    go zero e = absurd (omega arith)
    go (suc m) e = let f : n - (i + 1) ≡ m = omega arith in rw (e, f, lt-ltb i n h)

-- an item further out ends the run
pub place_out : (w : List ℕ) (i n d c k : ℕ) → i < n → depth_of w i < d → place_of w i n d c k ≡ n
place_out w i n d c k h l = place_open w i n d c k h ∙ rw (lt-ltb (depth_of w i) d l)

-- the first twin, where that is asked for
pub place_here : (w : List ℕ) (i n d c k : ℕ) → i < n → d ≤ depth_of w i → twin_at w i d c ≡ 1 → k ≡ 1 → place_of w i n d c k ≡ i
place_here w i n d c k h l t e = place_open w i n d c k h ∙ rw (le-ltb (depth_of w i) d l, eq-eqb (twin_at w i d c) 1 t, eq-eqb k 1 e)

-- the first twin, where a later one is asked for
pub place_count : (w : List ℕ) (i n d c k : ℕ) → i < n → d ≤ depth_of w i → twin_at w i d c ≡ 1 → (k ≡ 1 → ⊥) → place_of w i n d c k ≡ place_of w (i + 1) n d c (k - 1)
place_count w i n d c k h l t e = place_open w i n d c k h ∙ rw (le-ltb (depth_of w i) d l, eq-eqb (twin_at w i d c) 1 t, ne_eqb k 1 e)

-- no twin
pub place_skip : (w : List ℕ) (i n d c k : ℕ) → i < n → d ≤ depth_of w i → (twin_at w i d c ≡ 1 → ⊥) → place_of w i n d c k ≡ place_of w (i + 1) n d c k
place_skip w i n d c k h l t = place_open w i n d c k h ∙ rw (le-ltb (depth_of w i) d l, ne_eqb (twin_at w i d c) 1 t)

-- among at most m items
place_up_to_bound : (m : ℕ) (w : List ℕ) (i n d c k : ℕ) → i ≤ n → (i ≤ place_up_to m w i n d c k) × (place_up_to m w i n d c k ≤ n)
unfolding place_up_to
place_up_to_bound zero w i n d c k h = (h, omega arith)
place_up_to_bound (suc m) w i n d c k h =
    ⊎_elim
    (λ l. rw (lt-ltb i n l)
    (let a = place_up_to_bound m w (i + 1) n d c (k - 1) (omega arith) in
    let b = place_up_to_bound m w (i + 1) n d c k (omega arith) in
    go (ltb (depth_of w i) d) (eqb (twin_at w i d c) 1) (eqb k 1) (omega arith, a.1) (omega arith, b.1)))
    (λ l. rw (le-ltb i n l) (h, omega arith))
    (lt_or_le i n)
  where
    go : {x y : ℕ} (r s t : Bool) → (i ≤ x) × (x ≤ n) → (i ≤ y) × (y ≤ n) → (i ≤ pick r n (pick s (pick t i x) y)) × (pick r n (pick s (pick t i x) y) ≤ n)
    go true s t a b = (h, omega arith)
    go false true true a b = (omega arith, h)
    go false true false a b = a
    go false false t a b = b

-- it is among the items, or their end
pub place_bound : (w : List ℕ) (i n d c k : ℕ) → i ≤ n → (i ≤ place_of w i n d c k) × (place_of w i n d c k ≤ n)
unfolding place_of
place_bound w i n d c k h = place_up_to_bound (n - i) w i n d c k h

-- what is found there is in the run
pub place_within : (w : List ℕ) (i n d c k : ℕ) (r : Option ℕ) → i ≤ n → r ≡ found_in n (place_of w i n d c k) → (r ≡ found_in n (place_of w i n d c k)) × IfSome r (λ j. (i ≤ j) × (j < n))
place_within w i n d c k (Some j) h f = let there = found_at n (place_of w i n d c k) j f in (f, (omega (arith, there.1, place_bound w i n d c k h), omega (arith, there.0, there.1)))
place_within w i n d c k None h f = (f, tt)

-- as the code has it: the number that is left is taken down by one at each twin
pub place_found : (w : List ℕ) (i n d c k : ℕ) → i < n → d ≤ depth_of w i → 1 ≤ k → k ≡ twin_at w i d c → place_of w i n d c k ≡ i
place_found w i n d c k h l o e = place_here w i n d c k h l (omega (arith, twin_once w i d c)) (omega (arith, twin_once w i d c))

-- where the item is not it
pub place_next : (w : List ℕ) (i n d c k : ℕ) → i < n → d ≤ depth_of w i → 1 ≤ k → (k ≡ twin_at w i d c → ⊥) → place_of w i n d c k ≡ place_of w (i + 1) n d c (k - twin_at w i d c)
place_next w i n d c k h l o ne =
    ⊎_elim
    (λ t. place_count w i n d c k h l t (λ e. ne (omega arith)) ∙ ap (λ (j : ℕ). place_of w (i + 1) n d c (k - j)) (sym t))
    (λ t. let z : k ≡ k - twin_at w i d c = omega (arith, twin_once w i d c, t) in place_skip w i n d c k h l t ∙ ap (place_of w (i + 1) n d c) z)
    (eq_or_ne (twin_at w i d c) 1)

-- by the number of items
place_is_by : (m : ℕ) (w : List ℕ) (i n d c k : ℕ) → i + m ≡ n → place_of w i n d c k < n → twin_at w (place_of w i n d c k) d c ≡ 1
place_is_by zero w i n d c k e h = absurd (omega (arith, place_end w i n d c k (omega arith)))
place_is_by (suc m) w i n d c k e h = go (place_is_by m w (i + 1) n d c k (omega arith)) (place_is_by m w (i + 1) n d c (k - 1) (omega arith))
  where
    l : i < n
    l = omega arith

    go : (place_of w (i + 1) n d c k < n → twin_at w (place_of w (i + 1) n d c k) d c ≡ 1) → (place_of w (i + 1) n d c (k - 1) < n → twin_at w (place_of w (i + 1) n d c (k - 1)) d c ≡ 1)
        → twin_at w (place_of w i n d c k) d c ≡ 1
    go p r =
        ⊎_elim
        (λ (o : depth_of w i < d). absurd (omega (arith, place_out w i n d c k l o)))
        (λ (o : d ≤ depth_of w i).
        ⊎_elim
        (λ (t : twin_at w i d c ≡ 1).
        ⊎_elim
        (λ (z : k ≡ 1). rw (place_here w i n d c k l o t z) t)
        (λ (z : k ≡ 1 → ⊥). rw (place_count w i n d c k l o t z) (r (omega (arith, place_count w i n d c k l o t z))))
        (eq_or_ne k 1))
        (λ (t : twin_at w i d c ≡ 1 → ⊥). rw (place_skip w i n d c k l o t) (p (omega (arith, place_skip w i n d c k l o t))))
        (eq_or_ne (twin_at w i d c) 1))
        (lt_or_le (depth_of w i) d)

-- a twin has the depth and the code
twin_inv : (w : List ℕ) (i d c : ℕ) → twin_at w i d c ≡ 1 → (depth_of w i ≡ d) × (code_of w i ≡ c)
twin_inv w i d c t =
    ⊎_elim
    (λ (x : depth_of w i ≡ d). ⊎_elim (λ (y : code_of w i ≡ c). (x, y)) (λ (y : code_of w i ≡ c → ⊥). absurd (omega (arith, twin_code w i d c x y))) (eq_or_ne (code_of w i) c))
    (λ (x : depth_of w i ≡ d → ⊥). absurd (omega (arith, twin_depth w i d c x)))
    (eq_or_ne (depth_of w i) d)

-- so has the item that was found
pub place_is : (w : List ℕ) (i n d c k j : ℕ) → i ≤ n → j ≡ place_of w i n d c k → j < n → (depth_of w j ≡ d) × (code_of w j ≡ c)
place_is w i n d c k j h e l = rw e (twin_inv w (place_of w i n d c k) d c (place_is_by (n - i) w i n d c k (omega arith) (omega arith)))

-- among at most m items
place_up_to_zero : (m : ℕ) (w : List ℕ) (i n d c : ℕ) → place_up_to m w i n d c 0 ≡ n
unfolding place_up_to
place_up_to_zero zero w i n d c = refl
place_up_to_zero (suc m) w i n d c = go (place_up_to_zero m w (i + 1) n d c) (ltb i n) (ltb (depth_of w i) d) (eqb (twin_at w i d c) 1)
  where
    go : place_up_to m w (i + 1) n d c 0 ≡ n → (x y z : Bool) → pick x (pick y n (pick z (place_up_to m w (i + 1) n d c 0) (place_up_to m w (i + 1) n d c 0))) n ≡ n
    go p true true z = refl
    go p true false true = p
    go p true false false = p
    go p false y z = refl

-- number 0 is nowhere
pub place_zero : (w : List ℕ) (i n d c k : ℕ) → k ≡ 0 → place_of w i n d c k ≡ n
unfolding place_of
place_zero w i n d c k e = rw e (place_up_to_zero (n - i) w i n d c)

-- ---- past the items of a depth or more

-- at the end of the items
pub end_end : (w : List ℕ) (i n d : ℕ) → n ≤ i → end_of w i n d ≡ n
unfolding end_of end_up_to
end_end w i n d h = rw (sub-eq-zero_of_le h)

-- one item and the others
end_open : (w : List ℕ) (i n d : ℕ) → i < n → end_of w i n d ≡ pick (ltb (depth_of w i) d) i (end_of w (i + 1) n d)
unfolding end_of end_up_to
end_open w i n d h = go (n - i) refl
  where
    go : (m : ℕ) → n - i ≡ m → end_up_to (n - i) w i n d ≡ pick (ltb (depth_of w i) d) i (end_up_to (n - (i + 1)) w (i + 1) n d)
    go zero e = absurd (omega arith)
    go (suc m) e = let f : n - (i + 1) ≡ m = omega arith in rw (e, f, lt-ltb i n h)

-- an item further out
pub end_here : (w : List ℕ) (i n d : ℕ) → i < n → depth_of w i < d → end_of w i n d ≡ i
end_here w i n d h l = end_open w i n d h ∙ rw (lt-ltb (depth_of w i) d l)

-- an item of the depth or more
pub end_on : (w : List ℕ) (i n d : ℕ) → i < n → d ≤ depth_of w i → end_of w i n d ≡ end_of w (i + 1) n d
end_on w i n d h l = end_open w i n d h ∙ rw (le-ltb (depth_of w i) d l)

-- among at most m items
end_up_to_bound : (m : ℕ) (w : List ℕ) (i n d : ℕ) → i ≤ n → (i ≤ end_up_to m w i n d) × (end_up_to m w i n d ≤ n)
unfolding end_up_to
end_up_to_bound zero w i n d h = (h, omega arith)
end_up_to_bound (suc m) w i n d h =
    ⊎_elim
    (λ l. rw (lt-ltb i n l)
    (let a = end_up_to_bound m w (i + 1) n d (omega arith) in
    go (ltb (depth_of w i) d) (omega arith, a.1)))
    (λ l. rw (le-ltb i n l) (h, omega arith))
    (lt_or_le i n)
  where
    go : {x : ℕ} (r : Bool) → (i ≤ x) × (x ≤ n) → (i ≤ pick r i x) × (pick r i x ≤ n)
    go true a = (omega arith, h)
    go false a = a

-- it is among the items, or their end
pub end_bound : (w : List ℕ) (i n d : ℕ) → i ≤ n → (i ≤ end_of w i n d) × (end_of w i n d ≤ n)
unfolding end_of
end_bound w i n d h = end_up_to_bound (n - i) w i n d h

-- at least the item goes, and no more than there are
pub gone_bound : (w : List ℕ) (n i d : ℕ) → i < n → (1 ≤ gone_count w n i d) × (gone_count w n i d + i ≤ n)
unfolding gone_count
gone_bound w n i d h = let b = end_bound w (i + 1) n (d + 1) (omega arith) in (omega arith, omega arith)

-- ---- how many twins there are

-- at the end of the items
pub twins_end : (w : List ℕ) (i n d c : ℕ) → n ≤ i → twins w i n d c ≡ 0
unfolding twins twins_up_to
twins_end w i n d c h = rw (sub-eq-zero_of_le h)

-- one item and the others
twins_open : (w : List ℕ) (i n d c : ℕ) → i < n → twins w i n d c ≡ pick (ltb (depth_of w i) d) 0 (twin_at w i d c + twins w (i + 1) n d c)
unfolding twins twins_up_to
twins_open w i n d c h = go (n - i) refl
  where
    go : (m : ℕ) → n - i ≡ m → twins_up_to (n - i) w i n d c ≡ pick (ltb (depth_of w i) d) 0 (twin_at w i d c + twins_up_to (n - (i + 1)) w (i + 1) n d c)
    go zero e = absurd (omega arith)
    go (suc m) e = let f : n - (i + 1) ≡ m = omega arith in rw (e, f, lt-ltb i n h)

-- an item further out ends the run
pub twins_out : (w : List ℕ) (i n d c : ℕ) → i < n → depth_of w i < d → twins w i n d c ≡ 0
twins_out w i n d c h l = twins_open w i n d c h ∙ rw (lt-ltb (depth_of w i) d l)

-- an item of the depth or more
pub twins_on : (w : List ℕ) (i n d c : ℕ) → i < n → d ≤ depth_of w i → twins w i n d c ≡ twin_at w i d c + twins w (i + 1) n d c
twins_on w i n d c h l = twins_open w i n d c h ∙ rw (le-ltb (depth_of w i) d l)

-- ---- where a new item goes

-- where there is no twin
pub behind_none : (w : List ℕ) (i n d c m : ℕ) → m ≡ 0 → behind_last w i n d c m ≡ end_of w i n d
unfolding behind_last
behind_none w i n d c m e = rw (eq-eqb m 0 e)

-- where there are twins
pub behind_some : (w : List ℕ) (i n d c m : ℕ) → 0 < m → behind_last w i n d c m ≡ end_of w (place_of w i n d c m + 1) n (d + 1)
unfolding behind_last
behind_some w i n d c m h = rw (ne_eqb m 0 (λ e. omega arith))

-- it is among the items, or their end
behind_bound : (w : List ℕ) (i n d c m : ℕ) → i ≤ n → (i ≤ behind_last w i n d c m) × (behind_last w i n d c m ≤ n)
behind_bound w i n d c m h =
    ⊎_elim
    (λ (z : m ≡ 0). rw (behind_none w i n d c m z) (end_bound w i n d h))
    (λ (z : m ≡ 0 → ⊥). rw (behind_some w i n d c m (omega (arith, z)))
    (let b = place_bound w i n d c m h in
    ⊎_elim
    (λ (l : place_of w i n d c m < n). let f = end_bound w (place_of w i n d c m + 1) n (d + 1) (omega arith) in (omega arith, omega arith))
    (λ (l : n ≤ place_of w i n d c m). rw (end_end w (place_of w i n d c m + 1) n (d + 1) (omega arith)) (h, omega arith))
    (lt_or_le (place_of w i n d c m) n)))
    (eq_or_ne m 0)

-- as number 0, which none is
pub spot_zero : (w : List ℕ) (i n d c k m : ℕ) → k ≡ 0 → spot_of w i n d c k m ≡ behind_last w i n d c m
unfolding spot_of
spot_zero w i n d c k m z = rw (eq-eqb k 0 z)

-- behind all twins
pub spot_past : (w : List ℕ) (i n d c k m : ℕ) → m < k → spot_of w i n d c k m ≡ behind_last w i n d c m
unfolding spot_of
spot_past w i n d c k m l = rw (ne_eqb k 0 (λ e. omega arith), lt-ltb m k l)

-- before one of them
pub spot_at : (w : List ℕ) (i n d c k m : ℕ) → (k ≡ 0 → ⊥) → k ≤ m → spot_of w i n d c k m ≡ place_of w i n d c k
unfolding spot_of
spot_at w i n d c k m z l = rw (ne_eqb k 0 z, le-ltb m k l)

-- it is among the items, or their end
pub spot_bound : (w : List ℕ) (i n d c k m : ℕ) → i ≤ n → (i ≤ spot_of w i n d c k m) × (spot_of w i n d c k m ≤ n)
spot_bound w i n d c k m h =
    ⊎_elim
    (λ (z : k ≡ 0). rw (spot_zero w i n d c k m z) (behind_bound w i n d c m h))
    (λ (z : k ≡ 0 → ⊥).
    ⊎_elim
    (λ (l : m < k). rw (spot_past w i n d c k m l) (behind_bound w i n d c m h))
    (λ (l : k ≤ m). rw (spot_at w i n d c k m z l) (place_bound w i n d c k h))
    (lt_or_le m k))
    (eq_or_ne k 0)

-- after item i and what is below it, where that is the last twin
pub spot_last : (w : List ℕ) (i n d c k : ℕ) → i < n → d ≤ depth_of w i → twin_at w i d c ≡ 1 → twins w (i + 1) n d c ≡ 0 → (k ≡ 1 → ⊥)
    → spot_of w i n d c k (twins w i n d c) ≡ end_of w (i + 1) n (d + 1)
spot_last w i n d c k l o t z ne =
    let one : twins w i n d c ≡ 1 = omega (arith, twins_on w i n d c l o) in
    rw one
    (⊎_elim (λ (x : k ≡ 0). spot_zero w i n d c k 1 x) (λ (x : k ≡ 0 → ⊥). spot_past w i n d c k 1 (omega (arith, x, ne))) (eq_or_ne k 0)
    ∙ behind_some w i n d c 1 (omega arith) ∙ ap (λ (j : ℕ). end_of w (j + 1) n (d + 1)) (place_here w i n d c 1 l o t refl))

-- where there are later twins, it goes where it goes among them
pub spot_later : (w : List ℕ) (i n d c k : ℕ) → i < n → d ≤ depth_of w i → twin_at w i d c ≡ 1 → (twins w (i + 1) n d c ≡ 0 → ⊥) → (k ≡ 1 → ⊥)
    → spot_of w i n d c k (twins w i n d c) ≡ spot_of w (i + 1) n d c (k - 1) (twins w (i + 1) n d c)
spot_later w i n d c k l o t z ne =
    let m : ℕ = twins w (i + 1) n d c in
    let more : twins w i n d c ≡ m + 1 = omega (arith, twins_on w i n d c l o) in
    let back : behind_last w i n d c (m + 1) ≡ behind_last w (i + 1) n d c m =
    behind_some w i n d c (m + 1) (omega arith)
    ∙ (let p : m + 1 - 1 ≡ m = omega arith in ap (λ (j : ℕ). end_of w (j + 1) n (d + 1)) (place_count w i n d c (m + 1) l o t (λ e. z (omega (arith, e))) ∙ ap (place_of w (i + 1) n d c) p))
    ∙ sym (behind_some w (i + 1) n d c m (omega (arith, z))) in
    rw more
    (⊎_elim
    (λ (x : k ≡ 0). spot_zero w i n d c k (m + 1) x ∙ back ∙ sym (spot_zero w (i + 1) n d c (k - 1) m (omega arith)))
    (λ (x : k ≡ 0 → ⊥).
    ⊎_elim
    (λ (y : m + 1 < k). spot_past w i n d c k (m + 1) y ∙ back ∙ sym (spot_past w (i + 1) n d c (k - 1) m (omega arith)))
    (λ (y : k ≤ m + 1). spot_at w i n d c k (m + 1) x y ∙ place_count w i n d c k l o t ne ∙ sym (spot_at w (i + 1) n d c (k - 1) m (λ e. omega (arith, e, x, ne)) (omega arith)))
    (lt_or_le (m + 1) k))
    (eq_or_ne k 0))

-- another item before it changes nothing
pub spot_skip : (w : List ℕ) (i n d c k : ℕ) → i < n → d ≤ depth_of w i → (twin_at w i d c ≡ 1 → ⊥)
    → spot_of w i n d c k (twins w i n d c) ≡ spot_of w (i + 1) n d c k (twins w (i + 1) n d c)
unfolding spot_of behind_last
spot_skip w i n d c k l o t =
    let same : twins w i n d c ≡ twins w (i + 1) n d c = omega (arith, twins_on w i n d c l o, twin_once w i d c, t) in
    rw (same, end_on w i n d l o, place_skip w i n d c k l o t, place_skip w i n d c (twins w (i + 1) n d c) l o t)
