-- Laws of a shelf and of what its master answers. Assumes nothing.
use mathlib.Core.Path.{◌≡◌, refl, sym, ap, ◌∙◌}
use mathlib.Core.Bool.{Bool, true, false}
use mathlib.Core.List.{List, [], ◌∷◌}
use Prim.Native.Nat.{ℕ, zero, suc, ◌+◌, ◌-◌, ◌*◌, ◌≤◌, ◌<◌}
use native.Mathlib.Omega.{arith}
use borrow.Author.Tests.{le-leb, lt-leb, leb-true, leb-false, eq-eqb, eqb-true}
use lib.Dec.{leb, eqb}
use lib.ListN.{length, take, drop, length-take}
use Rattle.base.specs.Choice.{pick}
use Rattle.base.specs.Keys.{same}
use Rattle.base.specs.Lists.{Each}
use Rattle.base.specs.Walk.{more, over, before, follow, Lower}
use Rattle.base.proofs.ChoiceLaws.{both_hold, both_too}
use Rattle.base.proofs.KeysLaws.{same_sound}
use Rattle.base.proofs.ListLaws.{drop_take}
use Rattle.base.proofs.WalkLaws.{walk_step, by_measure}
use Rattle.fields.specs.Bytes.{le}
use Rattle.sequence.proofs.Tests.{by_bool}
use Rattle.parcels.specs.Parcel.{whole_of, kind_of, file_least, fronts, is_parcel, tells_holding, carries_file, fronts_file}
use Rattle.parcels.specs.Holding.{follows}
use Rattle.parcels.specs.Shelf.{Placed, parcel_in, file_in, placed, shelf_step, shelf_from, first_of, reply_from, reply}
use Rattle.parcels.specs.Cable.{copies}
use Rattle.parcels.specs.declared.Reply.{Reply}
use Rattle.parcels.specs.declared.Reply.TheVariants.{Refused, Silence, Parcel}

-- ---- a parcel at the front

-- what its test says
pub record Fronts (kind least : ℕ) (b : List ℕ) : Type 0 where
  pub six : 6 ≤ length b
  pub enough : least ≤ whole_of b
  pub inside : whole_of b ≤ length b
  pub kind_is : kind_of b ≡ kind

pub fronts_inv : (kind least : ℕ) (b : List ℕ) → fronts kind least b ≡ true → Fronts kind least b
unfolding fronts
fronts_inv kind least b e =
    let (x, r) = both_hold (leb 6 (length b)) _ e in
    let (y, s) = both_hold (leb least (whole_of b)) _ r in
    let (z, w) = both_hold (leb (whole_of b) (length b)) _ s in
    record { six = leb-true 6 _ x; enough = leb-true least _ y; inside = leb-true _ _ z; kind_is = eqb-true _ kind w }

pub fronts_too : (kind least : ℕ) (b : List ℕ) → Fronts kind least b → fronts kind least b ≡ true
unfolding fronts
fronts_too kind least b q =
    both_too (le-leb 6 _ q.six) (both_too (le-leb least _ q.enough) (both_too (le-leb _ _ q.inside) (eq-eqb _ kind q.kind_is)))

-- a number in the front of a part
le_part : (w n : ℕ) (l : List ℕ) → w ≤ n → le w (take n l) ≡ le w l
unfolding le
le_part zero n l h = refl
le_part (suc w) zero l h = absurd (omega arith)
le_part (suc w) (suc n) [] h = refl
le_part (suc w) (suc n) (x ∷ l) h = ap (λ (k : ℕ). x + 256 * k) (le_part w n l (omega arith))

-- cut out it is a parcel of its own
pub cut_parcel : (kind : ℕ) (b : List ℕ) → fronts kind file_least b ≡ true → is_parcel kind file_least (take (whole_of b) b) ≡ true
unfolding is_parcel whole_of kind_of
cut_parcel kind b e =
    let q = fronts_inv kind 6 b e in
    let l : length (take (le 4 b) b) ≡ le 4 b = omega (arith, length-take (le 4 b) b, q.inside) in
    let w : le 4 (take (le 4 b) b) ≡ le 4 b = le_part 4 (le 4 b) b (omega (arith, q.enough)) in
    let k : le 2 (drop 4 (take (le 4 b) b)) ≡ kind = ap (le 2) (drop_take 4 (le 4 b) b) ∙ le_part 2 (le 4 b - 4) (drop 4 b) (omega (arith, q.enough)) ∙ q.kind_is in
    both_too
    (fronts_too kind 6 (take (le 4 b) b) (record { six = omega (arith, q.enough); enough = omega (arith, q.enough); inside = omega arith; kind_is = k }))
    (eq-eqb (le 4 (take (le 4 b) b)) (length (take (le 4 b) b)) (omega arith))

-- ---- the walk over a shelf

module _ (s : List ℕ) where
  lower_of : (p : ℕ) (t u : Bool) → leb (length s) p ≡ t → fronts_file (drop p s) ≡ u
      → Lower (λ (q : ℕ). length s - q) p (pick t (over 0) (pick u (more (placed s p) (p + whole_of (drop p s))) (over 27)))
  lower_of p true u x y = tt
  lower_of p false false x y = tt
  lower_of p false true x y = omega (arith, leb-false (length s) p x, (fronts_inv 2 6 (drop p s) y).enough)

  falls : (p : ℕ) → Lower (λ (q : ℕ). length s - q) p (shelf_step s p)
  falls p = lower_of p (leb (length s) p) (fronts_file (drop p s)) refl refl

  shelf_step_lem : (p : ℕ) → shelf_from s p ≡ follow (shelf_step s p) (shelf_from s)
  unfolding shelf_from
  shelf_step_lem p = walk_step (shelf_step s) (λ q. length s - q) falls p

  module _ (p : ℕ) where
    pub shelf_over : length s ≤ p → shelf_from s p ≡ record { items = []; ending = 0 }
    shelf_over l = shelf_step_lem p ∙ simp (le-leb (length s) p l)

    module _ (l : p < length s) where
      pub shelf_wrong : fronts_file (drop p s) ≡ false → shelf_from s p ≡ record { items = []; ending = 27 }
      shelf_wrong e = shelf_step_lem p ∙ simp (lt-leb (length s) p l, e)

      pub shelf_more : fronts_file (drop p s) ≡ true → shelf_from s p ≡ before (placed s p) (shelf_from s (p + whole_of (drop p s)))
      shelf_more e = shelf_step_lem p ∙ simp (lt-leb (length s) p l, e)

  -- a parcel of the shelf, as its bytes
  pub parcel_cut : (p : ℕ) → parcel_in s (placed s p) ≡ take (whole_of (drop p s)) (drop p s)
  unfolding parcel_in
  parcel_cut p = let e : p + whole_of (drop p s) - p ≡ whole_of (drop p s) = omega arith in ap (λ (k : ℕ). take k (drop p s)) e

  -- each is a parcel of kind 2
  pub shelf_right : (p : ℕ) → Each (λ x. carries_file (parcel_in s x) ≡ true) (shelf_from s p).items
  unfolding Each
  shelf_right = by_measure (λ (q : ℕ). length s - q) (λ p. Each (λ x. carries_file (parcel_in s x) ≡ true) (shelf_from s p).items) (λ p ih.
      by_bool (leb (length s) p)
      (λ x. rw (shelf_over p (leb-true (length s) p x)) tt)
      (λ x. by_bool (fronts_file (drop p s))
      (λ y. let l : p < length s = leb-false (length s) p x in
      rw (shelf_more p l y) (rw (parcel_cut p) (cut_parcel 2 (drop p s) y), ih (p + whole_of (drop p s)) (omega (arith, (fronts_inv 2 6 (drop p s) y).enough))))
      (λ y. rw (shelf_wrong p (leb-false (length s) p x) y) tt)))

-- ---- the answer

-- a parcel that follows is answered with, and with no other that stands before it
pub record Found (h s : List ℕ) (Q : Placed → Type 0) (r : Reply) : Type 0 where
  pub parcel : Placed
  pub has : Q parcel
  pub follows_it : follows h (file_in s parcel) ≡ true
  pub answered : r ≡ Parcel parcel.start parcel.whole

-- where a file that follows stands among them, one that follows is found
pub finds : (h s f : List ℕ) (Q : Placed → Type 0) (e : ℕ) (xs : List Placed) → Each Q xs → follows h f ≡ true → 1 ≤ copies s f xs → Found h s Q (first_of h s e xs)
unfolding Each copies first_of
finds h s f Q e [] q w c = absurd (omega arith)
finds h s f Q e (x ∷ xs) q w c =
    by_bool (follows h (file_in s x))
    (λ y. record { parcel = x; has = q.0; follows_it = y; answered = rw y })
    (λ y. let n : same (file_in s x) f ≡ false = not_same y in rw y (finds h s f Q e xs q.1 w (rw n at c)))
  where
    not_same : follows h (file_in s x) ≡ false → same (file_in s x) f ≡ false
    not_same y = go (same (file_in s x) f) refl
      where
        go : (t : Bool) → same (file_in s x) f ≡ t → t ≡ false
        go true z = let u : follows h f ≡ false = ap (follows h) (sym (same_sound (file_in s x) f z)) ∙ y in sym w ∙ u
        go false z = refl

-- what is answered with stands on the shelf
stands_among : (h s : List ℕ) (Q : Placed → Type 0) (e : ℕ) (xs : List Placed) → Each Q xs → (p n : ℕ) → first_of h s e xs ≡ Parcel p n → Q (record { start = p; whole = n })
unfolding Each first_of
stands_among h s Q e [] q p n z = by_bool (eqb e 0)
    (λ t. absurd (let y : Silence ≡ Parcel p n = rw t at z in let w : ◌≡◌ {A = ℕ} 0 1 = cc in omega arith))
    (λ t. absurd (let y : Refused ≡ Parcel p n = rw t at z in let w : ◌≡◌ {A = ℕ} 0 1 = cc in omega arith))
stands_among h s Q e (x ∷ xs) q p n z =
    by_bool (follows h (file_in s x))
    (λ t. let y : Parcel x.start x.whole ≡ Parcel p n = rw t at z in
    let a : x.start ≡ p = cc in
    let b : x.whole ≡ n = cc in
    rw (← a, ← b) q.0)
    (λ t. stands_among h s Q e xs q.1 p n (rw t at z))

pub answered_from : (h s : List ℕ) (Q : Placed → Type 0) → Each Q (shelf_from s 0).items → (p n : ℕ) → reply h s ≡ Parcel p n → Q (record { start = p; whole = n })
unfolding reply reply_from
answered_from h s Q q p n z =
    by_bool (tells_holding h)
    (λ t. stands_among h s Q (shelf_from s 0).ending (shelf_from s 0).items q p n (rw t at z))
    (λ t. absurd (let y : Refused ≡ Parcel p n = rw t at z in let w : ◌≡◌ {A = ℕ} 0 1 = cc in omega arith))
