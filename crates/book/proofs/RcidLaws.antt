-- Laws of a book of RCIDs. Assumes nothing.
use mathlib.Core.Logic.{◌⊎◌, inl, inr}
use mathlib.Core.Path.{◌≡◌, refl, sym, ap, ◌∙◌}
use mathlib.Core.List.{List, [], ◌∷◌, ◌++◌}
use mathlib.Core.Bool.{Bool, true, false, true≢false}
use Prim.Native.Nat.{ℕ, ◌+◌, ◌-◌, ◌*◌, ◌/◌, ◌%◌, ◌≤◌, ◌<◌}
use native.Mathlib.Omega.{arith}
use borrow.Author.Tests.{eq-eqb, ne_eqb, lt-ltb, le-ltb, eqb-true, eqb-false, ltb-true}
use lib.ListN.{length, get_or, get_or-eq_default}
use lib.Dec.{eqb, ltb}
use Rattle.base.specs.Choice.{pick, both}
use Rattle.base.proofs.ChoiceLaws.{by_test, both_hold}
use Rattle.memory.specs.Hold.{zeros}
use Rattle.keys.specs.Bits.{flag_of, raised}
use Rattle.keys.specs.Listed.{listed}
use Rattle.keys.specs.Map.{Mapped, kind_in, rcid_in}
use Rattle.keys.proofs.BitLaws.{flag_none, flag_other, raised_long}
use Rattle.keys.proofs.ListLaws.{listed_none}
use Rattle.keys.proofs.MapLaws.{zeros_all, mapped_more, mapped_out}
use Rattle.book.specs.Book.{bit_at, halves}
use Rattle.book.specs.Rcids.{leaf_of, base_of, mesh_of, held_in, mark_of, spot_of, Noted, joined, Unmet, Means}
use Rattle.book.proofs.BookLaws.{on}

-- ---- `bough` and `leaf`

-- the first six bits
module _ (b : List ℕ) (key : ℕ)
    (x1 : ℕ) (e1 : x1 ≡ bit_at b key 4096)
    (x2 : ℕ) (e2 : x2 ≡ bit_at b key (4096 * x1 + 2048))
    (x3 : ℕ) (e3 : x3 ≡ bit_at b key (2048 * (2 * x1 + x2) + 1024))
    (x4 : ℕ) (e4 : x4 ≡ bit_at b key (1024 * (2 * (2 * x1 + x2) + x3) + 512))
    (x5 : ℕ) (e5 : x5 ≡ bit_at b key (512 * (2 * (2 * (2 * x1 + x2) + x3) + x4) + 256))
    (x6 : ℕ) (e6 : x6 ≡ bit_at b key (256 * (2 * (2 * (2 * (2 * x1 + x2) + x3) + x4) + x5) + 128)) where
  pub bough_is : halves 7 b key 64 (2 * (2 * (2 * (2 * (2 * x1 + x2) + x3) + x4) + x5) + x6) ≡ halves 12 b key 2048 (bit_at b key 4096)
  bough_is =
      let p1 : halves 12 b key 2048 x1 ≡ halves 12 b key 2048 (bit_at b key 4096) = rw e1 refl in
      let p2 = on b key 11 2048 _ _ x2 p1 e2 in
      let p3 = on b key 10 1024 _ _ x3 p2 e3 in
      let p4 = on b key 9 512 _ _ x4 p3 e4 in
      let p5 = on b key 8 256 _ _ x5 p4 e5 in
      let p6 = on b key 7 128 _ _ x6 p5 e6 in
      p6

pub ruleset bough_ways = (bough_is, arith)

-- the others
module _ (b : List ℕ) (key a : ℕ) (p6 : halves 7 b key 64 a ≡ halves 12 b key 2048 (bit_at b key 4096))
    (x7 : ℕ) (e7 : x7 ≡ bit_at b key (128 * a + 64))
    (x8 : ℕ) (e8 : x8 ≡ bit_at b key (64 * (2 * a + x7) + 32))
    (x9 : ℕ) (e9 : x9 ≡ bit_at b key (32 * (2 * (2 * a + x7) + x8) + 16))
    (x10 : ℕ) (e10 : x10 ≡ bit_at b key (16 * (2 * (2 * (2 * a + x7) + x8) + x9) + 8))
    (x11 : ℕ) (e11 : x11 ≡ bit_at b key (8 * (2 * (2 * (2 * (2 * a + x7) + x8) + x9) + x10) + 4))
    (x12 : ℕ) (e12 : x12 ≡ bit_at b key (4 * (2 * (2 * (2 * (2 * (2 * a + x7) + x8) + x9) + x10) + x11) + 2))
    (x13 : ℕ) (e13 : x13 ≡ bit_at b key (2 * (2 * (2 * (2 * (2 * (2 * (2 * a + x7) + x8) + x9) + x10) + x11) + x12) + 1)) where
  abbrev all : ℕ
  all = 2 * (2 * (2 * (2 * (2 * (2 * (2 * a + x7) + x8) + x9) + x10) + x11) + x12) + x13

  bits : all ≡ halves 12 b key 2048 (bit_at b key 4096)
  unfolding halves
  bits =
      let p7 = on b key 6 64 _ _ x7 p6 e7 in
      let p8 = on b key 5 32 _ _ x8 p7 e8 in
      let p9 = on b key 4 16 _ _ x9 p8 e9 in
      let p10 = on b key 3 8 _ _ x10 p9 e10 in
      let p11 = on b key 2 4 _ _ x11 p10 e11 in
      let p12 = on b key 1 2 _ _ x12 p11 e12 in
      let p13 = on b key 0 1 _ _ x13 p12 e13 in
      p13

  pub leaf_there : all < length b → all ≡ leaf_of b key
  unfolding leaf_of
  leaf_there h = let e = bits in rw (← e) (simp (lt-ltb all (length b) h))

  pub leaf_none : length b ≤ all → 0 ≡ leaf_of b key
  unfolding leaf_of
  leaf_none h = let e = bits in rw (← e) (simp (le-ltb all (length b) h))

pub ruleset leaf_ways = (leaf_there, leaf_none, arith)

-- ---- the sieve

module _ (n : ℕ) where
  pub base_few : n < 32768 → 32768 ≡ base_of n
  unfolding base_of
  base_few h = simp (lt-ltb n 32768 h)

  pub base_many : 32768 ≤ n → 221184 ≡ base_of n
  unfolding base_of
  base_many h = simp (le-ltb n 32768 h)

  pub mesh_few : (rcid : ℕ) → n < 32768 → rcid * 2654435769 / 131072 % 32768 ≡ mesh_of n rcid
  unfolding mesh_of
  mesh_few rcid h = simp (lt-ltb n 32768 h)

  pub mesh_many : (rcid : ℕ) → 32768 ≤ n → rcid * 2654435769 / 256 % 221184 ≡ mesh_of n rcid
  unfolding mesh_of
  mesh_many rcid h = simp (le-ltb n 32768 h)

  mesh_below : (rcid : ℕ) → mesh_of n rcid < base_of n
  unfolding mesh_of base_of
  mesh_below rcid = go (ltb n 32768)
    where
      go : (c : Bool) → pick c (rcid * 2654435769 / 131072 % 32768) (rcid * 2654435769 / 256 % 221184) < pick c 32768 221184
      go true = omega arith
      go false = omega arith

  base_some : 0 < base_of n
  base_some = let h = mesh_below 0 in omega arith

pub ruleset mesh_ways = (base_few, base_many, mesh_few, mesh_many, arith)

module _ (v : List ℕ) (j rcid : ℕ) (e : j ≡ mesh_of (length v) rcid) where
  pub sifted_past : length v ≤ j / 8 → false ≡ flag_of v (mesh_of (length v) rcid)
  sifted_past h = rw (← e) (sym (flag_none v j (get_or-eq_default v 0 h)))

  pub sifted_flag : (r : Bool) → r ≡ flag_of v j → r ≡ flag_of v (mesh_of (length v) rcid)
  sifted_flag r x = rw (← e) x

  pub sift_is : (v' : List ℕ) → v' ≡ raised v j → v' ≡ raised v (mesh_of (length v) rcid)
  sift_is v' x = rw (← e) x

pub ruleset sieve_ways = (sifted_past, sifted_flag, sift_is, arith)

-- ---- `spot`

module _ (b v : List ℕ) (key rcid : ℕ) (s : Bool) (e : s ≡ flag_of v (mesh_of (length v) rcid)) (er : rcid ≡ rcid_in key) where
  pub spot_sifted : s ≡ false → 0 ≡ spot_of b v key
  unfolding spot_of held_in
  spot_sifted x = let y : flag_of v (mesh_of (length v) (rcid_in key)) ≡ false = rw (← er) (sym e ∙ x) in simp y

  module _ (x : s ≡ true) where
    let_through : flag_of v (mesh_of (length v) (rcid_in key)) ≡ true
    let_through = rw (← er) (sym e ∙ x)

    pub spot_kindless : 21474836479 < key → 0 ≡ spot_of b v key
    unfolding spot_of held_in
    spot_kindless h = let l : 5 ≤ kind_in key = omega arith in simp (let_through, le-ltb (kind_in key) 5 l)

    module _ (h : key ≤ 21474836479) (j : ℕ) (ej : j ≡ leaf_of b rcid) where
      kind_small : kind_in key < 5
      kind_small = omega arith

      at_leaf : j ≡ leaf_of b (rcid_in key)
      at_leaf = rw (← er) ej

      pub spot_there : get_or b j 0 ≡ rcid → (n : ℕ) → n ≡ base_of (length v) → n + (5 * j + key / 4294967296) ≡ spot_of b v key
      unfolding spot_of held_in mark_of
      spot_there y n z = rw z (simp (let_through, lt-ltb (kind_in key) 5 kind_small, ← at_leaf, eq-eqb (get_or b j 0) (rcid_in key) (y ∙ er)))

      pub spot_not : (get_or b j 0 ≡ rcid → ⊥) → 0 ≡ spot_of b v key
      unfolding spot_of held_in mark_of
      spot_not y = simp (let_through, lt-ltb (kind_in key) 5 kind_small, ← at_leaf, ne_eqb (get_or b j 0) (rcid_in key) (λ z. y (z ∙ sym er)))

  pub spot_gone : (s ≡ false) ⊎ ((s ≡ true) × (21474836479 < key)) → 0 ≡ spot_of b v key
  spot_gone (inl x) = spot_sifted x
  spot_gone (inr (x, h)) = spot_kindless x h

pub ruleset spot_ways = (spot_gone, spot_there, spot_not, arith)

-- ---- a key that has a flag is one that the book has

module _ (b v : List ℕ) (key j : ℕ) (e : j ≡ spot_of b v key) where
  by_held : (c : Bool) → held_in b v key ≡ c → j ≡ pick c (mark_of b (length v) key) 0
  unfolding spot_of
  by_held c x = rw (← x) e

  spot_held : (c : Bool) → held_in b v key ≡ c → 0 < j → held_in b v key ≡ true
  spot_held true x h = x
  spot_held false x h = absurd (let z : j ≡ 0 = by_held false x in omega arith)

  pub spot_of_lem : 0 < j → held_in b v key ≡ true
  spot_of_lem h = spot_held (held_in b v key) refl h

  pub spot_mark : 0 < j → j ≡ mark_of b (length v) key
  spot_mark h = by_held true (spot_of_lem h)

  pub enter_there : 0 < j → (v' : List ℕ) → v' ≡ raised v j → v' ≡ joined b v key
  unfolding joined
  enter_there h v' x = rw (spot_of_lem h, ← spot_mark h) x

  pub enter_not : j ≤ 0 → v ≡ joined b v key
  unfolding joined mark_of
  enter_not h = go (held_in b v key) refl
    where
      go : (c : Bool) → held_in b v key ≡ c → v ≡ pick c (raised v (mark_of b (length v) key)) v
      go true x =
          let z : j ≡ base_of (length v) + (5 * leaf_of b (rcid_in key) + kind_in key) = by_held true x in
          absurd (let s = base_some (length v) in omega arith)
      go false x = refl

pub ruleset enter_ways = (enter_there, enter_not, arith)

-- ---- the flags of a book

-- the key whose flag it is
back : List ℕ → ℕ → ℕ → ℕ
back b n j = get_or b ((j - base_of n) / 5) 0 + 4294967296 * ((j - base_of n) % 5)

told : (b v : List ℕ) (n k : ℕ) → held_in b v k ≡ true → back b n (mark_of b n k) ≡ k
unfolding held_in mark_of back
told b v n k h =
    let r : both (ltb (kind_in k) 5) (eqb (get_or b (leaf_of b (rcid_in k)) 0) (rcid_in k)) ≡ true = (both_hold (flag_of v (mesh_of (length v) (rcid_in k))) _ h).1 in
    let w = both_hold (ltb (kind_in k) 5) (eqb (get_or b (leaf_of b (rcid_in k)) 0) (rcid_in k)) r in
    let l : kind_in k < 5 = ltb-true (kind_in k) 5 w.0 in
    let e : get_or b (leaf_of b (rcid_in k)) 0 ≡ rcid_in k = eqb-true _ _ w.1 in
    let at : (base_of n + (5 * leaf_of b (rcid_in k) + kind_in k) - base_of n) / 5 ≡ leaf_of b (rcid_in k) = omega arith in
    let rank : (base_of n + (5 * leaf_of b (rcid_in k) + kind_in k) - base_of n) % 5 ≡ kind_in k = omega arith in
    rw (at, rank, e) (omega arith)

-- a mark changes nothing of what the sieve lets through
held_kept : (b v : List ℕ) (k k' : ℕ) → held_in b (raised v (mark_of b (length v) k)) k' ≡ held_in b v k'
unfolding held_in mark_of
held_kept b v k k' =
    let n : mesh_of (length v) (rcid_in k') ≡ base_of (length v) + (5 * leaf_of b (rcid_in k) + kind_in k) → ⊥ = λ y. let l = mesh_below (length v) (rcid_in k') in omega arith in
    rw (raised_long v (base_of (length v) + (5 * leaf_of b (rcid_in k) + kind_in k)), flag_other v (mesh_of (length v) (rcid_in k')) (base_of (length v) + (5 * leaf_of b (rcid_in k) + kind_in k)) n) refl

pub noted_none : (b v : List ℕ) → Unmet v → Noted b [] v
unfolding Noted Mapped Unmet mark_of
noted_none b v u k e h = u (base_of (length v) + (5 * leaf_of b (rcid_in k) + kind_in k)) (omega arith) ∙ sym (listed_none k)

pub noted_more : (b l v v' : List ℕ) (k : ℕ) → Noted b l v → v' ≡ joined b v k → Noted b (l ++ (k ∷ [])) v'
unfolding joined Noted Mapped
noted_more b l v v' k ms e = rw e (by_test (λ (u : List ℕ). Noted b (l ++ (k ∷ [])) u) (held_in b v k) _ _ there gone)
  where
    there : held_in b v k ≡ true → Noted b (l ++ (k ∷ [])) (raised v (mark_of b (length v) k))
    there x =
        rw (raised_long v (mark_of b (length v) k))
        (λ j g h. mapped_more (held_in b v) (mark_of b (length v)) (back b (length v)) (told b v (length v)) l v ms k x j (sym (held_kept b v k j) ∙ g) (omega (arith, raised_long v (mark_of b (length v) k))))

    gone : held_in b v k ≡ false → Noted b (l ++ (k ∷ [])) v
    gone x = mapped_out (held_in b v) (mark_of b (length v)) (back b (length v)) (told b v (length v)) l v ms k x

-- what the flags say of a key that the book has
pub noted_says : (b l v : List ℕ) (k j : ℕ) → Noted b l v → j ≡ spot_of b v k → 0 < j → j / 8 < length v → flag_of v j ≡ listed k l
unfolding Noted Mapped
noted_says b l v k j ms e x h =
    let m = spot_mark b v k j e x in
    rw m (ms k (spot_of_lem b v k j e x) (rw (← m) h))

-- ---- no flag but those of the sieve

pub unmet_zeros : (n : ℕ) (v : List ℕ) → v ≡ zeros n → Unmet v
unfolding Unmet
unmet_zeros n v e j h = rw e (flag_none (zeros n) j (zeros_all n (j / 8)))

pub unmet_sifted : (v v' : List ℕ) (rcid : ℕ) → Unmet v → v' ≡ raised v (mesh_of (length v) rcid) → Unmet v'
unfolding Unmet
unmet_sifted v v' rcid u e =
    rw (e, raised_long v (mesh_of (length v) rcid))
    (λ j h. let n : j ≡ mesh_of (length v) rcid → ⊥ = λ y. let l = mesh_below (length v) rcid in omega arith in flag_other v j (mesh_of (length v) rcid) n ∙ u j h)

-- ---- flags that say something of their keys go on doing so when that of a key is raised of which it holds

pub means_unmet : (P : ℕ → Type 0) (b v : List ℕ) → Unmet v → Means P b v
unfolding Means Unmet mark_of
means_unmet P b v u k e f = absurd (true≢false (sym f ∙ u (base_of (length v) + (5 * leaf_of b (rcid_in k) + kind_in k)) (omega arith)))

pub means_spot : (P : ℕ → Type 0) (b v : List ℕ) → Means P b v → (k j : ℕ) → j ≡ spot_of b v k → 0 < j → flag_of v j ≡ true → P k
unfolding Means
means_spot P b v all k j e h f = all k (spot_of_lem b v k j e h) (rw (spot_mark b v k j e h) at f)

module _ (P : ℕ → Type 0) (b v : List ℕ) (all : Means P b v) (k : ℕ) (p : P k) where
  raised_so : held_in b v k ≡ true → (j : ℕ) (c : Bool) → eqb k j ≡ c → held_in b v j ≡ true → flag_of (raised v (mark_of b (length v) k)) (mark_of b (length v) j) ≡ true → P j
  unfolding Means
  raised_so x j true y g f = let z : k ≡ j = eqb-true k j y in rw z at p
  raised_so x j false y g f =
      let n : mark_of b (length v) j ≡ mark_of b (length v) k → ⊥ =
      λ w. eqb-false k j y (sym (told b v (length v) k x) ∙ ap (back b (length v)) (sym w) ∙ told b v (length v) j g) in
      all j g (sym (flag_other v (mark_of b (length v) j) (mark_of b (length v) k) n) ∙ f)

  pub means_joined : (v' : List ℕ) → v' ≡ joined b v k → Means P b v'
  unfolding joined Means
  means_joined v' e = rw e (by_test (λ (u : List ℕ). Means P b u) (held_in b v k) _ _ there (λ _. all))
    where
      there : held_in b v k ≡ true → Means P b (raised v (mark_of b (length v) k))
      there x = rw (raised_long v (mark_of b (length v) k)) (λ j g f. raised_so x j (eqb k j) refl (sym (held_kept b v k j) ∙ g) f)
