-- Laws of a book of keys. Assumes nothing.
use mathlib.Core.Path.{◌≡◌, refl, ◌∙◌}
use mathlib.Core.List.{List, [], ◌∷◌, ◌++◌}
use mathlib.Core.Bool.{Bool, true, false}
use Prim.Native.Nat.{ℕ, suc, ◌+◌, ◌*◌, ◌/◌, ◌≤◌, ◌<◌}
use native.Mathlib.Omega.{arith}
use borrow.Author.Tests.{eq-eqb, ne_eqb, lt-ltb, le-ltb, eqb-true}
use lib.ListN.{length, get_or}
use lib.Dec.{leb, ltb}
use mir.Val.{bool_byte}
use Rattle.base.specs.Choice.{both}
use Rattle.base.proofs.ChoiceLaws.{by_test}
use Rattle.memory.specs.Hold.{zeros}
use Rattle.keys.specs.Bits.{flag_of, raised}
use Rattle.keys.specs.Listed.{listed}
use Rattle.keys.specs.Map.{Mapped}
use Rattle.keys.proofs.BitLaws.{raised_long}
use Rattle.keys.proofs.MapLaws.{zeros_all, mapped_none, mapped_more, mapped_out}
use Rattle.book.specs.Book.{bit_at, halves, page_of, written, Met, entered}

-- ---- `bit` and `page`

module _ (b : List ℕ) (key j r : ℕ) (t : Bool) (e : r ≡ bool_byte t) where
  bit_by : (c : Bool) → t ≡ c → c ≡ both (ltb j (length b)) (leb (get_or b j 0) key) → (r ≡ bit_at b key j) × (r ≤ 1)
  unfolding bit_at
  bit_by true x y = rw (e, x, ← y) (refl, omega arith)
  bit_by false x y = rw (e, x, ← y) (refl, omega arith)

  pub bit_there : j < length b → t ≡ leb (get_or b j 0) key → (r ≡ bit_at b key j) × (r ≤ 1)
  bit_there l x = bit_by t refl (rw (lt-ltb j (length b) l) x)

  pub bit_past : length b ≤ j → t ≡ ltb j (length b) → (r ≡ bit_at b key j) × (r ≤ 1)
  bit_past l x = bit_by t refl (rw (le-ltb j (length b) l) (x ∙ le-ltb j (length b) l))

-- one bit more
pub on : (b : List ℕ) (key left unit at r x : ℕ) → halves (suc left) b key unit at ≡ r → x ≡ bit_at b key (2 * unit * at + unit) → halves left b key (unit / 2) (2 * at + x) ≡ r
unfolding halves
on b key left unit at r x e y = rw y e

module _ (b : List ℕ) (key : ℕ)
    (x1 : ℕ) (e1 : x1 ≡ bit_at b key 1024)
    (x2 : ℕ) (e2 : x2 ≡ bit_at b key (1024 * x1 + 512))
    (x3 : ℕ) (e3 : x3 ≡ bit_at b key (512 * (2 * x1 + x2) + 256))
    (x4 : ℕ) (e4 : x4 ≡ bit_at b key (256 * (2 * (2 * x1 + x2) + x3) + 128))
    (x5 : ℕ) (e5 : x5 ≡ bit_at b key (128 * (2 * (2 * (2 * x1 + x2) + x3) + x4) + 64))
    (x6 : ℕ) (e6 : x6 ≡ bit_at b key (64 * (2 * (2 * (2 * (2 * x1 + x2) + x3) + x4) + x5) + 32))
    (x7 : ℕ) (e7 : x7 ≡ bit_at b key (32 * (2 * (2 * (2 * (2 * (2 * x1 + x2) + x3) + x4) + x5) + x6) + 16))
    (x8 : ℕ) (e8 : x8 ≡ bit_at b key (16 * (2 * (2 * (2 * (2 * (2 * (2 * x1 + x2) + x3) + x4) + x5) + x6) + x7) + 8))
    (x9 : ℕ) (e9 : x9 ≡ bit_at b key (8 * (2 * (2 * (2 * (2 * (2 * (2 * (2 * x1 + x2) + x3) + x4) + x5) + x6) + x7) + x8) + 4))
    (x10 : ℕ) (e10 : x10 ≡ bit_at b key (4 * (2 * (2 * (2 * (2 * (2 * (2 * (2 * (2 * x1 + x2) + x3) + x4) + x5) + x6) + x7) + x8) + x9) + 2))
    (x11 : ℕ) (e11 : x11 ≡ bit_at b key (2 * (2 * (2 * (2 * (2 * (2 * (2 * (2 * (2 * (2 * x1 + x2) + x3) + x4) + x5) + x6) + x7) + x8) + x9) + x10) + 1)) where
  abbrev all : ℕ
  all = 2 * (2 * (2 * (2 * (2 * (2 * (2 * (2 * (2 * (2 * x1 + x2) + x3) + x4) + x5) + x6) + x7) + x8) + x9) + x10) + x11

  bits : all ≡ halves 10 b key 512 (bit_at b key 1024)
  unfolding halves
  bits =
      let p1 : halves 10 b key 512 x1 ≡ halves 10 b key 512 (bit_at b key 1024) = rw e1 refl in
      let p2 = on b key 9 512 _ _ x2 p1 e2 in
      let p3 = on b key 8 256 _ _ x3 p2 e3 in
      let p4 = on b key 7 128 _ _ x4 p3 e4 in
      let p5 = on b key 6 64 _ _ x5 p4 e5 in
      let p6 = on b key 5 32 _ _ x6 p5 e6 in
      let p7 = on b key 4 16 _ _ x7 p6 e7 in
      let p8 = on b key 3 8 _ _ x8 p7 e8 in
      let p9 = on b key 2 4 _ _ x9 p8 e9 in
      let p10 = on b key 1 2 _ _ x10 p9 e10 in
      let p11 = on b key 0 1 _ _ x11 p10 e11 in
      p11

  pub page_there : all < length b → all ≡ page_of b key
  unfolding page_of
  page_there h = let e = bits in rw (← e) (simp (lt-ltb all (length b) h))

  pub page_none : length b ≤ all → 0 ≡ page_of b key
  unfolding page_of
  page_none h = let e = bits in rw (← e) (simp (le-ltb all (length b) h))

pub ruleset page_ways = (page_there, page_none, arith)

-- ---- `enter`

module _ (b : List ℕ) (t : List ℕ) (key j : ℕ) (e : j ≡ page_of b key) where
  pub enter_written : get_or b j 0 ≡ key → (t' : List ℕ) → t' ≡ raised t j → t' ≡ entered b t key
  unfolding entered written
  enter_written x t' y = simp (← e, eq-eqb (get_or b j 0) key x) y

  pub enter_not : (get_or b j 0 ≡ key → ⊥) → t ≡ entered b t key
  unfolding entered written
  enter_not x = simp (← e, ne_eqb (get_or b j 0) key x)

pub ruleset enter_ways = (enter_written, enter_not, arith)

-- ---- the flags of a book

told : (b : List ℕ) (k : ℕ) → written b k ≡ true → get_or b (page_of b k) 0 ≡ k
unfolding written
told b k h = eqb-true (get_or b (page_of b k) 0) k h

pub met_none : (b : List ℕ) (n : ℕ) → Met b [] (zeros n)
unfolding Met
met_none b n = mapped_none (written b) (page_of b) (λ j. get_or b j 0) (told b) (zeros n) (zeros_all n)

pub met_more : (b l t t' : List ℕ) (k : ℕ) → Met b l t → t' ≡ entered b t k → Met b (l ++ (k ∷ [])) t'
unfolding Met entered
met_more b l t t' k ms e =
    rw e (by_test (λ (u : List ℕ). Mapped (written b) (page_of b) (l ++ (k ∷ [])) u) (written b k) _ _
    (mapped_more (written b) (page_of b) (λ j. get_or b j 0) (told b) l t ms k)
    (mapped_out (written b) (page_of b) (λ j. get_or b j 0) (told b) l t ms k))

-- what the flags say of a key that the book has
pub met_says : (b l t : List ℕ) (k j : ℕ) → Met b l t → j ≡ page_of b k → get_or b j 0 ≡ k → j / 8 < length t → flag_of t j ≡ listed k l
unfolding Met Mapped written
met_says b l t k j ms e x h = rw e (ms k (eq-eqb (get_or b (page_of b k) 0) k (rw (← e) x)) (rw (← e) h))

pub entered_long : (b t t' : List ℕ) (k n : ℕ) → t' ≡ entered b t k → length t ≡ n → length t' ≡ n
unfolding entered
entered_long b t t' k n e h = rw e (by_test (λ (u : List ℕ). length u ≡ n) (written b k) _ _ (λ _. raised_long t (page_of b k) ∙ h) (λ _. h))
