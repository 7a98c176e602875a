-- Laws of a key in five bytes. Assumes nothing.
use mathlib.Core.Path.{◌≡◌, refl, sym, ap, ◌∙◌}
use mathlib.Core.List.{List}
use mathlib.Core.Bool.{Bool, true, false}
use Prim.Native.Nat.{ℕ, ◌+◌, ◌*◌, ◌^◌, ◌≤◌, ◌<◌}
use native.Mathlib.Omega.{arith}
use borrow.Author.Tests.{lt-ltb, le-ltb, eq-eqb, ne_eqb, ltb-true, ltb-false}
use lib.ListN.{length, get_or, take, drop, length-take, length-drop}
use lib.Seq.{get_or-take, get_or-drop}
use lib.Dec.{ltb}
use Rattle.fields.specs.Bytes.{le}
use Rattle.fields.proofs.ByteLaws.{le2, le4}
use Rattle.rules.specs.Kind.{rank}
use Rattle.rules.specs.declared.Kind.{Kind}
use Rattle.rules.specs.declared.Kind.TheVariants.{Info, Point, Multi, Feature}
use Rattle.keys.specs.Key.{rank_of, key_at, KeyFits, kind_ranked}

-- ---- what `rank` and `key_at` return

module _ (c : ℕ) where
  pub rank_150 : c ≡ 150 → 1 ≡ rank_of c
  unfolding rank_of
  rank_150 e = simp (eq-eqb c 150 e)

  module _ (n : c ≡ 150 → ⊥) where
    pub rank_110 : c ≡ 110 → 2 ≡ rank_of c
    unfolding rank_of
    rank_110 e = simp (ne_eqb c 150 n, eq-eqb c 110 e)

    module _ (o : c ≡ 110 → ⊥) where
      pub rank_115 : c ≡ 115 → 3 ≡ rank_of c
      unfolding rank_of
      rank_115 e = simp (ne_eqb c 150 n, ne_eqb c 110 o, eq-eqb c 115 e)

      module _ (p : c ≡ 115 → ⊥) where
        pub rank_100 : c ≡ 100 → 4 ≡ rank_of c
        unfolding rank_of
        rank_100 e = simp (ne_eqb c 150 n, ne_eqb c 110 o, ne_eqb c 115 p, eq-eqb c 100 e)

        pub rank_none : (c ≡ 100 → ⊥) → 0 ≡ rank_of c
        unfolding rank_of
        rank_none q = simp (ne_eqb c 150 n, ne_eqb c 110 o, ne_eqb c 115 p, ne_eqb c 100 q)

pub ruleset rank_ways = (rank_150, rank_110, rank_115, rank_100, rank_none, arith)

module _ (f : List ℕ) (q : ℕ) where
  pub key_past : length f < q + 5 → 0 ≡ key_at f q
  unfolding key_at
  key_past h = simp (lt-ltb _ _ h)

  pub key_there : q + 5 ≤ length f → (r w : ℕ) → r ≡ rank_of (get_or f q 0) → w ≡ le 4 (drop (q + 1) f) → r * 4294967296 + w ≡ key_at f q
  unfolding key_at
  key_there h r w x y = simp (le-ltb _ _ h, ← x, ← y)

  pub key_fits : (w : ℕ) → w ≡ le 4 (drop (q + 1) f) → w < 2 ^ 32 → KeyFits f q
  unfolding KeyFits
  key_fits w y h _ = rw y at h

  pub key_fits_past : length f < q + 5 → KeyFits f q
  unfolding KeyFits
  key_fits_past h g = absurd (omega arith)

pub ruleset key_ways = (key_past, key_there, key_fits, key_fits_past, arith)

-- ---- a key in a part of some bytes

-- where there is a key, there are its bytes
pub key_room : (b : List ℕ) (q : ℕ) → (key_at b q ≡ 0 → ⊥) → q + 5 ≤ length b
key_room b q n = go (ltb (length b) (q + 5)) refl
  where
    go : (t : Bool) → ltb (length b) (q + 5) ≡ t → q + 5 ≤ length b
    go true e = absurd (n (sym (key_past b q (ltb-true _ _ e))))
    go false e = ltb-false _ _ e

-- four bytes by themselves
four : (b : List ℕ) (q : ℕ) → q + 4 ≤ length b
    → le 4 (drop q b) ≡ get_or b q 0 + 256 * get_or b (q + 1) 0 + 65536 * (get_or b (q + 2) 0 + 256 * get_or b (q + 2 + 1) 0)
four b q h = le4 b q h ∙ omega (arith, le2 b q (omega arith), le2 b (q + 2) (omega arith))

-- the key at q of a part of some bytes, the n from s on, is theirs at s + q
module _ (b : List ℕ) (n s q : ℕ) (h : q + 5 ≤ length (take n (drop s b))) where
  inside : (q + 5 ≤ n) × (s + q + 5 ≤ length b)
  inside = let l = length-take n (drop s b) in let m = length-drop s b in (omega arith, omega arith)

  byte_part : (i : ℕ) → i < q + 5 → get_or (take n (drop s b)) i 0 ≡ get_or b (s + i) 0
  byte_part i g = let r = inside in get_or-take n (drop s b) i 0 (omega arith) ∙ get_or-drop s b i 0

  word_part : le 4 (drop (q + 1) (take n (drop s b))) ≡ le 4 (drop (s + q + 1) b)
  word_part =
      let r = inside in
      let at : (i j : ℕ) → s + i ≡ j → i < q + 5 → get_or (take n (drop s b)) i 0 ≡ get_or b j 0 = λ i j e g. byte_part i g ∙ ap (λ (x : ℕ). get_or b x 0) e in
      four (take n (drop s b)) (q + 1) (omega arith)
      ∙ omega (
        arith,
        at (q + 1) (s + q + 1) (omega arith) (omega arith),
        at (q + 1 + 1) (s + q + 1 + 1) (omega arith) (omega arith),
        at (q + 1 + 2) (s + q + 1 + 2) (omega arith) (omega arith),
        at (q + 1 + 2 + 1) (s + q + 1 + 2 + 1) (omega arith) (omega arith),
      )
      ∙ sym (four b (s + q + 1) (omega arith))

  pub key_part : key_at b (s + q) ≡ key_at (take n (drop s b)) q
  key_part =
      let r = inside in
      sym (key_there b (s + q) (omega arith) (rank_of (get_or (take n (drop s b)) q 0)) (le 4 (drop (q + 1) (take n (drop s b)))) (ap rank_of (byte_part q (omega arith))) word_part)
      ∙ key_there (take n (drop s b)) q h _ _ refl refl

  pub fits_part : KeyFits b (s + q) → KeyFits (take n (drop s b)) q
  unfolding KeyFits
  fits_part k g = let r = inside in rw word_part (k (omega arith))

-- ---- `kind_of`

module _ (r : ℕ) where
  pub kind_1 : r ≡ 1 → Info ≡ kind_ranked r
  unfolding kind_ranked
  kind_1 e = simp (eq-eqb r 1 e)

  module _ (n : r ≡ 1 → ⊥) where
    pub kind_2 : r ≡ 2 → Point ≡ kind_ranked r
    unfolding kind_ranked
    kind_2 e = simp (ne_eqb r 1 n, eq-eqb r 2 e)

    module _ (o : r ≡ 2 → ⊥) where
      pub kind_3 : r ≡ 3 → Multi ≡ kind_ranked r
      unfolding kind_ranked
      kind_3 e = simp (ne_eqb r 1 n, ne_eqb r 2 o, eq-eqb r 3 e)

      pub kind_4 : (r ≡ 3 → ⊥) → Feature ≡ kind_ranked r
      unfolding kind_ranked
      kind_4 p = simp (ne_eqb r 1 n, ne_eqb r 2 o, ne_eqb r 3 p)

pub ruleset kind_ways = (kind_1, kind_2, kind_3, kind_4, arith)

-- the kind with the rank of a kind
pub kind_ranked_lem : (k : Kind) → kind_ranked (rank k) ≡ k
unfolding kind_ranked rank
kind_ranked_lem Info = refl
kind_ranked_lem Point = refl
kind_ranked_lem Multi = refl
kind_ranked_lem Feature = refl
