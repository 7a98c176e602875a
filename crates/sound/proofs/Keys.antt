-- Keys that stand once: in parts of a list, with one more at the end, with one that leaves, and in lists of keys of two lengths. Assumes nothing.
use Prim.Native.Nat.{ℕ}
use mathlib.Core.Path.{◌≡◌, refl, sym, ap, ◌∙◌}
use mathlib.Core.Bool.{false}
use mathlib.Core.List.{List, [], ◌∷◌, ◌++◌}
use lib.ListN.{length}
use Rattle.base.specs.Check.{ok}
use Rattle.base.specs.Lists.{each, Each}
use Rattle.base.specs.Keys.{same, among, join, leave}
use Rattle.base.proofs.CheckLaws.{bind_inv, ok_inj, refused}
use Rattle.base.proofs.KeysLaws.{same_sound, joined_each, left_each}
use Rattle.base.proofs.ChoiceLaws.{neither}
use Rattle.base.proofs.ListLaws.{each_append}
use Rattle.sequence.proofs.Tests.{by_bool}
use Rattle.sound.specs.Sound.{Apart}

-- ---- parts of a list

-- the first list is part of the second, in the same order
pub data Within : List (List ℕ) → List (List ℕ) → Type 0 where
  w_none : Within [] []
  w_keep : {x : List ℕ} {a b : List (List ℕ)} → Within a b → Within (x ∷ a) (x ∷ b)
  w_skip : {x : List ℕ} {a b : List (List ℕ)} → Within a b → Within a (x ∷ b)

-- what is not among the first is not among the second
abbrev Fewer : List (List ℕ) → List (List ℕ) → Type 0
Fewer seen seen' = (k : List ℕ) → among k seen ≡ false → among k seen' ≡ false

-- nor behind one more
fewer_more : (x : List ℕ) (seen seen' : List (List ℕ)) → Fewer seen seen' → Fewer (x ∷ seen) (x ∷ seen')
unfolding among
fewer_more x seen seen' f k e = let (a, b) = neither (same k x) (among k seen) e in rw (a, f k b)

-- or before fewer
fewer_less : (x : List ℕ) (seen seen' : List (List ℕ)) → Fewer seen seen' → Fewer (x ∷ seen) seen'
unfolding among
fewer_less x seen seen' f k e = f k (neither (same k x) (among k seen) e).1

-- keys that stand once stand once in a part
pub apart_part : (seen seen' : List (List ℕ)) {a b : List (List ℕ)} → Fewer seen seen' → Within a b → Apart seen b → Apart seen' a
unfolding Apart
apart_part seen seen' f w_none p = tt
apart_part seen seen' f (w_keep {x = x} w) p = (f x p.0, apart_part (x ∷ seen) (x ∷ seen') (fewer_more x seen seen' f) w p.1)
apart_part seen seen' f (w_skip {x = x} w) p = apart_part (x ∷ seen) seen' (fewer_less x seen seen' f) w p.1

-- all of a list
pub within_all : (a : List (List ℕ)) → Within a a
within_all [] = w_none
within_all (x ∷ a) = w_keep (within_all a)

-- none of a list
pub within_none : (a : List (List ℕ)) → Within [] a
within_none [] = w_none
within_none (x ∷ a) = w_skip (within_none a)

-- parts of lists joined
pub within_join : (a b : List (List ℕ)) {c d : List (List ℕ)} → Within a b → Within c d → Within (a ++ c) (b ++ d)
within_join [] [] w_none v = v
within_join (x ∷ a) (y ∷ b) (w_keep w) v = w_keep (within_join a b w v)
within_join a (y ∷ b) (w_skip w) v = w_skip (within_join a b w v)
within_join (x ∷ a) [] {c = c} {d = d} x5 v = elim x5 [ ]

-- ---- one more, one fewer

-- a new key at the end
apart_end : (k : List ℕ) (seen ks : List (List ℕ)) → Apart seen ks → among k seen ≡ false → among k ks ≡ false → Apart seen (ks ++ (k ∷ []))
unfolding Apart among
apart_end k seen [] p e f = (e, tt)
apart_end k seen (x ∷ ks) p e f = let (a, b) = neither (same k x) (among k ks) f in (p.0, apart_end k (x ∷ seen) ks p.1 (rw (a, e)) b)

module _ {A : Type 0} (key : A → List ℕ) where
  -- the keys where a thing has joined
  joined_apart : (j : ℕ) (x : A) (xs ys : List A) → Apart [] (each key xs) → join key j x xs ≡ ok ys → Apart [] (each key ys)
  unfolding join
  joined_apart j x xs ys p h =
      by_bool (among (key x) (each key xs))
      (λ t. refused (rw t at h))
      (λ t. rw (← ok_inj _ ys (rw t at h), each_append key xs (x ∷ [])) (ends t))
    where
      ends : among (key x) (each key xs) ≡ false → Apart [] (each key xs ++ each key (x ∷ []))
      ends t = unfold each in apart_end (key x) [] (each key xs) p (unfold among in refl) t

  -- where one has left, those of the others are part of the old ones
  left_within : (j : ℕ) (k : List ℕ) (xs ys : List A) → leave key j k xs ≡ ok ys → Within (each key ys) (each key xs)
  unfolding leave each
  left_within j k [] ys h = refused h
  left_within j k (x ∷ xs) ys h =
      by_bool (same (key x) k)
      (λ t. rw (← ok_inj xs ys (rw t at h)) (w_skip (within_all (each key xs))))
      (λ t.
      let (zs, a, b) = bind_inv (leave key j k xs) (λ ys. ok (x ∷ ys)) ys (rw t at h) in
      rw (← ok_inj (x ∷ zs) ys b) (w_keep (left_within j k xs zs a)))

module _ {A : Type 0} (P : A → Type 0) (key : A → List ℕ) where
  -- a thing joined
  pub joined : (j : ℕ) (x : A) (xs ys : List A) → P x → Each P xs → Apart [] (each key xs) → join key j x xs ≡ ok ys → Each P ys × Apart [] (each key ys)
  joined j x xs ys q e p h = (joined_each P key j x xs ys q e h, joined_apart key j x xs ys p h)

  -- a thing has left
  pub left : (j : ℕ) (k : List ℕ) (xs ys : List A) → Each P xs → Apart [] (each key xs) → leave key j k xs ≡ ok ys → Each P ys × Apart [] (each key ys)
  left j k xs ys e p h = (left_each P key j k xs ys e h, apart_part [] [] (λ q z. z) (left_within key j k xs ys h) p)

-- ---- keys of two lengths

-- a key of another length is not among them
among_other : (m n : ℕ) (k : List ℕ) (s seen : List (List ℕ)) → (m ≡ n → ⊥) → length k ≡ n → Each (λ x. length x ≡ m) seen → among k s ≡ false → among k (s ++ seen) ≡ false
unfolding among Each
among_other m n k [] [] d l e h = h
among_other m n k [] (x ∷ seen) d l e h =
    by_bool (same k x)
    (λ t. absurd (d (sym e.0 ∙ ap length (sym (same_sound k x t)) ∙ l)))
    (λ t. rw (t, among_other m n k [] seen d l e.1 h))
among_other m n k (x ∷ s) seen d l e h = let (a, b) = neither (same k x) (among k s) h in rw (a, among_other m n k s seen d l e b)

-- so they may have been seen
apart_seen : (m n : ℕ) (s seen b : List (List ℕ)) → (m ≡ n → ⊥) → Each (λ x. length x ≡ m) seen → Each (λ x. length x ≡ n) b → Apart s b → Apart (s ++ seen) b
unfolding Apart Each
apart_seen m n s seen [] d e f p = tt
apart_seen m n s seen (k ∷ b) d e f p = (among_other m n k s seen d f.0 e p.0, apart_seen m n (k ∷ s) seen b d e f.1 p.1)

-- keys of one length, and behind them keys of another
pub apart_two : (m n : ℕ) (seen a b : List (List ℕ)) → (m ≡ n → ⊥) → Each (λ x. length x ≡ m) seen → Each (λ x. length x ≡ m) a → Each (λ x. length x ≡ n) b
    → Apart seen a → Apart [] b → Apart seen (a ++ b)
unfolding Apart Each
apart_two m n seen [] b d s e f p q = apart_seen m n [] seen b d s f q
apart_two m n seen (k ∷ a) b d s e f p q = (p.0, apart_two m n (k ∷ seen) a b d (e.0, s) e.1 f p.1 q)
