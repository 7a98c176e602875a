-- Keys that are the same are equal; things that join and leave a list by their keys. Assumes nothing.
use mathlib.Core.Path.{◌≡◌, refl, sym, ap, subst, ◌∙◌}
use mathlib.Core.List.{List, [], ◌∷◌, ◌++◌}
use mathlib.Core.Bool.{Bool, true, false}
use Prim.Native.Nat.{ℕ}
use native.Mathlib.Omega.{arith}
use borrow.Author.Tests.{eqb-true, eq-eqb}
use lib.Dec.{eqb}
use Rattle.base.specs.Choice.{pick}
use Rattle.base.specs.Check.{Check, ok, bind, refuse}
use Rattle.base.specs.Keys.{same, among, join, leave}
use Rattle.base.specs.Lists.{each, Each}
use Rattle.base.proofs.ChoiceLaws.{both_hold}
use Rattle.base.proofs.CheckLaws.{refused, bind_inv, ok_inj}
use Rattle.base.proofs.EachLaws.{each_join}

-- two keys that are the same are equal
pub same_sound : (a b : List ℕ) → same a b ≡ true → a ≡ b
unfolding same
same_sound [] [] e = refl
same_sound [] (y ∷ ys) e = absurd (let z : ◌≡◌ {A = ℕ} 0 1 = cc in omega arith)
same_sound (x ∷ xs) [] e = absurd (let z : ◌≡◌ {A = ℕ} 0 1 = cc in omega arith)
same_sound (x ∷ xs) (y ∷ ys) e =
    let s = both_hold (eqb x y) (same xs ys) e in
    λ i. eqb-true x y s.0 i ∷ same_sound xs ys s.1 i

-- a key is the same as itself
pub same_refl : (a : List ℕ) → same a a ≡ true
unfolding same
same_refl [] = refl
same_refl (x ∷ xs) = rw (eq-eqb x x refl) (same_refl xs)

-- a key that differs from another is one from which the other differs
pub same_sym : (a b : List ℕ) → same a b ≡ false → same b a ≡ false
same_sym a b h = go (same b a) refl
  where
    go : (t : Bool) → same b a ≡ t → t ≡ false
    go false e = refl
    go true e = sym (same_refl a) ∙ ap (same a) (sym (same_sound b a e)) ∙ h

-- two keys are the same either way round
pub same_comm : (a b : List ℕ) → same a b ≡ same b a
same_comm a b = go (same a b) refl
  where
    go : (t : Bool) → same a b ≡ t → t ≡ same b a
    go true e = sym (ap (λ (k : List ℕ). same b k) (same_sound a b e) ∙ same_refl b)
    go false e = sym (same_sym a b e)

-- ---- things joined and left by their keys

module _ {A : Type 0} (P : A → Type 0) (key : A → List ℕ) (j : ℕ) where
  -- what each has, and one that joins them, each has then
  pub joined_each : (x : A) (xs ys : List A) → P x → Each P xs → join key j x xs ≡ ok ys → Each P ys
  unfolding join Each
  joined_each x xs ys p q e = go (among (key x) (each key xs)) e
    where
      go : (t : Bool) → pick t (refuse 7 j) (ok (xs ++ (x ∷ []))) ≡ ok ys → Each P ys
      go true h = refused h
      go false h = rw (ok_inj (xs ++ (x ∷ [])) ys h) at (each_join P xs (x ∷ []) q (p, tt))

  -- so has each when one has left
  pub left_each : (k : List ℕ) (xs ys : List A) → Each P xs → leave key j k xs ≡ ok ys → Each P ys
  unfolding leave Each
  left_each k [] ys q e = refused e
  left_each k (x ∷ xs) ys q e = go (same (key x) k) (leave key j k xs) (λ zs h. left_each k xs zs q.1 h) e
    where
      go : (t : Bool) (m : Check (List A)) → ((zs : List A) → m ≡ ok zs → Each P zs) → pick t (ok xs) (bind m (λ zs. ok (x ∷ zs))) ≡ ok ys → Each P ys
      go true m ih h = rw (ok_inj xs ys h) at q.1
      go false m ih h =
          let r = bind_inv m (λ (zs : List A). ok (x ∷ zs)) ys h in
          let all : Each P (x ∷ r.0) = (q.0, ih r.0 r.1) in
          subst (Each P) (ok_inj (x ∷ r.0) ys r.2) all
