-- What is made of each thing of a list, or gathered from it: how many, of lists joined, and of parts of a list. Assumes nothing.
use mathlib.Core.Path.{◌≡◌, refl, ap, ◌∙◌}
use mathlib.Core.List.{List, [], ◌∷◌, ◌++◌}
use Prim.Native.Nat.{ℕ, zero, suc, ◌+◌, ◌-◌, ◌≤◌, ◌<◌}
use native.Mathlib.Omega.{arith}
use native.Mathlib.Nat.{sub-zero, zero-sub, suc-sub-suc}
use native.Mathlib.Numerals.{add-one, sub-one}
use lib.ListN.{length, take, drop, get_or}
use lib.Seq.{drop-nil, take-nil, drop-cons}
use Rattle.base.specs.Lists.{each, gather}

-- what f makes of each is as many
pub each_length : {A B : Type 0} (f : A → B) (xs : List A) → length (each f xs) ≡ length xs
unfolding each
each_length f [] = refl
each_length f (x ∷ xs) = ap suc (each_length f xs)

-- of lists joined
pub each_append : {A B : Type 0} (f : A → B) (xs ys : List A) → each f (xs ++ ys) ≡ each f xs ++ each f ys
unfolding each
each_append f [] ys = refl
each_append f (x ∷ xs) ys = ap (λ (zs : List _). f x ∷ zs) (each_append f xs ys)

-- of what is made of each
pub each_each : {A B C : Type 0} (g : B → C) (f : A → B) (xs : List A) → each g (each f xs) ≡ each (λ x. g (f x)) xs
unfolding each
each_each g f [] = refl
each_each g f (x ∷ xs) = ap (λ (zs : List _). g (f x) ∷ zs) (each_each g f xs)

-- of the first n things
pub each_take : {A B : Type 0} (f : A → B) (n : ℕ) (xs : List A) → each f (take n xs) ≡ take n (each f xs)
unfolding each
each_take f zero xs = refl
each_take f (suc n) [] = refl
each_take f (suc n) (x ∷ xs) = ap (λ (zs : List _). f x ∷ zs) (each_take f n xs)

-- of those behind n things
pub each_drop : {A B : Type 0} (f : A → B) (n : ℕ) (xs : List A) → drop n (each f xs) ≡ each f (drop n xs)
unfolding each
each_drop f zero xs = refl
each_drop f (suc n) [] = drop-nil (suc n)
each_drop f (suc n) (x ∷ xs) = each_drop f n xs

-- of lists gathered
pub each_gather : {A B C : Type 0} (f : B → C) (g : A → List B) (xs : List A) → each f (gather g xs) ≡ gather (λ x. each f (g x)) xs
unfolding each gather
each_gather f g [] = refl
each_gather f g (x ∷ xs) = each_append f (g x) (gather g xs) ∙ ap (λ (zs : List _). each f (g x) ++ zs) (each_gather f g xs)

-- ---- parts of a list

-- a list of nothing
pub none_long : {A : Type 0} (l : List A) → length l ≤ 0 → l ≡ []
none_long [] h = refl
none_long (x ∷ l) h = absurd (omega arith)

-- the first of those behind i things, and the others
pub take_drop_cons : (i n : ℕ) (l : List ℕ) → i < length l → 0 < n → take n (drop i l) ≡ get_or l i 0 ∷ take (n - 1) (drop (i + 1) l)
take_drop_cons i zero l h k = absurd (omega arith)
take_drop_cons i (suc n) l h k = rw (add-one, sub-one, drop-cons l i 0)

-- the first m things, behind k of them
pub drop_take : {A : Type 0} (k m : ℕ) (l : List A) → drop k (take m l) ≡ take (m - k) (drop k l)
drop_take zero m l = rw sub-zero
drop_take (suc k) zero l = rw zero-sub
drop_take (suc k) (suc m) [] = rw take-nil
drop_take (suc k) (suc m) (x ∷ l) = rw suc-sub-suc (drop_take k m l)
