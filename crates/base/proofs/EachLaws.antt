-- What each of a list has: of parts of lists, of lists joined, and of what is made of each. Assumes nothing.
use Prim.Native.Nat.{ℕ, zero, suc}
use mathlib.Core.List.{List, [], ◌∷◌, ◌++◌}
use lib.ListN.{take, drop}
use Rattle.base.specs.Lists.{gather, Each}

-- none
pub each_nil : {A : Type 0} (P : A → Type 0) → Each P []
unfolding Each
each_nil P = tt

-- what each has, and what follows from it
pub each_map : {A : Type 0} {P Q : A → Type 0} (l : List A) → ((a : A) → P a → Q a) → Each P l → Each Q l
unfolding Each
each_map [] f e = tt
each_map (x ∷ l) f e = (f x e.0, each_map l f e.1)

-- from two things that each has
pub each_zip : {A : Type 0} {P Q R : A → Type 0} (l : List A) → ((a : A) → P a → Q a → R a) → Each P l → Each Q l → Each R l
unfolding Each
each_zip [] f p q = tt
each_zip (x ∷ l) f p q = (f x p.0 q.0, each_zip l f p.1 q.1)

-- lists joined
pub each_join : {A : Type 0} (P : A → Type 0) (a b : List A) → Each P a → Each P b → Each P (a ++ b)
unfolding Each
each_join P [] b p q = q
each_join P (x ∷ a) b p q = (p.0, each_join P a b p.1 q)

-- the lists that are made of each
pub each_gathered : {A B : Type 0} (P : B → Type 0) (f : A → List B) (l : List A) → Each (λ a. Each P (f a)) l → Each P (gather f l)
unfolding Each gather
each_gathered P f [] e = tt
each_gathered P f (x ∷ l) e = each_join P (f x) (gather f l) e.0 (each_gathered P f l e.1)

-- the first n of a list, and those behind them
pub each_taken : {A : Type 0} (P : A → Type 0) (n : ℕ) (l : List A) → Each P l → Each P (take n l)
unfolding Each
each_taken P zero l e = tt
each_taken P (suc n) [] e = tt
each_taken P (suc n) (x ∷ l) e = (e.0, each_taken P n l e.1)

pub each_dropped : {A : Type 0} (P : A → Type 0) (n : ℕ) (l : List A) → Each P l → Each P (drop n l)
unfolding Each
each_dropped P zero l e = e
each_dropped P (suc n) [] e = tt
each_dropped P (suc n) (x ∷ l) e = each_dropped P n l e.1

-- each of two lists joined
pub each_parts : {A : Type 0} (P : A → Type 0) (a b : List A) → Each P (a ++ b) → Each P a × Each P b
unfolding Each
each_parts P [] b e = (tt, e)
each_parts P (x ∷ a) b e = let (p, q) = each_parts P a b e.1 in ((e.0, p), q)
