-- The laws of a walk: it is its first step and then the walk from there; a walk that ends well finds what any other finds that steps alike;
-- induction on a measure. Assumes nothing.
use mathlib.Core.Path.{◌≡◌, refl, ap, ◌∙◌}
use Prim.Native.Nat.{ℕ, zero, suc, ◌<◌}
use native.Mathlib.Omega.{arith}
use Rattle.base.specs.Lists.{each}
use Rattle.base.specs.Walk.{Step, more, over, Got, before, follow, steps, walk, Lower}

module _ {S A : Type 0} (f : S → Step S A) (μ : S → ℕ) (falls : (s : S) → Lower μ s (f s)) where
  -- a step and then one of two walks that agree below
  same : (s : S) (x : Step S A) (k l : S → Got A) → Lower μ s x → ((t : S) → μ t < μ s → k t ≡ l t) → follow x k ≡ follow x l
  same s (more a t) k l low e = ap (before a) (e t low)
  same s (over n) k l low e = refl

  -- any two numbers of steps that are enough give the same
  enough : (m n : ℕ) (s : S) → μ s < m → μ s < n → steps f m s ≡ steps f n s
  unfolding steps
  enough zero n s h g = absurd (omega arith)
  enough (suc m) zero s h g = absurd (omega arith)
  enough (suc m) (suc n) s h g = same s (f s) (steps f m) (steps f n) (falls s) (λ t l. enough m n t (omega arith) (omega arith))

  -- a walk is its first step, and then the walk from there
  pub walk_step : (s : S) → walk f μ s ≡ follow (f s) (walk f μ)
  unfolding walk steps
  walk_step s = same s (f s) (steps f (μ s)) (walk f μ) (falls s) (λ t l. enough (μ s) (suc (μ t)) t l (omega arith))

-- what holds of a state, where it holds of every state of smaller measure, holds of all
module _ {S : Type 0} (μ : S → ℕ) (P : S → Type 0) (here : (s : S) → ((t : S) → μ t < μ s → P t) → P s) where
  below : (n : ℕ) (s : S) → μ s < n → P s
  below zero s l = absurd (omega arith)
  below (suc n) s l = here s (λ t m. below n t (omega arith))

  pub by_measure : (s : S) → P s
  by_measure s = below (suc (μ s)) s (omega arith)

-- g steps as f does, at h of f's state and with i of f's item, wherever f goes on or ends well
abbrev pub Agree : {S T A B : Type 0} → (S → T) → (A → B) → Step S A → Step T B → Type 0
Agree h i (more a t) y = y ≡ more (i a) (h t)
Agree h i (over n) y = n ≡ 0 → y ≡ over 0

-- i of each item of a walk that ended well
abbrev pub finds : {A B : Type 0} → (A → B) → Got A → Got B
finds i g = record { items = each i g.items; ending = 0 }

module _ {S T A B : Type 0} (f : S → Step S A) (g : T → Step T B) (ν : T → ℕ) (falls : (t : T) → Lower ν t (g t))
    (h : S → T) (i : A → B) (agree : (s : S) → Agree h i (f s) (g (h s))) where
  -- one step of the two walks
  one : (s : S) (x : Step S A) (k : S → Got A) → Agree h i x (g (h s)) → ((t : S) → (k t).ending ≡ 0 → walk g ν (h t) ≡ finds i (k t))
      → (follow x k).ending ≡ 0 → walk g ν (h s) ≡ finds i (follow x k)
  unfolding each
  one s (more a t) k e ih z = walk_step g ν falls (h s) ∙ ap (λ (y : Step T B). follow y (walk g ν)) e ∙ ap (before (i a)) (ih t z)
  one s (over n) k e ih z = walk_step g ν falls (h s) ∙ ap (λ (y : Step T B). follow y (walk g ν)) (e z)

  -- any number of steps that end well
  steps_same : (n : ℕ) (s : S) → (steps f n s).ending ≡ 0 → walk g ν (h s) ≡ finds i (steps f n s)
  unfolding steps
  steps_same zero s z = absurd (omega arith)
  steps_same (suc n) s z = one s (f s) (steps f n) (agree s) (steps_same n) z

  -- of a walk that ends well the other finds each item's i
  pub walk_same : (μ : S → ℕ) (s : S) → (walk f μ s).ending ≡ 0 → walk g ν (h s) ≡ finds i (walk f μ s)
  unfolding walk
  walk_same μ s z = steps_same (suc (μ s)) s z
