-- Tests one after the other. Assumes nothing.
use mathlib.Core.Path.{◌≡◌, refl, ap}
use mathlib.Core.Logic.{◌⊎◌, inl, inr}
use Rattle.base.specs.Check.{Check, ok, no, bind}
use Rattle.base.specs.declared.Fault.{Fault}

-- what comes after a test need only agree on the value that it gives
pub bind_same : {A B : Type 0} (c : Check A) (k l : A → Check B) → ((a : A) → c ≡ ok a → k a ≡ l a) → bind c k ≡ bind c l
unfolding bind
bind_same (ok a) k l h = h a refl
bind_same (no f) k l h = refl

-- a value turned into another, and then a test of that
pub bind_then : {A B C : Type 0} (c : Check A) (f : A → B) (k : B → Check C) → bind (bind c (λ a. ok (f a))) k ≡ bind c (λ a. k (f a))
unfolding bind
bind_then (ok a) f k = refl
bind_then (no e) f k = refl

-- the same refusal
pub no_same : {A : Type 0} {f g : Fault} → ◌≡◌ {A = Check A} (no f) (no g) → f ≡ g
no_same e = cc

-- which of two tests refused
pub bind_no : {A B : Type 0} (c : Check A) (k : A → Check B) (f : Fault) → bind c k ≡ no f → (c ≡ no f) ⊎ ((a : A) × (c ≡ ok a) × (k a ≡ no f))
unfolding bind
bind_no (ok a) k f e = inr (a, refl, e)
bind_no (no g) k f e = inl (ap no (no_same e))
