-- Two outcomes that satisfy one promise are equal. Assumes nothing.
use Prim.Native.Nat.{ℕ}
use mathlib.Core.Path.{◌≡◌, sym, ◌∙◌}
use mathlib.Core.List.{List}
use Rattle.rules.specs.declared.Answer.{Answer}
use Rattle.promises.specs.Promise.{Reads, Writes, Updates}

-- two things that are equal to a third: so of every promise that is one equation
pub both_are : {A : Type 0} {a b c : A} → a ≡ c → b ≡ c → a ≡ b
both_are x y = x ∙ sym y

-- the reader's
pub reads_once : (f : List ℕ) (a b : Answer) → Reads f a → Reads f b → a ≡ b
reads_once f a b p q = both_are p.answers q.answers

-- the writer's
pub writes_once : (f : List ℕ) (room : ℕ) (a b : Answer) (o p : List ℕ) → Writes f room a o → Writes f room b p → (a ≡ b) × (o ≡ p)
writes_once f room a b o p x y = (both_are x.answers y.answers, both_are x.fills y.fills)

-- the updater's
pub updates_once : (f u : List ℕ) (room work : ℕ) (a b : Answer) (o p s t : List ℕ) → Updates f u room work a o s → Updates f u room work b p t → (a ≡ b) × (o ≡ p) × (s ≡ t)
updates_once f u room work a b o p s t x y = (both_are x.answers y.answers, both_are x.fills y.fills, both_are x.clears y.clears)
