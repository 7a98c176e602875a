-- A walk: step after step, each of which finds one more item and the next state, or that the walk is over, with a number: 0 where it ended
-- well, else that of the refusal. The fields of a directory, the records of a file and the tuples of a field are walks.
use Rattle.std.specs.Prelude.{ℕ, zero, suc, ◌<◌, List, [], ◌∷◌}

-- one step
pub data Step (S A : Type 0) : Type 0 where
  more : A → S → Step S A
  over : ℕ → Step S A

-- what a walk finds: its items, and the number with which it ended
pub record Got (A : Type 0) : Type 0 where
  pub items : List A
  pub ending : ℕ

-- the same with one more item in front
abbrev pub before : {A : Type 0} → A → Got A → Got A
before a g = record { items = a ∷ g.items; ending = g.ending }

-- a step, and then k from the state that it leads to
abbrev pub follow : {S A : Type 0} → Step S A → (S → Got A) → Got A
follow (more a t) k = before a (k t)
follow (over n) k = record { items = []; ending = n }

-- at most n steps from s; 255, the number of no refusal, where they are not enough (a walk whose measure falls never gets there)
unfoldable pub steps : {S A : Type 0} → (S → Step S A) → ℕ → S → Got A
steps f zero s = record { items = []; ending = 255 }
steps f (suc n) s = follow (f s) (steps f n)

-- the walk from s, whose measure μ falls with each step
unfoldable pub walk : {S A : Type 0} → (S → Step S A) → (S → ℕ) → S → Got A
walk f μ s = steps f (suc (μ s)) s

-- a step from s leads to a state of smaller measure
abbrev pub Lower : {S A : Type 0} → (S → ℕ) → S → Step S A → Type 0
Lower μ s (more a t) = μ t < μ s
Lower μ s (over n) = Unit {0}
