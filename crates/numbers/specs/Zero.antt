-- Number 0 is for done alone: what is said of each answer.
use Rattle.std.specs.Prelude.{ℕ, ◌≡◌, ◌↔◌, List}
use Rattle.rules.specs.Outcome.{Outcome, done}
use Rattle.rules.specs.Answers.{read_outcome, read, write_outcome, write, update_outcome, update}

-- an outcome is done
abbrev pub Done : {A : Type 0} → Outcome A → Type 0
Done {A} m = (a : A) × (m ≡ done a)

-- each entry point answers 0 exactly where it is done
pub record ZeroIsDone : Type 0 where
  pub reads : (f : List ℕ) → ((read f).number ≡ 0) ↔ Done (read_outcome f)
  pub writes : (f : List ℕ) (room : ℕ) → ((write f room).answer.number ≡ 0) ↔ Done (write_outcome room f)
  pub updates : (f u : List ℕ) (room work : ℕ) → ((update f u room work).answer.number ≡ 0) ↔ Done (update_outcome room work f u)
