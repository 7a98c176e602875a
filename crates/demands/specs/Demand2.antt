-- Demand 2 of writer and updater, over answers and bytes alone: what they leave where they answer 0, of files of bytes, is read as the dataset that the
-- rules have, and written again it is itself. An outcome is any that satisfies the promise which is the entry point's contract.
use Rattle.std.specs.Prelude.{ℕ, ◌≤◌, ◌≡◌, List, length, take}
use Rattle.memory.specs.Hold.{hold}
use Rattle.fields.specs.Valid.{Bytes}
use Rattle.rules.specs.Written.{Dataset}
use Rattle.rules.specs.Outcome.{Outcome, done, and_then}
use Rattle.rules.specs.File.{read_dataset, writable, read_update}
use Rattle.rules.specs.Update.{updated}
use Rattle.rules.specs.Answers.{success}
use Rattle.rules.specs.declared.Answer.{Answer}
use Rattle.promises.specs.Promise.{Reads, Writes, Updates}

-- the bytes b, which answer a came with, mean d: they have the length that it says, are read as d, the reader answers its count of records, and wherever
-- there is room the writer gives them again as they are, with the same answer
pub record Means (b : List ℕ) (a : Answer) (d : Dataset) : Type 0 where
  pub long : length b ≡ a.length
  pub is_read : read_dataset b ≡ done d
  pub read_again : (c : Answer) → Reads b c → c ≡ success 0 a.count
  pub written_again : (room : ℕ) (c : Answer) (out : List ℕ) → length b ≤ room → Writes b room c out → (c ≡ a) × (out ≡ hold room b)

-- the rules in sequence, of a dataset and an update
unfoldable pub result_of : List ℕ → List ℕ → Outcome Dataset
result_of f u = and_then (read_dataset f) (λ d. and_then (writable d) (λ w. and_then (read_update u) (λ s. updated w s)))

pub record Demand2 : Type 0 where
  pub writes : (f : List ℕ) (room : ℕ) (a : Answer) (out : List ℕ) → Bytes f → Writes f room a out → a.number ≡ 0
      → (d : Dataset) × (read_dataset f ≡ done d) × Means (take a.length out) a d
  pub updates : (f u : List ℕ) (room work : ℕ) (a : Answer) (out space : List ℕ) → Bytes f → Bytes u → Updates f u room work a out space → a.number ≡ 0
      → (r : Dataset) × (result_of f u ≡ done r) × Means (take a.length out) a r
