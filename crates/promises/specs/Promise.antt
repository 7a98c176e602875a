-- What reader, writer and updater promise of their answer and of every byte that they are lent, by their inputs alone, refusals too. These records are their contracts.
use Rattle.std.specs.Prelude.{ℕ, ◌≡◌, List}
use Rattle.rules.specs.Answers.{read, write, update, work_after}
use Rattle.rules.specs.declared.Answer.{Answer}

-- the reader, of a file: its answer
pub record Reads (file : List ℕ) (answer : Answer) : Type 0 where
  pub answers : answer ≡ read file

-- the writer, of a file and an output slice of so many bytes: its answer, and the slice afterwards
pub record Writes (file : List ℕ) (room : ℕ) (answer : Answer) (out : List ℕ) : Type 0 where
  pub answers : answer ≡ (write file room).answer
  pub fills : out ≡ (write file room).out

-- the updater, of a dataset, an update, an output slice and a workspace of so many bytes: its answer, and both slices afterwards
pub record Updates (file update_file : List ℕ) (room work : ℕ) (answer : Answer) (out space : List ℕ) : Type 0 where
  pub answers : answer ≡ (update file update_file room work).answer
  pub fills : out ≡ (update file update_file room work).out
  pub clears : space ≡ work_after work
