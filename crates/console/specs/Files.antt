-- What C sees of reading, writing and updating: the library's own promise of an answer, and that answer said.
use Rattle.std.specs.Prelude.{ℕ, List}
use Rattle.rules.specs.declared.Answer.{Answer}
use Rattle.promises.specs.Promise.{Reads, Writes, Updates}
use Rattle.console.specs.Numbered.{Says}

-- in each: the slice for the answer was old and is new, and n is the result
pub record SaysRead (dataset old : List ℕ) (n : ℕ) (new : List ℕ) : Type 0 where
  pub answer : Answer
  pub reads : Reads dataset answer
  pub says : Says answer old n new

pub record SaysWrite (dataset : List ℕ) (room : ℕ) (old : List ℕ) (n : ℕ) (out new : List ℕ) : Type 0 where
  pub answer : Answer
  pub writes : Writes dataset room answer out
  pub says : Says answer old n new

pub record SaysUpdate (dataset file : List ℕ) (room work : ℕ) (old : List ℕ) (n : ℕ) (out space new : List ℕ) : Type 0 where
  pub answer : Answer
  pub updates : Updates dataset file room work answer out space
  pub says : Says answer old n new
