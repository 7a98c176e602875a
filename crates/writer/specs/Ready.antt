-- What is known of a file before its written form is put out.
use Rattle.std.specs.Prelude.{ℕ, ◌≡◌, List}
use Rattle.rules.specs.Written.{Dataset, written, count}
use Rattle.rules.specs.Outcome.{done}
use Rattle.rules.specs.File.{writable}
use Rattle.rules.specs.Answers.{read_outcome}
use Rattle.writer.specs.Forms.{forms_from, lengths}

-- it reads, each of its records can be written, and its written form has so many bytes and so many records
pub record Ready (f : List ℕ) (size records : ℕ) : Type 0 where
  pub dataset : Dataset
  pub is_read : read_outcome f ≡ done dataset
  pub is_writable : writable dataset ≡ done dataset
  pub forms : forms_from f 0 1 ≡ written dataset
  pub long : size ≡ lengths (written dataset)
  pub counted : records ≡ count dataset
