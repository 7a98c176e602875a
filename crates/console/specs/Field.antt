-- What C sees of a field of a file.
use Rattle.std.specs.Prelude.{ℕ, ◌≡◌, List, Option, Some, None}
use Rattle.fieldwise.specs.InFile.{field_in_file}
use Rattle.fieldwise.specs.declared.numbered.Found.{Found}
use Rattle.console.specs.Numbered.{three_of}

-- tag, start and end where there is a field; else the slice stays as it was
unfoldable pub field_numbers : Option Found → List ℕ → List ℕ
field_numbers (Some e) old = three_of e.tag e.start e.end old
field_numbers None old = old

-- whether there is one
unfoldable pub there : Option Found → ℕ
there (Some e) = 1
there None = 0

-- the n-th field of the m-th record was asked for; r is the result, and the slice for the field was old and is new
pub record SaysField (file : List ℕ) (m n : ℕ) (old : List ℕ) (r : ℕ) (new : List ℕ) : Type 0 where
  pub result : r ≡ there (field_in_file file m n)
  pub numbers : new ≡ field_numbers (field_in_file file m n) old
