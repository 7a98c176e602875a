-- The records of a file as they are written.
use Rattle.std.specs.Prelude.{ℕ, ◌+◌, List, [], ◌∷◌, ltb}
use Rattle.skeleton.specs.File.{Field, records_from}
use Rattle.rules.specs.Written.{written_length}
use Rattle.writing.specs.House.{in_house_form}

-- the fields of records as they are written, where the first of these is number n of its file: the lists of the first three are not joined
unfoldable pub forms_of : ℕ → List (List Field) → List (List Field)
forms_of n [] = []
forms_of n (fs ∷ rest) = in_house_form (ltb 3 n) fs ∷ forms_of (n + 1) rest

-- those of the records from byte at on, the first of which is number n of its file
abbrev pub forms_from : List ℕ → ℕ → ℕ → List (List Field)
forms_from f at n = forms_of n (records_from f at).items

-- how long written records are together
unfoldable pub lengths : List (List Field) → ℕ
lengths [] = 0
lengths (fs ∷ rest) = written_length fs + lengths rest
