-- Every refusal's number is one of the paper's, with its file and record: the numbers that an entry point may refuse with, by the file that it names,
-- and which of them name a record.
use Rattle.std.specs.Prelude.{ℕ, ◌≡◌, Bool, true, false, List, [], ◌∷◌, eqb, ltb}
use Rattle.base.specs.Choice.{pick, either}
use Rattle.base.specs.declared.Fault.{Fault}
use Rattle.rules.specs.Answers.{refusal, success}
use Rattle.rules.specs.declared.Answer.{Answer}

-- n is one of them
unfoldable pub is_in : ℕ → List ℕ → Bool
is_in n [] = false
is_in n (x ∷ xs) = either (eqb n x) (is_in n xs)

-- the numbers that name no record: they are for a slice that was lent, a length, or a parcel
unfoldable pub recordless : List ℕ
recordless = 13 ∷ 14 ∷ 15 ∷ 27 ∷ []

-- with these the record is 0; every other number names one, counted from 1
unfoldable pub right_record : ℕ → ℕ → Bool
right_record number n = pick (is_in number recordless) (eqb n 0) (ltb 0 n)

-- lists by the file that a refusal names: 0 none, 1 the dataset, 2 the update, 3 the result
unfoldable pub by_file : List ℕ → List ℕ → List ℕ → List ℕ → ℕ → List ℕ
by_file none dataset sent result file = pick (eqb file 0) none (pick (eqb file 1) dataset (pick (eqb file 2) sent (pick (eqb file 3) result [])))

-- reader: 14, 1 to 7, then 11
unfoldable pub of_reader : ℕ → List ℕ
of_reader = by_file [] (1 ∷ 2 ∷ 3 ∷ 4 ∷ 5 ∷ 6 ∷ 7 ∷ 11 ∷ 14 ∷ []) [] []

-- writer: as the reader, then 12; of the result 14 and 13
unfoldable pub of_writer : ℕ → List ℕ
of_writer = by_file [] (1 ∷ 2 ∷ 3 ∷ 4 ∷ 5 ∷ 6 ∷ 7 ∷ 11 ∷ 12 ∷ 14 ∷ []) [] (13 ∷ 14 ∷ [])

-- updater: 15; the dataset as the writer has it; the update's 14, 1 to 7, 8, and 6, 7, 9, 10, 12 of its records; of the result 11, 14 and 13
unfoldable pub of_updater : ℕ → List ℕ
of_updater =
    by_file (15 ∷ []) (1 ∷ 2 ∷ 3 ∷ 4 ∷ 5 ∷ 6 ∷ 7 ∷ 11 ∷ 12 ∷ 14 ∷ []) (1 ∷ 2 ∷ 3 ∷ 4 ∷ 5 ∷ 6 ∷ 7 ∷ 8 ∷ 9 ∷ 10 ∷ 12 ∷ 14 ∷ []) (11 ∷ 13 ∷ 14 ∷ [])

-- the updater without 15 and 13, which are for the slices that are lent
unfoldable pub of_rules : ℕ → List ℕ
of_rules = by_file [] (1 ∷ 2 ∷ 3 ∷ 4 ∷ 5 ∷ 6 ∷ 7 ∷ 11 ∷ 12 ∷ 14 ∷ []) (1 ∷ 2 ∷ 3 ∷ 4 ∷ 5 ∷ 6 ∷ 7 ∷ 8 ∷ 9 ∷ 10 ∷ 12 ∷ 14 ∷ []) (11 ∷ 14 ∷ [])

-- an answer is done, with file and record 0, or a refusal with a number of its file's list and that number's record, with length and count 0
pub data Answered (may : ℕ → List ℕ) : Answer → Type 0 where
  is_done : (length count : ℕ) → Answered may (success length count)
  is_refused : (file n : ℕ) (x : Fault) → is_in x.number (may file) ≡ true → right_record x.number n ≡ true → Answered may (refusal file n x)
