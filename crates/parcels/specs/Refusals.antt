-- The numbers that `tell`, `reply` and `take` may refuse with, by the file that they name; the record is as of every number (`right_record`).
use Rattle.std.specs.Prelude.{ℕ, List, [], ◌∷◌, eqb}
use Rattle.base.specs.Choice.{pick}
use Rattle.numbers.specs.Refusals.{by_file, of_updater}

-- a display that tells its holding: 1 to 5 of the first two records of its chart, and 13
unfoldable pub of_tell : ℕ → List ℕ
of_tell = by_file [] (1 ∷ 2 ∷ 3 ∷ 4 ∷ 5 ∷ []) [] (13 ∷ [])

-- a master's answer: 27
unfoldable pub of_reply : ℕ → List ℕ
of_reply = by_file (27 ∷ []) [] [] []

-- a display that takes a parcel: 27, and what the updater refuses
unfoldable pub of_taking : ℕ → List ℕ
of_taking file = pick (eqb file 0) (15 ∷ 27 ∷ []) (of_updater file)
