-- Months of two updates, computed: a whole one, and one for each way to stop. Assumes nothing.
use Prim.Native.Nat.{ℕ}
use mathlib.Core.Path.{◌≡◌, refl}
use mathlib.Core.List.{List, [], ◌∷◌, ◌++◌}
use lib.ListN.{length, take, replicate}
use Rattle.base.specs.Choice.{pick}
use Rattle.rules.specs.Written.{written_bytes}
use Rattle.displays.proofs.Sample.{opened, third, fourth, fifth}
use Rattle.month.specs.Month.{files_from, Stand, start, stop, apply, made, turns}
use Rattle.month.specs.ByHand.{joined}
use Rattle.month.proofs.TurnLaws.{from}

-- a dataset with update number 3 in the first pool, and so many bytes behind it
unfoldable pool : ℕ → List ℕ
pool more = written_bytes third ++ replicate more 7

-- number, file and record of the answer, how many records the result has, how many files were applied, and the number of its pool
unfoldable told : Stand → List ℕ
told s =
    s.says.answer.number
    ∷ s.says.answer.file
    ∷ s.says.answer.rec
    ∷ s.says.answer.count
    ∷ s.says.applied
    ∷ pick s.says.second 2 1
    ∷ []

-- a month of a list, with so many bytes behind the dataset and so many in the second pool
unfoldable month : List ℕ → ℕ → ℕ → Stand
month list more room = from 400000 list 0 (start (pool more) (length (written_bytes third)) room)

-- the same with a length that runs past the first pool
unfoldable overlong : List ℕ → Stand
overlong list = from 400000 list 0 (start (pool 0) 9999 9999)

-- each with what it comes to
unfoldable months : List (List ℕ)
months =
    -- updates 4 and 5
    told (month (joined (fourth ∷ fifth ∷ [])) 99 9999)
    -- 4 without room in the second pool; 5 without room in the first
    ∷ told (month (joined (fourth ∷ fifth ∷ [])) 99 99)
    ∷ told (month (joined (fourth ∷ fifth ∷ [])) 9 9999)
    -- 5 alone, and 4 twice: the update does not follow
    ∷ told (month (joined (fifth ∷ fourth ∷ [])) 99 9999)
    ∷ told (month (joined (fourth ∷ fourth ∷ fifth ∷ [])) 99 9999)
    -- a file of no bytes
    ∷ told (month (joined (fourth ∷ [] ∷ fifth ∷ [])) 99 9999)
    -- the list is cut: inside 4, inside the length of 5, inside 5
    ∷ told (month (take 99 (joined (fourth ∷ []))) 99 9999)
    ∷ told (month (joined (fourth ∷ []) ++ take 3 (joined (fifth ∷ []))) 99 9999)
    ∷ told (month (joined (fourth ∷ []) ++ take 99 (joined (fifth ∷ []))) 99 9999)
    -- the length is wrong: with an empty list, with a good one, with one that is cut
    ∷ told (overlong [])
    ∷ told (overlong (joined (fourth ∷ [])))
    ∷ told (overlong (0 ∷ []))
    ∷ []

sample : months
    ≡ (0 ∷ 0 ∷ 0 ∷ 5 ∷ 2 ∷ 1 ∷ [])
    ∷ (13 ∷ 3 ∷ 0 ∷ 0 ∷ 0 ∷ 1 ∷ [])
    ∷ (13 ∷ 3 ∷ 0 ∷ 0 ∷ 1 ∷ 2 ∷ [])
    ∷ (8 ∷ 2 ∷ 2 ∷ 0 ∷ 0 ∷ 1 ∷ [])
    ∷ (8 ∷ 2 ∷ 2 ∷ 0 ∷ 1 ∷ 2 ∷ [])
    ∷ (1 ∷ 2 ∷ 1 ∷ 0 ∷ 1 ∷ 2 ∷ [])
    ∷ (1 ∷ 2 ∷ 0 ∷ 0 ∷ 0 ∷ 1 ∷ [])
    ∷ (1 ∷ 2 ∷ 0 ∷ 0 ∷ 1 ∷ 2 ∷ [])
    ∷ (1 ∷ 2 ∷ 0 ∷ 0 ∷ 1 ∷ 2 ∷ [])
    ∷ (0 ∷ 0 ∷ 0 ∷ 0 ∷ 0 ∷ 1 ∷ [])
    ∷ (1 ∷ 1 ∷ 0 ∷ 0 ∷ 0 ∷ 1 ∷ [])
    ∷ (1 ∷ 2 ∷ 0 ∷ 0 ∷ 0 ∷ 1 ∷ [])
    ∷ []
unfolding opened third fourth fifth pool told month overlong months files_from start stop apply made turns joined
sample = refl
