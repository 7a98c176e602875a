-- P1 to P10, proved together: one statement over a table of ten rows. Assumes nothing.
use mathlib.Core.Path.{refl}
use mathlib.Core.List.{List, [], ◌∷◌}
use Prim.Native.Nat.{ℕ}
use lib.IntN.{negsuc}
use Rattle.base.specs.Text.{ascii}
use Rattle.fields.specs.Values.{Val}
use Rattle.forest.specs.Forest.{Tup}
use Rattle.rules.specs.Record.{Rec, rec_of}
use Rattle.rules.specs.declared.Kind.TheVariants.{Feature}
use Rattle.rules.proofs.Builders.{mrid, frid, foid, tuple, attr, cocc, at, c2il, general, point_sent, multi, three}
use Rattle.rules.proofs.Samples.{accepts, attributes_after, coordinates_after, versions_after, updates, signs, refused_in, refused_at, tuples, coords, numbers, signed, Row, row, Hold, samples_opened}
use Rattle.rules.specs.declared.Mode.TheVariants.{InDataset}

-- ---- the worked example of 10a-4.1 and 10a-4.2: NATC, ATIX, PAIX, ATIN, ATVL

-- the tree of 10a-4.1
unfoldable pub before : List (List Val)
before =
    tuple 21 1 0 1 (ascii "Vachon")
    ∷ tuple 22 1 0 1 []
    ∷ tuple 25 1 2 1 (ascii "42.0")
    ∷ tuple 26 1 2 1 []
    ∷ tuple 29 1 4 1 (ascii "17")
    ∷ tuple 29 2 4 1 (ascii "43")
    ∷ tuple 23 1 0 1 (ascii "12")
    ∷ tuple 24 1 0 1 []
    ∷ tuple 27 1 8 1 (ascii "123")
    ∷ tuple 28 1 8 1 (ascii "Canada")
    ∷ []

-- the update of 10a-4.2
unfoldable pub sent : List (List Val)
sent =
    tuple 22 1 0 3 []
    ∷ tuple 26 1 1 3 []
    ∷ tuple 29 2 2 1 (ascii "32")
    ∷ tuple 29 3 2 3 (ascii "7")
    ∷ tuple 35 1 2 1 []
    ∷ tuple 36 1 5 1 (ascii "22")
    ∷ tuple 37 1 5 1 (ascii "123")
    ∷ tuple 32 1 0 1 (ascii "abc")
    ∷ tuple 23 1 0 2 []
    ∷ tuple 24 1 0 3 []
    ∷ tuple 28 1 10 3 (ascii "Germany")
    ∷ []

-- an entry of the result: NATC, ATIX, PAIX, ATVL
abbrev entry : ℕ → ℕ → ℕ → List ℕ → Tup
entry c x p v = record { natc = c; atix = x; paix = p; atvl = v }

-- the 14 entries that the paper names
unfoldable pub after : List Tup
after =
    entry 21 1 0 (ascii "Vachon")
    ∷ entry 22 1 0 []
    ∷ entry 25 1 2 (ascii "42.0")
    ∷ entry 26 1 2 []
    ∷ entry 29 1 4 (ascii "17")
    ∷ entry 29 2 4 (ascii "32")
    ∷ entry 29 3 4 (ascii "7")
    ∷ entry 35 1 4 []
    ∷ entry 36 1 8 (ascii "22")
    ∷ entry 37 1 8 (ascii "123")
    ∷ entry 24 1 0 []
    ∷ entry 27 1 11 (ascii "123")
    ∷ entry 28 1 11 (ascii "Germany")
    ∷ entry 32 1 0 (ascii "abc")
    ∷ []

-- the feature that has that tree
unfoldable pub vachon : Rec
vachon = rec_of Feature (frid 77 1 1 ∷ foid 3 ∷ attr before ∷ [])

-- ---- the table

-- P1 to P10
pub papers : List Row
papers =
    row (attributes_after vachon (frid 77 2 3 ∷ attr sent ∷ [])) (tuples after)  -- P1
    ∷ row (coordinates_after (multi 1 three) (mrid 2 3 ∷ cocc 1 4 1 ∷ c2il (at 4 4 ∷ []) ∷ [])) (coords (at 1 1 ∷ at 2 2 ∷ at 3 3 ∷ at 4 4 ∷ []))  -- P2
    ∷ row (coordinates_after (multi 1 three) (mrid 2 3 ∷ cocc 1 5 1 ∷ c2il (at 4 4 ∷ []) ∷ [])) (refused_in 9 2 0)  -- P3
    ∷ row (coordinates_after (multi 1 three) (mrid 2 3 ∷ cocc 2 2 2 ∷ [])) (coords (at 1 1 ∷ []))  -- P4
    ∷ row (coordinates_after (multi 1 three) (mrid 2 3 ∷ cocc 2 2 3 ∷ [])) (refused_in 9 2 0)  -- P5
    ∷ row (signs (255 ∷ 255 ∷ 255 ∷ 255 ∷ 2 ∷ 0 ∷ 0 ∷ 0 ∷ [])) (signed (negsuc 0 ∷ []))  -- P6
    ∷ row (accepts InDataset (point_sent 0)) (refused_in 5 1 0)  -- P7
    ∷ row (updates (general 3 []) [] (general 3 []) []) (refused_at 8 2 2)  -- P8
    ∷ row (accepts InDataset (frid 77 1 1 ∷ foid 3 ∷ attr (tuple 21 1 0 1 [] ∷ tuple 21 1 0 1 [] ∷ []) ∷ [])) (refused_in 6 3 2)  -- P9
    ∷ row (versions_after (multi 4 three ∷ []) ((mrid 5 3 ∷ []) ∷ (mrid 6 3 ∷ []) ∷ [])) (numbers (6 ∷ []))  -- P10
    ∷ []

-- each of them
pub papers_hold : Hold papers
unfolding papers before sent after vachon samples_opened
papers_hold = refl
