-- A parcel: its whole length (four bytes, the lowest first), its kind (two bytes), its body.
use Rattle.std.specs.Prelude.{ℕ, Bool, List, length, drop, eqb, leb}
use Rattle.base.specs.Choice.{both}
use Rattle.base.specs.Check.{fault}
use Rattle.base.specs.declared.Fault.{Fault}
use Rattle.fields.specs.Bytes.{le}

-- the whole length that is stated at the front
unfoldable pub whole_of : List ℕ → ℕ
whole_of b = le 4 b

-- the kind
unfoldable pub kind_of : List ℕ → ℕ
kind_of b = le 2 (drop 4 b)

-- the body
unfoldable pub body_of : List ℕ → List ℕ
body_of b = drop 6 b

-- kind 1 tells a holding, in at least 10 bytes; kind 2 carries an update file, and has at least 6
abbrev pub holding_kind : ℕ
holding_kind = 1

abbrev pub holding_least : ℕ
holding_least = 10

abbrev pub file_kind : ℕ
file_kind = 2

abbrev pub file_least : ℕ
file_least = 6

-- a parcel of this kind stands at the front of b: its six bytes are there, its whole length is not below the least nor past the end
unfoldable pub fronts : ℕ → ℕ → List ℕ → Bool
fronts kind least b =
    both (leb 6 (length b)) (both (leb least (whole_of b)) (both (leb (whole_of b) (length b)) (eqb (kind_of b) kind)))

-- b is one, and nothing stands behind it
unfoldable pub is_parcel : ℕ → ℕ → List ℕ → Bool
is_parcel kind least b = both (fronts kind least b) (eqb (whole_of b) (length b))

-- ---- the two kinds

-- a holding
abbrev pub tells_holding : List ℕ → Bool
tells_holding b = is_parcel holding_kind holding_least b

-- an update file
abbrev pub carries_file : List ℕ → Bool
carries_file b = is_parcel file_kind file_least b

-- an update file at the front
abbrev pub fronts_file : List ℕ → Bool
fronts_file b = fronts file_kind file_least b

-- what is neither, where one of them is due, is 27
abbrev pub wrong_parcel : Fault
wrong_parcel = fault 27 0 0
