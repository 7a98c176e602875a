-- Coordinate tuples in lent memory.
use Rattle.std.specs.Prelude.{ℕ, ◌*◌, List, take}
use Rattle.rules.specs.Coordinates.{Coord, coords_in}

-- the first n tuples of l
abbrev pub tuples_of : List ℕ → ℕ → List Coord
tuples_of l n = coords_in (take (8 * n) l)
