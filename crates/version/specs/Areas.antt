-- The areas of the workspace: attributes or coordinates, associations with information types, spatial associations, and the flags of keys.
use Rattle.std.specs.Prelude.{ℕ, List, take, drop}

-- the n bytes from `at` on
abbrev pub area : ℕ → ℕ → List ℕ → List ℕ
area at n w = take n (drop at w)

-- items of 8 bytes: two records of 99,999 bytes at most, and a tuple of ATTR and of C2IL has at least 8 bytes
abbrev pub list_area : List ℕ → List ℕ
list_area w = area 0 200000 w

-- cells of 7 bytes: an INAS takes 25 bytes at least in a written record, and 11 in an update record
abbrev pub inas_area : List ℕ → List ℕ
inas_area w = area 200000 92000 w

-- cells of 7 bytes: a tuple of SPAS has 15 bytes
abbrev pub spas_area : List ℕ → List ℕ
spas_area w = area 292000 94000 w

-- flags
abbrev pub flag_area : List ℕ → List ℕ
flag_area w = area 386000 14000 w
