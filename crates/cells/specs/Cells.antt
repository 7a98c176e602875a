-- A record's associations in lent memory: cell i is the 7 bytes from 7 i on, where a body stands: an offset of three bytes, which of two slices it is in
-- (0 the dataset d, else the update u), and a length of three bytes. A body is an INAS field, or one tuple of a SPAS. Bodies are never moved.
use Rattle.std.specs.Prelude.{List, [], ◌∷◌, ◌++◌, ℕ, zero, suc, ◌+◌, ◌*◌, ◌/◌, ◌%◌, length, get_or}
use Rattle.skeleton.specs.Place.{between}
use Rattle.fields.specs.Table.{tuple_of}
use Rattle.fields.specs.Values.{values}
use Rattle.fields.specs.declared.Format.TheVariants.{Spas}
use Rattle.rules.specs.Record.{Spatial, spatial_of}
use Rattle.items.specs.Items.{source}

-- the number of three bytes at an index, the lowest first
unfoldable pub u24 : List ℕ → ℕ → ℕ
u24 c i = get_or c i 0 + 256 * get_or c (i + 1) 0 + 65536 * get_or c (i + 2) 0

-- where the body of cell i begins
abbrev pub start_of : List ℕ → ℕ → ℕ
start_of c i = u24 c (7 * i)

-- which slice it is in
abbrev pub slice_of : List ℕ → ℕ → ℕ
slice_of c i = get_or c (7 * i + 3) 0

-- how long it is
abbrev pub size_of : List ℕ → ℕ → ℕ
size_of c i = u24 c (7 * i + 4)

-- the body of cell i
unfoldable pub body_at : List ℕ → List ℕ → List ℕ → ℕ → List ℕ
body_at d u c i = between (source (slice_of c i) d u) (start_of c i) (start_of c i + size_of c i)

-- the bodies of m cells from i on
unfoldable pub bodies_from : List ℕ → List ℕ → List ℕ → ℕ → ℕ → List (List ℕ)
bodies_from d u c i zero = []
bodies_from d u c i (suc m) = body_at d u c i ∷ bodies_from d u c (i + 1) m

-- the bodies of the first n cells
abbrev pub bodies_of : List ℕ → List ℕ → List ℕ → ℕ → List (List ℕ)
bodies_of d u c n = bodies_from d u c 0 n

-- the bytes of bodies as fields, the 1E of each included
unfoldable pub fields_size : List (List ℕ) → ℕ
fields_size [] = 0
fields_size (b ∷ bs) = length b + 1 + fields_size bs

-- the bytes of a number of three
unfoldable pub three_bytes : ℕ → List ℕ
three_bytes n = n % 256 ∷ n / 256 % 256 ∷ n / 65536 % 256 ∷ []

-- the bytes of a cell: offset, slice, length
unfoldable pub cell_bytes : ℕ → ℕ → ℕ → List ℕ
cell_bytes at x n = three_bytes at ++ (x ∷ three_bytes n)

-- the spatial association that one tuple of a SPAS is
abbrev pub spatial_in : List ℕ → Spatial
spatial_in b = spatial_of (values (tuple_of Spas) b)

-- k tuples of a SPAS one after the other, from an offset on
unfoldable pub tuple_bodies : List ℕ → ℕ → ℕ → List (List ℕ)
tuple_bodies s at zero = []
tuple_bodies s at (suc k) = between s at (at + 15) ∷ tuple_bodies s (at + 15) k
