-- Coordinate tuples, and the place that COCC names.
use Rattle.std.specs.Prelude.{ℕ, Bool, List, eqb}
use Rattle.base.specs.Choice.{either}
use Rattle.base.specs.Lists.{each, gather}
use Rattle.skeleton.specs.File.{Field}
use Rattle.fields.specs.Table.{head_of, tuple_of}
use Rattle.fields.specs.Values.{Val, values, num_at}
use Rattle.fields.specs.Content.{many}
use Rattle.fields.specs.declared.Format.TheVariants.{Cocc, C2il}
use Rattle.rules.specs.Tags.{C2IT, C2IL}
use Rattle.rules.specs.ByTag.{bodies}
use Rattle.rules.specs.Place.{Place}

-- the tag of a field of coordinate tuples
unfoldable pub is_coordinates : ℕ → Bool
is_coordinates t = either (eqb t C2IT) (eqb t C2IL)

-- a coordinate tuple: the 32 bits of Y and those of X (`signed32` is the number that they mean)
pub record Coord : Type 0 where
  pub y : ℕ
  pub x : ℕ

-- a tuple of its two values
unfoldable pub coord_of : List Val → Coord
coord_of v = record { y = num_at v 0; x = num_at v 1 }

-- the tuples of a C2IT or of a C2IL
unfoldable pub coords_in : List ℕ → List Coord
coords_in b = each coord_of (many (tuple_of C2il) b)

-- the tuples of all C2IL fields
unfoldable pub sent : List Field → List Coord
sent fs = gather coords_in (bodies C2IL fs)

-- COUI, COIX, NCOR
unfoldable pub place_in : List ℕ → Place
place_in b = let v = values (head_of Cocc) b in record { instruction = num_at v 0; index = num_at v 1; count = num_at v 2 }
