-- The tuples that an update record sends, put at a place.
use Rattle.std.specs.Prelude.{ℕ, ◌+◌, ◌*◌, ◌%◌, ◌≤◌, ◌≡◌, List, [], ◌∷◌, ◌++◌, length, Option, Some, None}
use Rattle.base.specs.Check.{Check, ok, refuse}
use Rattle.skeleton.specs.Emit.{sizes}
use Rattle.skeleton.specs.File.{Field}
use Rattle.rules.specs.Tags.{C2IL}
use Rattle.rules.specs.Coordinates.{Coord, sent}
use Rattle.coords.specs.Tuples.{tuples_of}

-- each C2IL is made of whole tuples
unfoldable pub EvenLists : List Field → Type 0
EvenLists [] = Unit {0}
EvenLists (f ∷ fs) = (f.tag ≡ C2IL → length f.body % 8 ≡ 0) × EvenLists fs

-- the tuples of the fields fs are still to be put before number i of the n in l; all of them are xs then
pub record Putting (fs : List Field) (l : List ℕ) (n i : ℕ) (xs : List Coord) : Type 0 where
  pub before : List Coord
  pub behind : List Coord
  pub is : tuples_of l n ≡ before ++ behind
  pub place : length before ≡ i
  pub rest : before ++ (sent fs ++ behind) ≡ xs
  pub even : EvenLists fs
  pub room : 8 * n + sizes fs ≤ length l

-- what the code answers, as a test: the first m tuples of l, or 9
abbrev pub said_by : List ℕ → Option ℕ → Check (List Coord)
said_by l None = refuse 9 0
said_by l (Some m) = ok (tuples_of l m)

-- what COCC comes to, and what the code made of it
unfoldable pub PlacedAs : Check (List Coord) → List ℕ → Option ℕ → Type 0
PlacedAs c l None = c ≡ said_by l None
PlacedAs c l (Some m) = (c ≡ said_by l (Some m)) × (8 * m ≤ length l)
