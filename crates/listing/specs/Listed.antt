-- The listing in a slice of so many bytes.
use Rattle.std.specs.Prelude.{ℕ, List, [], length, ltb}
use Rattle.base.specs.Choice.{pick}
use Rattle.rules.specs.Listing.{listing}

-- no listing is longer: of 65,536 bytes a record of the four kinds takes more than 24, and its line has at most 110; the first line has 29
-- bytes, the last at most 27
abbrev pub longest : ℕ
longest = 327736

-- the listing of an input where it has room, else nothing
unfoldable pub listed : List ℕ → ℕ → List ℕ
listed f room = pick (ltb room (length (listing f))) [] (listing f)
