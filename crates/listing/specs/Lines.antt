-- The lines of the listing, number by number.
use Rattle.std.specs.Prelude.{ℕ, List, [], ◌∷◌}
use Rattle.base.specs.Lists.{each}
use Rattle.base.specs.Text.{ascii}
use Rattle.skeleton.specs.Digits.{in_fewest_digits}
use Rattle.skeleton.specs.Emit.{tag_bytes}
use Rattle.skeleton.specs.File.{records_from}
use Rattle.rules.specs.Kind.{tag_of}
use Rattle.rules.specs.Listing.{line, record_lines}
use Rattle.rules.specs.declared.Kind.{Kind}
use Rattle.listing.specs.Said.{record_in}

-- a blank, and a number behind it
unfoldable pub spaced : ℕ → List ℕ
spaced x = 32 ∷ in_fewest_digits x

-- a blank, and the tag of a kind behind it
unfoldable pub spaced_tag : Kind → List ℕ
spaced_tag k = 32 ∷ tag_bytes (tag_of k)

-- the line of a record: its number, tag, RCID, RVER, ATTR entries, coordinate tuples
unfoldable pub line_of : ℕ → Kind → ℕ → ℕ → ℕ → ℕ → List ℕ
line_of n k rcid rver entries tuples =
    line (in_fewest_digits n) (tag_bytes (tag_of k) ∷ in_fewest_digits rcid ∷ in_fewest_digits rver ∷ in_fewest_digits entries ∷ in_fewest_digits tuples ∷ [])

-- the line of a refusal: its number, file, record
unfoldable pub refusal_line : ℕ → ℕ → ℕ → List ℕ
refusal_line number file n = line (ascii "refused") (in_fewest_digits number ∷ in_fewest_digits file ∷ in_fewest_digits n ∷ [])

-- the last line
unfoldable pub total_line : ℕ → List ℕ
total_line n = line (ascii "total") (in_fewest_digits n ∷ [])

-- the lines of the records from byte at on, the first of which has number n
unfoldable pub lines_from : List ℕ → ℕ → ℕ → List ℕ
lines_from f at n = record_lines n (each record_in (records_from f at).items)
