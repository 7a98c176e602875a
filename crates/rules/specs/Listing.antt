-- What the listing program prints.
use Rattle.std.specs.Prelude.{ℕ, ◌+◌, List, [], ◌∷◌, ◌++◌, length, ltb}
use Rattle.base.specs.Choice.{pick}
use Rattle.base.specs.Text.{ascii}
use Rattle.skeleton.specs.Digits.{in_fewest_digits}
use Rattle.skeleton.specs.Emit.{tag_bytes}
use Rattle.forest.specs.Forest.{size}
use Rattle.rules.specs.Kind.{tag_of}
use Rattle.rules.specs.Record.{Rec}
use Rattle.rules.specs.Written.{Dataset}
use Rattle.rules.specs.Outcome.{Outcome, done, refused}
use Rattle.rules.specs.File.{read_dataset}

-- words with a blank between them, and a newline
unfoldable pub line : List ℕ → List (List ℕ) → List ℕ
line w [] = w ++ (10 ∷ [])
line w (v ∷ vs) = w ++ (32 ∷ line v vs)

-- the first line
abbrev pub header : List ℕ
header = ascii "rec tag rcid rver attr coord\n"

-- what is printed of an input that is too long
abbrev pub too_long : List ℕ
too_long = ascii "too long\n"

-- a record's number, first tag, RCID, RVER, ATTR entries, coordinate tuples
unfoldable pub record_line : ℕ → Rec → List ℕ
record_line n r =
    let entries = size r.parts.attributes in
    let tuples = length r.parts.coordinates in
    let numbers : List (List ℕ) = in_fewest_digits r.rcid ∷ in_fewest_digits r.rver ∷ in_fewest_digits entries ∷ in_fewest_digits tuples ∷ [] in
    line (in_fewest_digits n) (tag_bytes (tag_of r.kind) ∷ numbers)

-- a line for each of the records from number n on
unfoldable pub record_lines : ℕ → List Rec → List ℕ
record_lines n [] = []
record_lines n (r ∷ rs) = record_line n r ++ record_lines (n + 1) rs

-- the header, the records after the third and their total; or the refusal's number, file and record
unfoldable pub printed : Outcome Dataset → List ℕ
printed (done d) = header ++ (record_lines 4 d.records ++ line (ascii "total") (in_fewest_digits (length d.records) ∷ []))
printed (refused file n x) = line (ascii "refused") (in_fewest_digits x.number ∷ in_fewest_digits file ∷ in_fewest_digits n ∷ [])

-- the program's output for all of its input, of which it reads up to 65,536 bytes
unfoldable pub listing : List ℕ → List ℕ
listing f = let short = printed (read_dataset f) in pick (ltb 65536 (length f)) too_long short
