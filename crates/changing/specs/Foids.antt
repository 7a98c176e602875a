-- The FOIDs of an update record beside that of a version.
use Rattle.std.specs.Prelude.{ℕ, ◌+◌, ◌≡◌, Bool, true, List, [], ◌∷◌, eqb, Option, Some, None}
use Rattle.base.specs.Choice.{pick}
use Rattle.base.specs.Check.{no, fault, Passed, pass}
use Rattle.base.specs.Keys.{same}
use Rattle.skeleton.specs.File.{Field}
use Rattle.fields.specs.Table.{head_of}
use Rattle.fields.specs.Content.{fill}
use Rattle.fields.specs.declared.Format.TheVariants.{Foid}
use Rattle.rules.specs.Tags.{FOID}
use Rattle.rules.specs.Record.{foid_of}

-- a FOID has its format
abbrev pub FoidFilled : Field → Type 0
FoidFilled f = f.tag ≡ FOID → fill (head_of Foid) [] f.body ≡ true

-- a field is no FOID, or the old one
unfoldable pub agreeing : List ℕ → Field → Bool
agreeing old f = pick (eqb f.tag FOID) (same (foid_of f.body) old) true

-- what the code answers, as a test: it passed, or 10 at that field
unfoldable pub foid_test : Option ℕ → Passed
foid_test None = pass
foid_test (Some i) = no (fault 10 i 0)

-- the fields from number i on are so, else 10 at the first that is not
unfoldable pub same_from : List ℕ → ℕ → List Field → Passed
same_from old i [] = pass
same_from old i (f ∷ fs) = let later = same_from old (i + 1) fs in pick (agreeing old f) later (no (fault 10 i 0))
