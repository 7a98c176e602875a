-- What stands under a key, in the workspace w over the dataset d and the update u.
use Rattle.std.specs.Prelude.{◌≡◌, List, ℕ, drop, Option as StdOption, Some, None, Result, Ok, Err}
use Rattle.std.proofs.Math.Option.{Option, some, none}
use Rattle.base.specs.Check.{Check, ok, no, pass}
use Rattle.base.specs.declared.Fault.{Fault}
use Rattle.rules.specs.Record.{Rec}
use Rattle.rules.specs.Written.{written_fields, number12}
use Rattle.version.specs.Held.{Held}
use Rattle.version.specs.declared.Version.{Version}

-- nothing, or a record that is held and can be written
unfoldable pub HeldAs : List ℕ → List ℕ → List ℕ → StdOption Version → Option Rec → Type 0
HeldAs d u w None o = o ≡ none
HeldAs d u w (Some v) o = (r : Rec) × (o ≡ some r) × Held d u w v r × (number12 (written_fields r) ≡ pass)

-- what a test comes to, and what the code made of it
unfoldable pub ChangedTo : List ℕ → List ℕ → List ℕ → Check (Option Rec) → Result (StdOption Version) Fault → Type 0
ChangedTo d u w c (Err x) = c ≡ no x
ChangedTo d u w c (Ok p) = (o : Option Rec) × (c ≡ ok o) × HeldAs d u w p o

-- what stands behind the areas of a version is as it was
abbrev pub FlagsKept : List ℕ → List ℕ → Type 0
FlagsKept w v = drop 386000 v ≡ drop 386000 w
