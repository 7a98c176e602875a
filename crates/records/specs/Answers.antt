-- What code answers of a record's first tag, and where it looks for RUIN.
use Rattle.std.specs.Prelude.{ℕ, Option as StdOption, Some, None}
use Rattle.std.proofs.Math.Option.{Option, some, none}
use Rattle.base.specs.Choice.{pick}
use Rattle.rules.specs.Kind.{coded}
use Rattle.rules.specs.declared.Kind.{Kind}

-- a kind that a tag has, or none
abbrev pub found_kind : Option Kind → StdOption Kind
found_kind (some k) = Some k
found_kind none = None

-- the place of RUIN in an identifier: behind the code, if there is one
unfoldable pub ruin_place : Kind → ℕ
ruin_place k = pick (coded k) 9 7
