-- What is told of the associations that cells hold, and of a record in the workspace.
use Rattle.std.specs.Prelude.{ℕ, Bool, List}
use Rattle.base.specs.Lists.{each, Each}
use Rattle.rules.specs.Record.{Rec}
use Rattle.version.specs.Held.{Held}
use Rattle.version.specs.declared.Version.{Version}
use Rattle.composing.specs.Settled.{TellsAll, TellsOf}
use Rattle.composing.specs.Keys.{Begins}

-- whatever the keys f of the bodies are, those that they name all stand
unfoldable pub TellsCells : List ℕ → ℕ → List ℕ → ℕ → List ℕ → List (List ℕ) → Bool → Type 0
TellsCells d ds u us flags bs b = (f : List ℕ → List ℕ) → Each (Begins f) bs → TellsAll d ds u us flags (each f bs) b

-- those that the record in the workspace names all stand
unfoldable pub TellsHeld : List ℕ → ℕ → List ℕ → ℕ → List ℕ → List ℕ → Version → Bool → Type 0
TellsHeld d ds u us flags w v b = (r : Rec) → Held d u w v r → TellsOf d ds u us flags r b
