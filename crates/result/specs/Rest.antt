-- The records of a result behind the third.
use Rattle.std.specs.Prelude.{ℕ, ◌+◌, List, ◌++◌}
use Rattle.base.specs.Lists.{gather}
use Rattle.skeleton.specs.File.{Field}
use Rattle.rules.specs.Record.{Rec}
use Rattle.updates.specs.Streamed.{kinds, kept_bytes, joined_bytes, kept_length, joined_length, total}

-- their bytes: of each kind the old ones that stay, then the inserted ones
abbrev pub rest_bytes : List Rec → List (List Field) → List ℕ
rest_bytes ds us = gather (λ q. kept_bytes q us ds ++ joined_bytes q us) kinds

-- how many these are
abbrev pub rest_length : List Rec → List (List Field) → ℕ
rest_length ds us = total (λ q. kept_length q us ds + joined_length q us) kinds
