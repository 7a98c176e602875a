-- Fields by their number in a record, from 1.
use Rattle.std.specs.Prelude.{ℕ, ◌+◌, ◌-◌, List, [], ◌∷◌, eqb, Option as StdOption, Some, None}
use Rattle.std.proofs.Math.Option.{Option, some, none}
use Rattle.base.specs.Choice.{pick}
use Rattle.skeleton.specs.Directory.{Body}
use Rattle.fieldwise.specs.Reader.{passed_from}
use Rattle.fieldwise.specs.declared.numbered.Found.{Found}

-- the n-th of a list, from 1
unfoldable pub numbered : {A : Type 0} → ℕ → List A → Option A
numbered n [] = none
numbered n (x ∷ xs) = pick (eqb n 0) none (pick (eqb n 1) (some x) (numbered (n - 1) xs))

-- a field with this tag, whose body and whose 1E lie there
abbrev pub found_at : ℕ → ℕ → ℕ → StdOption Found
found_at tag start end = Some (record { tag = tag; start = start; end = end })

-- a field that lies there, as it is answered
abbrev pub found_of : Option Body → StdOption Found
found_of (some b) = found_at b.tag b.start (b.start + b.len - 1)
found_of none = None

-- the n-th field of a record: of those that a reader passes from the start
unfoldable pub field_numbered : List ℕ → ℕ → StdOption Found
field_numbered r n = found_of (numbered n (passed_from r 24))
