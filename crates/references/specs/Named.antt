-- What number 11 says of references, whatever else is known of the records whose keys are those of a file from start on.
use Rattle.std.specs.Prelude.{ℕ, ◌≡◌, List, Result}
use Rattle.base.specs.Lists.{each}
use Rattle.base.specs.Verdict.{verdict_of}
use Rattle.base.specs.declared.Fault.{Fault}
use Rattle.rules.specs.Associations.{Mark, number11}
use Rattle.rules.specs.Record.{Rec, key_of}
use Rattle.keys.specs.Listed.{keys_from}
use Rattle.keys.specs.Numbered.{Numbered}

-- it says this of these
unfoldable pub Says : List ℕ → ℕ → List Mark → Result (Unit {0}) Fault → Type 0
Says f start ms v = (recs : List Rec) → Numbered recs (keys_from f start) → v ≡ verdict_of (number11 (each key_of recs) ms)

-- it says the same of those
unfoldable pub Alike : List ℕ → ℕ → List Mark → List Mark → Type 0
Alike f start ms ns = (recs : List Rec) → Numbered recs (keys_from f start) → number11 (each key_of recs) ms ≡ number11 (each key_of recs) ns
