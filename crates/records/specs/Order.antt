-- The order of a record's fields, from a place in its directory on.
use Rattle.std.specs.Prelude.{ℕ, Bool, false, List, drop}
use Rattle.base.specs.Choice.{pick}
use Rattle.base.specs.Check.{Check, ok, no}
use Rattle.skeleton.specs.Place.{fields_at}
use Rattle.skeleton.specs.declared.directory.Shape.{Shape}
use Rattle.skeleton.specs.File.{Field}
use Rattle.rules.specs.Tags.{COCC}
use Rattle.rules.specs.ByTag.{has}
use Rattle.rules.specs.Grammar.{in_order, forbidden, coui_byte}
use Rattle.rules.specs.declared.Mode.{Mode}
use Rattle.rules.specs.declared.Mode.TheVariants.{InDataset, InUpdate}
use Rattle.records.specs.Rows.{rows_with}
use Rattle.records.specs.declared.order.Instructions.{Instructions}

-- the field at which a test refuses, 0 where it passes
unfoldable pub faulty_field : {A : Type 0} → Check A → ℕ
faulty_field (ok a) = 0
faulty_field (no x) = x.field

-- a tag that the instructions do not take; in the general record there are none
unfoldable pub shut_out : Instructions → ℕ → Bool
shut_out s t = pick s.general false (forbidden s.mode s.ruin s.coui s.controlled t)

-- the instructions of a record with this RUIN and these fields, as far as they are looked for: in a dataset COUI and COCC decide nothing
unfoldable pub instructions_of : Mode → ℕ → List Field → Instructions
instructions_of InDataset ruin fs = record { general = false; mode = InDataset; ruin = ruin; coui = 0; controlled = false }
instructions_of InUpdate ruin fs = record { general = false; mode = InUpdate; ruin = ruin; coui = coui_byte fs; controlled = has COCC fs }

-- the first field, from number i and directory place p on, that does not stand in the order of the rows from place j on
unfoldable pub order_from : List ℕ → Shape → List ℕ → Instructions → ℕ → ℕ → ℕ → ℕ
order_from r h tags s p j i = faulty_field (in_order (shut_out s) (rows_with (drop j tags)) i (fields_at r h p))
