use Rattle.numbering.proofs.KnownLaws.{known_start}
use Rattle.numbering.proofs.EmittingLaws.{emit_ways}
use native.Mathlib.Omega.{arith}
use Rattle.numbering.proofs.emitting.emit.Goals as goal

pub emit_items-begun-requires : goal.emit_items-begun-requires
emit_items-begun-requires c = record { n_in_bounds = (omega arith, omega arith, known_start _); room = search emit_ways }

pub returns-then-n-x : goal.returns-then-n-x
returns-then-n-x c = search emit_ways

pub emit_blocks-requires : goal.emit_blocks-requires
emit_blocks-requires c = record { x_le_n = (omega arith, omega arith, omega arith); room = search emit_ways }

pub returns : goal.returns
returns c = search emit_ways
