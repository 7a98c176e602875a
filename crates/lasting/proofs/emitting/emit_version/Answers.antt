use Rattle.composing.proofs.KeptLaws.{kept_room, emits_ways}
use borrow.Author.Rules.{rules}
use native.Mathlib.Omega.{arith}
use Rattle.lasting.proofs.emitting.emit_version.Goals as goal

pub overflow_add-n : goal.overflow_add-n
overflow_add-n c = search emits_ways

pub returns-then-out-n : goal.returns-then-out-n
returns-then-out-n c = search emits_ways

pub write_version-requires : goal.write_version-requires
write_version-requires c = record { d_len_bound = search rules; held = kept_room _ _ _ _ c.args.to c.args.out.now _ c.held_length.ensures c.requires.4 (omega (arith, c.if-out-n.false)) }

pub returns : goal.returns
returns c = search emits_ways
