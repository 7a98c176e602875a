use native.Mathlib.Numerals.{towards_suc}
use lib.ListN.{length-set}
use Rattle.memory.specs.Put.{put}
use Rattle.items.specs.Items.{ref_bytes}
use native.Mathlib.Omega.{arith}
use Rattle.items.proofs.item.put_ref.Goals as goal

pub bounds-w-at-2 : goal.bounds-w-at-2
bounds-w-at-2 c = simp length-set (omega arith)

pub bounds-w-at-3 : goal.bounds-w-at-3
bounds-w-at-3 c = simp length-set (omega arith)

pub bounds-w-at-4 : goal.bounds-w-at-4
bounds-w-at-4 c = simp length-set (omega arith)

pub returns : goal.returns
unfolding put ref_bytes
returns c = simp towards_suc
