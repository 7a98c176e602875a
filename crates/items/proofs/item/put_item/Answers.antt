use mathlib.Core.Path.{◌∙◌}
use native.Mathlib.Numerals.{towards_suc}
use lib.ListN.{length-set}
use Rattle.memory.specs.Put.{put}
use Rattle.items.specs.Items.{item_bytes}
use native.Mathlib.Omega.{arith}
use Rattle.items.proofs.item.put_item.Goals as goal

pub bounds-w-at-2 : goal.bounds-w-at-2
bounds-w-at-2 c = simp length-set (omega arith)

pub bounds-w-at-3 : goal.bounds-w-at-3
bounds-w-at-3 c = simp length-set (omega arith)

pub bounds-w-at-4 : goal.bounds-w-at-4
bounds-w-at-4 c = simp length-set (omega arith)

pub put_ref-requires : goal.put_ref-requires
put_ref-requires c = simp length-set (omega arith)

pub shape_of-w : goal.shape_of-w
shape_of-w c = c.put_ref.auto.w ∙ simp length-set

pub returns : goal.returns
unfolding put item_bytes
returns c = c.put_ref.ensures ∙ simp towards_suc
