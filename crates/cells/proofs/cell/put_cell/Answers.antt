-- `put_cell` meets its contract. Assumes nothing.
use native.Mathlib.Numerals.{towards_suc}
use lib.ListN.{length-set}
use Rattle.memory.specs.Put.{put}
use Rattle.cells.specs.Cells.{cell_bytes, three_bytes}
use native.Mathlib.Omega.{arith}
use Rattle.cells.proofs.cell.put_cell.Goals as goal

pub bounds-c-k-2 : goal.bounds-c-k-2
bounds-c-k-2 c = simp length-set (omega arith)

pub bounds-c-k-3 : goal.bounds-c-k-3
bounds-c-k-3 c = simp length-set (omega arith)

pub bounds-c-k-4 : goal.bounds-c-k-4
bounds-c-k-4 c = simp length-set (omega arith)

pub bounds-c-k-5 : goal.bounds-c-k-5
bounds-c-k-5 c = simp length-set (omega arith)

pub bounds-c-k-6 : goal.bounds-c-k-6
bounds-c-k-6 c = simp length-set (omega arith)

pub bounds-c-k-7 : goal.bounds-c-k-7
bounds-c-k-7 c = simp length-set (omega arith)

pub returns : goal.returns
unfolding put cell_bytes three_bytes
returns c = simp towards_suc
