use lib.ListN.{length-set}
use Rattle.references.proofs.VouchLaws.{sift_ways}
use native.Mathlib.Omega.{arith}
use Rattle.references.proofs.collecting.add.Goals as goal

pub returns : goal.returns
returns c = (simp length-set (omega arith), search sift_ways)
