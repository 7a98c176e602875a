use Rattle.keys.proofs.TableLaws.{put_past}
use native.Mathlib.Omega.{arith}
use Rattle.keys.proofs.table.put.Goals as goal

pub returns-else-j-t : goal.returns-else-j-t
returns-else-j-t c = search (put_past, arith)
