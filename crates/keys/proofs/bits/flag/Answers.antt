use Rattle.keys.proofs.BitLaws.{flag_is}
use native.Mathlib.Omega.{arith}
use Rattle.keys.proofs.bits.flag.Goals as goal

pub returns : goal.returns
returns c = search (flag_is, arith)
