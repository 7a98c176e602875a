use Rattle.keys.proofs.BitLaws.{bit_ways}
use Rattle.keys.proofs.bits.bit.Goals as goal

pub returns : goal.returns
returns c = search bit_ways
