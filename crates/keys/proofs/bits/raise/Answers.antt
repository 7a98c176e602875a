use Rattle.keys.proofs.BitLaws.{raise_ways}
use Rattle.keys.proofs.bits.raise.Goals as goal

pub returns-then-t-i : goal.returns-then-t-i
returns-then-t-i c = search raise_ways

pub returns-then-bit-eq1 : goal.returns-then-bit-eq1
returns-then-bit-eq1 c = search raise_ways

pub with_bit-requires : goal.with_bit-requires
with_bit-requires c = search raise_ways

pub returns : goal.returns
returns c = search raise_ways
