use Rattle.keys.proofs.BitLaws.{with_bit_ways}
use Rattle.keys.proofs.bits.with_bit.Goals as goal

pub overflow_add-result : goal.overflow_add-result
overflow_add-result c = search with_bit_ways
