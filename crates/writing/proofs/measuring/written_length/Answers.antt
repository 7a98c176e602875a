use Rattle.writing.proofs.MeasuringLaws.{length_ways}
use Rattle.writing.proofs.measuring.written_length.Goals as goal

pub returns : goal.returns
returns c = search length_ways
