use Rattle.sorting.proofs.IndicesLaws.{to_end}
use Rattle.sorting.proofs.limits.new_index.Goals as goal

pub returns : goal.returns
returns c = to_end c.args.out.now c.args.lim.new
