use Rattle.writing.proofs.JoiningLaws.{empty_ways}
use Rattle.writing.proofs.joining.is_empty_list.Goals as goal

pub returns-then-is_list : goal.returns-then-is_list
returns-then-is_list c = search empty_ways

pub returns-else-is_list : goal.returns-else-is_list
returns-else-is_list c = search empty_ways
