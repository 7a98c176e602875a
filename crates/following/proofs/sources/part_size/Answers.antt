use Rattle.following.proofs.SourceLaws.{size_ways}
use Rattle.following.proofs.sources.part_size.Goals as goal

pub overflow_sub-result : goal.overflow_sub-result
overflow_sub-result c = search size_ways

pub overflow_add-result : goal.overflow_add-result
overflow_add-result c = search size_ways

pub overflow_sub-result-in-Kept : goal.overflow_sub-result-in-Kept
overflow_sub-result-in-Kept c = search size_ways

pub overflow_add-result-in-Kept : goal.overflow_add-result-in-Kept
overflow_add-result-in-Kept c = search size_ways

pub returns-in-Sent : goal.returns-in-Sent
returns-in-Sent c = search size_ways

pub returns-in-Kept : goal.returns-in-Kept
returns-in-Kept c = search size_ways

pub returns-in-Neither : goal.returns-in-Neither
returns-in-Neither c = search size_ways
