-- `next_file` meets its contract. Assumes nothing.
use Rattle.month.proofs.FileLaws.{next_ways}
use Rattle.month.proofs.files.next_file.Goals as goal

pub returns-then-list-at-lt4 : goal.returns-then-list-at-lt4
returns-then-list-at-lt4 c = search next_ways

pub returns-then-list-start : goal.returns-then-list-start
returns-then-list-start c = search next_ways

pub returns : goal.returns
returns c = search next_ways
