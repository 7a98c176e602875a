use Rattle.skeleton.proofs.PlaceLaws.{place_ways}
use Rattle.skeleton.proofs.place.place_at.Goals as goal

pub returns-then-len-eq0 : goal.returns-then-len-eq0
returns-then-len-eq0 c = search place_ways

pub overflow_add-start : goal.overflow_add-start
overflow_add-start c = search place_ways

pub overflow_add-start-in-Field : goal.overflow_add-start-in-Field
overflow_add-start-in-Field c = search place_ways

pub returns-then-r-start : goal.returns-then-r-start
returns-then-r-start c = search place_ways

pub returns-else-r-start : goal.returns-else-r-start
returns-else-r-start c = search place_ways

pub returns-in-End : goal.returns-in-End
returns-in-End c = search place_ways

pub returns-in-Bad : goal.returns-in-Bad
returns-in-Bad c = search place_ways
