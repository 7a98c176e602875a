-- Every definition of the crate unfolds where `opened` does: for computed samples. Written by tools/opened.py.
use Rattle.base.specs.Check.{bind, in_field, passed}
use Rattle.base.specs.Verdict.{result_of, verdict_of}
use Rattle.base.specs.Lists.{empty, each, gather, Each}
use Rattle.base.specs.Keys.{same, among, join, leave}
use Rattle.base.specs.Walk.{steps, walk}

-- all of them
unfoldable pub opened : Unit {0}
unfolding bind in_field passed result_of verdict_of empty each gather Each same among join leave steps walk
opened = tt
