use Rattle.contents.proofs.FormatLaws.{inas_format_ways}
use Rattle.contents.proofs.formats.inas_format.Goals as goal
use Rattle.contents.proofs.formats.inas_format.Goals.{else-not-new-via-then-not-new+then-b-gt9+else-b-eq2, else-not-new-via-then-not-new+else-b-gt9, else-not-new-via-else-not-new}

pub returns-then-b-eq2 : goal.returns-then-b-eq2
returns-then-b-eq2 c = search inas_format_ways

pub returns-else-not-new : goal.returns-else-not-new
returns-else-not-new c = elim c.else-not-new.branch [ else-not-new-via-then-not-new+then-b-gt9+else-b-eq2 w ↦ search inas_format_ways | else-not-new-via-then-not-new+else-b-gt9 w ↦ search inas_format_ways | else-not-new-via-else-not-new w ↦ search inas_format_ways ]
