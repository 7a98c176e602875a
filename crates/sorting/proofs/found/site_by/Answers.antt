use mathlib.Core.Path.{◌∙◌}
use Rattle.sorting.proofs.PlaceLaws.{next_site_in}
use Rattle.keys.specs.Places.{here}
use Rattle.sorting.proofs.found.site_by.Goals as goal

pub next-p-requires : goal.next-p-requires
next-p-requires c = (c.requires.0.sound, here, c.requires.1)

pub returns : goal.returns
returns c = c.then_some.ensures ∙ next_site_in _ _ _ _ c.requires.0.sound c.next-p.ensures
