-- The references of a record of a dataset can be read. Assumes nothing.
use mathlib.Core.Path.{◌≡◌, refl}
use mathlib.Core.Bool.{true}
use mathlib.Core.List.{List, [], ◌∷◌}
use Rattle.skeleton.specs.File.{Field}
use Rattle.rules.specs.ByTag.{first_tag}
use Rattle.rules.specs.Kind.{tag_of}
use Rattle.rules.specs.Grammar.{as_stored}
use Rattle.rules.specs.declared.Kind.{Kind}
use Rattle.rules.specs.declared.Kind.TheVariants.{Info, Point, Multi, Feature}
use Rattle.rules.specs.declared.Mode.TheVariants.{InDataset}
use Rattle.contents.proofs.FitLaws.{five_fit}
use Rattle.contents.proofs.SevenLaws.{four_first}
use Rattle.stock.specs.Stored.{Stored}
use Rattle.references.specs.Readable.{readable, all_readable}
use Rattle.references.proofs.ReadableLaws.{all_fits}

-- an identifier is no reference
first_readable : (k : Kind) (f : Field) → f.tag ≡ tag_of k → readable f ≡ true
unfolding readable tag_of
first_readable Info f e = rw e
first_readable Point f e = rw e
first_readable Multi f e = rw e
first_readable Feature f e = rw e

pub stored_readable : (k : Kind) (fs : List Field) → Stored k fs → all_readable fs ≡ true
unfolding all_readable first_tag as_stored
stored_readable k [] s = refl
stored_readable k (f ∷ fs) s = rw (first_readable k f (four_first InDataset 0 (f ∷ fs) k s.four)) (all_fits fs (five_fit InDataset k f fs tt s.five))
