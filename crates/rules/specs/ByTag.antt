-- The fields of a record found by their tags.
use Rattle.std.specs.Prelude.{ℕ, Bool, not, List, [], ◌∷◌, eqb}
use Rattle.base.specs.Choice.{pick}
use Rattle.base.specs.Lists.{each, empty}
use Rattle.skeleton.specs.File.{Field}

-- the fields with tag t, in order
unfoldable pub with_tag : ℕ → List Field → List Field
with_tag t [] = []
with_tag t (f ∷ fs) = let later = with_tag t fs in pick (eqb f.tag t) (f ∷ later) later

-- there is a field with tag t
unfoldable pub has : ℕ → List Field → Bool
has t fs = not (empty (with_tag t fs))

-- a field's body
abbrev pub body_of : Field → List ℕ
body_of f = f.body

-- the bodies of the fields with tag t, in order
unfoldable pub bodies : ℕ → List Field → List (List ℕ)
bodies t fs = each body_of (with_tag t fs)

-- the tag of the first field; 0, no tag, where there is none
unfoldable pub first_tag : List Field → ℕ
first_tag [] = 0
first_tag (f ∷ fs) = f.tag

-- the body of the first field, the identifier
unfoldable pub front : List Field → List ℕ
front [] = []
front (f ∷ fs) = f.body
