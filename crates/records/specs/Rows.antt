-- The rows of a grammar as code holds them: their tags. Which of them may stand often, and which a record of a dataset needs, the tag says.
use Rattle.std.specs.Prelude.{ℕ, ◌+◌, Bool, List, [], ◌∷◌, drop, eqb, Option, Some, None}
use Rattle.base.specs.Choice.{pick, either}
use Rattle.base.specs.Lists.{each}
use Rattle.rules.specs.Tags.{FOID, ATTR, INAS, SPAS, COCC, C2IT, C2IL}
use Rattle.rules.specs.Kind.{Row}
use Rattle.rules.specs.declared.Kind.{Kind}
use Rattle.rules.specs.declared.Kind.TheVariants.{Info, Point, Multi, Feature}

-- fields with this tag may stand any number of times
unfoldable pub stands_often : ℕ → Bool
stands_often t = either (eqb t INAS) (either (eqb t C2IL) (eqb t SPAS))

-- a record of a dataset needs the field
unfoldable pub is_needed : ℕ → Bool
is_needed t = either (eqb t C2IT) (eqb t FOID)

-- the row of a tag
unfoldable pub row_with : ℕ → Row
row_with t = record { tag = t; often = stands_often t; needed = is_needed t }

-- the rows of these tags
unfoldable pub rows_with : List ℕ → List Row
rows_with ts = each row_with ts

-- the tags after the identifier, by kind
abbrev pub tags_of : Kind → List ℕ
tags_of Info = ATTR ∷ INAS ∷ []
tags_of Point = INAS ∷ C2IT ∷ []
tags_of Multi = INAS ∷ COCC ∷ C2IL ∷ []
tags_of Feature = FOID ∷ ATTR ∷ INAS ∷ SPAS ∷ []

-- the row of the field with tag t stands at place j, or later: the rows from there on are left, or from behind it where it may stand only once
unfoldable pub rest_from : List ℕ → ℕ → ℕ → Option ℕ
rest_from [] t j = None
rest_from (x ∷ xs) t j = let later = rest_from xs t (j + 1) in pick (eqb x t) (Some (pick (stands_often x) j (j + 1))) later

-- the same for the rows from place j on
unfoldable pub row_after : List ℕ → ℕ → ℕ → Option ℕ
row_after ts t j = rest_from (drop j ts) t j
