-- The four kinds of record, and the grammar of each.
use Rattle.std.specs.Prelude.{ℕ, Bool, true, false, List, [], ◌∷◌, eqb}
use Rattle.std.proofs.Math.Option.{Option, some, none}
use Rattle.base.specs.Choice.{pick}
use Rattle.base.specs.Lists.{each}
use Rattle.rules.specs.Tags.{IRID, PRID, MRID, FRID, FOID, ATTR, INAS, SPAS, COCC, C2IT, C2IL, general_tags}
use Rattle.rules.specs.declared.Kind.{Kind}
use Rattle.rules.specs.declared.Kind.TheVariants.{Info, Point, Multi, Feature}

-- ---- kinds

-- the kind of a record by its first tag
unfoldable pub kind_of : ℕ → Option Kind
kind_of t =
    pick (eqb t IRID) (some Info) (pick (eqb t PRID) (some Point) (pick (eqb t MRID) (some Multi) (pick (eqb t FRID) (some Feature) none)))

-- the tag of the kind's identifier
unfoldable pub tag_of : Kind → ℕ
tag_of Info = IRID
tag_of Point = PRID
tag_of Multi = MRID
tag_of Feature = FRID

-- RCNM
unfoldable pub rcnm : Kind → ℕ
rcnm Info = 150
rcnm Point = 110
rcnm Multi = 115
rcnm Feature = 100

-- the place of the kind in a dataset
unfoldable pub rank : Kind → ℕ
rank Info = 1
rank Point = 2
rank Multi = 3
rank Feature = 4

-- the identifier has a code, NITC or NFTC
unfoldable pub coded : Kind → Bool
coded Info = true
coded Point = false
coded Multi = false
coded Feature = true

-- ---- grammar

-- a row of a record's grammar: a tag, whether it may stand any number of times, and whether a record of a dataset needs it
pub record Row : Type 0 where
  pub tag : ℕ
  pub often : Bool
  pub needed : Bool

-- at most once
abbrev pub once : ℕ → Row
once t = record { tag = t; often = false; needed = false }

-- exactly once in a record of a dataset
abbrev pub needs : ℕ → Row
needs t = record { tag = t; often = false; needed = true }

-- any number
abbrev pub any : ℕ → Row
any t = record { tag = t; often = true; needed = false }

-- the fields after the identifier, in their order
unfoldable pub rows_of : Kind → List Row
rows_of Info = once ATTR ∷ any INAS ∷ []
rows_of Point = any INAS ∷ needs C2IT ∷ []
rows_of Multi = any INAS ∷ once COCC ∷ any C2IL ∷ []
rows_of Feature = needs FOID ∷ once ATTR ∷ any INAS ∷ any SPAS ∷ []

-- the fields after DSID in the general record, in their order
unfoldable pub general_rows : List Row
general_rows = each (λ t. once t) general_tags
