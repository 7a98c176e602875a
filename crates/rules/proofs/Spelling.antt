-- The tags are spelt as they are named. Assumes nothing.
use mathlib.Core.Path.{◌≡◌, refl}
use mathlib.Core.List.{List, [], ◌∷◌}
use Prim.Native.Nat.{ℕ}
use Rattle.base.specs.Text.{ascii}
use Rattle.base.specs.Lists.{each}
use Rattle.skeleton.specs.Directory.{tag_at}
use Rattle.rules.specs.Tags.{DSID, DSSI, ATCS, ITCS, FTCS, IACS, FACS, ARCS, CSID, IRID, PRID, MRID, FRID, FOID, ATTR, INAS, SPAS, COCC, C2IT, C2IL}

-- the names, four bytes each
abbrev spelt : List (List ℕ)
spelt =
    ascii "DSID" ∷ ascii "DSSI" ∷ ascii "ATCS" ∷ ascii "ITCS" ∷ ascii "FTCS" ∷ ascii "IACS" ∷ ascii "FACS" ∷ ascii "ARCS" ∷ ascii "CSID" ∷ ascii "IRID"
    ∷ ascii "PRID" ∷ ascii "MRID" ∷ ascii "FRID" ∷ ascii "FOID" ∷ ascii "ATTR" ∷ ascii "INAS" ∷ ascii "SPAS" ∷ ascii "COCC" ∷ ascii "C2IT" ∷ ascii "C2IL"
    ∷ []

-- the directory reads them as these numbers
pub tags-spelt
    : each (λ b. tag_at b 0) spelt
    ≡ DSID ∷ DSSI ∷ ATCS ∷ ITCS ∷ FTCS ∷ IACS ∷ FACS ∷ ARCS ∷ CSID ∷ IRID ∷ PRID ∷ MRID ∷ FRID ∷ FOID ∷ ATTR ∷ INAS ∷ SPAS ∷ COCC ∷ C2IT ∷ C2IL ∷ []
unfolding each tag_at
tags-spelt = refl
