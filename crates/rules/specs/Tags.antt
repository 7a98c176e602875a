-- The tags, each its four bytes as one number, the first the highest.
use Rattle.std.specs.Prelude.{ℕ, List, [], ◌∷◌}

-- the general record: dataset identification
abbrev pub DSID : ℕ
DSID = 0x44534944

-- dataset structure information
abbrev pub DSSI : ℕ
DSSI = 0x44535349

-- attribute codes
abbrev pub ATCS : ℕ
ATCS = 0x41544353

-- information type codes
abbrev pub ITCS : ℕ
ITCS = 0x49544353

-- feature type codes
abbrev pub FTCS : ℕ
FTCS = 0x46544353

-- information association codes
abbrev pub IACS : ℕ
IACS = 0x49414353

-- feature association codes
abbrev pub FACS : ℕ
FACS = 0x46414353

-- association role codes
abbrev pub ARCS : ℕ
ARCS = 0x41524353

-- the third record of a dataset: coordinate reference system
abbrev pub CSID : ℕ
CSID = 0x43534944

-- the identifier of an information type
abbrev pub IRID : ℕ
IRID = 0x49524944

-- the identifier of a point
abbrev pub PRID : ℕ
PRID = 0x50524944

-- the identifier of a multi point
abbrev pub MRID : ℕ
MRID = 0x4d524944

-- the identifier of a feature
abbrev pub FRID : ℕ
FRID = 0x46524944

-- a feature's object identifier
abbrev pub FOID : ℕ
FOID = 0x464f4944

-- attributes
abbrev pub ATTR : ℕ
ATTR = 0x41545452

-- an association with an information type
abbrev pub INAS : ℕ
INAS = 0x494e4153

-- spatial associations
abbrev pub SPAS : ℕ
SPAS = 0x53504153

-- coordinate control: how an update edits a list of coordinates
abbrev pub COCC : ℕ
COCC = 0x434f4343

-- the coordinates of a point
abbrev pub C2IT : ℕ
C2IT = 0x43324954

-- a list of coordinates
abbrev pub C2IL : ℕ
C2IL = 0x4332494c

-- the unread fields of the general record, in their order
abbrev pub general_tags : List ℕ
general_tags = DSSI ∷ ATCS ∷ ITCS ∷ FTCS ∷ IACS ∷ FACS ∷ ARCS ∷ []
