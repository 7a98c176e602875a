-- The formats as tables: for each field its subfields with their widths and ranges.
-- A further field is a clause of `head_of` and one of `tuple_of`; src/row.rt says what else it takes.
use Rattle.std.specs.Prelude.{List, [], ◌∷◌}
use Rattle.fields.specs.declared.Format.{Format}
use Rattle.fields.specs.declared.Format.TheVariants.{Dsid, DsidUpdate, Irid, IridNew, Prid, PridNew, Mrid, MridNew, Frid, FridNew, Foid, Attr, AttrNew, InasNew, InasGone, Spas, SpasNew, Cocc, C2it, C2il}
use Rattle.fields.specs.declared.Sub.{Sub}
use Rattle.fields.specs.declared.Sub.TheVariants.{B11, B12, B14, Among, Raw, Text, Fixed}

-- RCID
abbrev pub rcid : Sub
rcid = B14 1 4294967294

-- RVER, EDTN, ATIX, COIX, NCOR, an update's UPDN
abbrev pub count : Sub
count = B12 1 65534

-- NITC, NFTC, NATC, NIAC, NARC, UPDN
abbrev pub code : Sub
code = B12 0 65534

-- RUIN, ATIN, COUI: 1 insert, 2 delete, 3 modify
abbrev pub change : Sub
change = B11 1 3

-- SAUI: 1 insert, 2 delete
abbrev pub link : Sub
link = B11 1 2

-- an instruction that has to be insert
abbrev pub insert : Sub
insert = B11 1 1

-- an instruction that has to be delete
abbrev pub delete : Sub
delete = B11 2 2

-- what stands once at a field's front
unfoldable pub head_of : Format → List Sub
head_of Dsid = B11 10 10 ∷ rcid ∷ Text ∷ Text ∷ Text ∷ Text ∷ Text ∷ Text ∷ count ∷ code ∷ Fixed 8 ∷ []
head_of DsidUpdate = B11 10 10 ∷ rcid ∷ Text ∷ Text ∷ Text ∷ Text ∷ Text ∷ Text ∷ count ∷ count ∷ Fixed 8 ∷ []
head_of Irid = B11 150 150 ∷ rcid ∷ code ∷ count ∷ change ∷ []
head_of IridNew = B11 150 150 ∷ rcid ∷ code ∷ count ∷ insert ∷ []
head_of Prid = B11 110 110 ∷ rcid ∷ count ∷ change ∷ []
head_of PridNew = B11 110 110 ∷ rcid ∷ count ∷ insert ∷ []
head_of Mrid = B11 115 115 ∷ rcid ∷ count ∷ change ∷ []
head_of MridNew = B11 115 115 ∷ rcid ∷ count ∷ insert ∷ []
head_of Frid = B11 100 100 ∷ rcid ∷ code ∷ count ∷ change ∷ []
head_of FridNew = B11 100 100 ∷ rcid ∷ code ∷ count ∷ insert ∷ []
head_of Foid = Raw 2 ∷ Raw 4 ∷ Raw 2 ∷ []
head_of Attr = []
head_of AttrNew = []
head_of InasNew = B11 150 150 ∷ Raw 4 ∷ code ∷ code ∷ insert ∷ []
head_of InasGone = B11 150 150 ∷ Raw 4 ∷ code ∷ code ∷ delete ∷ []
head_of Spas = []
head_of SpasNew = []
head_of Cocc = change ∷ count ∷ count ∷ []
head_of C2it = Raw 4 ∷ Raw 4 ∷ []
head_of C2il = []

-- what is then repeated
unfoldable pub tuple_of : Format → List Sub
tuple_of Dsid = []
tuple_of DsidUpdate = []
tuple_of Irid = []
tuple_of IridNew = []
tuple_of Prid = []
tuple_of PridNew = []
tuple_of Mrid = []
tuple_of MridNew = []
tuple_of Frid = []
tuple_of FridNew = []
tuple_of Foid = []
tuple_of Attr = code ∷ count ∷ Raw 2 ∷ change ∷ Text ∷ []
tuple_of AttrNew = code ∷ count ∷ Raw 2 ∷ insert ∷ Text ∷ []
tuple_of InasNew = code ∷ count ∷ Raw 2 ∷ insert ∷ Text ∷ []
tuple_of InasGone = []
tuple_of Spas = Among 110 115 115 115 ∷ Raw 4 ∷ Among 1 2 255 255 ∷ Raw 4 ∷ Raw 4 ∷ link ∷ []
tuple_of SpasNew = Among 110 115 115 115 ∷ Raw 4 ∷ Among 1 2 255 255 ∷ Raw 4 ∷ Raw 4 ∷ insert ∷ []
tuple_of Cocc = []
tuple_of C2it = []
tuple_of C2il = Raw 4 ∷ Raw 4 ∷ []
