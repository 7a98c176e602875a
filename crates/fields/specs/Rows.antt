-- The tables of all formats as one: where each format's subfields stand among its rows.
use Rattle.std.specs.Prelude.{ℕ, List, ◌++◌}
use Rattle.fields.specs.Table.{head_of, tuple_of}
use Rattle.fields.specs.declared.Sub.{Sub}
use Rattle.fields.specs.declared.Format.{Format}
use Rattle.fields.specs.declared.Format.TheVariants.{Dsid, DsidUpdate, Irid, IridNew, Prid, PridNew, Mrid, MridNew, Frid, FridNew, Foid, Attr, AttrNew, InasNew, InasGone, Spas, SpasNew, Cocc, C2it, C2il}
use Rattle.fields.specs.declared.row.Shape.{Shape}

-- how many rows there are
abbrev pub rows : ℕ
rows = 98

-- the rows, each list of subfields once: InasNew repeats AttrNew's tuple, and C2il's tuple is C2it's head
unfoldable pub table : List Sub
table =
    head_of Dsid ++ head_of DsidUpdate
    ++ head_of Irid ++ head_of IridNew ++ head_of Frid ++ head_of FridNew
    ++ head_of Prid ++ head_of PridNew ++ head_of Mrid ++ head_of MridNew
    ++ tuple_of Attr ++ head_of InasNew ++ tuple_of AttrNew ++ head_of InasGone
    ++ head_of Foid ++ tuple_of Spas ++ tuple_of SpasNew ++ head_of Cocc ++ head_of C2it

-- the rows of a format: those of its head from the first number to the second, those of its tuple from the second to the third
abbrev pub shape_of : Format → Shape
shape_of Dsid = record { 0 = 0; 1 = 11; 2 = 11 }
shape_of DsidUpdate = record { 0 = 11; 1 = 22; 2 = 22 }
shape_of Irid = record { 0 = 22; 1 = 27; 2 = 27 }
shape_of IridNew = record { 0 = 27; 1 = 32; 2 = 32 }
shape_of Frid = record { 0 = 32; 1 = 37; 2 = 37 }
shape_of FridNew = record { 0 = 37; 1 = 42; 2 = 42 }
shape_of Prid = record { 0 = 42; 1 = 46; 2 = 46 }
shape_of PridNew = record { 0 = 46; 1 = 50; 2 = 50 }
shape_of Mrid = record { 0 = 50; 1 = 54; 2 = 54 }
shape_of MridNew = record { 0 = 54; 1 = 58; 2 = 58 }
shape_of Attr = record { 0 = 58; 1 = 58; 2 = 63 }
shape_of InasNew = record { 0 = 63; 1 = 68; 2 = 73 }
shape_of AttrNew = record { 0 = 68; 1 = 68; 2 = 73 }
shape_of InasGone = record { 0 = 73; 1 = 78; 2 = 78 }
shape_of Foid = record { 0 = 78; 1 = 81; 2 = 81 }
shape_of Spas = record { 0 = 81; 1 = 81; 2 = 87 }
shape_of SpasNew = record { 0 = 87; 1 = 87; 2 = 93 }
shape_of Cocc = record { 0 = 93; 1 = 96; 2 = 96 }
shape_of C2it = record { 0 = 96; 1 = 98; 2 = 98 }
shape_of C2il = record { 0 = 96; 1 = 96; 2 = 98 }
