-- Records whose references can be read.
use Rattle.std.specs.Prelude.{Bool, true, false, not, List, [], ◌∷◌, eqb}
use Rattle.base.specs.Choice.{pick, both}
use Rattle.fields.specs.Table.{head_of, tuple_of}
use Rattle.fields.specs.Content.{fill}
use Rattle.fields.specs.declared.Format.TheVariants.{InasNew, Spas}
use Rattle.skeleton.specs.File.{Field}
use Rattle.rules.specs.Tags.{INAS, SPAS}

-- a field that, if it is an association, is filled by the subfields of one
unfoldable pub readable : Field → Bool
readable f =
    let inas = fill (head_of InasNew) (tuple_of InasNew) f.body in
    let spas = fill (head_of Spas) (tuple_of Spas) f.body in
    pick (eqb f.tag INAS) inas (pick (eqb f.tag SPAS) spas true)

-- each field of a record is so
unfoldable pub all_readable : List Field → Bool
all_readable [] = true
all_readable (f ∷ fs) = both (readable f) (all_readable fs)

-- a field that is no association
unfoldable pub plain : Field → Bool
plain f = pick (eqb f.tag INAS) false (not (eqb f.tag SPAS))

-- a record: the first field is no association, and each other is so
unfoldable pub record_readable : List Field → Bool
record_readable [] = false
record_readable (f ∷ fs) = both (plain f) (all_readable fs)

-- each record of a file is so
unfoldable pub every_readable : List (List Field) → Bool
every_readable [] = true
every_readable (fs ∷ fss) = both (record_readable fs) (every_readable fss)
