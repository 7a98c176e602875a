-- Number 5: subfields do not fill the field, or a value is out of its range.
use Rattle.std.specs.Prelude.{ℕ, ◌+◌, Bool, true, false, not, List, [], ◌∷◌, length, get_or, eqb, Result, Ok, Err}
use Rattle.base.specs.Choice.{pick, both}
use Rattle.base.specs.Check.{no, bind, fault, Passed, pass}
use Rattle.base.specs.Lists.{empty}
use Rattle.skeleton.specs.File.{Field}
use Rattle.fields.specs.Table.{head_of, tuple_of}
use Rattle.fields.specs.Content.{number_of, tally_field}
use Rattle.fields.specs.declared.Format.{Format}
use Rattle.fields.specs.declared.Format.TheVariants.{Irid, IridNew, Prid, PridNew, Mrid, MridNew, Frid, FridNew, Foid, Attr, AttrNew, InasNew, InasGone, Spas, SpasNew, Cocc, C2it, C2il}
use Rattle.rules.specs.Tags.{FOID, ATTR, INAS, SPAS, COCC, C2IT}
use Rattle.rules.specs.Place.{Place}
use Rattle.rules.specs.Coordinates.{sent, place_in}
use Rattle.rules.specs.Grammar.{ruin_byte, as_stored}
use Rattle.rules.specs.declared.Kind.{Kind}
use Rattle.rules.specs.declared.Kind.TheVariants.{Info, Point, Multi, Feature}
use Rattle.rules.specs.declared.Mode.{Mode}
use Rattle.rules.specs.declared.Mode.TheVariants.{InDataset, InUpdate}

-- ---- the format of each field

-- in a dataset RUIN too has to be insert
unfoldable pub insert_only : Mode → Bool
insert_only InDataset = true
insert_only InUpdate = false

-- the format of the identifier; new: every instruction is insert
unfoldable pub ident_format : Bool → Kind → Format
ident_format new Info = pick new IridNew Irid
ident_format new Point = pick new PridNew Prid
ident_format new Multi = pick new MridNew Mrid
ident_format new Feature = pick new FridNew Frid

-- the format of an INAS: it is inserted, or, in a modify, deleted; IUIN is its tenth byte
unfoldable pub inas_format : Bool → List ℕ → Format
inas_format new b = pick (both (not new) (eqb (get_or b 9 0) 2)) InasGone InasNew

-- the format of any other field (the last has no test: number 4 leaves no other tag)
unfoldable pub format_of : Bool → ℕ → List ℕ → Format
format_of new t b =
    pick (eqb t ATTR) (pick new AttrNew Attr)
    (pick (eqb t INAS) (inas_format new b)
    (pick (eqb t SPAS) (pick new SpasNew Spas)
    (pick (eqb t FOID) Foid
    (pick (eqb t COCC) Cocc
    (pick (eqb t C2IT) C2it C2il)))))

-- ---- fields that have their format

-- field i, its tuples counted, is filled, else 5, at the tuple that does not stand if the format has tuples
abbrev pub filled : ℕ → Bool → Result ℕ ℕ → Passed
filled i tupled (Ok n) = pass
filled i tupled (Err j) = no (fault (number_of (Err j)) i (pick tupled j 0))

-- field i has this format
unfoldable pub stands : ℕ → Format → List ℕ → Passed
stands i k b = filled i (not (empty (tuple_of k))) (tally_field (head_of k) (tuple_of k) b)

-- each of the fields from number i on has its format
unfoldable pub all_stand : Bool → ℕ → List Field → Passed
all_stand new i [] = pass
all_stand new i (f ∷ fs) = bind (stands i (format_of new f.tag f.body) f.body) (λ _. all_stand new (i + 1) fs)

-- ---- NCOR

-- NCOR is not the number n of tuples sent; in a delete it says how many go
unfoldable pub miscounts : ℕ → Place → Bool
miscounts n p = both (not (eqb p.instruction 2)) (not (eqb p.count n))

-- no COCC among the fields from number i on miscounts
unfoldable pub counted : ℕ → ℕ → List Field → Passed
counted n i [] = pass
counted n i (f ∷ fs) =
    let wrong = miscounts n (place_in f.body) in
    let later = counted n (i + 1) fs in
    pick (both (eqb f.tag COCC) wrong) (no (fault 5 i 0)) later

-- ---- one record

-- the fields of a record of kind k, all of which have passed 4
unfoldable pub number5 : Mode → Kind → List Field → Passed
number5 m k [] = pass
number5 m k (f ∷ fs) =
    bind (stands 1 (ident_format (insert_only m) k) f.body) (λ _.
    bind (all_stand (as_stored m (ruin_byte k f.body)) 2 fs) (λ _. counted (length (sent fs)) 2 fs))
