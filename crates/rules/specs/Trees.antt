-- Number 6 in a record on its own: the tree rule in ATTR and INAS.
use Rattle.std.specs.Prelude.{ℕ, ◌+◌, Bool, false, List, [], ◌∷◌, eqb}
use Rattle.base.specs.Choice.{pick}
use Rattle.base.specs.Check.{Check, bind, in_field, Passed, pass, passed}
use Rattle.base.specs.Lists.{each}
use Rattle.skeleton.specs.File.{Field}
use Rattle.fields.specs.Table.{head_of, tuple_of}
use Rattle.fields.specs.Values.{Val, num_at, text_at}
use Rattle.fields.specs.Content.{many, content}
use Rattle.fields.specs.declared.Format.TheVariants.{Attr, AttrNew}
use Rattle.forest.specs.Forest.{Forest, Tup}
use Rattle.forest.specs.Rule.{tree_of}
use Rattle.forest.specs.Acts.{Act, insert, delete, modify, UTup, Acts, acts_of}
use Rattle.rules.specs.Tags.{ATTR, INAS}
use Rattle.rules.specs.Grammar.{ruin_byte, as_stored}
use Rattle.rules.specs.Content.{inas_format}
use Rattle.rules.specs.declared.Kind.{Kind}
use Rattle.rules.specs.declared.Mode.{Mode}

-- a tuple of its values: NATC, ATIX, PAIX, ATIN (insert), ATVL
unfoldable pub tup_of : List Val → Tup
tup_of v = record { natc = num_at v 0; atix = num_at v 1; paix = num_at v 2; atvl = text_at v 4 }

-- what ATIN says: 1 insert, 2 delete, 3 modify
unfoldable pub instruction_of : ℕ → Act
instruction_of n = pick (eqb n 1) insert (pick (eqb n 2) delete modify)

-- a modify's tuple of its values: NATC, ATIX, PAIX, ATIN, ATVL
unfoldable pub utup_of : List Val → UTup
utup_of v = record { natc = num_at v 0; atix = num_at v 1; paix = num_at v 2; atin = instruction_of (num_at v 3); atvl = text_at v 4 }

-- the tree of an ATTR field
unfoldable pub attr_tree : List ℕ → Check Forest
attr_tree b = tree_of (each tup_of (many (tuple_of AttrNew) b))

-- the tree of an INAS field
unfoldable pub inas_tree : List ℕ → Check Forest
inas_tree b = let k = inas_format false b in tree_of (each tup_of (content (head_of k) (tuple_of k) b).tuples)

-- the acts of a modify's ATTR field
unfoldable pub attr_acts : List ℕ → Check Acts
attr_acts b = acts_of (each utup_of (many (tuple_of Attr) b))

-- a field's tree rule: of ATTR, the whole rule where the record is new, else PAIX and delete parents; of INAS always the whole
unfoldable pub tree_stands : Bool → Field → Passed
tree_stands new f =
    let attr = pick new (passed (attr_tree f.body)) (passed (attr_acts f.body)) in
    let inas = passed (inas_tree f.body) in
    pick (eqb f.tag ATTR) attr (pick (eqb f.tag INAS) inas pass)

-- the tree rules of the fields from number i on
unfoldable pub trees_stand : Bool → ℕ → List Field → Passed
trees_stand new i [] = pass
trees_stand new i (f ∷ fs) = bind (in_field i (tree_stands new f)) (λ _. trees_stand new (i + 1) fs)

-- the fields of a record of kind k, all of which have passed 4 and 5
unfoldable pub number6 : Mode → Kind → List Field → Passed
number6 m k [] = pass
number6 m k (f ∷ fs) = trees_stand (as_stored m (ruin_byte k f.body)) 2 fs
