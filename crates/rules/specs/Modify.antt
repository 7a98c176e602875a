-- What the fields of a modify do to the parts of a record: 6, 7, 9.
use Rattle.std.specs.Prelude.{ℕ, ◌+◌, false, List, [], ◌∷◌, get_or, eqb}
use Rattle.base.specs.Choice.{pick}
use Rattle.base.specs.Check.{Check, ok, bind, in_field}
use Rattle.base.specs.Keys.{join, leave}
use Rattle.skeleton.specs.File.{Field}
use Rattle.fields.specs.Table.{tuple_of}
use Rattle.fields.specs.Values.{Val, num_at}
use Rattle.fields.specs.Content.{many}
use Rattle.fields.specs.declared.Format.TheVariants.{Spas}
use Rattle.forest.specs.Forest.{Forest}
use Rattle.forest.specs.Edit.{edit}
use Rattle.rules.specs.Tags.{ATTR, INAS, SPAS, COCC, C2IT}
use Rattle.rules.specs.Place.{placed}
use Rattle.rules.specs.Coordinates.{Coord, coords_in, place_in}
use Rattle.rules.specs.Trees.{attr_acts}
use Rattle.rules.specs.Associations.{inas_key}
use Rattle.rules.specs.Record.{Parts, Assoc, Spatial, assoc_of, spatial_of}

-- ---- parts with one of them set anew

-- with these attributes
abbrev pub with_attributes : Forest → Parts → Parts
with_attributes f p = record { attributes = f; associations = p.associations; coordinates = p.coordinates; spatial = p.spatial }

-- with these associations
abbrev pub with_associations : List Assoc → Parts → Parts
with_associations l p = record { attributes = p.attributes; associations = l; coordinates = p.coordinates; spatial = p.spatial }

-- with these coordinates
abbrev pub with_coordinates : List Coord → Parts → Parts
with_coordinates l p = record { attributes = p.attributes; associations = p.associations; coordinates = l; spatial = p.spatial }

-- with these spatial associations
abbrev pub with_spatial : List Spatial → Parts → Parts
with_spatial l p = record { attributes = p.attributes; associations = p.associations; coordinates = p.coordinates; spatial = l }

-- ---- field by field

-- ATTR: its acts on the tree
unfoldable pub act_attr : List ℕ → Forest → Check Forest
act_attr b f = bind (attr_acts b) (λ us. edit false f us)

-- the key of an association
abbrev pub assoc_key : Assoc → List ℕ
assoc_key a = a.key

-- the key of a spatial association
abbrev pub spatial_key : Spatial → List ℕ
spatial_key s = s.key

-- INAS: insert appends, delete removes by key; IUIN is its tenth byte
unfoldable pub act_inas : List ℕ → List Assoc → Check (List Assoc)
act_inas b ls =
    let joins = join assoc_key 0 (assoc_of b) ls in
    let leaves = leave assoc_key 0 (inas_key b) ls in
    pick (eqb (get_or b 9 0) 1) joins leaves

-- the tuples of a SPAS from number j on: insert appends, delete removes by key; SAUI is the sixth value
unfoldable pub act_spas : ℕ → List (List Val) → List Spatial → Check (List Spatial)
act_spas j [] ss = ok ss
act_spas j (v ∷ vs) ss =
    let s = spatial_of v in
    let joins = join spatial_key j s ss in
    let leaves = leave spatial_key j s.key ss in
    bind (pick (eqb (num_at v 5) 1) joins leaves) (λ ss'. act_spas (j + 1) vs ss')

-- one field; new: the coordinate tuples that the record sends, which COCC places. C2IT replaces, and the other fields do nothing
unfoldable pub act_field : List Coord → Field → Parts → Check Parts
act_field new f p =
    let attr = bind (act_attr f.body p.attributes) (λ t. ok (with_attributes t p)) in
    let inas = bind (act_inas f.body p.associations) (λ ls. ok (with_associations ls p)) in
    let cocc = bind (placed (place_in f.body) new p.coordinates) (λ cs. ok (with_coordinates cs p)) in
    let c2it = ok (with_coordinates (coords_in f.body) p) in
    let spas = bind (act_spas 1 (many (tuple_of Spas) f.body) p.spatial) (λ ss. ok (with_spatial ss p)) in
    let t = f.tag in
    pick (eqb t ATTR) attr (pick (eqb t INAS) inas (pick (eqb t COCC) cocc (pick (eqb t C2IT) c2it (pick (eqb t SPAS) spas (ok p)))))

-- the fields from number i on, in order
unfoldable pub act_fields : List Coord → ℕ → List Field → Parts → Check Parts
act_fields new i [] p = ok p
act_fields new i (f ∷ fs) p = bind (in_field i (act_field new f p)) (λ p'. act_fields new (i + 1) fs p')
