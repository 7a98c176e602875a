-- One record: what it says, and its tests number by number.
use Rattle.std.specs.Prelude.{ℕ, false, List, [], ◌∷◌, ◌++◌, get_or, eqb}
use Rattle.base.specs.Choice.{pick}
use Rattle.base.specs.Check.{Check, ok, no, bind, fault}
use Rattle.base.specs.Lists.{each, gather}
use Rattle.base.specs.Keys.{among}
use Rattle.skeleton.specs.File.{Field}
use Rattle.fields.specs.Table.{head_of, tuple_of}
use Rattle.fields.specs.Values.{Val, values, num_at}
use Rattle.fields.specs.Content.{many}
use Rattle.fields.specs.declared.Format.TheVariants.{Foid, Spas}
use Rattle.forest.specs.Forest.{Forest, nil}
use Rattle.rules.specs.Tags.{FOID, ATTR, INAS, SPAS, C2IT, C2IL}
use Rattle.rules.specs.ByTag.{bodies, front}
use Rattle.rules.specs.Kind.{rcnm, coded}
use Rattle.rules.specs.Grammar.{ruin_byte, number4}
use Rattle.rules.specs.Coordinates.{Coord, coords_in}
use Rattle.rules.specs.Content.{ident_format, number5}
use Rattle.rules.specs.Trees.{attr_tree, inas_tree, number6}
use Rattle.rules.specs.Associations.{inas_key, spas_key, number7}
use Rattle.rules.specs.declared.Kind.{Kind}
use Rattle.rules.specs.declared.Mode.TheVariants.{InDataset, InUpdate}

-- ---- the identifier

-- RCID, the code (NITC or NFTC, 0 where the kind has none), RVER, RUIN
pub record Ident : Type 0 where
  pub rcid : ℕ
  pub code : ℕ
  pub rver : ℕ
  pub ruin : ℕ

-- what the identifier of a record of kind k says
unfoldable pub ident_of : Kind → List ℕ → Ident
ident_of k b =
    let v = values (head_of (ident_format false k)) b in
    let with_code : Ident = record { rcid = num_at v 1; code = num_at v 2; rver = num_at v 3; ruin = num_at v 4 } in
    let without : Ident = record { rcid = num_at v 1; code = 0; rver = num_at v 2; ruin = num_at v 3 } in
    pick (coded k) with_code without

-- a record's key: RCNM, RCID
unfoldable pub key_named : Kind → List Field → List ℕ
key_named k fs = rcnm k ∷ (ident_of k (front fs)).rcid ∷ []

-- ---- a stored record

-- an association with an information type: its key, and its attributes
pub record Assoc : Type 0 where
  pub key : List ℕ
  pub attributes : Forest

-- a spatial association: its key, and ORNT, SMIN, SMAX
pub record Spatial : Type 0 where
  pub key : List ℕ
  pub ornt : ℕ
  pub smin : ℕ
  pub smax : ℕ

-- what the fields of a modify act on; what a kind lacks is empty, and a point has one coordinate tuple
pub record Parts : Type 0 where
  pub attributes : Forest
  pub associations : List Assoc
  pub coordinates : List Coord
  pub spatial : List Spatial

-- a record of a dataset: its identifier, a feature's FOID (AGEN, FIDN, FIDS), and its parts
pub record Rec : Type 0 where
  pub kind : Kind
  pub rcid : ℕ
  pub code : ℕ
  pub rver : ℕ
  pub foid : List ℕ
  pub parts : Parts

-- its key: RCNM, RCID
unfoldable pub key_of : Rec → List ℕ
key_of r = rcnm r.kind ∷ r.rcid ∷ []

-- ---- what its fields say

-- AGEN, FIDN, FIDS
unfoldable pub foid_of : List ℕ → List ℕ
foid_of b = let v = values (head_of Foid) b in num_at v 0 ∷ num_at v 1 ∷ num_at v 2 ∷ []

-- a tree that has passed number 6
unfoldable pub standing : Check Forest → Forest
standing (ok f) = f
standing (no x) = nil

-- the association that an INAS inserts
unfoldable pub assoc_of : List ℕ → Assoc
assoc_of b = record { key = inas_key b; attributes = standing (inas_tree b) }

-- the spatial association that a tuple of SPAS inserts
unfoldable pub spatial_of : List Val → Spatial
spatial_of v = record { key = spas_key v; ornt = num_at v 2; smin = num_at v 3; smax = num_at v 4 }

-- the parts of a record as in a dataset
unfoldable pub parts_of : List Field → Parts
parts_of fs =
    record {
      attributes = standing (attr_tree (get_or (bodies ATTR fs) 0 []));
      associations = each assoc_of (bodies INAS fs);
      coordinates = gather coords_in (bodies C2IT fs ++ bodies C2IL fs);
      spatial = each spatial_of (gather (many (tuple_of Spas)) (bodies SPAS fs));
    }

-- a record as in a dataset that has passed 4 to 6
unfoldable pub rec_of : Kind → List Field → Rec
rec_of k fs =
    let id = ident_of k (front fs) in
    record { kind = k; rcid = id.rcid; code = id.code; rver = id.rver; foid = gather foid_of (bodies FOID fs); parts = parts_of fs }

-- ---- number by number

-- a record of a dataset, after records with the keys `earlier`, the last of them of rank `least`: 4, 5, 6, 7
unfoldable pub dataset_record : ℕ → List (List ℕ) → List Field → Check Rec
dataset_record least earlier fs =
    bind (number4 InDataset least fs) (λ k.
    bind (number5 InDataset k fs) (λ _.
    bind (number6 InDataset k fs) (λ _.
    let r = rec_of k fs in
    let once-in-itself = bind (number7 fs) (λ _. ok r) in
    pick (among (key_of r) earlier) (no (fault 7 1 0)) once-in-itself)))

-- a record of an update, first pass: 4, 5, 6, and 7 within it where it is inserted
unfoldable pub update_record : List Field → Check Kind
update_record fs =
    bind (number4 InUpdate 0 fs) (λ k.
    bind (number5 InUpdate k fs) (λ _.
    bind (number6 InUpdate k fs) (λ _.
    let once-in-itself = bind (number7 fs) (λ _. ok k) in
    pick (eqb (ruin_byte k (front fs)) 1) once-in-itself (ok k))))
