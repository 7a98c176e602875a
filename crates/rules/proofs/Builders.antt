-- Records and fields for samples, made from numbers.
use Prim.Native.Nat.{ℕ}
use mathlib.Core.List.{List, [], ◌∷◌, ◌++◌}
use lib.ListN.{replicate}
use Rattle.base.specs.Text.{ascii}
use Rattle.base.specs.Lists.{each}
use Rattle.skeleton.specs.File.{Field}
use Rattle.fields.specs.Table.{head_of, tuple_of}
use Rattle.fields.specs.Values.{Val, num, txt, puts, put_all}
use Rattle.fields.specs.declared.Format.{Format}
use Rattle.fields.specs.declared.Format.TheVariants.{Dsid, Irid, Prid, Mrid, Frid, Foid, Attr, InasNew, Spas, Cocc, C2il}
use Rattle.forest.specs.Forest.{nil, tree}
use Rattle.rules.specs.Tags.{DSID, IRID, PRID, MRID, FRID, FOID, ATTR, INAS, SPAS, COCC, C2IT, C2IL}
use Rattle.rules.specs.Coordinates.{Coord}
use Rattle.rules.specs.Record.{Parts, Rec}
use Rattle.rules.specs.Written.{field_as, nums, coord_vals}
use Rattle.rules.specs.declared.Kind.TheVariants.{Point, Multi, Feature}

-- ---- fields

-- a field whose head has these numbers
unfoldable pub numbered : ℕ → Format → List ℕ → Field
numbered t k ns = field_as t (puts (head_of k) (nums ns))

-- the identifier of information type 1, code 9, RVER 1
unfoldable pub irid : ℕ → Field
irid ruin = numbered IRID Irid (150 ∷ 1 ∷ 9 ∷ 1 ∷ ruin ∷ [])

-- the identifier of a point with RVER 1
unfoldable pub prid : ℕ → ℕ → Field
prid rcid ruin = numbered PRID Prid (110 ∷ rcid ∷ 1 ∷ ruin ∷ [])

-- the identifier of multi point 5: RVER, RUIN
unfoldable pub mrid : ℕ → ℕ → Field
mrid rver ruin = numbered MRID Mrid (115 ∷ 5 ∷ rver ∷ ruin ∷ [])

-- the identifier of feature 3: NFTC, RVER, RUIN
unfoldable pub frid : ℕ → ℕ → ℕ → Field
frid code rver ruin = numbered FRID Frid (100 ∷ 3 ∷ code ∷ rver ∷ ruin ∷ [])

-- FOID with AGEN 1, FIDN 2
unfoldable pub foid : ℕ → Field
foid fids = numbered FOID Foid (1 ∷ 2 ∷ fids ∷ [])

-- a tuple of ATTR: NATC, ATIX, PAIX, ATIN, ATVL
unfoldable pub tuple : ℕ → ℕ → ℕ → ℕ → List ℕ → List Val
tuple c x p i v = num c ∷ num x ∷ num p ∷ num i ∷ txt v ∷ []

-- ATTR of such tuples
unfoldable pub attr : List (List Val) → Field
attr ts = field_as ATTR (put_all (tuple_of Attr) ts)

-- INAS of information type 1, NIAC 1: NARC, IUIN, tuples
unfoldable pub inas : ℕ → ℕ → List (List Val) → Field
inas c i ts = field_as INAS (puts (head_of InasNew) (nums (150 ∷ 1 ∷ 1 ∷ c ∷ i ∷ [])) ++ put_all (tuple_of Attr) ts)

-- a tuple of SPAS without scales: RRNM, RRID, ORNT, SAUI
unfoldable pub link : ℕ → ℕ → ℕ → ℕ → List Val
link n k o i = nums (n ∷ k ∷ o ∷ 0 ∷ 0 ∷ i ∷ [])

-- SPAS of such tuples
unfoldable pub spas : List (List Val) → Field
spas ts = field_as SPAS (put_all (tuple_of Spas) ts)

-- COCC: COUI, COIX, NCOR
unfoldable pub cocc : ℕ → ℕ → ℕ → Field
cocc i x n = numbered COCC Cocc (i ∷ x ∷ n ∷ [])

-- a coordinate tuple
abbrev pub at : ℕ → ℕ → Coord
at y x = record { y = y; x = x }

-- a coordinate field of such tuples
unfoldable pub coordinates : ℕ → List Coord → Field
coordinates t cs = field_as t (put_all (tuple_of C2il) (each coord_vals cs))

-- C2IT
unfoldable pub c2it : Coord → Field
c2it c = coordinates C2IT (c ∷ [])

-- C2IL
unfoldable pub c2il : List Coord → Field
c2il cs = coordinates C2IL cs

-- ---- records

-- the general record of dataset GB5X01NE, edition 1: UPDN, and the fields after DSID
unfoldable pub general : ℕ → List Field → List Field
general updn fs =
    let texts : List Val = txt [] ∷ txt [] ∷ txt [] ∷ txt [] ∷ txt [] ∷ txt (ascii "GB5X01NE") ∷ [] in
    field_as DSID (puts (head_of Dsid) (num 10 ∷ num 1 ∷ (texts ++ (num 1 ∷ num updn ∷ txt (ascii "20130101") ∷ [])))) ∷ fs

-- a field of so many zero bytes
unfoldable pub filler : ℕ → ℕ → Field
filler t n = field_as t (replicate n 0)

-- a point as sent
unfoldable pub point_sent : ℕ → List Field
point_sent rcid = prid rcid 1 ∷ c2it (at 1 2) ∷ []

-- multi point 5 as sent, inserted, with n tuples
unfoldable pub multi_sent : ℕ → List Field
multi_sent n = mrid 1 1 ∷ c2il (replicate n (at 0 0)) ∷ []

-- no part
unfoldable pub no_parts : Parts
no_parts = record { attributes = nil; associations = []; coordinates = []; spatial = [] }

-- only coordinates
unfoldable pub only_coordinates : List Coord → Parts
only_coordinates cs = record { attributes = nil; associations = []; coordinates = cs; spatial = [] }

-- point 7 as stored
unfoldable pub point : Rec
point = record { kind = Point; rcid = 7; code = 0; rver = 1; foid = []; parts = only_coordinates (at 1 2 ∷ []) }

-- multi point 5 as stored: RVER, tuples
unfoldable pub multi : ℕ → List Coord → Rec
multi v cs = record { kind = Multi; rcid = 5; code = 0; rver = v; foid = []; parts = only_coordinates cs }

-- three tuples
unfoldable pub three : List Coord
three = at 1 1 ∷ at 2 2 ∷ at 3 3 ∷ []

-- so many tuples
unfoldable pub many : ℕ → List Coord
many n = replicate n (at 1 2)

-- feature 3 as stored: NFTC 77, RVER 1, FOID 1 2 3, attribute 21 of value A, attribute 22 without a value, point 7
unfoldable pub feature : Rec
feature =
    record {
      kind = Feature;
      rcid = 3;
      code = 77;
      rver = 1;
      foid = 1 ∷ 2 ∷ 3 ∷ [];
      parts = record {
        attributes = tree 21 (ascii "A") nil (tree 22 [] nil nil);
        associations = [];
        coordinates = [];
        spatial = record { key = 110 ∷ 7 ∷ []; ornt = 1; smin = 0; smax = 0 } ∷ [];
      };
    }

-- feature 3 as listed in the paper: RVER 2, three entries
unfoldable pub listed : Rec
listed =
    record {
      kind = Feature;
      rcid = 3;
      code = 77;
      rver = 2;
      foid = 1 ∷ 2 ∷ 3 ∷ [];
      parts = record { attributes = tree 21 [] (tree 22 (ascii "A") nil nil) (tree 23 [] nil nil); associations = []; coordinates = []; spatial = [] };
    }
