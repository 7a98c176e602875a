-- The general record: its tests, what it says, and how an update follows it.
use Rattle.std.specs.Prelude.{ℕ, ◌+◌, false, List, [], ◌∷◌, ◌++◌, take, eqb}
use Rattle.base.specs.Choice.{pick, both}
use Rattle.base.specs.Check.{no, bind, fault, Passed, pass}
use Rattle.base.specs.Lists.{gather, empty}
use Rattle.base.specs.Keys.{same}
use Rattle.skeleton.specs.File.{Field}
use Rattle.fields.specs.Table.{head_of}
use Rattle.fields.specs.Values.{Val, values, num_at, text_at}
use Rattle.fields.specs.declared.Format.{Format}
use Rattle.fields.specs.declared.Format.TheVariants.{Dsid, DsidUpdate}
use Rattle.rules.specs.Tags.{DSID, general_tags}
use Rattle.rules.specs.ByTag.{front, with_tag}
use Rattle.rules.specs.Kind.{general_rows}
use Rattle.rules.specs.Grammar.{in_order}
use Rattle.rules.specs.Content.{stands}
use Rattle.rules.specs.declared.Mode.{Mode}
use Rattle.rules.specs.declared.Mode.TheVariants.{InDataset, InUpdate}

-- ---- on its own

-- in an update UPDN is at least 1
unfoldable pub general_format : Mode → Format
general_format InDataset = Dsid
general_format InUpdate = DsidUpdate

-- DSID, then any of the unread fields in their order, each at most once (4); DSID has its format (5)
unfoldable pub general_record : Mode → List Field → Passed
general_record m [] = no (fault 4 1 0)
general_record m (f ∷ fs) =
    let right = bind (in_order (λ t. false) general_rows 2 fs) (λ _. stands 1 (general_format m) f.body) in
    pick (eqb f.tag DSID) right (no (fault 4 1 0))

-- the values of DSID: RCNM, RCID, ENSP, ENED, PRSP, PRED, PROF, DSNM, EDTN, UPDN, ISDT
unfoldable pub dsid_of : List Field → List Val
dsid_of fs = values (head_of Dsid) (front fs)

-- DSNM
unfoldable pub name_of : List Field → List ℕ
name_of fs = text_at (dsid_of fs) 7

-- EDTN
unfoldable pub edition_of : List Field → ℕ
edition_of fs = num_at (dsid_of fs) 8

-- UPDN
unfoldable pub number_of : List Field → ℕ
number_of fs = num_at (dsid_of fs) 9

-- ---- after an update

-- EDTN and DSNM equal the dataset's, UPDN is its plus one
unfoldable pub number8 : List Field → List Field → Passed
number8 old new =
    let name = same (name_of new) (name_of old) in
    let edition = eqb (edition_of new) (edition_of old) in
    let number = eqb (number_of new) (number_of old + 1) in
    pick (both name (both edition number)) pass (no (fault 8 1 0))

-- an unread field comes from the update if there, else from the dataset
unfoldable pub newer : List Field → List Field → ℕ → List Field
newer old new t = let kept = with_tag t old in let given = with_tag t new in pick (empty given) kept given

-- the update's DSID, and then those, in their order
unfoldable pub merged : List Field → List Field → List Field
merged old new = take 1 new ++ gather (newer old new) general_tags
