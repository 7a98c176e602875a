-- Number 4: tag, or order or absence of a field.
use Rattle.std.specs.Prelude.{ℕ, ◌+◌, Bool, true, not, List, [], ◌∷◌, get_or, eqb, ltb}
use Rattle.std.proofs.Math.Option.{Option, some, none}
use Rattle.base.specs.Choice.{pick, both, either}
use Rattle.base.specs.Check.{Check, ok, no, bind, fault, Passed, pass}
use Rattle.skeleton.specs.File.{Field}
use Rattle.rules.specs.Tags.{COCC, C2IL}
use Rattle.rules.specs.ByTag.{has, bodies}
use Rattle.rules.specs.Kind.{Row, kind_of, rank, coded, rows_of}
use Rattle.rules.specs.declared.Kind.{Kind}
use Rattle.rules.specs.declared.Mode.{Mode}
use Rattle.rules.specs.declared.Mode.TheVariants.{InDataset, InUpdate}

-- ---- fields in order

-- the rows that a field with this tag leaves for those after it; none where it may not stand
unfoldable pub rows_after : ℕ → List Row → Option (List Row)
rows_after t [] = none
rows_after t (r ∷ rs) = let later = rows_after t rs in pick (eqb r.tag t) (some (pick r.often (r ∷ rs) rs)) later

-- field i leaves rows, with which the test goes on, or may not stand
abbrev pub on_rows : Option (List Row) → ℕ → (List Row → Passed) → Passed
on_rows none i go = no (fault 4 i 0)
on_rows (some rows) i go = go rows

-- the fields from number i on stand in the order of the rows, and none is shut out
unfoldable pub in_order : (ℕ → Bool) → List Row → ℕ → List Field → Passed
in_order shut_out rows i [] = pass
in_order shut_out rows i (f ∷ fs) =
    let here = on_rows (rows_after f.tag rows) i (λ left. in_order shut_out left (i + 1) fs) in
    pick (shut_out f.tag) (no (fault 4 i 0)) here

-- every row that is needed has its field
unfoldable pub complete : List Row → List Field → Bool
complete [] fs = true
complete (r ∷ rs) fs = both (either (not r.needed) (has r.tag fs)) (complete rs fs)

-- ---- fields that an instruction does not take

-- the byte in RUIN's place in the identifier; 0, no instruction, where the field ends before it
unfoldable pub ruin_byte : Kind → List ℕ → ℕ
ruin_byte k b = pick (coded k) (get_or b 9 0) (get_or b 7 0)

-- the first byte of COCC, COUI; 0, no instruction, where there is none
unfoldable pub coui_byte : List Field → ℕ
coui_byte fs = get_or (get_or (bodies COCC fs) 0 []) 0 0

-- the record is as in a dataset: it stands in one, or it is inserted
unfoldable pub as_stored : Mode → ℕ → Bool
as_stored InDataset ruin = true
as_stored InUpdate ruin = eqb ruin 1

-- a tag that the record's instructions do not take: by RUIN, COUI, and whether there is a COCC
unfoldable pub forbidden : Mode → ℕ → ℕ → Bool → ℕ → Bool
forbidden InDataset ruin coui controlled t = eqb t COCC
forbidden InUpdate ruin coui controlled t =
    let any-in-record-delete = eqb ruin 2 in
    let cocc-in-insert = both (eqb ruin 1) (eqb t COCC) in
    let c2il-with-cocc-delete = both (eqb t C2IL) (eqb coui 2) in
    let c2il-in-modify-without-cocc = both (eqb t C2IL) (both (eqb ruin 3) (not controlled)) in
    either any-in-record-delete (either cocc-in-insert (either c2il-with-cocc-delete c2il-in-modify-without-cocc))

-- ---- one record

-- the fields fs after the identifier b of a record of kind k
unfoldable pub fields_stand : Mode → Kind → List ℕ → List Field → Passed
fields_stand m k b fs =
    let ruin = ruin_byte k b in
    let whole = pick (either (not (as_stored m ruin)) (complete (rows_of k) fs)) pass (no (fault 4 0 0)) in
    bind (in_order (forbidden m ruin (coui_byte fs) (has COCC fs)) (rows_of k) 2 fs) (λ _. whole)

-- what is to be done with a record of this kind; 4 where its first tag is of none
abbrev pub on_kind : {A : Type 0} → Option Kind → (Kind → Check A) → Check A
on_kind none go = no (fault 4 1 0)
on_kind (some k) go = go k

-- the kind of a record whose tags are right; least, the rank of the last kind before it in the file
unfoldable pub number4 : Mode → ℕ → List Field → Check Kind
number4 m least [] = no (fault 4 1 0)
number4 m least (f ∷ fs) =
    on_kind (kind_of f.tag) (λ k.
    let right = bind (fields_stand m k f.body fs) (λ _. ok k) in
    pick (ltb (rank k) least) (no (fault 4 1 0)) right)
