-- One update record on the latest version of the record that it names: none, where there is no such record.
use Rattle.std.specs.Prelude.{ℕ, ◌+◌, List, [], ◌∷◌, eqb}
use Rattle.std.proofs.Math.Option.{Option, some, none}
use Rattle.base.specs.Choice.{pick, both}
use Rattle.base.specs.Check.{Check, ok, no, bind, fault, Passed, pass}
use Rattle.base.specs.Keys.{same}
use Rattle.skeleton.specs.File.{Field}
use Rattle.rules.specs.Tags.{FOID}
use Rattle.rules.specs.ByTag.{front}
use Rattle.rules.specs.Coordinates.{sent}
use Rattle.rules.specs.Record.{Ident, ident_of, Parts, Rec, rec_of, foid_of}
use Rattle.rules.specs.Written.{written_fields, number12}
use Rattle.rules.specs.Modify.{act_fields}
use Rattle.rules.specs.declared.Kind.{Kind}

-- RVER is the old one plus one and the code is the old one, else 10
unfoldable pub follows : Ident → Rec → Passed
follows id old =
    pick (both (eqb id.rver (old.rver + 1)) (eqb id.code old.code)) pass (no (fault 10 1 0))

-- FOID, if among the fields from number i on, is the old one, else 10
unfoldable pub same_foid : ℕ → List Field → Rec → Passed
same_foid i [] old = pass
same_foid i (f ∷ fs) old =
    let later = same_foid (i + 1) fs old in
    let here = pick (same (foid_of f.body) old.foid) later (no (fault 10 i 0)) in
    pick (eqb f.tag FOID) here later

-- a record that can be written, else 12
unfoldable pub fitting : Rec → Check (Option Rec)
fitting r = bind (number12 (written_fields r)) (λ _. ok (some r))

-- the old record with a new RVER and new parts
unfoldable pub revised : ℕ → Parts → Rec → Rec
revised v p old = record { kind = old.kind; rcid = old.rcid; code = old.code; rver = v; foid = old.foid; parts = p }

-- insert: key absent (7), RVER 1 (10), and then 12
unfoldable pub inserted : Kind → List Field → Option Rec → Check (Option Rec)
inserted k fs none =
    let new = fitting (rec_of k fs) in
    pick (eqb (ident_of k (front fs)).rver 1) new (no (fault 10 1 0))
inserted k fs (some old) = no (fault 7 1 0)

-- delete: key present (9), RVER old plus one and code unchanged (10)
unfoldable pub deleted : Kind → List Field → Option Rec → Check (Option Rec)
deleted k fs none = no (fault 9 1 0)
deleted k fs (some old) = bind (follows (ident_of k (front fs)) old) (λ _. ok none)

-- modify: key present (9), RVER old plus one, code and FOID unchanged (10), its fields in order (6, 7, 9), and then 12
unfoldable pub modified : Kind → List Field → Option Rec → Check (Option Rec)
modified k fs none = no (fault 9 1 0)
modified k fs (some old) =
    bind (follows (ident_of k (front fs)) old) (λ _.
    bind (same_foid 1 fs old) (λ _.
    bind (act_fields (sent fs) 1 fs old.parts) (λ new. fitting (revised (ident_of k (front fs)).rver new old))))

-- what an update record makes of it, by its instruction, RUIN
unfoldable pub change : Kind → List Field → Option Rec → Check (Option Rec)
change k fs old =
    let ruin = (ident_of k (front fs)).ruin in
    let as-insert = inserted k fs old in
    let as-delete = deleted k fs old in
    let as-modify = modified k fs old in
    pick (eqb ruin 1) as-insert (pick (eqb ruin 2) as-delete as-modify)
