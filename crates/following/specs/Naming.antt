-- How the DSID of an update follows that of a dataset.
use Rattle.std.specs.Prelude.{ℕ, ◌+◌, ◌≡◌, Bool, true, List, eqb}
use Rattle.base.specs.Choice.{both}
use Rattle.base.specs.Keys.{same}
use Rattle.fields.specs.Table.{head_of, tuple_of}
use Rattle.fields.specs.Content.{fill}
use Rattle.fields.specs.Values.{values, num_at, text_at}
use Rattle.fields.specs.declared.Format.TheVariants.{Dsid}

-- the subfields of DSID fill a field
abbrev pub Identified : List ℕ → Type 0
Identified b = fill (head_of Dsid) (tuple_of Dsid) b ≡ true

-- DSNM (7) and EDTN (8) are the same, UPDN (9) is one more
unfoldable pub dsid_follows : List ℕ → List ℕ → Bool
dsid_follows a b =
    let old = values (head_of Dsid) a in
    let new = values (head_of Dsid) b in
    both (same (text_at new 7) (text_at old 7)) (both (eqb (num_at new 8) (num_at old 8)) (eqb (num_at new 9) (num_at old 9 + 1)))
