-- An update applied to a dataset.
use Rattle.std.specs.Prelude.{ℕ, ◌+◌, List, [], ◌∷◌, ltb}
use Rattle.std.proofs.Math.Option.{Option, some, none}
use Rattle.base.specs.Choice.{pick}
use Rattle.base.specs.Check.{Check, ok, bind}
use Rattle.base.specs.Lists.{each}
use Rattle.base.specs.Keys.{same}
use Rattle.skeleton.specs.File.{Field}
use Rattle.rules.specs.ByTag.{first_tag}
use Rattle.rules.specs.Kind.{kind_of, rank}
use Rattle.rules.specs.Grammar.{on_kind}
use Rattle.rules.specs.Record.{Rec, key_named, key_of}
use Rattle.rules.specs.General.{number8, merged}
use Rattle.rules.specs.Written.{Dataset, written_fields, number12}
use Rattle.rules.specs.Outcome.{Outcome, done, and_then, at}
use Rattle.rules.specs.File.{Sent, references}
use Rattle.rules.specs.Change.{change}
use Rattle.rules.specs.declared.Kind.{Kind}

-- ---- the records, with one of them changed

-- the latest version of the record with key k
unfoldable pub find : List ℕ → List Rec → Option Rec
find k [] = none
find k (r ∷ rs) = let later = find k rs in pick (same (key_of r) k) (some r) later

-- a new record joins the end of its kind
unfoldable pub settle : Rec → List Rec → List Rec
settle r [] = r ∷ []
settle r (x ∷ xs) = let later = x ∷ settle r xs in pick (ltb (rank r.kind) (rank x.kind)) (r ∷ x ∷ xs) later

-- a changed record keeps its place
unfoldable pub replace : List ℕ → Rec → List Rec → List Rec
replace k r [] = []
replace k r (x ∷ xs) = let later = x ∷ replace k r xs in pick (same (key_of x) k) (r ∷ xs) later

-- a deleted record leaves
unfoldable pub remove : List ℕ → List Rec → List Rec
remove k [] = []
remove k (x ∷ xs) = let later = x ∷ remove k xs in pick (same (key_of x) k) xs later

-- the records, where the record with key k was old, or none, and has become new, or none
unfoldable pub store : List ℕ → Option Rec → Option Rec → List Rec → List Rec
store k none none rs = rs
store k none (some new) rs = settle new rs
store k (some old) none rs = remove k rs
store k (some old) (some new) rs = replace k new rs

-- ---- the update's records in file order, each on the latest version

-- one update record of kind k
unfoldable pub step_as : Kind → List Field → List Rec → Check (List Rec)
step_as k fs rs =
    let key = key_named k fs in
    let old = find key rs in
    bind (change k fs old) (λ new. ok (store key old new rs))

-- one update record
unfoldable pub step : List Field → List Rec → Check (List Rec)
step fs rs = on_kind (kind_of (first_tag fs)) (λ k. step_as k fs rs)

-- the update records from number n on
unfoldable pub steps : ℕ → List (List Field) → List Rec → Outcome (List Rec)
steps n [] rs = done rs
steps n (fs ∷ rest) rs = and_then (at 2 n (step fs rs)) (λ rs'. steps (n + 1) rest rs')

-- ---- the result

-- the general record: 8, and then 12
unfoldable pub general : List Field → List Field → Check (List Field)
general old new = bind (number8 old new) (λ _. bind (number12 (merged old new)) (λ _. ok (merged old new)))

-- the general record, the update's records, and then the references of the result
unfoldable pub updated : Dataset → Sent → Outcome Dataset
updated d u =
    and_then (at 2 2 (general d.general u.general)) (λ g.
    and_then (steps 3 u.records d.records) (λ rs.
    and_then (references 3 rs (each written_fields rs)) (λ _.
    done (record { descriptive = d.descriptive; general = g; systems = d.systems; records = rs }))))
