-- In a dataset that is read the kinds stand in order. Assumes nothing.
use Prim.Native.Nat.{ℕ, ◌+◌, ◌≤◌}
use mathlib.Core.Path.{◌≡◌}
use mathlib.Core.Option.{Option, some, none}
use mathlib.Core.List.{List, [], ◌∷◌, ◌++◌}
use borrow.Author.Tests.{ltb-false}
use lib.Dec.{eqb, ltb}
use Rattle.base.specs.Choice.{pick}
use Rattle.base.specs.Check.{ok, no, bind, fault, Passed, pass}
use Rattle.base.specs.Lists.{each}
use Rattle.base.specs.Keys.{among}
use Rattle.base.proofs.CheckLaws.{bind_inv, ok_inj}
use Rattle.base.proofs.CheckLaws as checks
use Rattle.skeleton.specs.File.{Field}
use Rattle.rules.specs.Tags.{CSID}
use Rattle.rules.specs.ByTag.{first_tag}
use Rattle.rules.specs.Kind.{kind_of, rank}
use Rattle.rules.specs.Grammar.{on_kind, fields_stand, number4}
use Rattle.rules.specs.Content.{number5}
use Rattle.rules.specs.Trees.{number6}
use Rattle.rules.specs.Associations.{number7}
use Rattle.rules.specs.Record.{Rec, key_of, rec_of, dataset_record}
use Rattle.rules.specs.General.{general_record}
use Rattle.rules.specs.Outcome.{done, at}
use Rattle.rules.specs.File.{last_rank, dataset_test, through}
use Rattle.rules.specs.declared.Kind.{Kind}
use Rattle.rules.specs.declared.Mode.TheVariants.{InDataset}
use Rattle.rules.proofs.OutcomeLaws.{and_then_inv, at_inv, done_inj}
use Rattle.sequence.specs.Keyed.{Ordered}
use Rattle.sequence.proofs.Tests.{by_bool}
use Rattle.updates.specs.Acts.{chart}
use Rattle.updates.proofs.Steps.{placed}

-- a kind that passes 4 has a rank that is not below the last one's
number4_rank : (least : ℕ) (fs : List Field) (k : Kind) → number4 InDataset least fs ≡ ok k → least ≤ rank k
unfolding number4
number4_rank least [] k e = checks.refused e
number4_rank least (f ∷ fs) k e = go (kind_of f.tag) e
  where
    go : (m : Option Kind)
        → on_kind m (λ k. pick (ltb (rank k) least) (no (fault 4 1 0)) (bind (fields_stand InDataset k f.body fs) (λ _. ok k))) ≡ ok k → least ≤ rank k
    go none x = checks.refused x
    go (some j) x =
        by_bool (ltb (rank j) least)
        (λ h. checks.refused (rw h at x))
        (λ h. let (t, y, z) = bind_inv (fields_stand InDataset j f.body fs) (λ _. ok j) k (rw h at x) in
        let w : j ≡ k = ok_inj j k z in
        rw (← w) (ltb-false (rank j) least h))

-- so has a record of a dataset
record_rank : (least : ℕ) (keys : List (List ℕ)) (fs : List Field) (r : Rec) → dataset_record least keys fs ≡ ok r → least ≤ rank r.kind
unfolding dataset_record rec_of
record_rank least keys fs r e =
    let (k, a, b) = bind_inv (number4 InDataset least fs) _ r e in
    let (t, c, d) = bind_inv (number5 InDataset k fs) _ r b in
    let (s, g, h) = bind_inv (number6 InDataset k fs) _ r d in
    by_bool (among (key_of (rec_of k fs)) keys)
    (λ m. checks.refused (rw m at h))
    (λ m. let (w, x, y) = bind_inv (number7 fs) (λ _. ok (rec_of k fs)) r (rw m at h) in
    rw (← ok_inj (rec_of k fs) r y) (number4_rank least fs k a))

-- a test gives no record, or one whose kind may stand there
data Next (seen : List Rec) : List Rec → Type 0 where
  next_none : Next seen []
  next_one : {r : Rec} → last_rank seen ≤ rank r.kind → Next seen (r ∷ [])

-- a test that passes, of a record that adds none
adds_none_lem : (seen : List Rec) (c : Passed) (new : List Rec) → bind c (λ _. ok []) ≡ ok new → Next seen new
adds_none_lem seen c new e = let (t, x, y) = bind_inv c (λ _. ok []) new e in rw (← ok_inj [] new y) next_none

-- a dataset's test
test_next : (n : ℕ) (seen : List Rec) (fs : List Field) (new : List Rec) → dataset_test n seen fs ≡ ok new → Next seen new
unfolding dataset_test
test_next n seen fs new e =
    by_bool (eqb n 1)
    (λ h. rw (← ok_inj [] new (rw h at e)) next_none)
    (λ h. by_bool (eqb n 2)
    (λ g. adds_none_lem seen (general_record InDataset fs) new (rw (h, g) at e))
    (λ g. by_bool (eqb n 3)
    (λ l. adds_none_lem seen (pick (eqb (first_tag fs) CSID) pass (no (fault 4 1 0))) new (rw (h, g, l) at e))
    (λ l. let (r, x, y) = bind_inv (dataset_record (last_rank seen) (each key_of seen) fs) (λ r. ok (r ∷ [])) new (rw (h, g, l) at e) in
    rw (← ok_inj (r ∷ []) new y) (next_one (record_rank (last_rank seen) (each key_of seen) fs r x)))))

-- what a test gives, before records that stand in order
by_next : (seen new later : List Rec) → Next seen new → Ordered chart (last_rank (new ++ seen)) later → Ordered chart (last_rank seen) (new ++ later)
by_next seen [] later next_none o = o
by_next seen (r ∷ []) later (next_one l) o = unfold Ordered last_rank in rw (placed r) (l, o)
by_next seen (r ∷ (_ ∷ _)) later x6 o = elim x6 [ ]

-- all records of a file
pub through_ordered : (n : ℕ) (seen : List Rec) (items : List (List Field)) (recs : List Rec) → through dataset_test 1 n seen items ≡ done recs → Ordered chart (last_rank seen) recs
unfolding through
through_ordered n seen [] recs e = rw (← done_inj [] recs e) (unfold Ordered in tt)
through_ordered n seen (fs ∷ rest) recs e =
    let (new, a, b) = and_then_inv (at 1 n (dataset_test n seen fs)) _ recs e in
    let (later, c, d) = and_then_inv (through dataset_test 1 (n + 1) (new ++ seen) rest) _ recs b in
    rw (← done_inj (new ++ later) recs d)
    (by_next seen new later (test_next n seen fs new (at_inv 1 n (dataset_test n seen fs) new a)) (through_ordered (n + 1) (new ++ seen) rest later c))
