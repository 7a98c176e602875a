-- Each record of a dataset or an update that is read passed its own tests. Assumes nothing.
use Prim.Native.Nat.{ℕ, ◌+◌, ◌<◌}
use mathlib.Core.Path.{◌≡◌, ap, ◌∙◌}
use mathlib.Core.Option.{Option, some, none}
use mathlib.Core.List.{List, [], ◌∷◌, ◌++◌}
use native.Mathlib.Omega.{arith}
use borrow.Author.Tests.{ne_eqb}
use lib.ListN.{drop}
use lib.Dec.{eqb, ltb}
use Rattle.base.specs.Choice.{pick}
use Rattle.base.specs.Check.{ok, no, bind, fault, pass, passed}
use Rattle.base.specs.Lists.{each, Each}
use Rattle.base.proofs.CheckLaws.{bind_inv, ok_inj, refused}
use Rattle.base.proofs.EachLaws.{each_join}
use Rattle.skeleton.specs.File.{Field}
use Rattle.rules.specs.Tags.{CSID}
use Rattle.rules.specs.ByTag.{first_tag, front}
use Rattle.rules.specs.Kind.{kind_of, rank}
use Rattle.rules.specs.Grammar.{ruin_byte, fields_stand, on_kind, number4}
use Rattle.rules.specs.Content.{number5}
use Rattle.rules.specs.Trees.{number6}
use Rattle.rules.specs.Associations.{number7}
use Rattle.rules.specs.Record.{Rec, key_of, dataset_record, update_record}
use Rattle.rules.specs.General.{general_record}
use Rattle.rules.specs.Written.{Dataset}
use Rattle.rules.specs.Outcome.{done, at}
use Rattle.rules.specs.File.{last_rank, dataset_test, update_test, through, read_dataset, Sent, read_update}
use Rattle.rules.specs.declared.Kind.{Kind}
use Rattle.rules.specs.declared.Mode.{Mode}
use Rattle.rules.specs.declared.Mode.TheVariants.{InDataset, InUpdate}
use Rattle.rules.proofs.OutcomeLaws.{and_then_inv, at_inv, done_inj}
use Rattle.sequence.proofs.Tests.{by_bool}
use Rattle.updates.specs.Acts.{kind_in}
use Rattle.updates.proofs.Read.{is_read_lem, is_sent_lem}

-- some record of a dataset, after some others
pub record FromFields (r : Rec) : Type 0 where
  pub least : ℕ
  pub earlier : List (List ℕ)
  pub fields : List Field
  pub passes : dataset_record least earlier fields ≡ ok r

-- what a dataset's test gives was made of fields that passed
test_made : (n : ℕ) (seen : List Rec) (fs : List Field) (new : List Rec) → dataset_test n seen fs ≡ ok new → Each FromFields new
unfolding dataset_test Each
test_made n seen fs new e =
    by_bool (eqb n 1)
    (λ h. rw (← ok_inj [] new (rw h at e)) tt)
    (λ h. by_bool (eqb n 2)
    (λ g. let (t, x, y) = bind_inv (general_record InDataset fs) (λ _. ok []) new (rw (h, g) at e) in rw (← ok_inj [] new y) tt)
    (λ g. by_bool (eqb n 3)
    (λ l. let (t, x, y) = bind_inv (pick (eqb (first_tag fs) CSID) pass (no (fault 4 1 0))) (λ _. ok []) new (rw (h, g, l) at e) in rw (← ok_inj [] new y) tt)
    (λ l. let (r, x, y) = bind_inv (dataset_record (last_rank seen) (each key_of seen) fs) (λ r. ok (r ∷ [])) new (rw (h, g, l) at e) in
    rw (← ok_inj (r ∷ []) new y) (record { least = last_rank seen; earlier = each key_of seen; fields = fs; passes = x }, tt))))

-- so were all records of a file
through_made : (n : ℕ) (seen : List Rec) (items : List (List Field)) (recs : List Rec) → through dataset_test 1 n seen items ≡ done recs → Each FromFields recs
unfolding through
through_made n seen [] recs e = rw (← done_inj [] recs e) (unfold Each in tt)
through_made n seen (fs ∷ rest) recs e =
    let (new, a, b) = and_then_inv (at 1 n (dataset_test n seen fs)) _ recs e in
    let (later, c, d) = and_then_inv (through dataset_test 1 (n + 1) (new ++ seen) rest) _ recs b in
    rw (← done_inj (new ++ later) recs d)
    (each_join FromFields new later (test_made n seen fs new (at_inv 1 n (dataset_test n seen fs) new a)) (through_made (n + 1) (new ++ seen) rest later c))

-- each record of a dataset that is read was made of fields that passed 4 to 7
pub read_made : (f : List ℕ) (d : Dataset) → read_dataset f ≡ done d → Each FromFields d.records
read_made f d e = let i = is_read_lem f d e in through_made 1 [] i.items d.records i.tested

-- an update record that passed its own tests
abbrev pub Passes : List Field → Type 0
Passes fs = (k : Kind) × (update_record fs ≡ ok k)

-- a record after the second
test_passes : (n : ℕ) (seen : List Rec) (fs : List Field) (new : List Rec) → 2 < n → update_test n seen fs ≡ ok new → Passes fs
unfolding update_test passed
test_passes n seen fs new h e =
    let (t, p, q) = bind_inv (passed (update_record fs)) (λ _. ok []) new (rw (ne_eqb n 1 (λ z. omega arith), ne_eqb n 2 (λ z. omega arith)) at e) in
    let (k, u, v) = bind_inv (update_record fs) (λ _. pass) t p in
    (k, u)

-- all of them
through_passes : (n : ℕ) (seen : List Rec) (items : List (List Field)) (recs : List Rec) → 2 < n → through update_test 2 n seen items ≡ done recs → Each Passes items
unfolding through Each
through_passes n seen [] recs h e = tt
through_passes n seen (fs ∷ rest) recs h e =
    let (new, a, b) = and_then_inv (at 2 n (update_test n seen fs)) _ recs e in
    let (later, c, d) = and_then_inv (through update_test 2 (n + 1) (new ++ seen) rest) _ recs b in
    (test_passes n seen fs new h (at_inv 2 n (update_test n seen fs) new a), through_passes (n + 1) (new ++ seen) rest later (omega arith) c)

-- the records of a file after its first two
from_third : (items : List (List Field)) → through update_test 2 1 [] items ≡ done [] → Each Passes (drop 2 items)
unfolding Each through
from_third [] e = tt
from_third (a ∷ []) e = tt
from_third (a ∷ b ∷ rest) e =
    let (one, x, y) = and_then_inv (at 2 1 (update_test 1 [] a)) _ [] e in
    let (later, v, w) = and_then_inv (through update_test 2 2 (one ++ []) (b ∷ rest)) _ [] y in
    let (two, p, q) = and_then_inv (at 2 2 (update_test 2 (one ++ []) b)) _ later v in
    let (last, m, o) = and_then_inv (through update_test 2 3 (two ++ (one ++ [])) rest) _ later q in
    through_passes 3 (two ++ (one ++ [])) rest last (omega arith) m

-- each record of an update that is read passed 4 to 7 on its own
pub sent_passes : (f : List ℕ) (u : Sent) → read_update f ≡ done u → Each Passes u.records
sent_passes f u e = let s = is_sent_lem f u e in rw (ap (λ (z : Sent). z.records) s.said) (from_third s.items s.tested)

-- ---- the kind of an update record

-- a kind that passes 4 is that of the first tag
number4_kind : (m : Mode) (least : ℕ) (fs : List Field) (k : Kind) → number4 m least fs ≡ ok k → kind_in fs ≡ some k
unfolding number4 first_tag
number4_kind m least [] k e = refused e
number4_kind m least (f ∷ fs) k e = go (kind_of f.tag) e
  where
    go : (o : Option Kind) → on_kind o (λ k. pick (ltb (rank k) least) (no (fault 4 1 0)) (bind (fields_stand m k f.body fs) (λ _. ok k))) ≡ ok k → o ≡ some k
    go none x = refused x
    go (some j) x =
        by_bool (ltb (rank j) least)
        (λ h. refused (rw h at x))
        (λ h. let (t, y, z) = bind_inv (fields_stand m j f.body fs) (λ _. ok j) k (rw h at x) in ap {B = Option Kind} some (ok_inj j k z))

-- an update record that passes has the kind of its first tag
pub passes_kind : (fs : List Field) (k : Kind) → update_record fs ≡ ok k → kind_in fs ≡ some k
unfolding update_record
passes_kind fs k e =
    let (j, a, b) = bind_inv (number4 InUpdate 0 fs) _ k e in
    let (t, c, d) = bind_inv (number5 InUpdate j fs) _ k b in
    let (s, g, h) = bind_inv (number6 InUpdate j fs) _ k d in
    let z : j ≡ k =
    by_bool (eqb (ruin_byte j (front fs)) 1)
    (λ i. let (v, x, y) = bind_inv (number7 fs) (λ _. ok j) k (rw i at h) in ok_inj j k y)
    (λ i. ok_inj j k (rw i at h)) in
    number4_kind InUpdate 0 fs j a ∙ ap {B = Option Kind} some z
