-- In a dataset that is read each key stands once. Assumes nothing.
use mathlib.Core.Path.{◌≡◌, refl, sym, ap, ◌∙◌, subst}
use mathlib.Core.List.{List, [], ◌∷◌, ◌++◌}
use mathlib.Core.Option.{some, none}
use mathlib.Core.Bool.{Bool, true, false}
use Prim.Native.Nat.{ℕ, ◌+◌}
use native.Mathlib.Omega.{arith}
use lib.Dec.{eqb}
use Rattle.base.specs.Choice.{pick}
use Rattle.base.specs.Check.{Check, ok, no, bind, fault, Passed, pass}
use Rattle.base.specs.Lists.{each}
use Rattle.base.specs.Keys.{same, among}
use Rattle.base.specs.Walk.{Got}
use Rattle.base.proofs.KeysLaws.{same_sound, same_refl}
use Rattle.base.proofs.ChoiceLaws.{either_true}
use Rattle.skeleton.specs.File.{Field, records_of}
use Rattle.rules.specs.Tags.{CSID}
use Rattle.rules.specs.ByTag.{first_tag}
use Rattle.rules.specs.Grammar.{number4}
use Rattle.rules.specs.Content.{number5}
use Rattle.rules.specs.Trees.{number6}
use Rattle.rules.specs.Associations.{number7}
use Rattle.rules.specs.Record.{Rec, key_of, rec_of, dataset_record}
use Rattle.rules.specs.General.{general_record}
use Rattle.rules.specs.Written.{Dataset}
use Rattle.rules.specs.Outcome.{done, at}
use Rattle.rules.specs.File.{last_rank, dataset_test, through, taken, Stored, dataset_of, references, read_dataset}
use Rattle.rules.specs.Update.{find}
use Rattle.rules.specs.Versions.{Once, o_none, o_more}
use Rattle.rules.proofs.OutcomeLaws.{and_then_inv, at_inv, done_inj}
use Rattle.rules.proofs.FileLaws.{ending_inv}
use Rattle.rules.specs.declared.Mode.TheVariants.{InDataset}

-- ---- a record that passes has a key that no earlier one has

-- what a check gives has none of these keys
unfoldable pub Fresh : List (List ℕ) → Check Rec → Type 0
Fresh keys (ok r) = among (key_of r) keys ≡ false
Fresh keys (no x) = Unit {0}

-- one test after the other
fresh_then : {A : Type 0} (keys : List (List ℕ)) (m : Check A) (c : A → Check Rec) → ((a : A) → Fresh keys (c a)) → Fresh keys (bind m c)
unfolding bind Fresh
fresh_then keys (ok a) c p = p a
fresh_then keys (no x) c p = tt

-- the test of the key
fresh_pick : (keys : List (List ℕ)) (r : Rec) (x : Check Rec) (n i j : ℕ) (t : Bool) → among (key_of r) keys ≡ t
    → (among (key_of r) keys ≡ false → Fresh keys x) → Fresh keys (pick t (no (fault n i j)) x)
unfolding Fresh
fresh_pick keys r x n i j true e p = tt
fresh_pick keys r x n i j false e p = p e

-- a record with a new key
fresh_ok : (keys : List (List ℕ)) (r : Rec) → among (key_of r) keys ≡ false → Fresh keys (ok r)
unfolding Fresh
fresh_ok keys r e = e

-- a dataset's record
pub record_fresh : (least : ℕ) (keys : List (List ℕ)) (fs : List Field) → Fresh keys (dataset_record least keys fs)
unfolding dataset_record
record_fresh least keys fs =
    fresh_then keys (number4 InDataset least fs) _ (λ k. fresh_then keys (number5 InDataset k fs) _ (λ _. fresh_then keys (number6 InDataset k fs) _ (λ _.
    fresh_pick keys (rec_of k fs) _ 7 1 0 (among (key_of (rec_of k fs)) keys) refl (λ e. fresh_then keys (number7 fs) _ (λ _. fresh_ok keys (rec_of k fs) e)))))

-- ---- a test gives no record, or one that is new

-- what a test gives is no record, or one with a key that was not seen
unfoldable pub New : List Rec → Check (List Rec) → Type 0
New seen (ok []) = Unit {0}
New seen (ok (r ∷ [])) = among (key_of r) (each key_of seen) ≡ false
New seen (ok (r ∷ x ∷ xs)) = ⊥
New seen (no x) = Unit {0}

-- no record
new_none : (seen : List Rec) (c : Passed) → New seen (bind c (λ _. ok []))
unfolding New bind
new_none seen (ok a) = tt
new_none seen (no x) = tt

-- one record
new_one : (seen : List Rec) (c : Check Rec) → Fresh (each key_of seen) c → New seen (bind c (λ r. ok (r ∷ [])))
unfolding New bind Fresh
new_one seen (ok r) e = e
new_one seen (no x) e = tt

-- a choice
new_pick : (seen : List Rec) (t : Bool) (x y : Check (List Rec)) → New seen x → New seen y → New seen (pick t x y)
new_pick seen true x y p q = p
new_pick seen false x y p q = q

-- nothing
new_nil : (seen : List Rec) → New seen (ok [])
unfolding New
new_nil seen = tt

-- a dataset's test
pub test_new : (n : ℕ) (seen : List Rec) (fs : List Field) → New seen (dataset_test n seen fs)
unfolding dataset_test
test_new n seen fs =
    new_pick seen (eqb n 1) _ _ (new_nil seen)
    (new_pick seen (eqb n 2) _ _ (new_none seen (general_record InDataset fs))
    (new_pick seen (eqb n 3) _ _ (new_none seen (pick (eqb (first_tag fs) CSID) pass (no (fault 4 1 0))))
    (new_one seen (dataset_record (last_rank seen) (each key_of seen) fs) (record_fresh (last_rank seen) (each key_of seen) fs))))

-- ---- so all of them

-- no record has a key that was seen, and each key stands once
pub record Apart (seen recs : List Rec) : Type 0 where
  pub absent : (q : List ℕ) → among q (each key_of seen) ≡ true → find q recs ≡ none
  pub once : Once recs

-- a test does not both hold and fail
pub clash : (b : Bool) → b ≡ true → b ≡ false → ⊥
clash b e f = let z : ◌≡◌ {A = ℕ} 0 1 = cc in omega arith

-- one more record with a new key
apart_more : (r : Rec) (seen recs : List Rec) → among (key_of r) (each key_of seen) ≡ false → Apart (r ∷ seen) recs → Apart seen (r ∷ recs)
unfolding each among find
apart_more r seen recs f a =
    record {
      absent = λ q e. skip q e (same (key_of r) q) refl (a.absent q (rw e (either_true (same q (key_of r)))));
      once = o_more (a.absent (key_of r) (rw (same_refl (key_of r)) refl)) a.once;
    }
  where
    skip : (q : List ℕ) → among q (each key_of seen) ≡ true → (t : Bool) → same (key_of r) q ≡ t → find q recs ≡ none → pick t (some r) (find q recs) ≡ none
    skip q e true s h = absurd (clash (among q (each key_of seen)) e (ap (λ (w : List ℕ). among w (each key_of seen)) (sym (same_sound (key_of r) q s)) ∙ f))
    skip q e false s h = h

-- no record
apart_nil : (seen : List Rec) → Apart seen []
unfolding find
apart_nil seen = record { absent = λ q e. refl; once = o_none }

-- what a test gives, before records that are apart
by_new : (seen : List Rec) (c : Check (List Rec)) (new recs later : List Rec) → c ≡ ok new → New seen c → done (new ++ later) ≡ done recs
    → Apart (new ++ seen) later → Apart seen recs
unfolding New
by_new seen (no x) new recs later e m d a = absurd (let z : ◌≡◌ {A = ℕ} 0 1 = cc in omega arith)
by_new seen (ok []) new recs later e m d a =
    let z : [] ≡ new = cc in
    let y : later ≡ recs = ap (λ (w : List Rec). w ++ later) z ∙ done_inj (new ++ later) recs d in
    rw (sym y) (subst (λ (w : List Rec). Apart (w ++ seen) later) (sym z) a)
by_new seen (ok (r ∷ [])) new recs later e m d a =
    let z : r ∷ [] ≡ new = cc in
    let y : r ∷ later ≡ recs = ap (λ (w : List Rec). w ++ later) z ∙ done_inj (new ++ later) recs d in
    rw (sym y) (apart_more r seen later m (subst (λ (w : List Rec). Apart (w ++ seen) later) (sym z) a))
by_new seen (ok (r ∷ x ∷ xs)) new recs later e m d a = absurd m

-- all records of a file
pub through_apart : (n : ℕ) (seen : List Rec) (items : List (List Field)) (recs : List Rec) → through dataset_test 1 n seen items ≡ done recs → Apart seen recs
unfolding through
through_apart n seen [] recs e = rw (sym (done_inj [] recs e)) (apart_nil seen)
through_apart n seen (fs ∷ rest) recs e =
    let a = and_then_inv (at 1 n (dataset_test n seen fs)) _ recs e in
    let b = and_then_inv (through dataset_test 1 (n + 1) (a.0 ++ seen) rest) _ recs a.2 in
    by_new seen (dataset_test n seen fs) a.0 recs b.0 (at_inv 1 n (dataset_test n seen fs) a.0 a.1) (test_new n seen fs) b.2
    (through_apart (n + 1) (a.0 ++ seen) rest b.0 b.1)

-- the records of a dataset stand once
taken_once : (g : Got (List Field)) (recs : List Rec) → taken dataset_test 1 3 1 [] g ≡ done recs → Once recs
unfolding taken
taken_once g recs e =
    let a = and_then_inv (through dataset_test 1 1 [] g.items) _ recs e in
    subst Once (ending_inv 1 3 _ g.ending a.0 recs a.2).2 (through_apart 1 [] g.items a.0 a.1).once

-- of the file that it was read from
pub dataset_once : (f : List ℕ) (d : Dataset) → read_dataset f ≡ done d → Once d.records
unfolding read_dataset dataset_of
dataset_once f d e =
    let a = and_then_inv (dataset_of (records_of f)) _ d e in
    let b = and_then_inv (references 1 a.0.dataset.records a.0.sent) _ d a.2 in
    let c = and_then_inv (taken dataset_test 1 3 1 [] (records_of f)) _ a.0 a.1 in
    let y : c.0 ≡ a.0.dataset.records = ap (λ (s : Stored). s.dataset.records) (done_inj _ a.0 c.2) in
    let z : a.0.dataset.records ≡ d.records = ap (λ (x : Dataset). x.records) (done_inj _ d b.2) in
    subst Once (y ∙ z) (taken_once (records_of f) c.0 c.1)
