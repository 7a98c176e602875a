-- What a dataset and an update that are read went through. Assumes nothing.
use Prim.Native.Nat.{ℕ, ◌+◌, ◌<◌}
use mathlib.Core.Path.{◌≡◌, sym, ap, ◌∙◌}
use mathlib.Core.List.{List, [], ◌∷◌, ◌++◌}
use native.Mathlib.Omega.{arith}
use lib.ListN.{length, get_or, drop}
use lib.Dec.{eqb}
use Rattle.base.specs.Check.{ok, pass, passed}
use Rattle.base.specs.Walk.{Got}
use Rattle.base.proofs.CheckLaws.{bind_inv, ok_inj}
use Rattle.skeleton.specs.File.{Field, records_of}
use Rattle.rules.specs.Record.{Rec, update_record}
use Rattle.rules.specs.General.{general_record}
use Rattle.rules.specs.Written.{Dataset}
use Rattle.rules.specs.Outcome.{done, at}
use Rattle.rules.specs.File.{dataset_test, update_test, through, taken, Stored, stored_as, dataset_of, references, read_dataset, Sent, sent_as, update_of, read_update}
use Rattle.rules.specs.declared.Mode.TheVariants.{InUpdate}
use Rattle.rules.proofs.OutcomeLaws.{and_then_inv, at_inv, done_inj}
use Rattle.rules.proofs.FileLaws.{ending_inv}
use Rattle.sequence.proofs.Tests.{by_bool}

-- what a dataset that is read went through
pub record IsRead (f : List ℕ) (d : Dataset) : Type 0 where
  pub items : List (List Field)
  pub walked : records_of f ≡ record { items = items; ending = 0 }
  pub enough : 3 < 1 + length items
  pub tested : through dataset_test 1 1 [] items ≡ done d.records
  pub said : d ≡ (stored_as items d.records).dataset
  pub referred : references 1 d.records (drop 3 items) ≡ done tt

-- a walk with these items and this ending
walk_as : {A : Type 0} (g : Got A) → g.ending ≡ 0 → g ≡ record { items = g.items; ending = 0 }
walk_as g e = λ i. record { items = g.items; ending = e i }

-- every dataset that is read did
pub is_read_lem : (f : List ℕ) (d : Dataset) → read_dataset f ≡ done d → IsRead f d
unfolding read_dataset dataset_of taken
is_read_lem f d e =
    let (s, a, b) = and_then_inv (dataset_of (records_of f)) _ d e in
    let (t, p, q) = and_then_inv (references 1 s.dataset.records s.sent) _ d b in
    let (recs, x, y) = and_then_inv (taken dataset_test 1 3 1 [] (records_of f)) _ s a in
    let (found, v, w) = and_then_inv (through dataset_test 1 1 [] (records_of f).items) _ recs x in
    let (m, n, o) = ending_inv 1 3 (1 + length (records_of f).items) (records_of f).ending found recs w in
    let i : stored_as (records_of f).items recs ≡ s = done_inj _ s y in
    let j : s.dataset ≡ d = done_inj _ d q in
    let k : (stored_as (records_of f).items recs).dataset ≡ d = ap (λ (z : Stored). z.dataset) i ∙ j in
    let r : recs ≡ d.records = ap (λ (z : Dataset). z.records) k in
    record {
      items = (records_of f).items;
      walked = walk_as (records_of f) m;
      enough = n;
      tested = v ∙ ap done (o ∙ r);
      said = sym k ∙ ap (λ (z : List Rec). (stored_as (records_of f).items z).dataset) r;
      referred = ap (λ (z : List Rec). references 1 z (drop 3 (records_of f).items)) (sym r) ∙ ap (λ (z : Stored). references 1 z.dataset.records z.sent) i ∙ p;
    }

-- what an update that is read went through
pub record IsSent (f : List ℕ) (u : Sent) : Type 0 where
  pub items : List (List Field)
  pub walked : records_of f ≡ record { items = items; ending = 0 }
  pub enough : 2 < 1 + length items
  pub tested : through update_test 2 1 [] items ≡ done []
  pub said : u ≡ sent_as items

-- the records of an update add none to those of a dataset
adds_none_lem : (n : ℕ) (seen : List Rec) (fs : List Field) (new : List Rec) → update_test n seen fs ≡ ok new → new ≡ []
unfolding update_test
adds_none_lem n seen fs new e =
    by_bool (eqb n 1)
    (λ h. sym (ok_inj [] new (rw h at e)))
    (λ h. by_bool (eqb n 2)
    (λ g. let (t, x, y) = bind_inv (general_record InUpdate fs) (λ _. ok []) new (rw (h, g) at e) in sym (ok_inj [] new y))
    (λ g. let (t, x, y) = bind_inv (passed (update_record fs)) (λ _. ok []) new (rw (h, g) at e) in sym (ok_inj [] new y)))

-- none and none are none
none_and_none : (a b c : List Rec) → a ≡ [] → b ≡ [] → a ++ b ≡ c → c ≡ []
none_and_none a b c x y e = sym e ∙ rw (x, y)

-- nor do all of them
through_none : (n : ℕ) (seen : List Rec) (items : List (List Field)) (recs : List Rec) → through update_test 2 n seen items ≡ done recs → recs ≡ []
unfolding through
through_none n seen [] recs e = sym (done_inj [] recs e)
through_none n seen (fs ∷ rest) recs e =
    let (new, a, b) = and_then_inv (at 2 n (update_test n seen fs)) _ recs e in
    let (later, c, d) = and_then_inv (through update_test 2 (n + 1) (new ++ seen) rest) _ recs b in
    let x : new ≡ [] = adds_none_lem n seen fs new (at_inv 2 n (update_test n seen fs) new a) in
    let y : later ≡ [] = through_none (n + 1) (new ++ seen) rest later c in
    none_and_none new later recs x y (done_inj (new ++ later) recs d)

-- every update that is read did
pub is_sent_lem : (f : List ℕ) (u : Sent) → read_update f ≡ done u → IsSent f u
unfolding read_update update_of taken
is_sent_lem f u e =
    let (recs, x, y) = and_then_inv (taken update_test 2 2 1 [] (records_of f)) _ u e in
    let (found, v, w) = and_then_inv (through update_test 2 1 [] (records_of f).items) _ recs x in
    let (m, n, o) = ending_inv 2 2 (1 + length (records_of f).items) (records_of f).ending found recs w in
    record {
      items = (records_of f).items;
      walked = walk_as (records_of f) m;
      enough = n;
      tested = v ∙ ap done (through_none 1 [] (records_of f).items found v);
      said = sym (done_inj _ u y);
    }

-- the general record of an update that is read
general_tested : (items : List (List Field)) → 2 < 1 + length items → through update_test 2 1 [] items ≡ done [] → general_record InUpdate (get_or items 1 []) ≡ pass
unfolding through update_test
general_tested [] n e = absurd (omega arith)
general_tested (a ∷ []) n e = absurd (omega arith)
general_tested (a ∷ b ∷ rest) n e =
    let (one, x, y) = and_then_inv (at 2 1 (update_test 1 [] a)) _ [] e in
    let (later, v, w) = and_then_inv (through update_test 2 2 (one ++ []) (b ∷ rest)) _ [] y in
    let (two, p, q) = and_then_inv (at 2 2 (update_test 2 (one ++ []) b)) _ later v in
    let (t, g, h) = bind_inv (general_record InUpdate b) (λ _. ok []) two (at_inv 2 2 (update_test 2 (one ++ []) b) two p) in
    g

-- it begins with DSID
pub general_sent : (f : List ℕ) (u : Sent) → read_update f ≡ done u → general_record InUpdate u.general ≡ pass
general_sent f u e = let s = is_sent_lem f u e in rw (ap (λ (z : Sent). z.general) s.said) (general_tested s.items s.enough s.tested)
