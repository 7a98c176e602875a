-- Laws of the records of a dataset from a byte on. Assumes nothing.
use Prim.Native.Nat.{ℕ, ◌+◌, ◌≤◌, ◌<◌}
use mathlib.Core.Path.{◌≡◌, sym, ap, ◌∙◌}
use mathlib.Core.Bool.{Bool, true, false}
use mathlib.Core.Option.{Option, some, none}
use mathlib.Core.List.{List, [], ◌∷◌}
use native.Mathlib.Omega.{arith}
use borrow.Author.Tests.{le-ltb}
use lib.Dec.{ltb}
use lib.ListN.{length}
use Rattle.std.specs.Prelude.{Result, Ok, Err}
use Rattle.base.specs.Choice.{pick}
use Rattle.base.specs.Check.{ok, no, bind, fault}
use Rattle.base.specs.Lists.{each, Each}
use Rattle.base.specs.Keys.{among}
use Rattle.base.specs.Walk.{Got}
use Rattle.base.proofs.CheckLaws.{refused as not_passed, bind_inv, ok_inj}
use Rattle.skeleton.specs.File.{Field, records_from}
use Rattle.skeleton.specs.Leader.{number_of}
use Rattle.skeleton.specs.Place.{between, fields_at}
use Rattle.skeleton.specs.Record.{record_at}
use Rattle.skeleton.specs.declared.leader.Head.{Head}
use Rattle.skeleton.specs.declared.leader.Broken.{Broken}
use Rattle.skeleton.proofs.FileLaws.{records_more, records_refused, records_over}
use Rattle.skeleton.proofs.LeaderLaws.{number_some}
use Rattle.rules.specs.Kind.{rank, kind_of}
use Rattle.rules.specs.ByTag.{first_tag}
use Rattle.rules.specs.Grammar.{on_kind, fields_stand, number4}
use Rattle.rules.specs.Content.{number5}
use Rattle.rules.specs.Trees.{number6}
use Rattle.rules.specs.Associations.{number7}
use Rattle.rules.specs.Record.{Rec, rec_of, key_of, dataset_record}
use Rattle.rules.specs.Outcome.{done}
use Rattle.rules.specs.File.{dataset_test, taken}
use Rattle.rules.specs.declared.Kind.{Kind}
use Rattle.rules.specs.declared.Mode.TheVariants.{InDataset}
use Rattle.rules.proofs.FileLaws.{taken_inv, through_each}
use Rattle.updates.specs.Acts.{kind_in}
use Rattle.stock.specs.Stock.{rec_by, rec_in, AnyStored, stock_from, Stock}

-- ---- one record

-- number 4 with no kind before it
four_alone : (least : ℕ) (fs : List Field) (k : Kind) → number4 InDataset least fs ≡ ok k → (number4 InDataset 0 fs ≡ ok k) × (kind_in fs ≡ some k)
unfolding number4 first_tag
four_alone least [] k e = not_passed e
four_alone least (f ∷ fs) k e = by_kind (kind_of f.tag) e
  where
    by_rank : (j : Kind) (b : Bool) → pick b (no (fault 4 1 0)) (bind (fields_stand InDataset j f.body fs) (λ _. ok j)) ≡ ok k
        → (pick (ltb (rank j) 0) (no (fault 4 1 0)) (bind (fields_stand InDataset j f.body fs) (λ _. ok j)) ≡ ok k) × (some j ≡ some k)
    by_rank j true x = not_passed x
    by_rank j false x =
        let r = bind_inv (fields_stand InDataset j f.body fs) (λ _. ok j) k x in
        (rw (le-ltb (rank j) 0 (omega arith)) x, ap (λ (i : Kind). some i) (ok_inj j k r.2))

    by_kind : (o : Option Kind) → on_kind o (λ j. pick (ltb (rank j) least) (no (fault 4 1 0)) (bind (fields_stand InDataset j f.body fs) (λ _. ok j))) ≡ ok k
        → (on_kind o (λ j. pick (ltb (rank j) 0) (no (fault 4 1 0)) (bind (fields_stand InDataset j f.body fs) (λ _. ok j))) ≡ ok k) × (o ≡ some k)
    by_kind none x = not_passed x
    by_kind (some j) x = by_rank j (ltb (rank j) least) x

-- a record that passed is stored, and is what its fields say
pub record_stored : (least : ℕ) (earlier : List (List ℕ)) (fs : List Field) (r : Rec) → dataset_record least earlier fs ≡ ok r
    → AnyStored fs × (r ≡ rec_in fs)
unfolding dataset_record rec_by
record_stored least earlier fs r e =
    let a = bind_inv (number4 InDataset least fs) _ r e in
    let k = a.0 in
    let b = bind_inv (number5 InDataset k fs) _ r a.2 in
    let c = bind_inv (number6 InDataset k fs) _ r b.2 in
    let f = four_alone least fs k a.1 in
    let same : rec_of k fs ≡ r = go (among (key_of (rec_of k fs)) earlier) (rec_of k fs) c.2 in
    ((k, record { four = f.0; five = b.1; six = c.1 }), sym same ∙ sym (ap (λ (o : Option Kind). rec_by o fs) f.1))
  where
    go : (t : Bool) (s : Rec) → pick t (no (fault 7 1 0)) (bind (number7 fs) (λ _. ok s)) ≡ ok r → s ≡ r
    go true s x = absurd (let z : ◌≡◌ {A = ℕ} 0 1 = cc in omega arith)
    go false s x = let d = bind_inv (number7 fs) (λ _. ok s) r x in ok_inj s r d.2

-- ---- all of them

-- the records of a dataset from the fourth on
pub taken_stock : (f : List ℕ) (start : ℕ) (recs : List Rec) → taken dataset_test 1 3 4 [] (records_from f start) ≡ done recs
    → Stock f start × (recs ≡ stock_from f start)
unfolding stock_from
taken_stock f start recs e =
    let a = taken_inv (records_from f start) recs e in
    let b = through_each AnyStored rec_in record_stored (records_from f start).items 4 [] recs (omega arith) a.1 in
    (record { ended = a.0; right = b.0 }, b.1)

-- ---- one after the other

module _ (f : List ℕ) (p : ℕ) (s : Stock f p) where
  -- where the file ends there are no more
  pub stock_over : length f ≤ p → stock_from f p ≡ []
  unfolding stock_from each
  stock_over h = ap (λ (g : Got (List Field)). each rec_in g.items) (records_over f p h)

  module _ (h : p < length f) (q : Result Head Broken) (e : q ≡ record_at f p) where
    -- no record is refused
    pub stock_good : (y : Broken) → q ≡ Err y → ⊥
    stock_good y x =
        let a : (records_from f p).ending ≡ number_of y = ap (λ (g : Got (List Field)). g.ending) (records_refused f p h q e y x) in
        let b = number_some y in
        let z : number_of y ≡ 0 = sym a ∙ s.ended in
        omega arith

    module _ (d : Head) (x : q ≡ Ok d) where
      -- the record at p
      abbrev fields : List Field
      fields = fields_at (between f p (p + d.len)) d.shape 24

      more_items : (records_from f p).items ≡ fields ∷ (records_from f (p + d.len)).items
      more_items = ap (λ (g : Got (List Field)). g.items) (records_more f p h q e d x)

      -- is one as in a dataset
      pub stock_here : AnyStored fields
      unfolding Each
      stock_here = (rw more_items at s.right).0

      -- and those behind it are the others
      pub stock_more : Stock f (p + d.len)
      unfolding Each
      stock_more = record { ended = sym (ap (λ (g : Got (List Field)). g.ending) (records_more f p h q e d x)) ∙ s.ended; right = (rw more_items at s.right).1 }

      pub stock_next : stock_from f p ≡ rec_in fields ∷ stock_from f (p + d.len)
      unfolding stock_from each
      stock_next = ap (each rec_in) more_items
