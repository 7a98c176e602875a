-- Where the first records of a dataset and of an update stand. Assumes nothing.
use Prim.Native.Nat.{ℕ, ◌+◌, ◌≤◌, ◌<◌}
use mathlib.Core.Path.{◌≡◌, refl, sym, ap, ◌∙◌}
use mathlib.Core.List.{List, [], ◌∷◌}
use native.Mathlib.Omega.{arith}
use lib.ListN.{length, get_or, drop}
use Rattle.base.specs.Walk.{Got, before}
use Rattle.skeleton.specs.File.{Field, records_from, records_of}
use Rattle.skeleton.specs.Leader.{good}
use Rattle.skeleton.specs.Place.{between, fields_at}
use Rattle.skeleton.specs.Record.{record_at}
use Rattle.skeleton.specs.declared.directory.Shape.{Shape}
use Rattle.skeleton.specs.declared.leader.Head.{Head}
use Rattle.skeleton.proofs.FileLaws.{records_all}
use Rattle.skeleton.proofs.RecordLaws.{right}
use Rattle.rules.specs.General.{general_record}
use Rattle.rules.specs.Written.{Dataset}
use Rattle.rules.specs.Outcome.{done, and_then}
use Rattle.rules.specs.File.{Stored, stored_as, dataset_test, taken, dataset_of, references, read_dataset}
use Rattle.rules.specs.declared.Mode.TheVariants.{InDataset}
use Rattle.rules.proofs.OutcomeLaws.{and_then_inv, done_inj}
use Rattle.opening.specs.Carried.{carried, begins_csid, unread, first_two, first_three}
use Rattle.opening.proofs.CarriedLaws.{behind_in}
use Rattle.opening.proofs.OpeningLaws.{Over, carried_over, from_fourth, opened}
use Rattle.keys.proofs.ReferenceLaws.{taken_reads, reads_sound}
use Rattle.stock.proofs.StockLaws.{taken_stock}
use Rattle.incoming.specs.Fitting.{Fitting}
use Rattle.updater.proofs.TiedLaws.{references_tied}
use Rattle.updater.specs.Pieces.{There, Cut, Lies, fields_in, Run}
use Rattle.updater.specs.Stages.{sent_general, Opens}
use Rattle.updater.specs.declared.front.Piece.{Piece}

-- ---- a dataset

-- a record that was passed over
run_of : {f : List ℕ} {p e : ℕ} (test : List Field → _) (o : Over test f p e) (fs : List Field) → fs ≡ fields_at (between f p (p + o.long)) o.shape 24 → Run f p e fs
run_of test o fs x = record { long = o.long; shape = o.shape; there = o.there; behind = o.behind; fields = x }

-- the first three, one behind the other
record Thrice (f : List ℕ) (ds : ℕ) : Type 0 where
  second : ℕ
  third : ℕ
  one : Over unread f 0 second
  two : Over (general_record InDataset) f second third
  three : Over begins_csid f third ds
  inside : ds ≤ length f

thrice : (f : List ℕ) (ds : ℕ) → first_three f ≡ done ds → Thrice f ds
unfolding first_three first_two
thrice f ds z =
    let x = and_then_inv (and_then (carried 1 1 unread f 0) (λ p. carried 1 2 (general_record InDataset) f p)) (λ q. carried 1 3 begins_csid f q) ds z in
    let y = and_then_inv (carried 1 1 unread f 0) (λ p. carried 1 2 (general_record InDataset) f p) x.0 x.1 in
    record {
      second = y.0;
      third = x.0;
      one = carried_over 1 1 unread f 0 y.0 y.1;
      two = carried_over 1 2 (general_record InDataset) f y.0 x.0 y.2;
      three = carried_over 1 3 begins_csid f x.0 ds x.2;
      inside = behind_in 1 3 begins_csid f x.0 ds x.2;
    }

-- all records of the file
thrice_items : (f : List ℕ) (ds : ℕ) (t : Thrice f ds)
    → (records_of f).items
    ≡ fields_at (between f 0 (0 + t.one.long)) t.one.shape 24
    ∷ (fields_at (between f t.second (t.second + t.two.long)) t.two.shape 24
    ∷ (fields_at (between f t.third (t.third + t.three.long)) t.three.shape 24 ∷ (records_from f ds).items))
thrice_items f ds t =
    let h : 0 < length f = t.one.inside in
    ap (λ (g : Got (List Field)). g.items)
    (records_all f (λ (w : length f ≡ 0). omega arith) ∙ t.one.one_more ∙ ap (before _) (t.two.one_more ∙ ap (before _) t.three.one_more))

-- a dataset that is read
pub dataset_opens : (f : List ℕ) (d : Dataset) → read_dataset f ≡ done d → (ds : ℕ) × Opens f d ds
unfolding read_dataset dataset_of
dataset_opens f d e =
    let (s, a, b) = and_then_inv (dataset_of (records_of f)) _ d e in
    let (_, p, q) = and_then_inv (references 1 s.dataset.records s.sent) _ d b in
    let (recs, x, y) = and_then_inv (taken dataset_test 1 3 1 [] (records_of f)) _ s a in
    let (ds, front, later) = and_then_inv (first_three f) (from_fourth f) recs (sym (opened f) ∙ x) in
    let k : d ≡ (stored_as (records_of f).items recs).dataset = sym (ap (λ (z : Stored). z.dataset) (done_inj _ s y) ∙ done_inj _ d q) in
    let t = thrice f ds front in
    let i = thrice_items f ds t in
    let stock = taken_stock f ds recs later in
    let reads = taken_reads f ds recs later in
    let named : references 1 recs (records_from f ds).items ≡ done tt
    = ap (references 1 recs) (sym (ap (drop 3) i)) ∙ ap (λ (z : Stored). references 1 z.dataset.records z.sent) (done_inj _ s y) ∙ p in
    let general : d.general ≡ fields_at (between f t.second (t.second + t.two.long)) t.two.shape 24
    = ap (λ (z : Dataset). z.general) k ∙ ap (λ (l : List (List Field)). get_or l 1 []) i in (
      ds,
      record {
        second = t.second;
        third = t.third;
        one = run_of _ t.one d.descriptive (ap (λ (z : Dataset). z.descriptive) k ∙ ap (λ (l : List (List Field)). get_or l 0 []) i);
        two = run_of _ t.two d.general general;
        three = run_of _ t.three d.systems (ap (λ (z : Dataset). z.systems) k ∙ ap (λ (l : List (List Field)). get_or l 2 []) i);
        passed = ap (general_record InDataset) general ∙ t.two.passed;
        inside = t.inside;
        stock = stock.0;
        records = ap (λ (z : Dataset). z.records) k ∙ stock.1;
        sound = λ short. reads_sound f ds recs reads short t.inside;
        tied = references_tied f ds recs reads.numbered named;
      },
    )

-- ---- pieces

-- what the skeleton finds at a place is one record
same_head : (l l' : ℕ) (h h' : Shape) → good l h ≡ good l' h' → ◌≡◌ {A = Head} (record { len = l; shape = h }) (record { len = l'; shape = h' })
same_head l l' h h' e = cc

same_long : (l l' : ℕ) (h h' : Shape) → good l h ≡ good l' h' → l ≡ l'
same_long l l' h h' e = ap (λ (d : Head). d.len) (same_head l l' h h' e)

same_shape : (l l' : ℕ) (h h' : Shape) → good l h ≡ good l' h' → h ≡ h'
same_shape l l' h h' e = ap (λ (d : Head). d.shape) (same_head l l' h h' e)

module _ (f : List ℕ) (p e : ℕ) (fs : List Field) (run : Run f p e fs) where
  pub run_there : There f p
  run_there = (run.long, run.shape, run.there)

  pub run_in : p ≤ length f
  run_in = let r = right f p (record_at f p) refl (record { len = run.long; shape = run.shape }) run.there in omega (arith, r.inside)

  module _ (r : Piece) (c : Cut f p r) where
    lengths_same : c.long ≡ run.long
    lengths_same = same_long _ _ _ _ (sym c.there ∙ run.there)

    pub cut_end : r.end ≡ e
    cut_end = c.behind ∙ ap (λ (n : ℕ). p + n) lengths_same ∙ run.behind

    pub cut_fields : fields_in f r ≡ fs
    cut_fields =
        let s = same_shape c.long run.long r.shape run.shape (sym c.there ∙ run.there) in
        rw (c.start, c.behind, lengths_same, s) (sym run.fields)

    pub cut_lies : length f ≤ 16777216 → Lies f r
    cut_lies h =
        let k = right f p (record_at f p) refl (record { len = c.long; shape = r.shape }) c.there in
        record { short = h; bounded = k.bounded; runs = omega (arith, c.start, c.behind); inside = omega (arith, c.behind, k.inside) }

-- ---- an update

module _ (u : List ℕ) (us : ℕ) (k : Fitting u us) where
  -- its first record
  pub update_first : Run u 0 k.second (fields_at (between u 0 (0 + k.second)) k.first_shape 24)
  update_first = record { long = k.second; shape = k.first_shape; there = k.first_there; behind = omega arith; fields = refl }

  -- its general record
  pub update_second : Run u k.second us (sent_general u)
  update_second = record { long = k.long; shape = k.shape; there = k.there; behind = k.behind; fields = k.general }
