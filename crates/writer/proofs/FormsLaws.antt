-- The written form of a dataset that is read from bytes is that of its records' own fields, record by record. Assumes nothing.
use Prim.Native.Nat.{ℕ, ◌+◌, ◌≤◌, ◌<◌}
use mathlib.Core.Path.{◌≡◌, refl, sym, ap, ◌∙◌, subst}
use mathlib.Core.Bool.{true}
use mathlib.Core.List.{List, [], ◌∷◌, ◌++◌}
use native.Mathlib.Omega.{arith}
use borrow.Author.Tests.{lt-ltb, ltb-true, ltb-false}
use lib.ListN.{length}
use lib.Dec.{eqb, ltb}
use Rattle.std.specs.Prelude.{Result, Ok, Err}
use Rattle.base.specs.Choice.{pick}
use Rattle.base.specs.Check.{ok, no, bind, fault, Passed, pass}
use Rattle.base.specs.Lists.{each, Each}
use Rattle.base.specs.Walk.{Got}
use Rattle.base.proofs.CheckLaws.{bind_inv, ok_inj}
use Rattle.skeleton.specs.File.{Field, records_from, records_of}
use Rattle.skeleton.specs.Place.{between, fields_at}
use Rattle.skeleton.specs.Record.{record_at}
use Rattle.skeleton.specs.declared.leader.Broken.{Broken}
use Rattle.skeleton.specs.declared.leader.Head.{Head}
use Rattle.skeleton.proofs.RecordLaws.{right}
use Rattle.skeleton.proofs.FileLaws.{records_over, records_refused, records_more, records_none, records_all}
use Rattle.fields.specs.Valid.{Bytes}
use Rattle.rules.specs.Tags.{CSID}
use Rattle.rules.specs.ByTag.{first_tag}
use Rattle.rules.specs.Record.{Rec, key_of}
use Rattle.rules.specs.General.{general_record}
use Rattle.rules.specs.Written.{Dataset, written_fields, written}
use Rattle.rules.specs.Outcome.{done, and_then, at}
use Rattle.rules.specs.File.{adds_none, last_rank, dataset_test, through, stored_as, read_dataset}
use Rattle.rules.specs.Answers.{not_too_long, read_outcome}
use Rattle.rules.specs.declared.Mode.TheVariants.{InDataset}
use Rattle.rules.proofs.OutcomeLaws.{and_then_inv, at_inv, done_inj, refuses}
use Rattle.rules.proofs.FileLaws.{through_later}
use Rattle.sequence.proofs.Tests.{by_bool}
use Rattle.updates.proofs.Read.{is_read_lem}
use Rattle.sound.proofs.FileBytes.{Bodies, file_bytes}
use Rattle.writing.specs.House.{in_house_form}
use Rattle.writing.proofs.HouseLaws.{house_carried}
use Rattle.writing.proofs.OrderedLaws.{BodiesBytes}
use Rattle.writing.proofs.WrittenLaws.{written_house}
use Rattle.writer.specs.Forms.{forms_of, forms_from}

-- ---- the records from the place at hand on

module _ (f : List ℕ) (p n : ℕ) where
  -- at the end of the file there are none
  forms_over : length f ≤ p → forms_from f p n ≡ []
  unfolding forms_of
  forms_over h = rw (records_over f p h)

  module _ (h : Result Head Broken) (eh : h ≡ record_at f p) where
    -- nor where the skeleton refuses
    pub forms_refused : (k : Broken) → h ≡ Err k → forms_from f p n ≡ []
    unfolding forms_of
    forms_refused k x =
        by_bool (ltb p (length f))
        (λ l. rw (records_refused f p (ltb-true p (length f) l) h eh k x))
        (λ l. forms_over (ltb-false p (length f) l))

    -- the record at hand, and then those behind it
    pub forms_more : (d : Head) → h ≡ Ok d
        → forms_from f p n ≡ in_house_form (ltb 3 n) (fields_at (between f p (p + d.len)) d.shape 24) ∷ forms_from f (p + d.len) (n + 1)
    unfolding forms_of
    forms_more d x =
        let r = right f p h eh d x in
        let l : p < length f = omega (arith, r.long, r.inside) in
        rw (records_more f p l h eh d x)

-- ---- a dataset that is read

-- bodies that are bytes
all_bytes : (fs : List Field) → Bodies fs → BodiesBytes fs
unfolding Each
all_bytes [] g = tt
all_bytes (f ∷ fs) g = (g.0, all_bytes fs g.1)

-- the records behind the third
later_forms : (n : ℕ) (seen : List Rec) (items : List (List Field)) (recs : List Rec) → 3 < n → Each Bodies items → through dataset_test 1 n seen items ≡ done recs
    → forms_of n items ≡ each written_fields recs
unfolding through forms_of each Each
later_forms n seen [] recs l g e = rw (← done_inj [] recs e)
later_forms n seen (fs ∷ rest) recs l g e =
    let t = through_later fs rest n seen recs l e in
    let here : written_fields t.made ≡ in_house_form true fs = written_house (last_rank seen) (each key_of seen) fs t.made (all_bytes fs g.0) t.passes in
    let ih = later_forms (n + 1) (t.made ∷ seen) rest t.others (omega arith) g.1 t.onward in
    rw (← t.all, lt-ltb 3 n l, here, ih)

-- a record that adds none to those of the four kinds
skip : (n : ℕ) (own : Passed) (fs : List Field) (rest : List (List Field)) (recs : List Rec) → dataset_test n [] fs ≡ adds_none own
    → through dataset_test 1 n [] (fs ∷ rest) ≡ done recs → through dataset_test 1 (n + 1) [] rest ≡ done recs
unfolding through
skip n own fs rest recs same e =
    let (new, a, b) = and_then_inv (at 1 n (dataset_test n [] fs)) _ recs e in
    let (later, c, d) = and_then_inv (through dataset_test 1 (n + 1) (new ++ []) rest) _ recs b in
    let (u, v, w) = bind_inv own (λ _. ok []) new (sym same ∙ at_inv 1 n (dataset_test n [] fs) new a) in
    let none : [] ≡ new = ok_inj [] new w in
    ap (λ (l : List Rec). through dataset_test 1 (n + 1) (l ++ []) rest) none ∙ c ∙ ap done (ap (λ (l : List Rec). l ++ later) none ∙ done_inj (new ++ later) recs d)

-- all records
all_forms : (items : List (List Field)) (recs : List Rec) → 3 < 1 + length items → Each Bodies items → through dataset_test 1 1 [] items ≡ done recs
    → forms_of 1 items ≡ written (stored_as items recs).dataset
unfolding forms_of written Each dataset_test bind
all_forms [] recs l g e = absurd (omega arith)
all_forms (a ∷ []) recs l g e = absurd (omega arith)
all_forms (a ∷ b ∷ []) recs l g e = absurd (omega arith)
all_forms (a ∷ b ∷ c ∷ rest) recs l g e =
    let second = skip 1 pass a (b ∷ c ∷ rest) recs refl e in
    let third = skip 2 (general_record InDataset b) b (c ∷ rest) recs refl second in
    let later = skip 3 (pick (eqb (first_tag c) CSID) pass (no (fault 4 1 0))) c rest recs refl third in
    rw (house_carried a, house_carried b, house_carried c, later_forms 4 [] rest recs (omega arith) g.1.1.1 later)

-- a file of no bytes is none
some_bytes : (f : List ℕ) (items : List (List Field)) → records_of f ≡ record { items = items; ending = 0 } → length f ≡ 0 → ⊥
some_bytes f items e z = let y : ◌≡◌ {A = ℕ} 1 0 = ap (λ (g : Got (List Field)). g.ending) (sym (records_none f z) ∙ e) in omega arith

-- a dataset that is read from bytes
pub read_forms : (f : List ℕ) (d : Dataset) → Bytes f → read_dataset f ≡ done d → forms_from f 0 1 ≡ written d
read_forms f d g e =
    let i = is_read_lem f d e in
    let w : records_from f 0 ≡ record { items = i.items; ending = 0 } = sym (records_all f (some_bytes f i.items i.walked)) ∙ i.walked in
    let b : Each Bodies i.items = subst (λ (x : Got (List Field)). Each Bodies x.items) i.walked (file_bytes f g) in
    ap (λ (x : Got (List Field)). forms_of 1 x.items) w ∙ all_forms i.items d.records i.enough b i.tested ∙ ap written (sym i.said)

-- it is not too long
pub read_inv : (f : List ℕ) (d : Dataset) → read_outcome f ≡ done d → (length f ≤ 16777216) × (read_dataset f ≡ done d)
unfolding read_outcome not_too_long and_then
read_inv f d e =
    by_bool (ltb 16777216 (length f))
    (λ h. refuses (rw h at e))
    (λ h. (ltb-false 16777216 (length f) h, rw h at e))
