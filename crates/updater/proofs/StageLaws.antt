-- From each way out of the updater to the rules' outcome, up to the general records. Assumes nothing.
use Prim.Native.Nat.{ℕ, ◌≤◌, ◌<◌}
use mathlib.Core.Path.{◌≡◌, refl, sym, ap, ◌∙◌, subst}
use mathlib.Core.List.{List}
use native.Mathlib.Omega.{arith}
use borrow.Author.Tests.{lt-ltb, le-ltb}
use lib.ListN.{length}
use Rattle.std.specs.Prelude.{Result, Ok, Err}
use Rattle.base.specs.Check.{Check, ok, no, fault}
use Rattle.base.specs.declared.Fault.{Fault}
use Rattle.base.specs.declared.Refusal.{Refusal}
use Rattle.base.proofs.CheckLaws.{bind_inv, ok_inj}
use Rattle.skeleton.specs.File.{Field, records_of}
use Rattle.fields.specs.Valid.{Bytes}
use Rattle.rules.specs.General.{number8, merged}
use Rattle.rules.specs.Written.{Dataset, written, written_length, number12}
use Rattle.rules.specs.Outcome.{Outcome, done, refused, and_then, at}
use Rattle.rules.specs.File.{sent_as, read_dataset, writable, read_update}
use Rattle.rules.specs.Update.{general}
use Rattle.rules.specs.Answers.{Written, refusal, success, not_too_long, enough_work, read_outcome, read_answer, read, output_of, update}
use Rattle.rules.specs.declared.Answer.{Answer}
use Rattle.rules.proofs.LengthLaws.{short_record}
use Rattle.rules.proofs.OutcomeLaws.{refuses}
use Rattle.numbers.specs.Zero.{Done}
use Rattle.numbers.proofs.Answers.{zero_is_done}
use Rattle.updates.specs.Streamed.{streamed_to, streamed_outcome}
use Rattle.updates.proofs.Streams.{streams}
use Rattle.writer.specs.Forms.{forms_from}
use Rattle.writer.specs.Measured.{said_by, measured_from}
use Rattle.writer.proofs.FormsLaws.{read_forms}
use Rattle.writer.proofs.MeasureLaws.{all_short, first_long}
use Rattle.incoming.specs.Came.{came_by, behind_two}
use Rattle.incoming.proofs.FittingLaws.{came_stopped, came_fit}
use Rattle.updater.specs.Told.{general_by}
use Rattle.updater.specs.Stages.{sent_general, Legible, Tested, Fits, Built}

-- an answer that refuses
abbrev pub refusing : ℕ → ℕ → ℕ → Answer
refusing number file n = record { number = number; file = file; rec = n; length = 0; count = 0 }

-- ---- the answer, by the outcome

module _ (f u : List ℕ) (room size : ℕ) where
  pub answer_refused : (file n : ℕ) (x : Fault) → streamed_outcome room size f u ≡ refused file n x → (update f u room size).answer ≡ refusing x.number file n
  unfolding update output_of refusal
  answer_refused file n x e = ap (λ (m : Outcome Written). (output_of room m).answer) (streams room size f u ∙ e)

  pub built_refused : (file n : ℕ) (x : Fault) → streamed_outcome room size f u ≡ refused file n x → (o : List ℕ) → Built f u room size (refusing x.number file n) o
  built_refused file n x e o =
      record { said = sym (answer_refused file n x e); stands = λ w z. refuses (sym (streams room size f u ∙ e) ∙ z) }

-- an answer that says the same
pub built_as : (f u : List ℕ) (room size : ℕ) (a b : Answer) (o : List ℕ) → a ≡ b → Built f u room size b o → Built f u room size a o
built_as f u room size a b o same k = subst (λ (y : Answer). Built f u room size y o) (sym same) k

-- ---- 15, 14, 14

module _ (f u : List ℕ) (room size : ℕ) where
  pub little_work : size < 400000 → (o : List ℕ) → Built f u room size (refusing 15 0 0) o
  unfolding streamed_outcome enough_work and_then
  little_work h o = built_refused f u room size 0 0 (fault 15 0 0) (rw (lt-ltb size 400000 h)) o

  module _ (big : 400000 ≤ size) where
    pub long_dataset : 16777216 < length f → (o : List ℕ) → Built f u room size (refusing 14 1 0) o
    unfolding streamed_outcome enough_work not_too_long and_then
    long_dataset h o = built_refused f u room size 1 0 (fault 14 0 0) (rw (le-ltb size 400000 big, lt-ltb 16777216 (length f) h)) o

    module _ (short : length f ≤ 16777216) where
      pub long_update : 16777216 < length u → (o : List ℕ) → Built f u room size (refusing 14 2 0) o
      unfolding streamed_outcome enough_work not_too_long and_then
      long_update h o =
          built_refused f u room size 2 0 (fault 14 0 0) (rw (le-ltb size 400000 big, le-ltb 16777216 (length f) short, lt-ltb 16777216 (length u) h)) o

      -- all three passed
      reached : length u ≤ 16777216
          → streamed_outcome room size f u ≡ and_then (read_dataset f) (λ d. and_then (writable d) (λ w. and_then (read_update u) (λ s. streamed_to room w s)))
      unfolding streamed_outcome enough_work not_too_long and_then
      reached h = rw (le-ltb size 400000 big, le-ltb 16777216 (length f) short, le-ltb 16777216 (length u) h)

-- ---- the dataset: as the reader, then 12

module _ (f : List ℕ) (short : length f ≤ 16777216) (a : Answer) (ea : a ≡ read f) where
  answer_is : a ≡ read_answer (read_dataset f)
  unfolding read read_outcome not_too_long and_then
  answer_is = ea ∙ rw (le-ltb 16777216 (length f) short)

  -- what the reader refuses
  pub unread : (a.number ≡ 0 → ⊥) → (u : List ℕ) (room size : ℕ) → 400000 ≤ size → length u ≤ 16777216 → (o : List ℕ) → Built f u room size a o
  unfolding read_answer success refusal and_then
  unread z u room size big new o = go (read_dataset f) refl
    where
      go : (c : Outcome Dataset) → read_dataset f ≡ c → Built f u room size a o
      go (done d) h = absurd (z (ap (λ (y : Answer). y.number) (answer_is ∙ ap read_answer h)))
      go (refused file n x) h =
          let said : a ≡ refusing x.number file n = answer_is ∙ ap read_answer h in
          rw said (built_refused f u room size file n x (reached f u room size big short new ∙ rw h) o)

  -- what it reads
  pub is_legible : a.number ≡ 0 → Legible f
  unfolding read_outcome not_too_long and_then
  is_legible z =
      let r : Done (read_outcome f) = (zero_is_done.reads f).0 (sym (ap (λ (y : Answer). y.number) ea) ∙ z) in
      record { short = short; dataset = r.0; is_read = rw (le-ltb 16777216 (length f) short) at r.1 }

module _ (f : List ℕ) (k : Legible f) (g : Bytes f) (m : Result ℕ ℕ) (em : said_by m ≡ measured_from 1 0 (forms_from f 0 1)) where
  forms_are : said_by m ≡ measured_from 1 0 (written k.dataset)
  forms_are = em ∙ ap (measured_from 1 0) (read_forms f k.dataset g k.is_read)

  pub unwritable : (n : ℕ) → m ≡ Err n → (u : List ℕ) (room size : ℕ) → 400000 ≤ size → length u ≤ 16777216 → (o : List ℕ) → Built f u room size (refusing 12 1 n) o
  unfolding writable and_then
  unwritable n x u room size big new o =
      built_refused f u room size 1 n (fault 12 0 0)
      (reached f u room size big k.short new ∙ rw k.is_read (rw (first_long n (written k.dataset) (ap said_by (sym x) ∙ forms_are)))) o

  -- what it measures has passed all its tests
  pub is_tested : (total : ℕ) → m ≡ Ok total → Tested f
  unfolding writable and_then
  is_tested total x =
      record { short = k.short; dataset = k.dataset; is_read = k.is_read; is_writable = rw (all_short total (written k.dataset) (ap said_by (sym x) ∙ forms_are)).0 }

-- ---- the update's first pass

module _ (f : List ℕ) (k : Tested f) (u : List ℕ) (new : length u ≤ 16777216) (c : Result ℕ Refusal) (ec : c ≡ came_by (behind_two u) (read_update u)) where
  pub unsent : (r : Refusal) → c ≡ Err r → (room size : ℕ) → 400000 ≤ size → (o : List ℕ) → Built f u room size (refusing r.fault.number 2 r.rec) o
  unfolding and_then
  unsent r y room size big o =
      built_refused f u room size 2 r.rec r.fault
      (reached f u room size big k.short new ∙ rw k.is_read (rw k.is_writable (rw (came_stopped u r (sym y ∙ ec))))) o

  pub is_sent_lem : (us : ℕ) → c ≡ Ok us → Fits f u us
  is_sent_lem us y =
      record {
        old_short = k.short;
        new_short = new;
        dataset = k.dataset;
        is_read = k.is_read;
        is_writable = k.is_writable;
        fitting = came_fit u us (sym y ∙ ec);
      }

-- ---- the general records: 8 and 12

module _ (f u : List ℕ) (us : ℕ) (k : Fits f u us) where
  -- what is left to be done
  pub fits_on : (room size : ℕ) → 400000 ≤ size → streamed_outcome room size f u ≡ streamed_to room k.dataset (sent_as (records_of u).items)
  unfolding and_then
  fits_on room size big =
      reached f u room size big k.old_short k.new_short ∙ rw k.is_read (rw k.is_writable (rw k.fitting.read))

  module _ (r : Result ℕ Fault) (er : r ≡ general_by (general k.dataset.general (sent_general u))) where
    pub unlike : (y : Fault) → r ≡ Err y → (room size : ℕ) → 400000 ≤ size → (o : List ℕ) → Built f u room size (refusing y.number 2 2) o
    unfolding general_by streamed_to and_then at
    unlike y x room size big o = go (general k.dataset.general (sent_general u)) refl (sym x ∙ er)
      where
        go : (c : Check (List Field)) → general k.dataset.general (sent_general u) ≡ c → Err y ≡ general_by c → Built f u room size (refusing y.number 2 2) o
        go (ok fs) e h = absurd (let w : ◌≡◌ {A = ℕ} 0 1 = cc in omega arith)
        go (no z) e h =
            let same : y.number ≡ z.number = ap (λ (x : Fault). x.number) (let w : y ≡ fault z.number 0 0 = cc in w) in
            rw same (built_refused f u room size 2 2 z (fits_on room size big ∙ rw e) o)

-- the result's general record, where it stands
pub general_inv : (old new g : List Field) → general old new ≡ ok g → (g ≡ merged old new) × (written_length (merged old new) ≤ 99999)
unfolding general
general_inv old new g e =
    let (_, a, b) = bind_inv (number8 old new) _ g e in
    let (_, c, d) = bind_inv (number12 (merged old new)) _ g b in
    (sym (ok_inj (merged old new) g d), short_record (merged old new) c)

pub general_long : (old new : List Field) (n : ℕ) → Ok n ≡ general_by (general old new)
    → (general old new ≡ ok (merged old new)) × (n ≡ written_length (merged old new)) × (n ≤ 99999)
unfolding general_by
general_long old new n x = go (general old new) refl x
  where
    go : (c : Check (List Field)) → general old new ≡ c → Ok n ≡ general_by c
        → (general old new ≡ ok (merged old new)) × (n ≡ written_length (merged old new)) × (n ≤ 99999)
    go (no z) e y = absurd (let w : ◌≡◌ {A = ℕ} 0 1 = cc in omega arith)
    go (ok g) e y =
        let (same, short) = general_inv old new g e in
        let long : n ≡ written_length g = cc in
        let told : n ≡ written_length (merged old new) = long ∙ ap written_length same in
        (e ∙ ap ok same, told, omega arith)
