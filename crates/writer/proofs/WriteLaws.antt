-- Laws of the writer. Assumes nothing.
use Prim.Native.Nat.{ℕ, ◌-◌, ◌≤◌, ◌<◌}
use mathlib.Core.Path.{◌≡◌, refl, sym, ap, ◌∙◌}
use mathlib.Core.Bool.{true}
use mathlib.Core.List.{List, ◌++◌}
use native.Mathlib.Omega.{arith}
use borrow.Author.Tests.{lt-ltb, le-ltb}
use lib.ListN.{length, take}
use Rattle.std.specs.Prelude.{Result, Ok, Err}
use Rattle.base.specs.Check.{fault}
use Rattle.base.specs.declared.Fault.{Fault}
use Rattle.memory.specs.Hold.{zeros, hold}
use Rattle.memory.specs.Wrote.{Wrote}
use Rattle.memory.proofs.WroteLaws.{wrote_length, wrote_take}
use Rattle.skeleton.specs.Emit.{emits}
use Rattle.fields.specs.Valid.{Bytes}
use Rattle.rules.specs.Written.{Dataset, field_width, written, written_bytes, count}
use Rattle.rules.specs.Outcome.{Outcome, done, refused, and_then}
use Rattle.rules.specs.File.{writable}
use Rattle.rules.specs.Answers.{refusal, success, not_too_long, read_outcome, read_answer, read, Output, room_for, output_of, write_outcome, write}
use Rattle.rules.specs.declared.Answer.{Answer}
use Rattle.promises.specs.Promise.{Writes}
use Rattle.numbers.specs.Zero.{Done}
use Rattle.numbers.proofs.Answers.{zero_is_done}
use Rattle.writer.specs.Forms.{forms_from, lengths}
use Rattle.writer.specs.Measured.{said_by, measured_from}
use Rattle.writer.specs.Ready.{Ready}
use Rattle.writer.proofs.FormsLaws.{read_forms, read_inv}
use Rattle.writer.proofs.MeasureLaws.{all_short, first_long, lengths_emits}

-- a refusal: its answer, and an output that is wholly zero
refused_as : (f : List ℕ) (room file n : ℕ) (x : Fault) → write_outcome room f ≡ refused file n x
    → write f room ≡ record { answer = record { number = x.number; file = file; rec = n; length = 0; count = 0 }; out = zeros room }
unfolding write output_of refusal zeros
refused_as f room file n x e = ap (output_of room) e

answers_refused : (f : List ℕ) (room file n : ℕ) (x : Fault) (r : Answer) (o : List ℕ) → write_outcome room f ≡ refused file n x
    → r ≡ record { number = x.number; file = file; rec = n; length = 0; count = 0 } → o ≡ zeros room → Writes f room r o
answers_refused f room file n x r o e er eo =
    let w = refused_as f room file n x e in
    record { answers = er ∙ sym (ap (λ (y : Output). y.answer) w); fills = eo ∙ sym (ap (λ (y : Output). y.out) w) }

-- ---- a dataset that can be written

module _ (f : List ℕ) (size records : ℕ) (k : Ready f size records) where
  outcome : (room : ℕ) → write_outcome room f ≡ room_for room k.dataset
  unfolding write_outcome and_then
  outcome room = rw k.is_read (rw k.is_writable)

  form_long : size ≡ length (written_bytes k.dataset)
  unfolding written_bytes
  form_long = k.long ∙ sym (lengths_emits true (written k.dataset))

  -- its bytes, from the fields of the file
  form_is : emits field_width field_width true (forms_from f 0 1) ≡ written_bytes k.dataset
  unfolding written_bytes
  form_is = ap (emits field_width field_width true) k.forms

  pub out_long : (room : ℕ) → 16777216 < size → (r : Answer) (o : List ℕ) → r ≡ record { number = 14; file = 3; rec = 0; length = 0; count = 0 } → o ≡ zeros room
      → Writes f room r o
  unfolding room_for not_too_long and_then
  out_long room h r o =
      answers_refused f room 3 0 (fault 14 0 0) r o
      (outcome room ∙ rw (lt-ltb 16777216 (length (written_bytes k.dataset)) (omega (arith, form_long))))

  module _ (s : size ≤ 16777216) where
    short : not_too_long 3 (written_bytes k.dataset) ≡ done tt
    unfolding not_too_long
    short = rw (le-ltb 16777216 (length (written_bytes k.dataset)) (omega (arith, form_long)))

    pub out_short : (room : ℕ) → room < size → (r : Answer) (o : List ℕ) → r ≡ record { number = 13; file = 3; rec = 0; length = 0; count = 0 } → o ≡ zeros room
        → Writes f room r o
    unfolding room_for and_then
    out_short room h r o =
        answers_refused f room 3 0 (fault 13 0 0) r o
        (outcome room ∙ rw (short, lt-ltb room (length (written_bytes k.dataset)) (omega (arith, form_long))))

    module _ (out : List ℕ) (g : size ≤ length out) where
      pub out_room : lengths (forms_from f 0 1) ≤ length out
      out_room = omega (arith, k.long, ap lengths k.forms)

      room_there : room_for (length out) k.dataset ≡ done (record { bytes = written_bytes k.dataset; records = count k.dataset })
      unfolding room_for and_then
      room_there = rw (short, le-ltb (length out) (length (written_bytes k.dataset)) (omega (arith, form_long)))

      -- what is written out
      fits : write f (length out)
          ≡ record {
            answer = record { number = 0; file = 0; rec = 0; length = length (written_bytes k.dataset); count = count k.dataset };
            out = written_bytes k.dataset ++ zeros (length out - length (written_bytes k.dataset));
          }
      unfolding write output_of success zeros
      fits = ap (output_of (length out)) (outcome (length out) ∙ room_there)

      module _ (end : ℕ) (o : List ℕ) (w : Wrote 0 (emits field_width field_width true (forms_from f 0 1)) out end o) where
        end_is : end ≡ length (written_bytes k.dataset)
        end_is = w.next ∙ omega (arith, ap length form_is)

        pub out_end : end ≤ length o
        out_end = omega (arith, end_is, form_long, wrote_length w)

        pub out_done : (o' : List ℕ) → o' ≡ hold (length o) (take end o) → Writes f (length out) (record { number = 0; file = 0; rec = 0; length = end; count = records }) o'
        unfolding hold
        out_done o' e =
            let front : take end o ≡ written_bytes k.dataset = wrote_take w (omega (arith, form_long, ap length form_is)) ∙ form_is in
            record { answers = rw (fits, end_is, k.counted); fills = rw (fits, e, front, wrote_length w) }

pub ruleset out_ways = (out_long, out_short, out_room, out_end, out_done, arith)

-- ---- any bytes

module _ (f : List ℕ) (a : Answer) (ea : a ≡ read f) where
  -- what the reader refuses
  pub answer_refused : (a.number ≡ 0 → ⊥) → (room : ℕ) (r : Answer) (o : List ℕ)
      → r ≡ record { number = a.number; file = a.file; rec = a.rec; length = 0; count = 0 } → o ≡ zeros room → Writes f room r o
  unfolding read read_answer write_outcome and_then refusal success
  answer_refused z room r o er eo = go (read_outcome f) refl
    where
      go : (c : Outcome Dataset) → read_outcome f ≡ c → Writes f room r o
      go (done d) h = absurd (z (ap (λ (y : Answer). y.number) (ea ∙ ap read_answer h)))
      go (refused file n x) h =
          let said = ap {B = Answer} (λ y. record { number = y.number; file = y.file; rec = y.rec; length = 0; count = 0 }) (ea ∙ ap read_answer h) in
          answers_refused f room file n x r o (unfold write_outcome and_then in rw h) (er ∙ said) eo

  module _ (z : a.number ≡ 0) where
    is_done : Done (read_outcome f)
    is_done = (zero_is_done.reads f).0 (sym (ap (λ (y : Answer). y.number) ea) ∙ z)

    pub answer_small : length f ≤ 16777216
    answer_small = (read_inv f is_done.0 is_done.1).0

    module _ (g : Bytes f) (m : Result ℕ ℕ) (em : said_by m ≡ measured_from 1 0 (forms_from f 0 1)) where
      forms_are : forms_from f 0 1 ≡ written is_done.0
      forms_are = read_forms f is_done.0 g (read_inv f is_done.0 is_done.1).1

      pub answer_ready : (size : ℕ) → m ≡ Ok size → Ready f size a.count
      unfolding writable and_then read read_answer success
      answer_ready size x =
          let (s, l) = all_short size (written is_done.0) (ap said_by (sym x) ∙ em ∙ ap (measured_from 1 0) forms_are) in
          record {
            dataset = is_done.0;
            is_read = is_done.1;
            is_writable = rw s;
            forms = forms_are;
            long = omega arith;
            counted = ap (λ (y : Answer). y.count) (ea ∙ ap read_answer is_done.1);
          }

      pub answer_long : (n : ℕ) → m ≡ Err n → (room : ℕ) (r : Answer) (o : List ℕ) → r ≡ record { number = 12; file = 1; rec = n; length = 0; count = 0 }
          → o ≡ zeros room → Writes f room r o
      unfolding write_outcome writable and_then
      answer_long n x room r o =
          let s = first_long n (written is_done.0) (ap said_by (sym x) ∙ em ∙ ap (measured_from 1 0) forms_are) in
          answers_refused f room 1 n (fault 12 0 0) r o (rw is_done.1 (rw s))
