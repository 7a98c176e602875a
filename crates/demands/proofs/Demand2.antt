-- What writer and updater leave is as demand 2 asks. Assumes nothing.
use Prim.Native.Nat.{ℕ, ◌≤◌, ◌-◌}
use mathlib.Core.Path.{◌≡◌, refl, sym, ap, subst, ◌∙◌}
use mathlib.Core.List.{List}
use lib.ListN.{length, take, replicate}
use lib.Seq.{take-append_seam}
use Rattle.memory.specs.Hold.{zeros, hold}
use Rattle.rules.specs.Written.{Dataset}
use Rattle.rules.specs.Outcome.{done, and_then}
use Rattle.rules.specs.File.{read_dataset, writable, Sent, read_update}
use Rattle.rules.specs.Update.{updated}
use Rattle.rules.specs.Answers.{Written, success, not_too_long, read_answer, read, output_of, write, enough_work, update_outcome, update}
use Rattle.rules.specs.declared.Answer.{Answer}
use Rattle.rules.proofs.OutcomeLaws.{and_then_inv, done_inj}
use Rattle.numbers.proofs.Answers.{zero_is_done}
use Rattle.roundtrip.specs.Form.{Form}
use Rattle.roundtrip.proofs.Answers.{outcome_inv, form_reads, form_writes, write_form, update_form}
use Rattle.demands.specs.Demand2.{Means, result_of, Demand2}

-- ---- a written form

-- the answer that it comes with
abbrev said_of : Written → Answer
said_of w = success (length w.bytes) w.records

module _ (w : Written) (d : Dataset) (f : Form w d) where
  -- what the writer makes of it
  form_output : (room : ℕ) → length w.bytes ≤ room → write w.bytes room ≡ output_of room (done w)
  unfolding write
  form_output room h = ap (output_of room) (form_writes w d f room h)

  -- what the reader answers
  form_answer : read w.bytes ≡ success 0 w.records
  unfolding read read_answer
  form_answer = ap read_answer (form_reads w d f) ∙ ap (λ (v : Written). success 0 v.records) (sym f.is_form)

  means_form : Means w.bytes (said_of w) d
  unfolding success output_of hold zeros
  means_form =
      record {
        long = refl;
        is_read = outcome_inv w.bytes d (form_reads w d f);
        read_again = λ c x. x.answers ∙ form_answer;
        written_again = λ room c out h x. (x.answers ∙ ap (λ o. o.answer) (form_output room h), x.fills ∙ ap (λ o. o.out) (form_output room h));
      }

  -- so say the first bytes of an outcome that is such a form
  means_outcome : (room : ℕ) (a : Answer) (out : List ℕ) → a ≡ (output_of room (done w)).answer → out ≡ (output_of room (done w)).out → Means (take a.length out) a d
  unfolding output_of success
  means_outcome room a out x y =
      let front : take a.length out ≡ w.bytes
      = ap (λ (b : Answer). take b.length out) x ∙ ap (take (length w.bytes)) y ∙ take-append_seam w.bytes (replicate (room - length w.bytes) 0) in
      subst (λ b. Means b a d) (sym front) (subst (λ (b : Answer). Means w.bytes b d) (sym x) means_form)

-- ---- the updater's result

-- a dataset that was updated can be written
updated_writable : (room work : ℕ) (f u : List ℕ) (w : Written) (d : Dataset) → update_outcome room work f u ≡ done w → read_dataset f ≡ done d → writable d ≡ done d
unfolding update_outcome writable
updated_writable room work f u w d e h =
    let (t1, x1, e1) = and_then_inv (enough_work work) _ w e in
    let (t2, x2, e2) = and_then_inv (not_too_long 1 f) _ w e1 in
    let (t3, x3, e3) = and_then_inv (not_too_long 2 u) _ w e2 in
    let (c, x4, e4) = and_then_inv (read_dataset f) _ w e3 in
    let (v, x5, e5) = and_then_inv (writable c) _ w e4 in
    let (t6, x6, e6) = and_then_inv _ _ v x5 in
    subst (λ (q : Dataset). writable q ≡ done q) (done_inj c d (sym x4 ∙ h)) (x5 ∙ ap done (sym (done_inj c v e6)))

-- the rules in sequence, one by one
in_sequence : (f u : List ℕ) (d r : Dataset) (s : Sent) → read_dataset f ≡ done d → writable d ≡ done d → read_update u ≡ done s → updated d s ≡ done r → result_of f u ≡ done r
unfolding result_of and_then
in_sequence f u d r s x y z q = rw (x, y, z, q)

-- ---- demand 2

pub demand_two : Demand2
unfolding write update
demand_two =
    record {
      writes = λ f room a out b x z.
          let (w, e) = (zero_is_done.writes f room).0 (ap (λ (c : Answer). c.number) (sym x.answers) ∙ z) in
          let (d, r, form) = write_form room f w b e in
          (d, r, means_outcome w d form room a out (x.answers ∙ ap (λ o. (output_of room o).answer) e) (x.fills ∙ ap (λ o. (output_of room o).out) e));
      updates = λ f u room work a out space b c x z.
          let (w, e) = (zero_is_done.updates f u room work).0 (ap (λ (c : Answer). c.number) (sym x.answers) ∙ z) in
          let (d, s, r, read, sent, up, form) = update_form room work f u w b c e in (
            r,
            in_sequence f u d r s read (updated_writable room work f u w d e read) sent up,
            means_outcome w r form room a out (x.answers ∙ ap (λ o. (output_of room o).answer) e) (x.fills ∙ ap (λ o. (output_of room o).out) e),
          );
    }
