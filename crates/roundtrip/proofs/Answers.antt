-- Written forms at reader, writer and updater: what was written is read as the same dataset and written again as it is. Assumes nothing.
use Prim.Native.Nat.{ℕ, ◌-◌, ◌≤◌}
use mathlib.Core.Path.{◌≡◌, sym, ap, ◌∙◌, subst}
use mathlib.Core.List.{List, ◌++◌}
use borrow.Author.Tests.{le-ltb, ltb-false}
use lib.ListN.{length, replicate}
use lib.Dec.{ltb}
use Rattle.fields.specs.Valid.{Bytes}
use Rattle.rules.specs.Written.{Dataset, written_bytes, count}
use Rattle.rules.specs.Outcome.{done, and_then}
use Rattle.rules.specs.File.{read_dataset, writable, Sent, read_update}
use Rattle.rules.specs.Update.{updated}
use Rattle.rules.specs.Answers.{success, not_too_long, read_outcome, read_answer, read, Written, room_for, output_of, write_outcome, write, enough_work, update_outcome}
use Rattle.rules.proofs.OutcomeLaws.{and_then_inv, done_inj, refuses}
use Rattle.sequence.proofs.Tests.{by_bool}
use Rattle.updates.proofs.Kept.{result_writable}
use Rattle.sound.specs.Sound.{Sound}
use Rattle.sound.proofs.Read.{read_sound}
use Rattle.sound.proofs.Updated.{updated_sound}
use Rattle.roundtrip.specs.Form.{form_of, Form}
use Rattle.roundtrip.proofs.Dataset.{round_trip}
use Rattle.roundtrip.proofs.Bytes.{written_bytes_lem}

-- ---- the written form of a sound dataset

module _ (d : Dataset) (s : Sound d) (w : writable d ≡ done d) (l : length (written_bytes d) ≤ 16777216) where
  -- not too long
  short : (file : ℕ) → not_too_long file (written_bytes d) ≡ done tt
  unfolding not_too_long
  short file = rw (le-ltb 16777216 (length (written_bytes d)) l)

  -- the reader takes it as that dataset
  pub reads : read_outcome (written_bytes d) ≡ done d
  unfolding read_outcome and_then
  reads = rw (short 1, round_trip d s w)

  -- and answers with the count of its records
  pub read_answers : read (written_bytes d) ≡ success 0 (count d)
  unfolding read read_answer
  read_answers = rw reads

  -- the writer writes it again as it is
  pub writes : (room : ℕ) → length (written_bytes d) ≤ room → write_outcome room (written_bytes d) ≡ done (form_of d)
  unfolding write_outcome room_for and_then
  writes room h = rw (reads, w, short 3, le-ltb room (length (written_bytes d)) h)

  -- and answers with its length and the count of its records
  pub write_answers : (room : ℕ) → length (written_bytes d) ≤ room
      → write (written_bytes d) room ≡ record { answer = success (length (written_bytes d)) (count d); out = written_bytes d ++ replicate (room - length (written_bytes d)) 0 }
  unfolding write output_of
  write_answers room h = rw (writes room h)

-- ---- what the writer has written

-- a dataset that is written out fits, and its bytes are its written form
room_inv : (room : ℕ) (d : Dataset) (w : Written) → room_for room d ≡ done w → (length (written_bytes d) ≤ 16777216) × (length (written_bytes d) ≤ room) × (form_of d ≡ w)
unfolding room_for not_too_long and_then
room_inv room d w e =
    by_bool (ltb 16777216 (length (written_bytes d)))
    (λ h. refuses (rw h at e))
    (λ h. by_bool (ltb room (length (written_bytes d)))
    (λ g. refuses (rw (h, g) at e))
    (λ g. (ltb-false 16777216 (length (written_bytes d)) h, ltb-false room (length (written_bytes d)) g, done_inj (form_of d) w (rw (h, g) at e))))

-- a file that was read, from any bytes that are short enough
pub outcome_inv : (f : List ℕ) (d : Dataset) → read_outcome f ≡ done d → read_dataset f ≡ done d
unfolding read_outcome
outcome_inv f d e = let (t, a, b) = and_then_inv (not_too_long 1 f) _ d e in b

-- what a reader, a writer and an updater make of it
module _ (w : Written) (d : Dataset) (f : Form w d) where
  -- the dataset's written form is not too long
  short_form : length (written_bytes d) ≤ 16777216
  short_form = subst (λ (v : Written). length v.bytes ≤ 16777216) f.is_form f.is_short

  -- it is read as that dataset
  pub form_reads : read_outcome w.bytes ≡ done d
  form_reads = ap (λ (v : Written). read_outcome v.bytes) f.is_form ∙ reads d f.sound f.is_writable short_form

  -- it is made of bytes
  pub form_bytes : Bytes w.bytes
  form_bytes = subst (λ (v : Written). Bytes v.bytes) (sym f.is_form) (written_bytes_lem d f.sound)

  -- it is written again as it is wherever there is room
  pub form_writes : (room : ℕ) → length w.bytes ≤ room → write_outcome room w.bytes ≡ done w
  form_writes room h =
      ap (λ (v : Written). write_outcome room v.bytes) f.is_form
      ∙ writes d f.sound f.is_writable short_form room (subst (λ (v : Written). length v.bytes ≤ room) f.is_form h)
      ∙ ap done (sym f.is_form)

  -- as the next dataset it is refused nowhere: what is left of the updater's tests is the workspace, the update, and the result
  pub form_updates : (room work : ℕ) (g : List ℕ)
      → update_outcome room work w.bytes g
      ≡ and_then (enough_work work) (λ _. and_then (not_too_long 2 g) (λ _. and_then (read_update g) (λ u. and_then (updated d u) (λ r. room_for room r))))
  unfolding update_outcome and_then
  form_updates room work g =
      ap (λ (v : Written). update_outcome room work v.bytes g) f.is_form
      ∙ rw (short d f.sound f.is_writable short_form 1, round_trip d f.sound f.is_writable, f.is_writable)

-- what the writer has written of a file of bytes
pub write_form : (room : ℕ) (f : List ℕ) (w : Written) → Bytes f → write_outcome room f ≡ done w → (d : Dataset) × (read_dataset f ≡ done d) × Form w d
unfolding write_outcome
write_form room f w b e =
    let (d, x, y) = and_then_inv (read_outcome f) _ w e in
    let (v, p, q) = and_then_inv (writable d) _ w y in
    let r = outcome_inv f d x in
    let z : d ≡ v = written_same d v p in
    let (k, l, m) = room_inv room d w (subst (λ (u : Dataset). room_for room u ≡ done w) (sym z) q) in
    (d, r, record { sound = read_sound f d b r; is_writable = p ∙ ap done (sym z); is_form = sym m; is_short = subst (λ (u : Written). length u.bytes ≤ 16777216) m k })
  where
    written_same : (d v : Dataset) → writable d ≡ done v → d ≡ v
    written_same d v e = unfold writable in let (t, a, b) = and_then_inv _ _ v e in done_inj d v b

-- what the updater has written of a dataset and an update, both files of bytes
pub update_form : (room work : ℕ) (f g : List ℕ) (w : Written) → Bytes f → Bytes g → update_outcome room work f g ≡ done w
    → (d : Dataset) × (u : Sent) × (r : Dataset) × (read_dataset f ≡ done d) × (read_update g ≡ done u) × (updated d u ≡ done r) × Form w r
unfolding update_outcome writable
update_form room work f g w b c e =
    let (t1, x1, e1) = and_then_inv (enough_work work) _ w e in
    let (t2, x2, e2) = and_then_inv (not_too_long 1 f) _ w e1 in
    let (t3, x3, e3) = and_then_inv (not_too_long 2 g) _ w e2 in
    let (d, x4, e4) = and_then_inv (read_dataset f) _ w e3 in
    let (v, x5, e5) = and_then_inv (writable d) _ w e4 in
    let (u, x6, e6) = and_then_inv (read_update g) _ w e5 in
    let (r, x7, e7) = and_then_inv (updated v u) _ w e6 in
    let (t8, x8, e8) = and_then_inv _ _ v x5 in
    let z : d ≡ v = done_inj d v e8 in
    let can : writable d ≡ done d = x5 ∙ ap done (sym z) in
    let up : updated d u ≡ done r = ap (λ (q : Dataset). updated q u) z ∙ x7 in
    let (k, l, m) = room_inv room r w e7 in (
      d,
      u,
      r,
      x4,
      x6,
      up,
      record {
        sound = updated_sound g d u r c (read_sound f d b x4) x6 up;
        is_writable = result_writable d u r can up;
        is_form = sym m;
        is_short = subst (λ (q : Written). length q.bytes ≤ 16777216) m k;
      },
    )
