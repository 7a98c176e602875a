-- Room decides 13 and 15 and nothing else. Assumes nothing.
use Prim.Native.Nat.{ℕ, ◌-◌, ◌≤◌, ◌<◌}
use mathlib.Core.Path.{◌≡◌, refl, sym, ap, ◌∙◌}
use mathlib.Core.Bool.{false}
use mathlib.Core.List.{List}
use borrow.Author.Tests.{lt-ltb, le-ltb}
use lib.ListN.{length, replicate}
use lib.Seq.{take-append_seam}
use lib.Dec.{eqb, ltb}
use Rattle.base.specs.Check.{fault}
use Rattle.base.specs.declared.Fault.{Fault}
use Rattle.rules.specs.Written.{Dataset, written_bytes, count}
use Rattle.rules.specs.Outcome.{Outcome, done, refused, and_then}
use Rattle.rules.specs.File.{read_dataset, writable, read_update}
use Rattle.rules.specs.Update.{updated}
use Rattle.rules.specs.Answers.{refusal, success, Written, not_too_long, room_for, output_of, enough_work, update_outcome, update}
use Rattle.rules.proofs.OutcomeLaws.{and_then_assoc}
use Rattle.rules.proofs.ReadOnce.{clash}
use Rattle.numbers.specs.Refusals.{is_in, by_file, of_rules}
use Rattle.numbers.specs.Limited.{LimitedOutcome, limited_done, limited_refused}
use Rattle.numbers.specs.Fair.{fair}
use Rattle.numbers.proofs.Lists.{each_passes, all_in}
use Rattle.numbers.proofs.Fair.{rules_fair, not_zero}
use Rattle.numbers.proofs.Checks.{limited_then}
use Rattle.numbers.proofs.Files.{limited_read, limited_sent, limited_writable, limited_length, limited_updated}
use Rattle.sequence.proofs.Tests.{by_bool}
use Rattle.updates.proofs.Streams.{alike}
use Rattle.displays.specs.Display.{Handed, taken, after, ruled, in_room, roomed}

-- the updater: 15, then what the rules alone say, then 13
pub room_decides : (room work : ℕ) (c f : List ℕ) → update_outcome room work c f ≡ roomed room work c f
unfolding update_outcome roomed ruled room_for in_room and_then
room_decides room work c f =
    alike (enough_work work) _ _ (λ _ _.
    alike (not_too_long 1 c) _ _ (λ _ _.
    alike (not_too_long 2 f) _ _ (λ _ _.
    alike (read_dataset c) _ _ (λ d _.
    alike (writable d) _ _ (λ w _.
    alike (read_update f) _ _ (λ u _.
    alike (updated w u) _ _ (λ r _. sym (and_then_assoc (not_too_long 3 (written_bytes r)) (λ _. done r) (λ r. in_room room r)))
    ∙ sym (and_then_assoc (updated w u) _ _))
    ∙ sym (and_then_assoc (read_update f) _ _))
    ∙ sym (and_then_assoc (writable d) _ _))
    ∙ sym (and_then_assoc (read_dataset c) _ _))
    ∙ sym (and_then_assoc (not_too_long 2 f) _ _))
    ∙ sym (and_then_assoc (not_too_long 1 c) _ _))

-- the rules alone never refuse with 0, 13 or 15
pub ruled_limited : (c f : List ℕ) → LimitedOutcome of_rules (ruled c f)
unfolding ruled of_rules by_file is_in all_in each_passes
ruled_limited c f =
    limited_then _ _ (limited_length 1 refl c) (λ _.
    limited_then _ _ (limited_length 2 refl f) (λ _.
    limited_then _ _ (limited_read refl c) (λ d.
    limited_then _ _ (limited_writable refl d) (λ w.
    limited_then _ _ (limited_sent refl f) (λ u.
    limited_then _ _ (limited_updated refl refl w u) (λ r.
    limited_then _ _ (limited_length 3 refl (written_bytes r)) (λ _. limited_done)))))))

-- ---- the answers

module _ (room work : ℕ) (c f : List ℕ) where
  -- with room for the result, the result and nothing else
  pub answer_done : (r : Dataset) → ruled c f ≡ done r → length (written_bytes r) ≤ room → 400000 ≤ work
      → update c f room work ≡ output_of room (done (record { bytes = written_bytes r; records = count r }))
  unfolding update roomed enough_work in_room and_then
  answer_done r e h g = ap (output_of room) (room_decides room work c f ∙ rw (le-ltb work 400000 g, e, le-ltb room (length (written_bytes r)) h))

  -- without room for it, 13
  pub answer_13 : (r : Dataset) → ruled c f ≡ done r → room < length (written_bytes r) → 400000 ≤ work → update c f room work ≡ output_of room (refused 3 0 (fault 13 0 0))
  unfolding update roomed enough_work in_room and_then
  answer_13 r e h g = ap (output_of room) (room_decides room work c f ∙ rw (le-ltb work 400000 g, e, lt-ltb room (length (written_bytes r)) h))

  -- what the rules refuse is refused so in any room
  pub answer_refused : (file n : ℕ) (x : Fault) → ruled c f ≡ refused file n x → 400000 ≤ work → update c f room work ≡ output_of room (refused file n x)
  unfolding update roomed enough_work and_then
  answer_refused file n x e g = ap (output_of room) (room_decides room work c f ∙ rw (le-ltb work 400000 g, e))

  -- a number that is not fair, 0, 13 or 15, from a workspace that is long enough: the rules alone accept
  pub no_other : 400000 ≤ work → fair (update c f room work).answer.number ≡ false → (r : Dataset) × (ruled c f ≡ done r)
  no_other g e = go (ruled c f) refl (ruled_limited c f)
    where
      number_of_lem : (file n : ℕ) (y : Fault) → ruled c f ≡ refused file n y → y.number ≡ (update c f room work).answer.number
      number_of_lem file n y x = unfold output_of refusal in rw (answer_refused file n y x g)

      go : (m : Outcome Dataset) → ruled c f ≡ m → LimitedOutcome of_rules m → (r : Dataset) × (ruled c f ≡ done r)
      go (done r) x p = (r, x)
      go (refused file n y) x (limited_refused q _) = absurd (clash _ (rules_fair file y.number q) (ap fair (number_of_lem file n y x) ∙ e))

-- ---- what a display makes of them

-- it keeps its chart on a refusal
keeps : (c : List ℕ) (room file n : ℕ) (x : Fault) → eqb x.number 0 ≡ false → taken c (output_of room (refused file n x)) ≡ c
unfolding taken output_of refusal
keeps c room file n x e = rw e

-- it takes what was written
pub takes : (c : List ℕ) (room : ℕ) (w : Written) → taken c (output_of room (done w)) ≡ w.bytes
unfolding taken output_of success
takes c room w = take-append_seam w.bytes (replicate (room - length w.bytes) 0)

-- one file: the chart stays, or it becomes the written form of what the rules make of it
pub data Turn (c : List ℕ) (h : Handed) : Type 0 where
  stays : after c h ≡ c → Turn c h
  moves : (r : Dataset) → ruled c h.file ≡ done r → after c h ≡ written_bytes r → Turn c h

-- by what the rules say
turn_by : (c : List ℕ) (h : Handed) (m : Outcome Dataset) → ruled c h.file ≡ m → LimitedOutcome of_rules m → Turn c h
unfolding after update roomed in_room enough_work and_then
turn_by c h m e p =
    by_bool (ltb h.work 400000)
    (λ l. stays (ap (λ (o : Outcome Written). taken c (output_of h.room o)) (room_decides h.room h.work c h.file ∙ rw l) ∙ keeps c h.room 0 0 (fault 15 0 0) refl))
    (λ l. go m e p (λ o y. ap (λ (o : Outcome Written). taken c (output_of h.room o)) (room_decides h.room h.work c h.file ∙ rw (l, y))))
  where
    go : (m : Outcome Dataset) → ruled c h.file ≡ m → LimitedOutcome of_rules m
        → ((o : Outcome Dataset) → ruled c h.file ≡ o → after c h ≡ taken c (output_of h.room (and_then o (λ r. in_room h.room r)))) → Turn c h
    go (refused file n x) e (limited_refused q _) k = stays (k (refused file n x) e ∙ keeps c h.room file n x (not_zero x.number (rules_fair file x.number q)))
    go (done r) e limited_done k =
        by_bool (ltb h.room (length (written_bytes r)))
        (λ l. stays (k (done r) e ∙ rw l (keeps c h.room 3 0 (fault 13 0 0) refl)))
        (λ l. moves r e (k (done r) e ∙ rw l (takes c h.room _)))

-- any file
pub turn : (c : List ℕ) (h : Handed) → Turn c h
turn c h = turn_by c h (ruled c h.file) refl (ruled_limited c h.file)
