-- Every answer is done or refused with a number of its entry point, at that number's record, and number 0 is for done alone. Assumes nothing.
use Prim.Native.Nat.{ℕ}
use mathlib.Core.Path.{◌≡◌, refl, sym, ap, ◌∙◌}
use mathlib.Core.Bool.{true, false}
use mathlib.Core.Logic.{◌↔◌}
use mathlib.Core.List.{List}
use borrow.Author.Tests.{eqb-false}
use lib.ListN.{length}
use lib.Dec.{ltb}
use Rattle.base.specs.declared.Fault.{Fault}
use Rattle.rules.specs.Written.{Dataset, written_bytes}
use Rattle.rules.specs.Outcome.{Outcome, done, refused}
use Rattle.rules.specs.Answers.{refusal, success, read_outcome, read_answer, read, Written, room_for, output_of, write_outcome, write, enough_work, update_outcome, update}
use Rattle.rules.specs.declared.Answer.{Answer}
use Rattle.numbers.specs.Refusals.{is_in, recordless, right_record, by_file, of_reader, of_writer, of_updater, Answered, is_done, is_refused}
use Rattle.numbers.specs.Limited.{LimitedOutcome, limited_done, limited_refused}
use Rattle.numbers.specs.Zero.{Done, ZeroIsDone}
use Rattle.numbers.proofs.Lists.{each_passes, all_in, in_wider, in_nonzero, of_each_file}
use Rattle.numbers.proofs.Checks.{limited_then, limited_choice}
use Rattle.numbers.proofs.Files.{limited_read, limited_sent, limited_writable, limited_length, limited_updated}

-- ---- what is found

-- a result in an output slice
limited_room : {may : ℕ → List ℕ} → is_in 14 (may 3) ≡ true → is_in 13 (may 3) ≡ true → (room : ℕ) (d : Dataset) → LimitedOutcome may (room_for room d)
unfolding room_for right_record recordless is_in
limited_room h g room d =
    limited_then _ _ (limited_length 3 h (written_bytes d)) (λ _. limited_choice (ltb room (length (written_bytes d))) _ _ (limited_refused g refl) limited_done)

-- by the reader
limited_reader : (f : List ℕ) → LimitedOutcome of_reader (read_outcome f)
unfolding read_outcome of_reader by_file is_in all_in each_passes
limited_reader f = limited_then _ _ (limited_length 1 refl f) (λ _. limited_read refl f)

-- by the writer
limited_writer : (room : ℕ) (f : List ℕ) → LimitedOutcome of_writer (write_outcome room f)
unfolding write_outcome read_outcome of_writer by_file is_in all_in each_passes
limited_writer room f =
    limited_then _ _ (limited_then _ _ (limited_length 1 refl f) (λ _. limited_read refl f)) (λ d.
    limited_then _ _ (limited_writable refl d) (λ w. limited_room refl refl room w))

-- by the updater
limited_updater : (room work : ℕ) (f u : List ℕ) → LimitedOutcome of_updater (update_outcome room work f u)
unfolding update_outcome enough_work right_record recordless of_updater by_file is_in all_in each_passes
limited_updater room work f u =
    limited_then _ _ (limited_choice (ltb work 400000) _ _ (limited_refused refl refl) limited_done) (λ _.
    limited_then _ _ (limited_length 1 refl f) (λ _.
    limited_then _ _ (limited_length 2 refl u) (λ _.
    limited_then _ _ (limited_read refl f) (λ d.
    limited_then _ _ (limited_writable refl d) (λ w.
    limited_then _ _ (limited_sent refl u) (λ s.
    limited_then _ _ (limited_updated refl refl w s) (λ r. limited_room refl refl room r)))))))

-- ---- what is answered

-- without an output
read_of : {may : ℕ → List ℕ} (m : Outcome Dataset) → LimitedOutcome may m → Answered may (read_answer m)
unfolding read_answer
read_of (done d) p = is_done _ _
read_of (refused file n x) (limited_refused e r) = is_refused file n x e r

-- with one
pub output_of_lem : {may : ℕ → List ℕ} (room : ℕ) (m : Outcome Written) → LimitedOutcome may m → Answered may (output_of room m).answer
unfolding output_of
output_of_lem room (done w) p = is_done _ _
output_of_lem room (refused file n x) (limited_refused e r) = is_refused file n x e r

pub read_answered : (f : List ℕ) → Answered of_reader (read f)
unfolding read
read_answered f = read_of (read_outcome f) (limited_reader f)

pub write_answered : (f : List ℕ) (room : ℕ) → Answered of_writer (write f room).answer
unfolding write
write_answered f room = output_of_lem room (write_outcome room f) (limited_writer room f)

pub update_answered : (f u : List ℕ) (room work : ℕ) → Answered of_updater (update f u room work).answer
unfolding update
update_answered f u room work = output_of_lem room (update_outcome room work f u) (limited_updater room work f u)

-- an answer that these lists allow is allowed by wider ones
pub answered_wider : (none dataset sent result : List ℕ) (may : ℕ → List ℕ) → all_in none (may 0) ≡ true → all_in dataset (may 1) ≡ true → all_in sent (may 2) ≡ true
    → all_in result (may 3) ≡ true → (x : Answer) → Answered (by_file none dataset sent result) x → Answered may x
unfolding all_in each_passes
answered_wider none dataset sent result may a b c d _ (is_done length count) = is_done length count
answered_wider none dataset sent result may a b c d _ (is_refused file n x e r) =
    is_refused file n x (in_wider x.number _ (may file) (of_each_file (λ f ns. all_in ns (may f) ≡ true) none dataset sent result a b c d (λ f. refl) file) e) r

-- ---- number 0

-- the number that is answered of an outcome, where done is 0 and a refusal its own
module _ {A : Type 0} (number : Outcome A → ℕ) (zero : (a : A) → number (done a) ≡ 0) (own : (file n : ℕ) (x : Fault) → number (refused file n x) ≡ x.number) where
  -- 0 where it is done, and nowhere else
  zero_done : (may : ℕ → List ℕ) → ((file : ℕ) → is_in 0 (may file) ≡ false) → (m : Outcome A) → LimitedOutcome may m → (number m ≡ 0) ↔ Done m
  zero_done may h (done a) p = (λ e. (a, refl), λ d. zero a)
  zero_done may h (refused file n x) (limited_refused q _) = (
    λ e. absurd (eqb-false x.number 0 (in_nonzero x.number (may file) (h file) q) (sym (own file n x) ∙ e)),
    λ d. ap number d.1 ∙ zero d.0,
  )

-- no list has it
pub no_zero : (none dataset sent result : List ℕ) → is_in 0 none ≡ false → is_in 0 dataset ≡ false → is_in 0 sent ≡ false → is_in 0 result ≡ false
    → (file : ℕ) → is_in 0 (by_file none dataset sent result file) ≡ false
unfolding is_in
no_zero none dataset sent result a b c d file = of_each_file (λ f ns. is_in 0 ns ≡ false) none dataset sent result a b c d (λ f. refl) file

-- so of each entry point
pub zero_is_done : ZeroIsDone
unfolding read read_answer write update output_of success refusal of_reader of_writer of_updater is_in
zero_is_done =
    record {
      reads = λ f. zero_done (λ m. (read_answer m).number) (λ d. refl) (λ file n x. refl) of_reader (no_zero _ _ _ _ refl refl refl refl) (read_outcome f) (limited_reader f);
      writes = λ f room.
          zero_done (λ m. (output_of room m).answer.number) (λ w. refl) (λ file n x. refl) of_writer (no_zero _ _ _ _ refl refl refl refl) (write_outcome room f) (limited_writer room f);
      updates = λ f u room work.
          zero_done (λ m. (output_of room m).answer.number) (λ w. refl) (λ file n x. refl) of_updater (no_zero _ _ _ _ refl refl refl refl) (update_outcome room work f u)
          (limited_updater room work f u);
    }
