-- Every answer of `tell`, `reply` and `take` is done or refused with one of their numbers, at that number's record. Assumes nothing.
use Prim.Native.Nat.{ℕ}
use mathlib.Core.Path.{◌≡◌, refl}
use mathlib.Core.Bool.{true}
use mathlib.Core.List.{List, [], ◌∷◌}
use native.Mathlib.Omega.{arith}
use lib.ListN.{length, take}
use lib.Dec.{ltb}
use Rattle.base.proofs.ChoiceLaws.{by_test}
use Rattle.skeleton.specs.File.{Field, records_of}
use Rattle.rules.specs.Outcome.{and_then, at}
use Rattle.rules.specs.File.{dataset_test, through}
use Rattle.rules.specs.Answers.{Output, output_of}
use Rattle.rules.specs.declared.Mode.TheVariants.{InDataset}
use Rattle.numbers.specs.Refusals.{is_in, recordless, right_record, by_file, of_updater, Answered, is_done, is_refused}
use Rattle.numbers.specs.Limited.{LimitedOutcome, limited_ok, limited_done, limited_refused}
use Rattle.numbers.proofs.Lists.{each_passes, all_in, names}
use Rattle.numbers.proofs.Checks.{limited_bind, limited_then, limited_choice, limited_at}
use Rattle.numbers.proofs.Endings.{ends, in_skeleton, records_end}
use Rattle.numbers.proofs.Records.{limited_general}
use Rattle.numbers.proofs.Files.{limited_taken}
use Rattle.numbers.proofs.Answers.{output_of_lem, update_answered, answered_wider}
use Rattle.parcels.specs.Parcel.{body_of, carries_file, wrong_parcel}
use Rattle.parcels.specs.Front.{test_of, front_two, general_from, general_in}
use Rattle.parcels.specs.Holding.{told, told_in, tell}
use Rattle.parcels.specs.Shelf.{reply, reply_answer}
use Rattle.parcels.specs.Taking.{taking}
use Rattle.parcels.specs.Refusals.{of_tell, of_reply, of_taking}
use Rattle.parcels.specs.declared.Reply.{Reply}
use Rattle.parcels.specs.declared.Reply.TheVariants.{Refused, Silence, Parcel}

-- ---- told

-- the walk over a file, up to the second record
two_end : (f : List ℕ) → ends in_skeleton (front_two (records_of f)).ending ≡ true
unfolding front_two ends
two_end f = by_test (λ e. ends in_skeleton e ≡ true) (ltb (length (records_of f).items) 2) _ _ (λ _. records_end f) (λ _. refl)

-- the first passes, the second is the general record
two_pass : (items : List (List Field)) → LimitedOutcome of_tell (through dataset_test 1 1 [] (take 2 items))
unfolding through dataset_test at and_then of_tell by_file recordless is_in all_in each_passes names
two_pass [] = limited_done
two_pass (a ∷ []) = limited_done
two_pass (a ∷ (b ∷ rest)) =
    limited_then _ _
    (limited_then _ _ (limited_at (4 ∷ 5 ∷ []) 1 refl refl 2 _ (omega arith) (limited_bind _ _ (limited_general InDataset b) (λ _. limited_ok))) (λ new. limited_done))
    (λ later. limited_done)

-- what a chart is told as
pub limited_told : (c : List ℕ) → LimitedOutcome of_tell (told c)
unfolding told general_in general_from test_of front_two of_tell by_file is_in all_in each_passes
limited_told c =
    limited_then _ _
    (limited_then _ _ (limited_taken 1 dataset_test 2 1 [] (front_two (records_of c)) (omega arith) refl (two_pass (records_of c).items) (two_end c)) (λ _. limited_done))
    (λ _. limited_done)

pub tell_answered : (c : List ℕ) (room : ℕ) → Answered of_tell (tell c room).answer
unfolding tell told_in right_record recordless of_tell by_file is_in
tell_answered c room = output_of_lem room _ (limited_then _ _ (limited_told c) (λ h. limited_choice (ltb room (length h)) _ _ (limited_refused refl refl) limited_done))

-- ---- answered

reply_is : (r : Reply) → Answered of_reply (reply_answer r)
unfolding reply_answer right_record recordless of_reply by_file is_in
reply_is Refused = is_refused 0 0 wrong_parcel refl refl
reply_is Silence = is_done 0 0
reply_is (Parcel start whole) = is_done 0 0

pub reply_answered : (h s : List ℕ) → Answered of_reply (reply_answer (reply h s))
reply_answered h s = reply_is (reply h s)

-- ---- taken

pub taking_answered : (c parcel : List ℕ) (room work : ℕ) → Answered of_taking (taking c parcel room work).answer
unfolding taking output_of right_record recordless of_taking of_updater by_file is_in all_in each_passes
taking_answered c parcel room work =
    by_test (λ (o : Output). Answered of_taking o.answer) (carries_file parcel) _ _
    (λ _. answered_wider _ _ _ _ of_taking refl refl refl refl _ (update_answered c (body_of parcel) room work))
    (λ _. is_refused 0 0 wrong_parcel refl refl)
