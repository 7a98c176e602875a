-- Every answer of a month is as the updater's, or 1 of no record. Assumes nothing.
use Prim.Native.Nat.{ℕ}
use mathlib.Core.Path.{◌≡◌, refl, sym, subst}
use mathlib.Core.Bool.{true, false}
use mathlib.Core.List.{List, [], ◌∷◌}
use borrow.Author.Tests.{eqb-true}
use lib.ListN.{length, take}
use lib.Dec.{eqb, ltb}
use Rattle.base.specs.Check.{fault}
use Rattle.base.proofs.ChoiceLaws.{by_test}
use Rattle.rules.specs.Outcome.{Outcome}
use Rattle.rules.specs.Answers.{refusal, enough_work}
use Rattle.numbers.specs.Refusals.{is_in, recordless, right_record, by_file, of_updater, is_done, is_refused}
use Rattle.numbers.proofs.Lists.{each_passes, in_passes}
use Rattle.numbers.proofs.Endings.{ends, not_done}
use Rattle.numbers.proofs.Answers.{update_answered}
use Rattle.month.specs.Month.{files_from, Stand, start, stop, apply, made, turns, with_work, month_of}
use Rattle.month.specs.Refusals.{MonthAnswered, as_updater, past_pool, list_cut}
use Rattle.month.proofs.FileLaws.{files_end}

-- the last answer is such a one
abbrev Right : Stand → Type 0
Right s = MonthAnswered s.says.answer

-- that of the updater is
made_right : (work : ℕ) (s : Stand) (f : List ℕ) → MonthAnswered (made work s f).answer
unfolding made
made_right work s f = as_updater _ (update_answered (take s.says.length s.pool) f s.room work)

-- a list that does not end well ends with 1
cut_right : (e : ℕ) → eqb e 0 ≡ false → ends (1 ∷ []) e ≡ true → MonthAnswered (refusal 2 0 (fault e 0 0))
unfolding each_passes
cut_right e z h =
    let one = eqb-true e 1 (in_passes (λ n. eqb n 1) e (1 ∷ []) refl (not_done (1 ∷ []) e z h)) in
    subst (λ n. MonthAnswered (refusal 2 0 (fault n 0 0))) (sym one) list_cut

-- so it stays with each turn
turns_right : (work : ℕ) (fs : List (List ℕ)) (e : ℕ) (s : Stand) → ends (1 ∷ []) e ≡ true → Right s → Right (turns work fs e s)
unfolding turns stop apply
turns_right work [] e s h p = by_test Right (eqb e 0) _ _ (λ _. p) (λ z. cut_right e z h)
turns_right work (f ∷ fs) e s h p =
    by_test Right (ltb (length s.pool) s.says.length) _ _
    (λ _. past_pool)
    (λ _. by_test Right (eqb (made work s f).answer.number 0) _ _ (λ _. turns_right work fs e (apply (made work s f) s) h (made_right work s f)) (λ _. made_right work s f))

pub month_answered : (list first : List ℕ) (n : ℕ) (second work : List ℕ) → MonthAnswered (month_of list first n second work).says.answer
unfolding month_of with_work enough_work start stop right_record recordless of_updater by_file is_in
month_answered list first n second work =
    by_test (λ (m : Outcome (Unit {0})). Right (with_work m (length work) (files_from list 0) (start first n (length second)))) (ltb (length work) 400000) _ _
    (λ _. as_updater _ (is_refused 0 0 (fault 15 0 0) refl refl))
    (λ _. turns_right (length work) (files_from list 0).items (files_from list 0).ending (start first n (length second)) (files_end list 0) (as_updater _ (is_done 0 0)))
