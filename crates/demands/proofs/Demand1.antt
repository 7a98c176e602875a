-- Every outcome of an entry point is as demand 1 asks. Assumes nothing.
use Prim.Native.Nat.{ℕ}
use mathlib.Core.Path.{◌≡◌, refl, sym, ap, subst, ◌∙◌}
use mathlib.Core.Bool.{Bool, true, false}
use mathlib.Core.List.{List, [], ◌∷◌}
use native.Mathlib.Omega.{arith}
use lib.ListN.{length}
use Rattle.base.specs.Choice.{pick}
use Rattle.base.proofs.ChoiceLaws.{by_test}
use Rattle.memory.specs.Hold.{zeros, hold}
use Rattle.memory.proofs.HoldLaws.{hold_nil}
use Rattle.rules.specs.Outcome.{Outcome, done, refused}
use Rattle.rules.specs.Answers.{Output, Written, success, output_of, write_outcome, write, update_outcome, update, work_after}
use Rattle.rules.specs.declared.Answer.{Answer}
use Rattle.numbers.specs.Refusals.{of_reader, Answered}
use Rattle.numbers.proofs.Answers.{read_answered, write_answered, update_answered}
use Rattle.display.specs.Pools.{pool, other, chart_in}
use Rattle.display.specs.declared.Chart.{Chart}
use Rattle.month.specs.Month.{Left, month_of}
use Rattle.month.specs.Refusals.{MonthAnswered}
use Rattle.month.specs.declared.turns.Month.{Month}
use Rattle.month.proofs.RefusalLaws.{month_answered}
use Rattle.month.proofs.WordLaws.{none_applied}
use Rattle.parcels.specs.Parcel.{carries_file, body_of}
use Rattle.parcels.specs.Holding.{tell}
use Rattle.parcels.specs.Shelf.{reply_answer}
use Rattle.parcels.specs.Taking.{taking}
use Rattle.parcels.specs.Refusals.{of_reply}
use Rattle.parcels.proofs.RefusalLaws.{tell_answered, reply_answered, taking_answered}
use Rattle.listing.specs.Listed.{listed}
use Rattle.demands.specs.Demand1.{Clean, Cleared, Kept, Ended, Demand1}

-- ---- a refusal leaves zeroes

-- an output slice of so many bytes that does
abbrev Empties : ℕ → Output → Type 0
Empties room o = (o.answer.number ≡ 0 → ⊥) → o.out ≡ zeros room

empties : (room : ℕ) (m : Outcome Written) → Empties room (output_of room m)
unfolding output_of success zeros
empties room (done w) n = absurd (n refl)
empties room (refused file k x) n = refl

write_empties : (f : List ℕ) (room : ℕ) → Empties room (write f room)
unfolding write
write_empties f room = empties room (write_outcome room f)

update_empties : (f u : List ℕ) (room work : ℕ) → Empties room (update f u room work)
unfolding update
update_empties f u room work = empties room (update_outcome room work f u)

tell_empties : (c : List ℕ) (room : ℕ) → Empties room (tell c room)
unfolding tell
tell_empties c room = empties room _

taking_empties : (c parcel : List ℕ) (room work : ℕ) → Empties room (taking c parcel room work)
unfolding taking
taking_empties c parcel room work =
    by_test (Empties room) (carries_file parcel) _ _ (λ _. update_empties c (body_of parcel) room work) (λ _. empties room _)

-- ---- outcomes

-- an answer and a slice that are an output's
clean : {may : ℕ → List ℕ} (room : ℕ) (o : Output) → Answered may o.answer → Empties room o → (a : Answer) (out : List ℕ) → a ≡ o.answer → out ≡ o.out → Clean may a room out
clean {may} room o p q a out x y =
    record { answered = subst (Answered may) (sym x) p; emptied = λ n. y ∙ q (λ z. n (ap (λ (b : Answer). b.number) x ∙ z)) }

-- so of a call with a workspace, and of a display's
cleared : {may : ℕ → List ℕ} (room work : ℕ) (o : Output) → Answered may o.answer → Empties room o → (a : Answer) (out space : List ℕ) → a ≡ o.answer → out ≡ o.out
    → space ≡ work_after work → Cleared may a room work out space
unfolding work_after zeros
cleared room work o p q a out space x y z = record { clean = clean room o p q a out x y; cleared = z }

kept : {may : ℕ → List ℕ} (c : Chart) (first second : List ℕ) (work : ℕ) (o : Output) → Answered may o.answer → Empties (length (other c first second)) o
    → (first' second' : List ℕ) (a : Answer) (space : List ℕ) → a ≡ o.answer → other c first' second' ≡ o.out → pool c first' second' ≡ pool c first second → space ≡ work_after work
    → Kept may c first second work a first' second' space
kept c first second work o p q first' second' a space x y i z = record { built = cleared (length (other c first second)) work o p q a (other c first' second') space x y z; in_use = i }

-- the pool that is left behind
left_behind : (t : Bool) (first second p first' second' : List ℕ) → first' ≡ pick t (zeros (length first)) p → second' ≡ pick t p (zeros (length second))
    → pick t first' second' ≡ zeros (length (pick t first second))
left_behind true first second p first' second' x y = x
left_behind false first second p first' second' x y = y

ended : (list first : List ℕ) (n : ℕ) (second work : List ℕ) (r : Month) (first' second' space : List ℕ) → Left list first n second work r first' second' space
    → Ended first second work r first' second' space
unfolding work_after zeros
ended list first n second work r first' second' space x =
    record {
      answered = subst (λ (m : Month). MonthAnswered m.answer) (sym x.said) (month_answered list first n second work);
      emptied = left_behind r.second first second (month_of list first n second work).pool first' second' x.in_first x.in_second;
      cleared = x.zero;
      in_use = λ z. (none_applied list first n second work r first' second' space x z).0;
    }

-- nothing is listed where there is no room
nothing : (l : List ℕ) → length l ≡ 0 → l ≡ []
nothing [] e = refl
nothing (x ∷ xs) e = absurd (omega arith)

pub demand_one : Demand1
demand_one =
    record {
      reads = λ f a x. subst (Answered of_reader) (sym x.answers) (read_answered f);
      writes = λ f room a out x. clean room _ (write_answered f room) (write_empties f room) a out x.answers x.fills;
      updates = λ f u room work a out space x.
          cleared room work _ (update_answered f u room work) (update_empties f u room work) a out space x.answers x.fills x.clears;
      begins = λ f room r first x. clean room _ (write_answered f room) (write_empties f room) r.answer first x.said x.wrote;
      hands = λ c first second file work r first' second' space x.
          let room = length (other c first second) in
          let chart = chart_in c first second in
          kept c first second work _ (update_answered chart file room work) (update_empties chart file room work) first' second' r.answer space x.said x.built x.in_use x.zero;
      months = ended;
      replies = λ h s r x. subst (λ q. Answered of_reply (reply_answer q)) (sym x) (reply_answered h s);
      tells = λ chart room a out x. clean room _ (tell_answered chart room) (tell_empties chart room) a out x.answers x.fills;
      takes = λ c first second parcel work r first' second' space x.
          let room = length (other c first second) in
          let chart = chart_in c first second in
          kept c first second work _ (taking_answered chart parcel room work) (taking_empties chart parcel room work) first' second' r.answer space x.said x.built x.in_use x.zero;
      lists = λ input room n out x z. x.holds ∙ ap (hold room) (nothing (listed input room) (sym x.long ∙ z)) ∙ hold_nil room;
    }
