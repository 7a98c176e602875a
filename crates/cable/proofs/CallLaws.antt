-- Demand 3 on the cable, of displays and a master that run: what their calls say is what it speaks of. Assumes nothing.
use Prim.Native.Nat.{ℕ}
use mathlib.Core.Path.{◌≡◌, refl, sym, ap, ap₂, subst, ◌∙◌}
use mathlib.Core.Option.{Option, some, none}
use mathlib.Core.List.{List, [], ◌∷◌, ◌++◌}
use lib.ListN.{length, take}
use Rattle.base.specs.Lists.{gather}
use Rattle.rules.specs.Outcome.{Outcome, done}
use Rattle.rules.specs.Answers.{success}
use Rattle.rules.specs.declared.Answer.{Answer}
use Rattle.displays.specs.Publisher.{Publisher, start}
use Rattle.displays.specs.Demand.{InStep}
use Rattle.display.proofs.CallLaws.{begun_start}
use Rattle.parcels.specs.Holding.{told}
use Rattle.parcels.specs.Taking.{Reached, after_parcel, shown_by}
use Rattle.parcels.specs.Exchange.{Exchange, Brings, RoomNext, when_told, when_answered, after_answer, after_exchange, answered, brought_by, Arrives, Exchanges, all_brought, after_all}
use Rattle.parcels.specs.Cable.{chart_by, TellsRight}
use Rattle.parcels.specs.declared.Reply.{Reply}
use Rattle.parcels.proofs.HoldingLaws.{tell_gives}
use Rattle.parcels.proofs.ZeroLaws.{tell_done}
use Rattle.parcels.proofs.CableLaws.{on_cable}
use Rattle.cable.specs.Calls.{TakeCall, Took, TookAnswer, TellCall, ExchangeCalls, AllCalls, Runs, CanTell, ByCalls}

-- ---- `take`

-- a call is one step of the cable's display
take_step : (c : List ℕ) (t : Reached) (e : List ℕ) → TakeCall c t e → e ≡ after_parcel c t
unfolding after_parcel
take_step c t e k = rw (k.was, k.lent) (k.now_is ∙ k.took.holds)

-- calls one after the other are its charts one after the other
took_shown : (c : List ℕ) (ts : List Reached) (e : List ℕ) → Took c ts e → e ≡ shown_by c ts
unfolding Took shown_by
took_shown c [] e w = w
took_shown c (t ∷ ts) e (m, x, w) = took_shown m ts e w ∙ ap (λ (l : List ℕ). shown_by l ts) (take_step c t m x)

took_answer : (c : List ℕ) (a : Option Reached) (e : List ℕ) → TookAnswer c a e → e ≡ after_answer c a
unfolding TookAnswer after_answer
took_answer c none e w = w
took_answer c (some t) e w = take_step c t e w

-- calls behind others
took_join : (c : List ℕ) (ts us : List Reached) (m e : List ℕ) → Took c ts m → Took m us e → Took c (ts ++ us) e
unfolding Took
took_join c [] us m e v w = subst (λ (l : List ℕ). Took l us e) v w
took_join c (t ∷ ts) us m e (n, x, v) w = (n, x, took_join n ts us m e v w)

took_last : (c : List ℕ) (a : Option Reached) (e : List ℕ) → TookAnswer c a e → Took c (answered a) e
unfolding TookAnswer answered Took
took_last c none e w = w
took_last c (some t) e w = (e, w, refl)

-- ---- `tell`

-- what a call told is the chart's holding
told_by : (c h : List ℕ) → TellCall c h → told c ≡ done h
unfolding success
told_by c h k =
    let (g, e, l) = tell_done c k.room (ap (λ (a : Answer). a.number) (sym k.told.answers) ∙ k.done) in
    let (a, o) = tell_gives c g k.room e l in
    let n : k.answer.length ≡ length g = ap (λ (x : Answer). x.length) (k.told.answers ∙ a) in
    let z : h ≡ g = k.holding ∙ ap₂ (λ (l : ℕ) (x : List ℕ). take l x) n k.told.fills ∙ o in
    e ∙ ap {B = Outcome (List ℕ)} done (sym z)

-- ---- exchanges

module _ (P : Publisher) (s : List ℕ) where
  -- by calls, it is one that arrives
  call_arrives : (c : List ℕ) (x : Exchange) (e : List ℕ) → ExchangeCalls P s c x e → Arrives P s c x × (e ≡ after_exchange c x)
  call_arrives c x e k =
      let m : k.chart_told ≡ when_told c x = took_shown c x.earlier k.chart_told k.came in
      let n : k.chart_met ≡ when_answered c x = took_shown k.chart_told x.meanwhile k.chart_met k.came_then ∙ ap (λ (l : List ℕ). shown_by l x.meanwhile) m in (
        record {
          earlier = k.earlier;
          meanwhile = k.meanwhile;
          holding = k.holding;
          tells = ap told (sym m) ∙ told_by k.chart_told k.holding k.tells;
          answers = subst (λ (r : Reply). Brings s r x.answer) k.replies k.arrives;
          room = subst (λ (l : List ℕ). RoomNext P l x.answer) n k.room;
        },
        took_answer k.chart_met x.answer e k.took ∙ ap (λ (l : List ℕ). after_answer l x.answer) n,
      )

  -- one after the other
  calls_arrive : (xs : List Exchange) (c e : List ℕ) → AllCalls P s c xs e → Exchanges P s c xs × (e ≡ after_all c xs)
  unfolding AllCalls Exchanges after_all
  calls_arrive [] c e k = (tt, k)
  calls_arrive (x ∷ xs) c e (m, k, l) =
      let (a, z) = call_arrives c x m k in
      let (b, w) = calls_arrive xs m e l in
      ((a, subst (λ (n : List ℕ). Exchanges P s n xs) z b), w ∙ ap (λ (n : List ℕ). after_all n xs) z)

  -- and what they brought was taken
  calls_took : (xs : List Exchange) (c e : List ℕ) → AllCalls P s c xs e → Took c (all_brought xs) e
  unfolding AllCalls all_brought brought_by gather Took
  calls_took [] c e k = k
  calls_took (x ∷ xs) c e (m, k, l) =
      took_join c (brought_by x) (all_brought xs) m e
      (took_join c x.earlier (x.meanwhile ++ answered x.answer) k.chart_told m k.came
      (took_join k.chart_told x.meanwhile (answered x.answer) k.chart_met m k.came_then (took_last k.chart_met x.answer m k.took)))
      (calls_took xs m e l)

-- ---- what is promised

module _ (P : Publisher) where
  -- a display that runs is one of the cable's
  run_is : (c : List ℕ) (r : Runs P c) → c ≡ chart_by P r.reached
  run_is c r = took_shown (start P) r.reached c r.took

  can_tell : (c : List ℕ) → TellsRight c → CanTell c
  unfolding success
  can_tell c t =
      record {
        holding = t.holding;
        right = (t.right, t.number);
        tells = λ room a out k l.
            let (x, y) = tell_gives c t.holding room t.tells l in
            let z : a ≡ success (length t.holding) 0 = k.answers ∙ x in
            (ap (λ (b : Answer). b.number) z, rw (z, k.fills) y);
      }

  pub by_calls : ByCalls P
  by_calls =
      record {
        begins = begun_start P;
        in_step = λ c r. subst (InStep P) (sym (run_is c r)) ((on_cable P).in_step r.reached r.brought);
        alike = λ c d q r. rw (run_is c q, run_is d r) ((on_cable P).alike q.reached r.reached q.brought r.brought);
        tells = λ c r. can_tell c (subst TellsRight (sym (run_is c r)) ((on_cable P).tells r.reached r.brought));
        raised = λ c r s xs e y k.
            let z = run_is c r in
            let (x, w) = calls_arrive P s xs c e k in
            rw (w, z) ((on_cable P).raised r.reached r.brought s xs (rw z at y) (rw z at x));
        again = λ c r s xs e n y k.
            let z = run_is c r in
            let (x, w) = calls_arrive P s xs c e k in
            let (b, v) = (on_cable P).again r.reached r.brought s xs n (rw z at y) (rw z at x) in
            record { reached = r.reached ++ all_brought xs; brought = b; took = took_join (start P) r.reached (all_brought xs) c e r.took (calls_took P s xs c e k) };
      }
