-- Demand 3 of displays that run: what the calls of `begin` and `hand` say is what it speaks of. Assumes nothing.
use Prim.Native.Nat.{ℕ}
use mathlib.Core.Path.{◌≡◌, sym, ap, subst, ◌∙◌}
use mathlib.Core.List.{List, [], ◌∷◌}
use Rattle.rules.specs.Written.{written_bytes}
use Rattle.rules.specs.Outcome.{Outcome}
use Rattle.rules.specs.Answers.{Written, output_of, write}
use Rattle.rules.specs.declared.Answer.{Answer}
use Rattle.rules.proofs.OutcomeLaws.{done_inj}
use Rattle.numbers.proofs.Answers.{zero_is_done}
use Rattle.roundtrip.proofs.Answers.{write_form}
use Rattle.displays.specs.Display.{Handed, taken, after, shown}
use Rattle.displays.specs.Publisher.{Publisher, start}
use Rattle.displays.specs.Demand.{chart, InStep}
use Rattle.displays.proofs.Room.{takes}
use Rattle.demand.proofs.Trip.{demand_three}
use Rattle.display.specs.Pools.{chart_in, Begun}
use Rattle.display.specs.Calls.{BeginCall, HandCall, HandCalls, Runs, OverCalls}
use Rattle.display.specs.declared.Shown.{Shown}

-- ---- `hand`

-- a call is one step of demand 3's display
pub hand_step : (c : List ℕ) (h : Handed) (e : List ℕ) → HandCall c h e → e ≡ after c h
unfolding after
hand_step c h e k = rw (k.was, k.lent) (k.now_is ∙ k.followed.holds)

-- calls one after the other are its charts one after the other
hands_shown : (c : List ℕ) (hs : List Handed) (e : List ℕ) → HandCalls c hs e → e ≡ shown c hs
unfolding HandCalls shown
hands_shown c [] e w = w
hands_shown c (h ∷ hs) e (m, x, w) = hands_shown m hs e w ∙ ap (λ (l : List ℕ). shown l hs) (hand_step c h m x)

-- ---- `begin`

module _ (P : Publisher) where
  -- with the publisher's file, where it is not refused, it puts up the chart that every display starts from
  pub begun_start : (room : ℕ) (r : Shown) (first second : List ℕ) → Begun P.source room r first → r.answer.number ≡ 0 → chart_in r.chart first second ≡ start P
  unfolding start write
  begun_start room r first second b z =
      let (w, e) = (zero_is_done.writes P.source room).0 (ap (λ (a : Answer). a.number) (sym b.said) ∙ z) in
      let (d, i, f) = write_form room P.source w P.is_bytes e in
      let same : d ≡ P.dataset = done_inj d P.dataset (sym i ∙ P.is_read) in
      b.holds second ∙ ap (λ (m : Outcome Written). taken [] (output_of room m)) e ∙ takes [] room w ∙ ap (λ (v : Written). v.bytes) f.is_form ∙ ap written_bytes same

  begin_start : (c : List ℕ) → BeginCall P.source c → c ≡ start P
  begin_start c k = k.now_is ∙ begun_start k.room k.shown k.first k.second k.begun k.done

  -- ---- what is promised

  -- a display that runs is one of demand 3's
  run_is : (c : List ℕ) (r : Runs P c) → c ≡ chart P r.files
  run_is c r = hands_shown r.at_first r.files c r.hands ∙ ap (λ (l : List ℕ). shown l r.files) (begin_start r.at_first r.begins)

  pub over_calls : OverCalls P
  over_calls =
      record {
        in_step = λ c r. subst (InStep P) (sym (run_is c r)) ((demand_three P).in_step r.files r.brought);
        alike = λ c d q r. rw (run_is c q, run_is d r) ((demand_three P).alike q.files r.files q.brought r.brought);
        moves_on = λ c r h d x m e k.
            let z = run_is c r in
            let s = hand_step c h e k in
            let v = (demand_three P).moves_on r.files r.brought h d (rw z at x) m in
            (s ∙ rw z v.holds, rw (s, z) v.by_one);
      }
