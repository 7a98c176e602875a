-- Demand 3 of displays that run by C: their calls are calls of the display. Assumes nothing.
use Prim.Native.Nat.{ℕ, ◌≤◌}
use mathlib.Core.Path.{◌≡◌, refl, sym, ap, ◌∙◌}
use mathlib.Core.Bool.{Bool, true, false, not}
use mathlib.Core.List.{List, [], ◌∷◌}
use borrow.Author.Tests.{le-ltb}
use lib.Dec.{eqb}
use lib.ListN.{length, get_or}
use Rattle.base.specs.Choice.{pick}
use Rattle.displays.specs.Display.{Handed}
use Rattle.displays.specs.Publisher.{Publisher}
use Rattle.display.specs.Pools.{chart_in}
use Rattle.display.specs.Calls.{BeginCall, HandCall, HandCalls, Runs}
use Rattle.display.specs.declared.Chart.{Chart}
use Rattle.display.proofs.CallLaws.{over_calls}
use Rattle.console.specs.Numbered.{two_of}
use Rattle.console.specs.Shown.{chart_at, charted}
use Rattle.console.specs.Run.{chart_said, BeginByC, HandByC, HandsByC, RunsByC, OverCallsOfC}

-- ---- where the chart stands

-- two numbers in a slice that has room for them
first_of : (a b : ℕ) (l : List ℕ) → 2 ≤ length l → (get_or (two_of a b l) 0 0 ≡ a) × (get_or (two_of a b l) 1 0 ≡ b)
unfolding two_of
first_of a b l h = rw (le-ltb (length l) 2 h) (refl, refl)

-- a place says its pool
place_of : (second : Bool) → not (eqb (pick second 1 0) 0) ≡ second
place_of true = refl
place_of false = refl

-- so the slice says where the chart stands
said_is : (c : Chart) (places places' : List ℕ) → 2 ≤ length places → places' ≡ charted c places → chart_said places' ≡ c
unfolding chart_said chart_at charted
said_is c places places' h e =
    let (x, y) = first_of (pick c.second 1 0) c.length places h in
    let p : not (eqb (get_or places' 0 0) 0) ≡ c.second = ap (λ (l : List ℕ). not (eqb (get_or l 0 0) 0)) e ∙ ap (λ (n : ℕ). not (eqb n 0)) x ∙ place_of c.second in
    let q : get_or places' 1 0 ≡ c.length = ap (λ (l : List ℕ). get_or l 1 0) e ∙ y in
    λ i. record { second = p i; length = q i }

-- ---- the calls

begins_as : (file c : List ℕ) → BeginByC file c → BeginCall file c
begins_as file c k =
    record {
      room = k.room;
      shown = k.says.shown;
      first = k.first;
      second = k.second;
      begun = k.says.begun;
      done = sym k.says.says.says.result;
      now_is = k.now_is ∙ ap (λ (x : Chart). chart_in x k.first k.second) (said_is k.says.shown.chart k.places k.places' k.lent k.says.says.stands);
    }

hands_as : (c : List ℕ) (h : Handed) (e : List ℕ) → HandByC c h e → HandCall c h e
hands_as c h e k =
    record {
      place = chart_at k.place k.size;
      first = k.first;
      second = k.second;
      shown = k.says.shown;
      first' = k.first';
      second' = k.second';
      work' = k.work';
      was = k.was;
      lent = k.room;
      followed = k.says.followed;
      now_is = k.now_is ∙ ap (λ (x : Chart). chart_in x k.first' k.second') (said_is k.says.shown.chart k.places k.places' k.lent k.says.says.stands);
    }

all_as : (c : List ℕ) (hs : List Handed) (e : List ℕ) → HandsByC c hs e → HandCalls c hs e
unfolding HandsByC HandCalls
all_as c [] e w = w
all_as c (h ∷ hs) e (m, x, w) = (m, hands_as c h m x, all_as m hs e w)

-- ---- what is promised

module _ (P : Publisher) where
  runs_as : (c : List ℕ) → RunsByC P c → Runs P c
  runs_as c r =
      record {
        at_first = r.at_first;
        begins = begins_as P.source r.at_first r.begins;
        files = r.files;
        brought = r.brought;
        hands = all_as r.at_first r.files c r.hands;
      }

  pub over_calls_of_c : OverCallsOfC P
  over_calls_of_c =
      record {
        in_step = λ c r. (over_calls P).in_step c (runs_as c r);
        alike = λ c d q r. (over_calls P).alike c d (runs_as c q) (runs_as d r);
        moves_on = λ c r h d x m e k. (over_calls P).moves_on c (runs_as c r) h d x m e (hands_as c h e k);
      }
