-- Demand 3, as it is promised of every publisher, its displays, and whatever the cable brings them.
use Rattle.std.specs.Prelude.{ℕ, suc, ◌+◌, ◌-◌, ◌≤◌, ◌≡◌, ◌↔◌, ◌⊎◌, List, [], length}
use Rattle.std.proofs.Math.Option.{some}
use Rattle.rules.specs.Written.{Dataset, written_bytes}
use Rattle.rules.specs.Outcome.{done}
use Rattle.rules.specs.Answers.{write}
use Rattle.displays.specs.Display.{Handed, taken, after, shown, number_shown, ruled}
use Rattle.displays.specs.Publisher.{Publisher, start, first, Cable, in_order}

-- the chart of one of its displays after all that reached it
abbrev pub chart : Publisher → List Handed → List ℕ
chart P hs = shown (start P) hs

-- a chart is exactly the written result of the updates after the dataset, up to the number that it shows, in order
pub record InStep (P : Publisher) (c : List ℕ) : Type 0 where
  pub result : Dataset
  pub reached : first P ≤ number_shown c
  pub made : in_order P (number_shown c - first P) ≡ some result
  pub written : c ≡ written_bytes result

-- a display has room for a result: its output slice holds the written form, and its workspace 400,000 bytes
pub record HasRoom (h : Handed) (r : Dataset) : Type 0 where
  pub slice : length (written_bytes r) ≤ h.room
  pub workspace : 400000 ≤ h.work

-- a display with chart c that was handed a file holds the written form of the result, and has moved on by one
pub record MovedOn (c : List ℕ) (h : Handed) (r : Dataset) : Type 0 where
  pub holds : after c h ≡ written_bytes r
  pub by_one : number_shown (after c h) ≡ number_shown c + 1

-- what is promised
pub record Demand3 (P : Publisher) : Type 0 where
  -- (i) after every list of files a chart is in step
  pub in_step : (hs : List Handed) → Cable P hs → InStep P (chart P hs)
  -- (ii) two displays hold equal bytes exactly when they show equal numbers
  pub alike : (hs ks : List Handed) → Cable P hs → Cable P ks → (chart P hs ≡ chart P ks) ↔ (number_shown (chart P hs) ≡ number_shown (chart P ks))
  -- (iii) handed a file for which no number but 13 or 15 is due, with room for the result, a display moves on by one
  pub moves_on : (hs : List Handed) → Cable P hs → (h : Handed) (r : Dataset) → ruled (chart P hs) h.file ≡ done r → HasRoom h r → MovedOn (chart P hs) h r
  -- the same by the publisher's files alone: handed the one that was issued next, where the updates in order go on by it
  pub onward : (hs : List Handed) → Cable P hs → (h : Handed) (r : Dataset) → P.issued (number_shown (chart P hs) + 1) ≡ some h.file
      → in_order P (suc (number_shown (chart P hs) - first P)) ≡ some r → HasRoom h r → MovedOn (chart P hs) h r
  -- any file leaves a chart or moves it on by one
  pub stays : (hs : List Handed) → Cable P hs → (h : Handed) → (after (chart P hs) h ≡ chart P hs) ⊎ (number_shown (after (chart P hs) h) ≡ number_shown (chart P hs) + 1)
  -- a chart is in the written form: the writer answers 0 and gives it back
  pub written_form : (hs : List Handed) → Cable P hs → (room : ℕ) → length (chart P hs) ≤ room
      → ((write (chart P hs) room).answer.number ≡ 0) × (taken [] (write (chart P hs) room) ≡ chart P hs)
