-- Demand 1 of each entry point: whatever bytes and lengths it is handed, it answers 0, or refuses with a number of its list, with that number's file
-- and record; a refusal leaves all of the output zero; the workspace is zero. An outcome is any that satisfies the promise which is the entry point's
-- contract. What is handed over for reading is a shared slice in the code, which nothing can write; a display's chart stands in a pool that is lent to
-- be written, so of that one it is said that it keeps every byte.
use Rattle.std.specs.Prelude.{ℕ, ◌≡◌, List, length}
use Rattle.base.specs.Choice.{pick}
use Rattle.memory.specs.Hold.{zeros}
use Rattle.rules.specs.declared.Answer.{Answer}
use Rattle.promises.specs.Promise.{Reads, Writes, Updates}
use Rattle.numbers.specs.Refusals.{of_reader, of_writer, of_updater, Answered}
use Rattle.display.specs.Pools.{pool, other, Begun, Followed}
use Rattle.display.specs.declared.Chart.{Chart}
use Rattle.display.specs.declared.Shown.{Shown}
use Rattle.month.specs.Month.{Left}
use Rattle.month.specs.Refusals.{MonthAnswered}
use Rattle.month.specs.declared.turns.Month.{Month}
use Rattle.parcels.specs.Shelf.{reply, reply_answer}
use Rattle.parcels.specs.Refusals.{of_tell, of_reply, of_taking}
use Rattle.parcels.specs.declared.Reply.{Reply}
use Rattle.listing.specs.Lists.{Lists}
use Rattle.cable.specs.Promise.{Tells}
use Rattle.cable.specs.Taken.{Taken}

-- an answer with these numbers, and an output slice of so many bytes after it
pub record Clean (may : ℕ → List ℕ) (a : Answer) (room : ℕ) (out : List ℕ) : Type 0 where
  pub answered : Answered may a
  pub emptied : (a.number ≡ 0 → ⊥) → out ≡ zeros room

-- the same, of a call that was lent a workspace of so many bytes
pub record Cleared (may : ℕ → List ℕ) (a : Answer) (room work : ℕ) (out space : List ℕ) : Type 0 where
  pub clean : Clean may a room out
  pub cleared : space ≡ zeros work

-- the same, of a display's call with the chart c: the output is the pool that does not hold it
pub record Kept (may : ℕ → List ℕ) (c : Chart) (first second : List ℕ) (work : ℕ) (a : Answer) (first' second' space : List ℕ) : Type 0 where
  pub built : Cleared may a (length (other c first second)) work (other c first' second') space
  pub in_use : pool c first' second' ≡ pool c first second

-- the same, of a month: the output is the pool that the result does not stand in, zero whatever the answer; where no file is applied the dataset's
-- pool keeps its bytes
pub record Ended (first second work : List ℕ) (r : Month) (first' second' space : List ℕ) : Type 0 where
  pub answered : MonthAnswered r.answer
  pub emptied : pick r.second first' second' ≡ zeros (length (pick r.second first second))
  pub cleared : space ≡ zeros (length work)
  pub in_use : r.applied ≡ 0 → first' ≡ first

pub record Demand1 : Type 0 where
  pub reads : (f : List ℕ) (a : Answer) → Reads f a → Answered of_reader a
  pub writes : (f : List ℕ) (room : ℕ) (a : Answer) (out : List ℕ) → Writes f room a out → Clean of_writer a room out
  pub updates : (f u : List ℕ) (room work : ℕ) (a : Answer) (out space : List ℕ) → Updates f u room work a out space → Cleared of_updater a room work out space
  pub begins : (f : List ℕ) (room : ℕ) (r : Shown) (first : List ℕ) → Begun f room r first → Clean of_writer r.answer room first
  pub hands : (c : Chart) (first second file : List ℕ) (work : ℕ) (r : Shown) (first' second' space : List ℕ) → Followed c first second file work r first' second' space
      → Kept of_updater c first second work r.answer first' second' space
  pub months : (list first : List ℕ) (n : ℕ) (second work : List ℕ) (r : Month) (first' second' space : List ℕ) → Left list first n second work r first' second' space
      → Ended first second work r first' second' space
  pub replies : (h s : List ℕ) (r : Reply) → r ≡ reply h s → Answered of_reply (reply_answer r)
  pub tells : (chart : List ℕ) (room : ℕ) (a : Answer) (out : List ℕ) → Tells chart room a out → Clean of_tell a room out
  pub takes : (c : Chart) (first second parcel : List ℕ) (work : ℕ) (r : Shown) (first' second' space : List ℕ) → Taken c first second parcel work r first' second' space
      → Kept of_taking c first second work r.answer first' second' space
  -- a listing names refusals in its text; 0 is for no room
  pub lists : (input : List ℕ) (room n : ℕ) (out : List ℕ) → Lists input room n out → n ≡ 0 → out ≡ zeros room
