-- What C sees of the calls of the bridge cable.
use Rattle.std.specs.Prelude.{ℕ, ◌≡◌, List}
use Rattle.rules.specs.declared.Answer.{Answer}
use Rattle.display.specs.declared.Shown.{Shown}
use Rattle.parcels.specs.Shelf.{reply, reply_answer}
use Rattle.parcels.specs.declared.Reply.{Reply}
use Rattle.parcels.specs.declared.Reply.TheVariants.{Refused, Silence, Parcel}
use Rattle.cable.specs.Promise.{Tells}
use Rattle.cable.specs.Taken.{Taken}
use Rattle.console.specs.Numbered.{three_of, Says}
use Rattle.console.specs.Shown.{chart_at, SaysShown}

-- a parcel of the shelf: 1, where it starts and its whole length; else zeroes
unfoldable pub reply_numbers : Reply → List ℕ → List ℕ
reply_numbers Refused old = three_of 0 0 0 old
reply_numbers Silence old = three_of 0 0 0 old
reply_numbers (Parcel start whole) old = three_of 1 start whole old

-- a master replied; the slice for the parcel was three and is three'
pub record SaysReply (holding shelf old three : List ℕ) (n : ℕ) (new three' : List ℕ) : Type 0 where
  pub says : Says (reply_answer (reply holding shelf)) old n new
  pub others : three' ≡ reply_numbers (reply holding shelf) three

-- a display told its holding
pub record SaysTell (chart : List ℕ) (room : ℕ) (old : List ℕ) (n : ℕ) (out new : List ℕ) : Type 0 where
  pub answer : Answer
  pub tells : Tells chart room answer out
  pub says : Says answer old n new

-- a parcel reached a display
pub record SaysTake (place size : ℕ) (first second parcel : List ℕ) (work : ℕ) (old places : List ℕ) (n : ℕ) (first' second' w' new places' : List ℕ) : Type 0 where
  pub shown : Shown
  pub taken : Taken (chart_at place size) first second parcel work shown first' second' w'
  pub says : SaysShown shown old places n new places'
