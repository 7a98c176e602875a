-- What the cable brings a display, and exchanges with a master: a holding is told, its answer arrives.
use Rattle.std.specs.Prelude.{ℕ, suc, ◌-◌, ◌≤◌, ◌≡◌, true, List, [], ◌∷◌, ◌++◌, length}
use Rattle.std.proofs.Math.Option.{Option, some, none}
use Rattle.base.specs.Lists.{gather, Each}
use Rattle.rules.specs.Written.{Dataset, written_bytes}
use Rattle.rules.specs.Outcome.{done}
use Rattle.displays.specs.Display.{number_shown}
use Rattle.displays.specs.Publisher.{Publisher, first, Genuine, in_order}
use Rattle.parcels.specs.Parcel.{body_of, carries_file}
use Rattle.parcels.specs.Holding.{told}
use Rattle.parcels.specs.Shelf.{parcel_in, reply}
use Rattle.parcels.specs.Taking.{Reached, after_parcel, shown_by}
use Rattle.parcels.specs.declared.Reply.{Reply}
use Rattle.parcels.specs.declared.Reply.TheVariants.{Refused, Silence, Parcel}

-- ---- the cable

-- a parcel is refused with 27, or it carries a file as demand 3's cable does
unfoldable pub GenuineParcel : Publisher → List ℕ → Type 0
GenuineParcel P b = carries_file b ≡ true → Genuine P (body_of b)

-- parcels may be lost, repeated and late: any list of them, each with the room that the display has then
unfoldable pub Brought : Publisher → List Reached → Type 0
Brought P ts = Each (λ t. GenuineParcel P t.parcel) ts

-- ---- one exchange

-- what reached the display before it told its holding, what between that and the answer, and the answer as it reached it, none for silence
pub record Exchange : Type 0 where
  pub earlier : List Reached
  pub meanwhile : List Reached
  pub answer : Option Reached

-- the chart whose holding is told
abbrev pub when_told : List ℕ → Exchange → List ℕ
when_told c x = shown_by c x.earlier

-- the chart that the answer meets
abbrev pub when_answered : List ℕ → Exchange → List ℕ
when_answered c x = shown_by (when_told c x) x.meanwhile

-- the chart after the answer
unfoldable pub after_answer : List ℕ → Option Reached → List ℕ
after_answer c none = c
after_answer c (some t) = after_parcel c t

abbrev pub after_exchange : List ℕ → Exchange → List ℕ
after_exchange c x = after_answer (when_answered c x) x.answer

-- all that an exchange brought to the display
unfoldable pub answered : Option Reached → List Reached
answered none = []
answered (some t) = t ∷ []

unfoldable pub brought_by : Exchange → List Reached
brought_by x = x.earlier ++ (x.meanwhile ++ answered x.answer)

-- what arrives is the parcel that the master answered with
unfoldable pub Brings : List ℕ → Reply → Option Reached → Type 0
Brings s Refused a = ⊥
Brings s Silence none = Unit {0}
Brings s Silence (some t) = ⊥
Brings s (Parcel start whole) none = ⊥
Brings s (Parcel start whole) (some t) = t.parcel ≡ parcel_in s (record { start = start; whole = whole })

-- room suffices: the output slice holds the written form of a result, and the workspace has 400,000 bytes
pub record Fits (t : Reached) (r : Dataset) : Type 0 where
  pub slice : length (written_bytes r) ≤ t.room
  pub workspace : 400000 ≤ t.work

-- so it does for what the updates in order make of chart c
unfoldable pub RoomNext : Publisher → List ℕ → Option Reached → Type 0
RoomNext P c none = Unit {0}
RoomNext P c (some t) = (r : Dataset) → in_order P (suc (number_shown c - first P)) ≡ some r → Fits t r

-- an exchange over shelf s that arrives, at a display with chart c
pub record Arrives (P : Publisher) (s c : List ℕ) (x : Exchange) : Type 0 where
  pub earlier : Brought P x.earlier
  pub meanwhile : Brought P x.meanwhile
  pub holding : List ℕ
  pub tells : told (when_told c x) ≡ done holding
  pub answers : Brings s (reply holding s) x.answer
  pub room : RoomNext P (when_answered c x) x.answer

-- ---- one after the other: each holding is told after the answer before it was taken

unfoldable pub Exchanges : Publisher → List ℕ → List ℕ → List Exchange → Type 0
Exchanges P s c [] = Unit {0}
Exchanges P s c (x ∷ xs) = Arrives P s c x × Exchanges P s (after_exchange c x) xs

-- all that they brought to the display
unfoldable pub all_brought : List Exchange → List Reached
all_brought xs = gather brought_by xs

-- the chart after them
unfoldable pub after_all : List ℕ → List Exchange → List ℕ
after_all c [] = c
after_all c (x ∷ xs) = after_all (after_exchange c x) xs
