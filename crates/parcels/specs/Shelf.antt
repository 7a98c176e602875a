-- A shelf, parcels of kind 2 one after the other, and what its master answers a holding with.
use Rattle.std.specs.Prelude.{ℕ, ◌+◌, ◌-◌, List, [], ◌∷◌, length, drop, eqb, leb}
use Rattle.base.specs.Choice.{pick}
use Rattle.base.specs.Walk.{Step, more, over, Got, walk}
use Rattle.skeleton.specs.Place.{between}
use Rattle.rules.specs.Answers.{refusal, success}
use Rattle.rules.specs.declared.Answer.{Answer}
use Rattle.parcels.specs.Parcel.{whole_of, body_of, tells_holding, fronts_file, wrong_parcel}
use Rattle.parcels.specs.Holding.{follows}
use Rattle.parcels.specs.declared.Reply.{Reply}
use Rattle.parcels.specs.declared.Reply.TheVariants.{Refused, Silence, Parcel}

-- ---- parcels one after the other

-- where a parcel starts, and its whole length
pub record Placed : Type 0 where
  pub start : ℕ
  pub whole : ℕ

-- its bytes
unfoldable pub parcel_in : List ℕ → Placed → List ℕ
parcel_in s x = between s x.start (x.start + x.whole)

-- the file that it carries
unfoldable pub file_in : List ℕ → Placed → List ℕ
file_in s x = body_of (parcel_in s x)

-- the parcel that stands at p
abbrev pub placed : List ℕ → ℕ → Placed
placed s p = record { start = p; whole = whole_of (drop p s) }

-- one step: at the end the walk is over, else the parcel that stands at p, or 27
abbrev pub shelf_step : List ℕ → ℕ → Step ℕ Placed
shelf_step s p =
    let here = more (placed s p) (p + whole_of (drop p s)) in
    pick (leb (length s) p) (over 0) (pick (fronts_file (drop p s)) here (over 27))

-- the parcels from p on, up to the first that is wrong (ending 27), or all of them (ending 0)
unfoldable pub shelf_from : List ℕ → ℕ → Got Placed
shelf_from s p = walk (shelf_step s) (λ q. length s - q) p

-- ---- the answer

-- the first that follows; else, at the end, silence, and where a parcel was wrong 27
unfoldable pub first_of : List ℕ → List ℕ → ℕ → List Placed → Reply
first_of h s ending [] = pick (eqb ending 0) Silence Refused
first_of h s ending (x ∷ xs) = pick (follows h (file_in s x)) (Parcel x.start x.whole) (first_of h s ending xs)

-- the answer of the shelf from p on
unfoldable pub reply_from : List ℕ → List ℕ → ℕ → Reply
reply_from h s p = first_of h s (shelf_from s p).ending (shelf_from s p).items

-- the holding before the shelf
unfoldable pub reply : List ℕ → List ℕ → Reply
reply h s = pick (tells_holding h) (reply_from h s 0) Refused

-- in the numbers of an answer: 27, file and record 0; else done, length and count 0
unfoldable pub reply_answer : Reply → Answer
reply_answer Refused = refusal 0 0 wrong_parcel
reply_answer Silence = success 0 0
reply_answer (Parcel start length) = success 0 0
