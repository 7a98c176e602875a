-- The two sides of a result: the dataset's records, which stay or are changed, and the update's, which insert some. A walk over either goes from record to record of its file.
use Rattle.std.specs.Prelude.{ℕ, suc, ◌+◌, ◌-◌, ◌*◌, ◌/◌, ◌≤◌, ◌<◌, ◌≡◌, Bool, true, false, List, ◌++◌, ltb, length, Result, Ok, Err}
use Rattle.base.specs.Lists.{Each}
use Rattle.skeleton.specs.File.{Field, records_from}
use Rattle.skeleton.specs.Place.{between, fields_at}
use Rattle.skeleton.specs.declared.directory.Shape.{Shape}
use Rattle.rules.specs.Record.{Rec}
use Rattle.sequence.specs.Keyed.{rank}
use Rattle.sequence.specs.Stream.{kept_of, joined_of}
use Rattle.updates.specs.Acts.{chart}
use Rattle.keys.specs.Look.{Sound}
use Rattle.stock.specs.Stock.{rec_in, Stock, stock_from}
use Rattle.incoming.specs.Fitting.{Rest}
use Rattle.version.specs.Areas.{flag_area}
use Rattle.version.specs.Present.{FlagsKept}
use Rattle.keys.specs.Places.{Leads}
use Rattle.lasting.specs.Whole.{Old, New}
use Rattle.lasting.specs.Step.{Stepped}
use Rattle.lasting.specs.declared.Step.{Step}
use Rattle.result.specs.Pass.{kinds_left, old_left, new_left, Passing, Walked, Sparing}
use Rattle.result.specs.declared.pass.Progress.{Progress}

-- one of the dataset's records from ds on begins at p, or they end there; those before it are of kinds before q
pub record Reached (d : List ℕ) (ds q p : ℕ) : Type 0 where
  pub sound : Sound d p
  pub stock : Stock d p
  pub before : List Rec
  pub split : before ++ stock_from d p ≡ stock_from d ds
  pub passed : Each (λ r. rank chart r < q) before
  pub leads : Leads d ds p

-- one of the update's records from us on begins at p, or they end there
pub record NewAt (u : List ℕ) (us p : ℕ) : Type 0 where
  pub sound : Sound u p
  pub rest : Rest u p
  pub before : List (List Field)
  pub split : before ++ (records_from u p).items ≡ (records_from u us).items
  pub leads : Leads u us p

-- the file of a side
unfoldable pub file_of : Bool → List ℕ → List ℕ → List ℕ
file_of true d u = d
file_of false d u = u

-- the old records stand kind by kind, and this key is of a kind behind the one with place q
unfoldable pub later_kind : Bool → ℕ → ℕ → Bool
later_kind true key q = ltb q (key / 4294967296)
later_kind false key q = false

-- where it went on, it stands at such a place
unfoldable pub StandsBy : (ℕ → Type 0) → Result Progress ℕ → Type 0
StandsBy At (Err k) = Unit {0}
StandsBy At (Ok g) = At g.next

module _ (d : List ℕ) (ds : ℕ) (u : List ℕ) (us : ℕ) where
  -- the side's record at p: len bytes of this shape, and its key has this number
  unfoldable pub Here : Bool → ℕ → ℕ → Shape → ℕ → Type 0
  Here true p len h key = Old d ds p len h key
  Here false p len h key = New u us p len h key

  -- a walk, from where the workspace was w and the output o
  pub record Ended (left later : List Rec) (most : ℕ) (At : ℕ → Type 0) (g : Progress) (w o w' o' : List ℕ) (r : Result Progress ℕ) : Type 0 where
    pub walked : Walked d ds u us left later most g o o' r
    pub stands : StandsBy At r
    pub flags : FlagsKept w w'

  -- for the kind with place q
  module _ (q : ℕ) where
    -- one of the side's records begins at p, or they end there
    unfoldable pub Stands : Bool → ℕ → Type 0
    Stands true p = Reached d ds (suc q) p
    Stands false p = NewAt u us p

    -- what is left of the result there, and behind the side
    unfoldable pub side_left : Bool → ℕ → List Rec
    side_left true p = old_left d ds u us q p
    side_left false p = new_left d ds u us q p

    unfoldable pub side_behind : Bool → List Rec
    side_behind true = new_left d ds u us q us
    side_behind false = kinds_left d ds u us (suc q)

    -- what the side's record at p leaves
    unfoldable pub side_one : Bool → ℕ → ℕ → Shape → List Rec
    side_one true p len h = kept_of chart q (records_from u us).items (rec_in (fields_at (between d p (p + len)) h 24))
    side_one false p len h = joined_of chart q (fields_at (between u p (p + len)) h 24) (records_from u (p + len)).items

    -- it was made, from where the workspace was w and the output o
    pub record Put (old : Bool) (p len : ℕ) (h : Shape) (sure : Bool) (to : ℕ) (w o w' o' : List ℕ) (s : Step) : Type 0 where
      pub made : Stepped d ds u us (flag_area w) sure (side_one old p len h) to o o' s
      pub flags : FlagsKept w w'

    -- the walk went from g on to h; each byte that is still to come may hold a record more
    pub record Onward (old : Bool) (g h : Progress) (o o' : List ℕ) : Type 0 where
      pub stands : Stands old h.next
      pub passing : Passing d ds u us (side_left old g.next) (side_left old h.next) g o o' (Ok h)
      pub forward : g.next ≤ h.next
      pub few : h.made + (length (file_of old d u) - h.next) ≤ g.made + (length (file_of old d u) - g.next)
      pub room : h.to ≤ 33854429 + 99999 * h.made
      pub spares : Sparing g o o' (Ok h)

    -- one turn of it: a loose reference, or a record further; or it stands still, since the side is over
    unfoldable pub TurnedTo : Bool → Progress → List ℕ → List ℕ → Result Progress ℕ → Type 0
    TurnedTo old g o o' (Err k) = (later : List Rec) → Passing d ds u us (side_left old g.next) later g o o' (Err k)
    TurnedTo old g o o' (Ok h) = Onward old g h o o' × (h.next ≡ g.next → side_left old h.next ≡ side_behind old)

    pub record Turned (old : Bool) (g : Progress) (w o w' o' : List ℕ) (r : Result Progress ℕ) : Type 0 where
      pub turned : TurnedTo old g o o' r
      pub flags : FlagsKept w w'
