-- A publisher, the cable between it and the displays, and the chart that its updates make in order.
use Rattle.std.specs.Prelude.{ℕ, zero, suc, ◌+◌, ◌≡◌, List, [], ◌∷◌}
use Rattle.std.proofs.Math.Option.{Option, some, none}
use Rattle.fields.specs.Valid.{Bytes}
use Rattle.rules.specs.General.{number_of}
use Rattle.rules.specs.Written.{Dataset, written_bytes}
use Rattle.rules.specs.Outcome.{Outcome, done, refused}
use Rattle.rules.specs.File.{read_dataset, writable}
use Rattle.rules.specs.Answers.{not_too_long}
use Rattle.displays.specs.Display.{Handed, bears, updated_by}

-- one dataset, in a file of bytes that the writer would write, and at most one update file for each update number
pub record Publisher : Type 0 where
  pub source : List ℕ
  pub is_bytes : Bytes source
  pub dataset : Dataset
  pub is_read : read_dataset source ≡ done dataset
  pub is_writable : writable dataset ≡ done dataset
  pub is_short : not_too_long 3 (written_bytes dataset) ≡ done tt
  pub issued : ℕ → Option (List ℕ)

-- what was accepted, if it was
unfoldable pub accepted : Outcome Dataset → Option Dataset
accepted (done r) = some r
accepted (refused file n x) = none

-- a dataset after the next file: none where there is no such dataset or no such file, or where the rules refuse
unfoldable pub next : Option Dataset → Option (List ℕ) → Option Dataset
next (some d) (some file) = accepted (updated_by d file)
next (some d) none = none
next none file = none

module _ (P : Publisher) where
  -- every display starts from the written form of the dataset
  unfoldable pub start : List ℕ
  start = written_bytes P.dataset

  -- the dataset's own update number
  unfoldable pub first : ℕ
  first = number_of P.dataset.general

  -- the cable alters nothing: a file that bears a number is the one that was issued under it
  unfoldable pub Genuine : List ℕ → Type 0
  Genuine file = (n : ℕ) → bears file ≡ some n → P.issued n ≡ some file

  -- but it may lose, repeat and reorder files: any list of them, each with the room that the display has then
  unfoldable pub Cable : List Handed → Type 0
  Cable [] = Unit {0}
  Cable (h ∷ hs) = Genuine h.file × Cable hs

  -- the dataset after the first k updates that follow it, one after the other in the order of their numbers
  unfoldable pub in_order : ℕ → Option Dataset
  in_order zero = some P.dataset
  in_order (suc k) = next (in_order k) (P.issued (first + suc k))
