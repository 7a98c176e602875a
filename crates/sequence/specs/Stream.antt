-- The result of an accepted run with no list of records in between: each of its records once, in its last version.
use Rattle.std.specs.Prelude.{ℕ, zero, suc, Bool, true, false, not, List, [], ◌∷◌, ◌++◌, eqb}
use Rattle.std.proofs.Math.Option.{Option, some, none}
use Rattle.base.specs.Choice.{pick, both}
use Rattle.base.specs.Check.{Check, ok, no}
use Rattle.base.specs.Lists.{gather}
use Rattle.sequence.specs.Keyed.{Parts, rank}
use Rattle.sequence.specs.History.{history, version}
use Rattle.sequence.specs.Order.{is_insert, deleted}

-- m places from n on
unfoldable pub places : ℕ → ℕ → List ℕ
places n zero = []
places n (suc m) = n ∷ places (suc n) m

-- the record that a history ends with, if any
unfoldable pub last : {A : Type 0} → Check (Option A) → List A
last (ok (some r)) = r ∷ []
last (ok none) = []
last (no x) = []

-- a record stands at the end of a history
unfoldable pub stands : {A : Type 0} → Check (Option A) → Bool
stands (ok (some r)) = true
stands (ok none) = false
stands (no x) = false

module _ (P : Parts) where
  open P use {Rec, Upd, key, place, act, names}

  -- a record of kind q that no update record deletes, after those that name it
  unfoldable pub kept_of : ℕ → List Upd → Rec → List Rec
  kept_of q us r = pick (both (eqb (rank P r) q) (not (deleted P (key r) us))) (last (history P (key r) us (some r))) []

  -- the old records of kind q that stay, in their order
  unfoldable pub kept : ℕ → List Upd → List Rec → List Rec
  kept q us ds = gather (kept_of q us) ds

  -- the record of kind q that u inserts and none of the later update records us deletes, after those that name it
  unfoldable pub joined_of : ℕ → Upd → List Upd → List Rec
  joined_of q u us =
      pick (both (is_insert (act u)) (both (eqb (place (names u)) q) (not (deleted P (names u) us))))
      (last (history P (names u) (u ∷ us) none))
      []

  -- the inserted records of kind q that stay, in file order
  unfoldable pub joined : ℕ → List Upd → List Rec
  joined q [] = []
  joined q (u ∷ us) = joined_of q u us ++ joined q us

  -- of each kind the old records that stay, and then the inserted ones
  unfoldable pub stream : List ℕ → List Rec → List Upd → List Rec
  stream qs ds us = gather (λ q. kept q us ds ++ joined q us) qs

  -- a record stands under key k after the update records us
  unfoldable pub standing : List Rec → List Upd → List ℕ → Bool
  standing ds us k = stands (version P ds us k)
