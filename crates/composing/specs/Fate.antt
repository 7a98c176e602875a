-- Whether a record stands under a key at the end of an update, by the last update record that names it.
use Rattle.std.specs.Prelude.{ℕ, Bool, not, List, [], ◌∷◌}
use Rattle.base.specs.Choice.{pick}
use Rattle.base.specs.Keys.{same}
use Rattle.sequence.specs.Keyed.{Parts}
use Rattle.sequence.specs.Order.{is_delete}

module _ (P : Parts) where
  open P use {Upd, act, names}

  -- b: whether one stood before the update records us
  unfoldable pub fate : List ℕ → List Upd → Bool → Bool
  fate k [] b = b
  fate k (u ∷ us) b = fate k us (pick (same (names u) k) (not (is_delete (act u))) b)
