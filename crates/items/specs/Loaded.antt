-- What the loading of a stored field promises.
use Rattle.std.specs.Prelude.{◌≡◌, List, ℕ, ◌-◌, ◌*◌, ◌≤◌}
use Rattle.base.specs.Check.{ok}
use Rattle.skeleton.specs.Place.{between}
use Rattle.forest.specs.Forest.{Forest}
use Rattle.forest.specs.Flat.{flat}
use Rattle.rules.specs.Trees.{attr_tree}
use Rattle.items.specs.Items.{its, source}

-- n items of w are the tree of the field from at up to e, whichever slices s and u are of which x names b; and they are no longer than the field
pub record Loaded (b : List ℕ) (at e x : ℕ) (w : List ℕ) (n : ℕ) : Type 0 where
  pub is : (s u : List ℕ) → source x s u ≡ b → (f : Forest) → attr_tree (between b at e) ≡ ok f → its s u w 0 n ≡ flat 0 f
  pub size : 8 * n ≤ e - at
