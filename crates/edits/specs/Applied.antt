-- What the edit by an update's ATTR promises.
use Rattle.std.specs.Prelude.{◌≡◌, List, ℕ, ◌+◌, ◌-◌, ◌*◌, ◌≤◌, Result, Ok, Err}
use Rattle.base.specs.Check.{Check, ok, no}
use Rattle.base.specs.declared.Fault.{Fault}
use Rattle.skeleton.specs.Place.{between}
use Rattle.forest.specs.Forest.{Forest}
use Rattle.forest.specs.Flat.{flat}
use Rattle.rules.specs.Modify.{act_attr}
use Rattle.items.specs.Items.{its}

-- c is what the answer says: refused, or a forest that the items of v are, whichever slices s and u are
unfoldable pub Outcome : List ℕ → List ℕ → List ℕ → Check Forest → Result ℕ Fault → Type 0
Outcome s u v c (Err f) = c ≡ no f
Outcome s u v c (Ok m) = (g : Forest) × (c ≡ ok g) × (its s u v 0 m ≡ flat 0 g)

-- the n items of w, which are a forest, were edited by the field from at up to e of u and became those of v; each tuple made at most one item
pub record Applied (u : List ℕ) (at e : ℕ) (w : List ℕ) (n : ℕ) (v : List ℕ) (r : Result ℕ Fault) : Type 0 where
  pub is : (s : List ℕ) (f : Forest) → its s u w 0 n ≡ flat 0 f → Outcome s u v (act_attr (between u at e) f) r
  pub size : (m : ℕ) → r ≡ Ok m → 8 * m ≤ 8 * n + (e - at)
