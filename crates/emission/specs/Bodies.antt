-- The bodies of cells as they are written: one after the other, or each as an INAS field.
use Rattle.std.specs.Prelude.{ℕ, ◌-◌, List}
use Rattle.base.specs.Lists.{each, gather}
use Rattle.skeleton.specs.File.{Field}
use Rattle.rules.specs.Tags.{INAS}
use Rattle.rules.specs.Written.{field_as}
use Rattle.cells.specs.Cells.{bodies_from}

-- the bodies from cell i up to cell n
unfoldable pub bodies_left : List ℕ → List ℕ → List ℕ → ℕ → ℕ → List (List ℕ)
bodies_left d u c i n = bodies_from d u c i (n - i)

-- bodies one after the other
unfoldable pub joined : List (List ℕ) → List ℕ
joined bs = gather (λ b. b) bs

-- each body as an INAS
unfoldable pub inas_fields : List (List ℕ) → List Field
inas_fields bs = each (λ b. field_as INAS b) bs
