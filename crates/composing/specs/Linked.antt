-- Whether the records that a record names stand, whatever the order in which its associations are asked.
use Rattle.std.specs.Prelude.{ℕ, Bool, true, List, [], ◌∷◌, take}
use Rattle.base.specs.Choice.{both}
use Rattle.base.specs.Lists.{each}
use Rattle.rules.specs.Record.{Rec}
use Rattle.rules.specs.Modify.{assoc_key, spatial_key}

-- the record that each of these association keys names, RRNM and RRID, stands
unfoldable pub all_stand : (List ℕ → Bool) → List (List ℕ) → Bool
all_stand stands [] = true
all_stand stands (k ∷ ks) = both (stands (take 2 k)) (all_stand stands ks)

-- those that the associations of a record name
unfoldable pub linked : (List ℕ → Bool) → Rec → Bool
linked stands r = both (all_stand stands (each assoc_key r.parts.associations)) (all_stand stands (each spatial_key r.parts.spatial))
