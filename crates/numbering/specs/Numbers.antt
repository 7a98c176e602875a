-- The index and the parent of an item, by what stands before it in the working form.
use Rattle.std.specs.Prelude.{List, ℕ, zero, suc, ◌+◌, ltb}
use Rattle.base.specs.Choice.{pick}
use Rattle.items.specs.Items.{depth_of, twin_at}

-- the place, counted from 1, of the nearest item before item j that is less deep than d; 0 for none
unfoldable pub parent_before : List ℕ → ℕ → ℕ → ℕ
parent_before w d zero = 0
parent_before w d (suc j) = let on = parent_before w d j in pick (ltb (depth_of w j) d) (suc j) on

-- how many items of depth d and code c stand before item j, back to the nearest one that is less deep
unfoldable pub twins_before : List ℕ → ℕ → ℕ → ℕ → ℕ
twins_before w d c zero = 0
twins_before w d c (suc j) = let on = twin_at w j d c + twins_before w d c j in pick (ltb (depth_of w j) d) 0 on
