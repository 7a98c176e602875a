-- Which kinds have attributes, and which have coordinates, by their rows. Assumes nothing.
use mathlib.Core.Path.{◌≡◌, refl, sym, ◌∙◌}
use mathlib.Core.Bool.{true, false, true≢false}
use Prim.Native.Nat.{ℕ}
use Rattle.rules.specs.Tags.{ATTR, COCC, C2IT, C2IL}
use Rattle.rules.specs.Kind.{rows_of}
use Rattle.rules.specs.declared.Kind.{Kind}
use Rattle.rules.specs.declared.Kind.TheVariants.{Info, Point, Multi, Feature}
use Rattle.sound.specs.Sound.{rowed}
use Rattle.version.specs.Held.{takes_tree}

-- a kind with a row for attributes takes a tree
pub tree_row : (k : Kind) → rowed ATTR (rows_of k) ≡ true → takes_tree k ≡ true
unfolding rows_of rowed takes_tree
tree_row Info e = refl
tree_row Point e = absurd (true≢false (sym e))
tree_row Multi e = absurd (true≢false (sym e))
tree_row Feature e = refl

-- a kind with a row that only kinds with coordinates have takes none
coord_row : (t : ℕ) → rowed t (rows_of Info) ≡ false → rowed t (rows_of Feature) ≡ false → (k : Kind) → rowed t (rows_of k) ≡ true → takes_tree k ≡ false
unfolding takes_tree
coord_row t i f Info e = absurd (true≢false (sym e ∙ i))
coord_row t i f Point e = refl
coord_row t i f Multi e = refl
coord_row t i f Feature e = absurd (true≢false (sym e ∙ f))

-- COCC, C2IT and C2IL are such rows
pub place_row : (k : Kind) → rowed COCC (rows_of k) ≡ true → takes_tree k ≡ false
unfolding rows_of rowed
place_row k e = coord_row COCC refl refl k e

pub point_row : (k : Kind) → rowed C2IT (rows_of k) ≡ true → takes_tree k ≡ false
unfolding rows_of rowed
point_row k e = coord_row C2IT refl refl k e

pub list_row : (k : Kind) → rowed C2IL (rows_of k) ≡ true → takes_tree k ≡ false
unfolding rows_of rowed
list_row k e = coord_row C2IL refl refl k e
