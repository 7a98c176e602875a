-- The working form of a record's attributes in lent memory: item i is the 8 bytes from 8 i on, its depth, its code, and where its value stands: an offset
-- of three bytes, and which of two slices it is in (0 the dataset s, else the update u). Values are never moved.
use Rattle.std.specs.Prelude.{◌≡◌, List, [], ◌∷◌, ℕ, zero, suc, ◌+◌, ◌-◌, ◌*◌, ◌/◌, ◌%◌, ◌<◌, get_or, take, drop, eqb}
use Rattle.base.specs.Choice.{pick}
use Rattle.fields.specs.Bytes.{run}
use Rattle.forest.specs.Flat.{Item, item}

-- the number of two bytes at an index, the lowest first
unfoldable pub u16 : List ℕ → ℕ → ℕ
u16 w i = get_or w i 0 + 256 * get_or w (i + 1) 0

-- the text from an offset on, without the byte that ends it
unfoldable pub text_from : List ℕ → ℕ → List ℕ
text_from b at = take (run (drop at b)) (drop at b)

-- the depth of item i
abbrev pub depth_of : List ℕ → ℕ → ℕ
depth_of w i = u16 w (8 * i)

-- its code
abbrev pub code_of : List ℕ → ℕ → ℕ
code_of w i = u16 w (8 * i + 2)

-- the offset of its value
unfoldable pub offset_of : List ℕ → ℕ → ℕ
offset_of w i = get_or w (8 * i + 4) 0 + 256 * get_or w (8 * i + 5) 0 + 65536 * get_or w (8 * i + 6) 0

-- which slice its value is in
abbrev pub source_of : List ℕ → ℕ → ℕ
source_of w i = get_or w (8 * i + 7) 0

-- the slice that x names
unfoldable pub source : ℕ → List ℕ → List ℕ → List ℕ
source x s u = pick (eqb x 0) s u

-- its value
unfoldable pub value_of : List ℕ → List ℕ → List ℕ → ℕ → List ℕ
value_of s u w i = text_from (source (source_of w i) s u) (offset_of w i)

-- item i
unfoldable pub item_at : List ℕ → List ℕ → List ℕ → ℕ → Item
item_at s u w i = item (depth_of w i) (code_of w i) (value_of s u w i)

-- m items from i on
unfoldable pub items_from : List ℕ → List ℕ → List ℕ → ℕ → ℕ → List Item
items_from s u w i zero = []
items_from s u w i (suc m) = item_at s u w i ∷ items_from s u w (i + 1) m

-- the items from i up to n
unfoldable pub its : List ℕ → List ℕ → List ℕ → ℕ → ℕ → List Item
its s u w i n = items_from s u w i (n - i)

-- the bytes of a reference to a value
unfoldable pub ref_bytes : ℕ → ℕ → List ℕ
ref_bytes o x = o % 256 ∷ o / 256 % 256 ∷ o / 65536 % 256 ∷ x ∷ []

-- the bytes of an item
unfoldable pub item_bytes : ℕ → ℕ → ℕ → ℕ → List ℕ
item_bytes d c o x = d % 256 ∷ d / 256 % 256 ∷ c % 256 ∷ c / 256 % 256 ∷ ref_bytes o x

-- the depth below place p: 0 for none, else one more than that of the item of that place
unfoldable pub under : List ℕ → ℕ → ℕ
under w zero = 0
under w (suc p) = depth_of w p + 1

-- 1 where item i has depth d and code c, else 0
unfoldable pub twin_at : List ℕ → ℕ → ℕ → ℕ → ℕ
twin_at w i d c = pick (eqb (depth_of w i) d) (pick (eqb (code_of w i) c) 1 0) 0

-- the first m bytes of v are those of w
unfoldable pub Same : List ℕ → List ℕ → ℕ → Type 0
Same w v m = (k : ℕ) → k < m → get_or v k 0 ≡ get_or w k 0
