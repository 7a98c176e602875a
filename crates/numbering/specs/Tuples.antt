-- The tuples of an ATTR field that the items of the working form are written as.
use Rattle.std.specs.Prelude.{◌≡◌, List, [], ◌∷◌, ◌++◌, ℕ, zero, suc, ◌+◌, ◌-◌, ◌*◌, ◌≤◌, length}
use Rattle.base.specs.Lists.{each}
use Rattle.memory.specs.Wrote.{Wrote}
use Rattle.fields.specs.Table.{tuple_of}
use Rattle.fields.specs.Values.{puts, put_all}
use Rattle.fields.specs.declared.Format.TheVariants.{AttrNew}
use Rattle.forest.specs.Forest.{Forest, Tup}
use Rattle.forest.specs.Flat.{Item, flat}
use Rattle.rules.specs.Written.{tup_vals, tree_bytes}
use Rattle.items.specs.Items.{depth_of, code_of, value_of, its}
use Rattle.numbering.specs.Numbers.{parent_before, twins_before}
use Rattle.numbering.specs.declared.emitting.Part.{Part}

-- the bytes of a tuple
unfoldable pub tuple_bytes : Tup → List ℕ
tuple_bytes t = puts (tuple_of AttrNew) (tup_vals t)

-- the bytes of tuples one after the other
unfoldable pub tuples_bytes : List Tup → List ℕ
tuples_bytes ts = put_all (tuple_of AttrNew) (each tup_vals ts)

-- how many bytes items are written in: 7 for the numbers of each, its value, and 1F
unfoldable pub size_of : List Item → ℕ
size_of [] = 0
size_of (x ∷ xs) = 8 + length x.value + size_of xs

-- item i as a tuple with this index and parent
unfoldable pub tuple_with : List ℕ → List ℕ → List ℕ → ℕ → ℕ → ℕ → Tup
tuple_with s u w i index parent = record { natc = code_of w i; atix = index; paix = parent; atvl = value_of s u w i }

-- item i as a tuple
unfoldable pub tuple_at : List ℕ → List ℕ → List ℕ → ℕ → Tup
tuple_at s u w i = tuple_with s u w i (twins_before w (depth_of w i) (code_of w i) i + 1) (parent_before w (depth_of w i) i)

-- the bytes of the tuples of m items from i on
unfoldable pub bytes_from : List ℕ → List ℕ → List ℕ → ℕ → ℕ → List ℕ
bytes_from s u w i zero = []
bytes_from s u w i (suc m) = tuple_bytes (tuple_at s u w i) ++ bytes_from s u w (i + 1) m

-- those of the items from i up to k
unfoldable pub bytes_to : List ℕ → List ℕ → List ℕ → ℕ → ℕ → List ℕ
bytes_to s u w i k = bytes_from s u w i (k - i)

-- of the n items of w the first ones, as many as r says, were written from index `at` on over what was d and is e
pub record Begun (s u w : List ℕ) (n at : ℕ) (d : List ℕ) (r : Part) (e : List ℕ) : Type 0 where
  pub few : r.count ≤ n
  pub is : Wrote at (bytes_to s u w 0 r.count) d r.behind e

-- r is how many bytes the n items of w are written in: where they are a forest's, those of its tuples
pub record Sized (s u w : List ℕ) (n r : ℕ) : Type 0 where
  pub sum : r ≡ size_of (its s u w 0 n)
  pub is : (f : Forest) → its s u w 0 n ≡ flat 0 f → r ≡ length (tree_bytes f)
  pub least : 8 * n ≤ r
  pub most : r ≤ n * 16777224

-- the n items of w were written from index `at` on over what was d and is e: where they are a forest's, its tuples; r is the index after them
pub record Emitted (s u w : List ℕ) (n at : ℕ) (d : List ℕ) (r : ℕ) (e : List ℕ) : Type 0 where
  pub next : r ≡ at + size_of (its s u w 0 n)
  pub is : (f : Forest) → its s u w 0 n ≡ flat 0 f → Wrote at (tree_bytes f) d r e
