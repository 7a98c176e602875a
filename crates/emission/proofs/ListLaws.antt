-- Laws of fields that are lists, and of fields one after the other. Assumes nothing.
use Prim.Native.Nat.{ℕ, zero, suc, ◌+◌, ◌*◌, ◌≤◌, ◌<◌}
use mathlib.Core.Path.{◌≡◌, refl, sym, ap, ◌∙◌}
use mathlib.Core.List.{List, [], ◌∷◌, ◌++◌, append-nil}
use native.Mathlib.Omega.{arith}
use borrow.Author.Tests.{eq-eqb, ne_eqb}
use lib.ListN.{length}
use Rattle.base.proofs.ListLaws.{none_long}
use Rattle.memory.specs.Put.{part}
use Rattle.memory.specs.Wrote.{Wrote}
use Rattle.memory.proofs.PutLaws.{length_part}
use Rattle.memory.proofs.WroteLaws.{then, wrote_none, wrote_length}
use Rattle.skeleton.specs.File.{Field}
use Rattle.skeleton.specs.Emit.{sizes, entries, contents}
use Rattle.skeleton.proofs.EmitFieldsLaws.{contents_append, entries_append}
use Rattle.forest.specs.Forest.{Forest}
use Rattle.forest.specs.Flat.{flat}
use Rattle.rules.specs.Tags.{ATTR, SPAS}
use Rattle.rules.specs.Written.{field_width, field_as, list_field, tree_bytes}
use Rattle.items.specs.Items.{its}
use Rattle.cells.specs.Cells.{bodies_of}
use Rattle.numbering.specs.Tuples.{Sized, Emitted, size_of}
use Rattle.writing.specs.Parts.{entry_bytes}
use Rattle.writing.proofs.PartsLaws.{wrote_as}
use Rattle.writing.proofs.RecordPartLaws.{list_some}
use Rattle.emission.specs.Bodies.{joined}
use Rattle.emission.specs.Fields.{list_size, list_count, ListEntry}

-- ---- fields one after the other

-- one run of fields written after another
pub contents_then : {at p q : ℕ} {d e o : List ℕ} (fs gs : List Field) → Wrote p (contents gs) e q o → Wrote at (contents fs) d p e
    → Wrote at (contents (fs ++ gs)) d q o
contents_then fs gs w v = wrote_as (sym (contents_append fs gs)) (then w v)

-- and of entries, where the first begin at pos and the second behind them
pub entries_then : {at p q : ℕ} {d e o : List ℕ} (pos pos' : ℕ) (fs gs : List Field) → pos' ≡ pos + sizes fs
    → Wrote p (entries field_width field_width pos' gs) e q o → Wrote at (entries field_width field_width pos fs) d p e
    → Wrote at (entries field_width field_width pos (fs ++ gs)) d q o
entries_then pos pos' fs gs n w v =
    wrote_as
    (ap (λ (k : ℕ). entries field_width field_width pos fs ++ entries field_width field_width k gs) n ∙ sym (entries_append field_width field_width pos fs gs))
    (then w v)

-- ---- a list

-- no bytes
module _ (n : ℕ) (z : n ≡ 0) where
  pub no_size : 0 ≡ list_size n
  unfolding list_size
  no_size = rw (eq-eqb n 0 z)

  pub no_count : 0 ≡ list_count n
  unfolding list_count
  no_count = rw (eq-eqb n 0 z)

-- some
module _ (n : ℕ) (z : n ≡ 0 → ⊥) where
  pub some_size : n + 1 ≡ list_size n
  unfolding list_size
  some_size = rw (ne_eqb n 0 z)

  pub some_count : 1 ≡ list_count n
  unfolding list_count
  some_count = rw (ne_eqb n 0 z)

pub ruleset list_numbers = (no_size, no_count, some_size, some_count)

-- bounds
pub size_most : (n : ℕ) → list_size n ≤ n + 1
size_most zero = omega (arith, no_size 0 refl)
size_most (suc n) = omega (arith, some_size (suc n) (λ h. omega arith))

pub size_least : (n : ℕ) → n ≤ list_size n
size_least zero = omega arith
size_least (suc n) = omega (arith, some_size (suc n) (λ h. omega arith))

pub count_most : (n : ℕ) → list_count n ≤ 1
count_most zero = omega (arith, no_count 0 refl)
count_most (suc n) = omega (arith, some_count (suc n) (λ h. omega arith))

pub length_list : (t : ℕ) (b : List ℕ) → length (list_field t b) ≡ list_count (length b)
unfolding list_field
length_list t [] = no_count 0 refl
length_list t (x ∷ b) = some_count (length (x ∷ b)) (λ h. omega arith)

pub sizes_list : (t : ℕ) (b : List ℕ) → sizes (list_field t b) ≡ list_size (length b)
unfolding list_field sizes
sizes_list t [] = no_size 0 refl
sizes_list t (x ∷ b) = omega (arith, some_size (length (x ∷ b)) (λ h. omega arith))

list_some_as : (t n : ℕ) (b : List ℕ) → length b ≡ n → (n ≡ 0 → ⊥) → list_field t b ≡ field_as t b ∷ []
list_some_as t n b e z = list_some t b (above (length b) (λ h. z (sym e ∙ h)))
  where
    above : (k : ℕ) → (k ≡ 0 → ⊥) → 0 < k
    above k h = omega arith

-- ---- `put_list_entry`

pub entry_none : (tag n pos at : ℕ) (d : List ℕ) → n ≡ 0 → ListEntry tag n pos at d at d
entry_none tag n pos at d z = record { next = omega (arith, no_count n z); is = λ b e. wrote_as (same b (e ∙ z)) (wrote_none at d) }
  where
    same : (b : List ℕ) → length b ≡ 0 → [] ≡ entries field_width field_width pos (list_field tag b)
    same b e = unfold entries list_field in rw (none_long b (omega (arith, e)))

pub entry_some : (tag n pos at : ℕ) (d : List ℕ) (p : ℕ) (o : List ℕ) → (n ≡ 0 → ⊥) → (p ≡ at + 14) × Wrote at (entry_bytes tag (n + 1) pos) d p o
    → ListEntry tag n pos at d p o
unfolding entry_bytes entries
entry_some tag n pos at d p o z w =
    record {
      next = omega (arith, some_count n z, w.0);
      is = λ b e. wrote_as (sym (append_nil_as b e)) w.1;
    }
  where
    append_nil_as : (b : List ℕ) → length b ≡ n → entries field_width field_width pos (list_field tag b) ≡ entry_bytes tag (n + 1) pos
    append_nil_as b e = rw (list_some_as tag n b e z, e) (append-nil (entry_bytes tag (n + 1) pos))

pub entry_room : (n at : ℕ) (d : List ℕ) → (n ≡ 0 → ⊥) → at + 14 * list_count n ≤ length d → at + 14 ≤ length d
entry_room n at d z h = omega (arith, some_count n z)

pub ruleset entry_ways = (entry_none, entry_some, entry_room)

-- ---- the bytes of a list, and its 1E

pub field_none : (t : ℕ) (b : List ℕ) (at : ℕ) (d : List ℕ) → length b ≡ 0 → Wrote at (contents (list_field t b)) d at d
unfolding contents list_field
field_none t b at d z = rw (none_long b (omega (arith, z))) (wrote_none at d)

pub field_some : {at p q : ℕ} {d e o : List ℕ} (t : ℕ) (b : List ℕ) → (length b ≡ 0 → ⊥) → Wrote p (30 ∷ []) e q o → Wrote at b d p e
    → Wrote at (contents (list_field t b)) d q o
unfolding contents
field_some t b z w v = rw (list_some_as t (length b) b refl z) (then w v)

-- ---- `put_list`

module _ (s : List ℕ) (from n at : ℕ) (d : List ℕ) where
  pub list_nothing : n ≡ 0 → (at ≡ at + list_size n) × ((tag : ℕ) → Wrote at (contents (list_field tag (part from n s))) d at d)
  list_nothing z = (omega (arith, no_size n z), λ tag. field_none tag (part from n s) at d (empty z))
    where
      empty : n ≡ 0 → length (part from n s) ≡ 0
      empty h = unfold part in rw h

  pub list_room : (n ≡ 0 → ⊥) → at + list_size n ≤ length d → at + n ≤ length d
  list_room z g = omega (arith, some_size n z)

  module _ (p : ℕ) (e : List ℕ) (w : (p ≡ at + n) × Wrote at (part from n s) d p e) where
    pub list_mark : (n ≡ 0 → ⊥) → at + list_size n ≤ length d → p + 1 ≤ length e
    list_mark z g = omega (arith, some_size n z, w.0, wrote_length w.1)

    pub list_written : (n ≡ 0 → ⊥) → from + n ≤ length s → (q : ℕ) (o : List ℕ) → (q ≡ p + 1) × Wrote p (30 ∷ []) e q o
        → (q ≡ at + list_size n) × ((tag : ℕ) → Wrote at (contents (list_field tag (part from n s))) d q o)
    list_written z g q o m = (
      omega (arith, some_size n z, w.0, m.0),
      λ tag. field_some tag (part from n s) (λ h. z (sym (length_part from n s g) ∙ h)) m.1 w.1,
    )

pub ruleset list_ways = (list_nothing, list_room, list_mark, list_written)

-- ---- `put_attributes`

module _ (s u w : List ℕ) (n size at : ℕ) (d : List ℕ) (k : Sized s u w n size) where
  pub attributes_none : size ≡ 0 → (at ≡ at + list_size size) × ((f : Forest) → its s u w 0 n ≡ flat 0 f → Wrote at (contents (list_field ATTR (tree_bytes f))) d at d)
  attributes_none z = (omega (arith, no_size size z), λ f h. field_none ATTR (tree_bytes f) at d (sym (k.is f h) ∙ z))

  pub attributes_room : (size ≡ 0 → ⊥) → at + list_size size ≤ length d → at + size_of (its s u w 0 n) ≤ length d
  attributes_room z g = omega (arith, some_size size z, k.sum)

  module _ (p : ℕ) (e : List ℕ) (w' : Emitted s u w n at d p e) where
    pub attributes_mark : (size ≡ 0 → ⊥) → length e ≡ length d → at + list_size size ≤ length d → p + 1 ≤ length e
    attributes_mark z l g = omega (arith, some_size size z, k.sum, w'.next)

    pub attributes_some : (size ≡ 0 → ⊥) → (q : ℕ) (o : List ℕ) → (q ≡ p + 1) × Wrote p (30 ∷ []) e q o
        → (q ≡ at + list_size size) × ((f : Forest) → its s u w 0 n ≡ flat 0 f → Wrote at (contents (list_field ATTR (tree_bytes f))) d q o)
    attributes_some z q o m = (
      omega (arith, some_size size z, k.sum, w'.next, m.0),
      λ f h. field_some ATTR (tree_bytes f) (λ y. z (k.is f h ∙ y)) m.1 (w'.is f h),
    )

pub ruleset attributes_ways = (attributes_none, attributes_room, attributes_mark, attributes_some)

-- ---- `put_spatial`

module _ (d u c : List ℕ) (n at : ℕ) (out : List ℕ) (k : length (joined (bodies_of d u c n)) ≡ 15 * n) where
  pub spatial_none : n ≡ 0 → Wrote at (contents (list_field SPAS (joined (bodies_of d u c n)))) out at out
  spatial_none z = field_none SPAS (joined (bodies_of d u c n)) at out (omega arith)

  pub spatial_room : (n ≡ 0 → ⊥) → at + list_size (15 * n) ≤ length out → at + length (joined (bodies_of d u c n)) ≤ length out
  spatial_room z g = omega (arith, some_size (15 * n) (λ h. z (omega arith)))

  module _ (p : ℕ) (e : List ℕ) (w : Wrote at (joined (bodies_of d u c n)) out p e) where
    pub spatial_mark : (n ≡ 0 → ⊥) → at + list_size (15 * n) ≤ length out → p + 1 ≤ length e
    spatial_mark z g = omega (arith, some_size (15 * n) (λ h. z (omega arith)), w.next, wrote_length w)

    pub spatial_some : (n ≡ 0 → ⊥) → (q : ℕ) (o : List ℕ) → (q ≡ p + 1) × Wrote p (30 ∷ []) e q o
        → Wrote at (contents (list_field SPAS (joined (bodies_of d u c n)))) out q o
    spatial_some z q o m = field_some SPAS (joined (bodies_of d u c n)) (λ h. z (omega arith)) m.1 w

pub ruleset spatial_ways = (spatial_none, spatial_room, spatial_mark, spatial_some)
