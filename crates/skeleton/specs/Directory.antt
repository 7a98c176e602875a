-- The directory of a record, and the bounds of its fields.
use Rattle.std.specs.Prelude.{ℕ, ◌+◌, ◌-◌, ◌*◌, List, Bool, not, length, get_or, leb, ltb, eqb, Option, Some, None, Result, Ok, Err}
use Rattle.base.specs.Choice.{pick, both}
use Rattle.base.specs.Walk.{Step, more, over, Got, walk}
use Rattle.skeleton.specs.Digits.{number_at}
use Rattle.skeleton.specs.declared.leader.Broken.{Broken}
use Rattle.skeleton.specs.declared.leader.Broken.TheVariants.{Directory}
use Rattle.skeleton.specs.declared.directory.Entry.{Entry}
use Rattle.skeleton.specs.declared.directory.Entry.TheVariants.{Field, End, Bad}

-- where a field lies: its tag, where its body starts in the record, and how long it is, its last byte, 1E, included
pub record Body : Type 0 where
  pub tag : ℕ
  pub start : ℕ
  pub len : ℕ

-- the four bytes from p as one number, the first the highest
unfoldable pub tag_at : List ℕ → ℕ → ℕ
tag_at r p = ((get_or r p 0 * 256 + get_or r (p + 1) 0) * 256 + get_or r (p + 2) 0) * 256 + get_or r (p + 3) 0

-- the number that what stands there refuses the record with: 3 where it is no entry; 0 where it is one or the end, and what that says is still to be tested
abbrev pub number_of : Entry → ℕ
number_of (Field tag pos len next) = 0
number_of End = 0
number_of Bad = 3

-- an entry, where its length and its position are digits
abbrev pub entry_of : ℕ → ℕ → Option ℕ → Option ℕ → Entry
entry_of tag next (Some len) (Some pos) = Field tag pos len next
entry_of tag next (Some len) None = Bad
entry_of tag next None pos = Bad

-- the entry in the 4+a+b bytes from p: tag, length, position
unfoldable pub entry_in : List ℕ → ℕ → ℕ → ℕ → Entry
entry_in r a b p = entry_of (tag_at r p) (p + (4 + a + b)) (number_at r (p + 4) a) (number_at r (p + 4 + a) b)

-- the same entry, read past z zeros at the front of each number: m and n digits are left of them
unfoldable pub entry_past : List ℕ → ℕ → ℕ → ℕ → ℕ → Entry
entry_past r z m n p =
    entry_of (tag_at r p) (p + 4 + (z + m) + (z + n)) (number_at r (p + 4 + z) m) (number_at r (p + 4 + (z + m) + z) n)

-- two zeros (48) stand at p
unfoldable pub zeros_at : List ℕ → ℕ → Bool
zeros_at r p = both (eqb (get_or r p 0) 48) (eqb (get_or r (p + 1) 0) 48)

-- the numbers of the entry at p have five digits each and begin with two zeros
unfoldable pub small_at : List ℕ → ℕ → ℕ → ℕ → Bool
small_at r a b p = both (eqb a 5) (both (eqb b 5) (both (zeros_at r (p + 4)) (zeros_at r (p + 9))))

-- what stands at p: 1E (30) where an entry would start ends the directory
unfoldable pub entry_at : List ℕ → ℕ → ℕ → ℕ → Entry
entry_at r a b p =
    pick (leb (length r) p) Bad
    (pick (eqb (get_or r p 0) 30) End
    (pick (ltb (length r - p) (4 + a + b)) Bad (entry_in r a b p)))

-- a field of len bytes at pos: no gap before it, at least one byte, it lies in the record and ends in 1E
unfoldable pub lies : List ℕ → ℕ → ℕ → ℕ → ℕ → Bool
lies r base at pos len =
    both (eqb pos at) (both (not (eqb len 0)) (both (leb (base + pos + len) (length r)) (eqb (get_or r (base + pos + len - 1) 0) 30)))

-- the directory ends at p: there is a field, the base address is the offset after the 1E, and the fields, at bytes in all, fill the record
unfoldable pub ended : List ℕ → ℕ → ℕ → ℕ → Bool
ended r base p at = both (ltb 24 p) (both (eqb (p + 1) base) (eqb (base + at) (length r)))

-- what the entry at p says, where the fields before it are at bytes in all
abbrev pub step_by : List ℕ → ℕ → ℕ → ℕ → Entry → Step (ℕ × ℕ) Body
step_by r base p at (Field tag pos len next) =
    pick (lies r base at pos len) (more (record { tag = tag; start = base + pos; len = len }) (next, at + len)) (over 3)
step_by r base p at End = over (pick (ended r base p at) 0 3)
step_by r base p at Bad = over (number_of Bad)

-- one step over a directory, from the place of an entry and from where its field has to begin
abbrev pub dir_step : List ℕ → ℕ → ℕ → ℕ → ℕ × ℕ → Step (ℕ × ℕ) Body
dir_step r base a b s = step_by r base s.0 s.1 (entry_at r a b s.0)

-- the fields from the entry at p on, the first of which has to begin at at
unfoldable pub fields_from : List ℕ → ℕ → ℕ → ℕ → ℕ → ℕ → Got Body
fields_from r base a b p at = walk (dir_step r base a b) (λ s. length r - s.0) (p, at)

-- the fields of a record, with the number 0, or 3 where the directory or a field's bounds are wrong
abbrev pub fields_of : List ℕ → ℕ → ℕ → ℕ → Got Body
fields_of r base a b = fields_from r base a b 24 0

-- what the number with which the walk over a directory ended says of it
abbrev pub directed : ℕ → Result (Unit {0}) Broken
directed n = pick (eqb n 0) (Ok tt) (Err Directory)
