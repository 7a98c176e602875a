-- The parts of a written record, field by field and number by number.
use Rattle.std.specs.Prelude.{ℕ, Bool, List, ◌++◌}
use Rattle.base.specs.Text.{ascii}
use Rattle.skeleton.specs.Digits.{in_digits}
use Rattle.skeleton.specs.Emit.{tag_bytes, marks}

-- the directory's entry of a field with this tag, of this size and at this position
unfoldable pub entry_bytes : ℕ → ℕ → ℕ → List ℕ
entry_bytes tag size pos = tag_bytes tag ++ (in_digits 5 size ++ in_digits 5 pos)

-- bytes 17 to 23 of the leader: the marks, the widths 5 and 5, and what closes it
unfoldable pub last_of_leader : Bool → List ℕ
last_of_leader first = marks first ++ ascii "5504"
