-- What `list` promises of its result and of every byte of the slice.
use Rattle.std.specs.Prelude.{ℕ, ◌≤◌, ◌≡◌, List, length}
use Rattle.memory.specs.Hold.{hold}
use Rattle.rules.specs.Listing.{listing}
use Rattle.listing.specs.Listed.{longest, listed}

-- of an input and a slice of so many bytes: the result, and the slice afterwards, the listing and zeroes behind it; and a slice of `longest` bytes has room
pub record Lists (input : List ℕ) (room n : ℕ) (out : List ℕ) : Type 0 where
  pub long : n ≡ length (listed input room)
  pub holds : out ≡ hold room (listed input room)
  pub enough : length (listing input) ≤ longest
