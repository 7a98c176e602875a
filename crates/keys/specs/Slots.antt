-- A map of the keys that can be named: small RCIDs of information types, points and multi points.
use Rattle.std.specs.Prelude.{ℕ, ◌+◌, List, Bool, eqb, ltb, Option}
use Rattle.base.specs.Choice.{pick}
use Rattle.keys.specs.Below.{below}
use Rattle.keys.specs.Bits.{raised}
use Rattle.keys.specs.Map.{Mapped, kind_in, rcid_in}

-- RCID in a part of the map that begins at first and has room for so many; 262,144, no place, where it is too large
unfoldable pub slot_within : ℕ → ℕ → ℕ → ℕ
slot_within first room rcid = pick (ltb rcid room) (first + rcid) 262144

-- the place of a key: half of the map is the points'
unfoldable pub slot_of : ℕ → ℕ
slot_of k =
    pick (eqb (kind_in k) 1) (slot_within 0 65536 (rcid_in k))
    (pick (eqb (kind_in k) 2) (slot_within 65536 131072 (rcid_in k))
    (pick (eqb (kind_in k) 3) (slot_within 196608 65536 (rcid_in k)) 262144))

-- it has one
unfoldable pub has_slot : ℕ → Bool
has_slot k = ltb (slot_of k) 262144

-- the place of a key that has one
unfoldable pub slot_in : ℕ → Option ℕ
slot_in k = below 262144 (slot_of k)

-- the flag of each key that has a place says whether it is among the keys
unfoldable pub Slots : List ℕ → List ℕ → Type 0
Slots l t = Mapped has_slot slot_of l t

-- the map with one key more
unfoldable pub noted : List ℕ → ℕ → List ℕ
noted t k = pick (has_slot k) (raised t (slot_of k)) t
