-- A table of places where records begin, and a map of keys: what is needed to find a key quickly.
use Rattle.std.specs.Prelude.{ℕ, zero, suc, ◌+◌, ◌-◌, ◌/◌, ◌≤◌, ◌<◌, ◌≡◌, true, List, length, get_or, leb, ltb, Option, Some, None}
use Rattle.base.specs.Choice.{pick}
use Rattle.keys.specs.Listed.{keys_from}
use Rattle.keys.specs.Look.{look_at, Sound}
use Rattle.keys.specs.Places.{Leads, site_of}
use Rattle.keys.specs.Slots.{Slots}
use Rattle.keys.specs.Bits.{flag_of}
use Rattle.keys.specs.Order.{Ascending}
use Rattle.keys.specs.declared.look.Look.{Look}

-- the records from start on are right, and one of them begins at p, or they end there
pub record Tail (f : List ℕ) (start p : ℕ) : Type 0 where
  pub sound : Sound f start
  pub leads : Leads f start p

-- the same; and where the keys ascend, a key is found from there on as from start on
pub record Close (f : List ℕ) (start key p : ℕ) : Type 0 where
  pub tail : Tail f start p
  pub kept : Ascending (keys_from f start) → site_of f p key ≡ site_of f start key

-- a record of the file, or its end, is at each entry of the table, whether it was filled or not
unfoldable pub Tails : List ℕ → ℕ → List ℕ → Type 0
Tails f start t = (j : ℕ) → j < length t → Tail f start (get_or t j 0)

-- a table and a map of the records from start on; the first n entries of the table are to be tried
pub record Laid (f : List ℕ) (start : ℕ) (t : List ℕ) (n : ℕ) (map : List ℕ) : Type 0 where
  pub sound : Sound f start
  pub tails : Tails f start t
  pub room : n ≤ length t
  pub slots : Slots (keys_from f start) map
  pub ordered : flag_of map 262144 ≡ true → Ascending (keys_from f start)

-- ---- a place from which to look for a key

-- the entries from lo up to hi are still to be tried, and this is the place so far
pub record Half : Type 0 where
  pub lo : ℕ
  pub hi : ℕ
  pub place : ℕ

abbrev pub half : ℕ → ℕ → ℕ → Half
half lo hi p = record { lo = lo; hi = hi; place = p }

-- the entry in the middle
abbrev pub middle : Half → ℕ
middle h = h.lo + (h.hi - h.lo) / 2

-- by what stands at q, which is the middle entry m: a record whose key is not above the key is the place so far
abbrev pub half_by : ℕ → Half → ℕ → ℕ → Option Look → Half
half_by key h m q (Some l) = pick (leb l.key key) (half (m + 1) h.hi q) (half h.lo m h.place)
half_by key h m q None = half h.hi h.hi h.place

-- at most so many times
unfoldable pub halved : ℕ → List ℕ → List ℕ → ℕ → Half → Half
halved zero f t key h = h
halved (suc n) f t key h =
    pick (ltb h.lo h.hi) (halved n f t key (half_by key h (middle h) (get_or t (middle h) 0) (look_at f (get_or t (middle h) 0)))) h

-- by halves, of the first n entries of the table; start where none of those tried will do
unfoldable pub start_near : List ℕ → ℕ → List ℕ → ℕ → ℕ → ℕ
start_near f start t n key = (halved n f t key (half 0 n start)).place
