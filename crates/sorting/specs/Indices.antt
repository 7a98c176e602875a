-- Two indices at the end of an output: one of a dataset's records, and behind it one of an update's.
use Rattle.std.specs.Prelude.{ℕ, ◌+◌, ◌*◌, ◌≤◌, ◌<◌, ◌≡◌, true, List, length, drop}
use Rattle.base.specs.Choice.{pick}
use Rattle.skeleton.specs.Place.{between}
use Rattle.sorting.specs.Places.{Indexed}
use Rattle.sorting.specs.declared.limits.Limits.{Limits}

-- how far a pass that has come to `to` has written: a dry one nowhere
unfoldable pub reach : Limits → ℕ → ℕ
reach lim to = pick lim.dry 0 to

module _ (d : List ℕ) (ds : ℕ) (u : List ℕ) (us : ℕ) (lim : Limits) where
  -- the first stands in out from lim.old up to lim.new, the other from there on; each may be empty
  pub record Indices (out : List ℕ) : Type 0 where
    pub runs : lim.old ≤ lim.new
    pub inside : lim.new ≤ length out
    pub old : Indexed d ds (between out lim.old lim.new)
    pub new : Indexed u us (drop lim.new out)

  -- so it is with what a pass that has come to `to` leaves of them: the numbers, of 8 bytes, from some number on; a dry one begins behind the output's end
  pub record Spared (to : ℕ) (out : List ℕ) : Type 0 where
    pub runs : lim.old ≤ lim.new
    pub inside : lim.new ≤ length out
    pub old : (k : ℕ) → reach lim to ≤ lim.old + 8 * k → lim.old + 8 * k ≤ lim.new → Indexed d ds (between out (lim.old + 8 * k) lim.new)
    pub new : (k : ℕ) → reach lim to ≤ lim.new + 8 * k → lim.new + 8 * k ≤ length out → Indexed u us (drop (lim.new + 8 * k) out)
    pub past : lim.dry ≡ true → length out < to

-- the bytes from `to` on are as they were
pub record Beyond (to : ℕ) (before out : List ℕ) : Type 0 where
  pub long : length out ≡ length before
  pub same : drop to out ≡ drop to before

-- r is so many steps of 8 from `at` on, and not before `to`; none where `at` is not
pub record Past (at to r : ℕ) : Type 0 where
  pub steps : ℕ
  pub is : r ≡ at + 8 * steps
  pub reached : to ≤ r
