-- The listing lies in the slice that it was asked for. Assumes nothing.
use mathlib.Core.Path.{◌≡◌, refl, sym, ap, ◌∙◌}
use mathlib.Core.Bool.{Bool, true, false}
use mathlib.Core.List.{List, []}
use Prim.Native.Nat.{ℕ, ◌≤◌}
use native.Mathlib.Omega.{arith}
use borrow.Author.Tests.{ltb-false}
use lib.Dec.{ltb}
use lib.ListN.{length, take}
use Rattle.base.specs.Choice.{pick}
use Rattle.memory.proofs.HoldLaws.{length_hold, take_hold}
use Rattle.rules.specs.Listing.{listing}
use Rattle.listing.specs.Listed.{listed}
use Rattle.listing.specs.Lists.{Lists}

listed_in : (f : List ℕ) (room : ℕ) → length (listed f room) ≤ room
unfolding listed
listed_in f room = go (ltb room (length (listing f))) refl
  where
    go : (t : Bool) → ltb room (length (listing f)) ≡ t → length (pick t [] (listing f)) ≤ room
    go true e = omega arith
    go false e = ltb-false room (length (listing f)) e

module _ (f : List ℕ) (room n : ℕ) (e : List ℕ) (w : Lists f room n e) where
  pub text_fits : n ≤ length e
  text_fits = omega (arith, w.long, listed_in f room, ap length w.holds ∙ length_hold room (listed f room) (listed_in f room))

  pub text_long : n ≡ length (take n e)
  text_long = w.long ∙ ap length (sym (ap (take n) w.holds ∙ take_hold room n (listed f room) (sym w.long)))
