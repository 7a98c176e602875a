-- Laws of what `list` promises. Assumes nothing.
use Prim.Native.Nat.{ℕ, ◌<◌}
use mathlib.Core.Path.{◌≡◌, refl, sym, ◌∙◌}
use mathlib.Core.Bool.{Bool, true, false}
use mathlib.Core.List.{List, [], ◌∷◌, ◌++◌}
use native.Mathlib.Omega.{arith}
use borrow.Author.Tests.{ltb-true}
use lib.Dec.{ltb}
use lib.ListN.{length, length-append}
use Rattle.base.specs.Choice.{pick}
use Rattle.base.specs.Text.{ascii}
use Rattle.skeleton.specs.Digits.{in_fewest_digits}
use Rattle.rules.specs.Written.{Dataset}
use Rattle.rules.specs.Outcome.{Outcome, done, refused}
use Rattle.rules.specs.File.{read_dataset}
use Rattle.rules.specs.Listing.{line, record_lines, header, too_long, printed, listing}
use Rattle.listing.specs.Listed.{listed}
use Rattle.listing.specs.Lists.{Lists}

-- two outcomes of one call are equal
pub lists_once : (f : List ℕ) (room n m : ℕ) (o p : List ℕ) → Lists f room n o → Lists f room m p → (n ≡ m) × (o ≡ p)
lists_once f room n m o p x y = (x.long ∙ sym y.long, x.holds ∙ sym y.holds)

-- ---- 0 is for no room

-- a line ends with a newline
line_some : (w : List ℕ) (ws : List (List ℕ)) → 0 < length (line w ws)
unfolding line
line_some w [] = omega (arith, length-append w (10 ∷ []))
line_some w (v ∷ vs) = omega (arith, length-append w (32 ∷ line v vs))

printed_some : (c : Outcome Dataset) → 0 < length (printed c)
unfolding printed
printed_some (done d) = omega (arith, length-append header (record_lines 4 d.records ++ line (ascii "total") (in_fewest_digits (length d.records) ∷ [])))
printed_some (refused file n x) = line_some _ _

-- no listing is empty
pub listing_some : (f : List ℕ) → 0 < length (listing f)
unfolding listing
listing_some f = go (ltb 65536 (length f))
  where
    go : (t : Bool) → 0 < length (pick t too_long (printed (read_dataset f)))
    go true = omega arith
    go false = printed_some (read_dataset f)

-- where there is room it is listed whole
listed_whole : (f : List ℕ) (room : ℕ) → ltb room (length (listing f)) ≡ false → length (listed f room) ≡ length (listing f)
unfolding listed
listed_whole f room e = rw e

-- so where the result is 0 there was none
pub lists_none : (f : List ℕ) (room n : ℕ) (o : List ℕ) → Lists f room n o → n ≡ 0 → room < length (listing f)
lists_none f room n o l z = go (ltb room (length (listing f))) refl
  where
    go : (t : Bool) → ltb room (length (listing f)) ≡ t → room < length (listing f)
    go true e = ltb-true room (length (listing f)) e
    go false e = absurd (omega (arith, listing_some f, l.long, listed_whole f room e))
