-- What serves to number many items where looking back from each would take long: a table of the parents at each depth, and a book of parents, depths and
-- codes with a tally for each.
use Rattle.std.specs.Prelude.{◌≡◌, List, true, ℕ, zero, suc, ◌+◌, ◌-◌, ◌*◌, ◌≤◌, ◌<◌, length, get_or, eqb}
use Rattle.base.specs.Choice.{pick}
use Rattle.book.specs.Book.{page_of, written}
use Rattle.items.specs.Items.{depth_of, code_of, under, twin_at}
use Rattle.numbering.specs.Numbers.{parent_before, twins_before}

-- the table k has the parent before item i at each depth below e, as far as it goes
unfoldable pub ParentsTo : ℕ → List ℕ → ℕ → List ℕ → Type 0
ParentsTo e w i k = (d : ℕ) → d < e → d < length k → get_or k d 0 ≡ parent_before w d i

-- at each depth that the item before item i is not above: at a deeper one that item itself is the parent
abbrev pub Parents : List ℕ → ℕ → List ℕ → Type 0
Parents w i k = ParentsTo (under w i) w i k

-- how many of the first i items have depth d, code c and parent p
unfoldable pub kin : List ℕ → ℕ → ℕ → ℕ → ℕ → ℕ
kin w d c p zero = 0
kin w d c p (suc i) = pick (eqb (parent_before w d i) p) (twin_at w i d c) 0 + kin w d c p i

-- depth, code and parent in one number
abbrev pub keyed : ℕ → ℕ → ℕ → ℕ
keyed d c p = (p * 65536 + d) * 65536 + c

-- of each depth, code and parent that the book has, the tally is how many of the first i items have them
unfoldable pub Tallied : List ℕ → List ℕ → List ℕ → ℕ → Type 0
Tallied w b t i = (d c p : ℕ) → d < 65536 → c < 65536 → written b (keyed d c p) ≡ true → get_or t (page_of b (keyed d c p)) 0 ≡ kin w d c p i

-- item i was counted; r are its twins, if they were asked for
pub record Joined (w b t : List ℕ) (i : ℕ) (asked : Type 0) (r : ℕ) : Type 0 where
  pub tallied : Tallied w b t (i + 1)
  pub twins : asked → r ≡ twins_before w (depth_of w i) (code_of w i) i
  pub few : r ≤ i

-- the index and the parent of each item from x up to y, in two numbers from 0 on
unfoldable pub Numbered : List ℕ → ℕ → ℕ → List ℕ → Type 0
Numbered w x y l =
    (i : ℕ) → x ≤ i → i < y
    → (get_or l (2 * (i - x)) 0 ≡ twins_before w (depth_of w i) (code_of w i) i + 1) × (get_or l (2 * (i - x) + 1) 0 ≡ parent_before w (depth_of w i) i)
