-- What is remembered of the items before item i, for each of the eight outermost depths, so that a long run is not looked back over from each of
-- its items: of depth d the parent, a code, and how many twins of that code, in the three numbers from 3 d on.
use Rattle.std.specs.Prelude.{◌≡◌, List, ℕ, ◌+◌, ◌*◌, ◌≤◌, ◌<◌, length, get_or}
use Rattle.items.specs.Items.{depth_of, code_of}
use Rattle.numbering.specs.Numbers.{parent_before, twins_before}
use Rattle.numbering.specs.declared.known.Numbers.{Numbers}

-- it is right of depth d
pub record Right (w : List ℕ) (i : ℕ) (k : List ℕ) (d : ℕ) : Type 0 where
  pub parent : get_or k (3 * d) 0 ≡ parent_before w d i
  pub twins : get_or k (3 * d + 2) 0 ≡ twins_before w d (get_or k (3 * d + 1) 0) i

-- it is right of the depths below e
pub record KnownTo (e : ℕ) (w : List ℕ) (i : ℕ) (k : List ℕ) : Type 0 where
  pub size : length k ≡ 24
  pub right : (d : ℕ) → d < e → d < 8 → Right w i k d

-- it is right of all that are remembered
abbrev pub Known : List ℕ → ℕ → List ℕ → Type 0
Known w i k = KnownTo 8 w i k

-- the index and the parent of item i; no more items were looked over than stand before it
pub record NumbersOf (w : List ℕ) (i : ℕ) (r : Numbers) : Type 0 where
  pub index_is : r.index ≡ twins_before w (depth_of w i) (code_of w i) i + 1
  pub parent_is : r.parent ≡ parent_before w (depth_of w i) i
  pub few : r.steps ≤ i
