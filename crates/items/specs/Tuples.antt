-- The tuples of an ATTR field that stands in a slice from one offset up to another.
use Rattle.std.specs.Prelude.{◌≡◌, List, [], ◌∷◌, ℕ, zero, suc, ◌+◌, ◌≤◌, get_or, ltb}
use Rattle.base.specs.Choice.{pick}
use Rattle.fields.specs.Values.{Val, num, txt}
use Rattle.tree.specs.Source.{past}
use Rattle.items.specs.Items.{u16, text_from}

-- from an offset on the bytes are whole tuples up to e
pub data Tuples (b : List ℕ) (e : ℕ) : ℕ → Type 0 where
  ended : {at : ℕ} → at ≡ e → Tuples b e at
  onward : {at : ℕ} → past b at ≤ e → Tuples b e (past b at) → Tuples b e at

-- the values of the tuple at an offset: NATC, ATIX, PAIX, ATIN, ATVL
abbrev pub tuple_at : List ℕ → ℕ → List Val
tuple_at b at = num (u16 b at) ∷ num (u16 b (at + 2)) ∷ num (u16 b (at + 4)) ∷ num (get_or b (at + 6) 0) ∷ txt (text_from b (at + 7)) ∷ []

-- those of at most n tuples from an offset up to e
unfoldable pub tuples_up_to : ℕ → List ℕ → ℕ → ℕ → List (List Val)
tuples_up_to zero b at e = []
tuples_up_to (suc n) b at e = pick (ltb at e) (tuple_at b at ∷ tuples_up_to n b (past b at) e) []

-- those of the tuples from an offset up to e
unfoldable pub tuples_to : List ℕ → ℕ → ℕ → List (List Val)
tuples_to b at e = tuples_up_to e b at e
