-- What the tests of the code say, way by way. Assumes nothing.
use mathlib.Core.Path.{◌≡◌, refl, sym, ◌∙◌}
use mathlib.Core.List.{List}
use mathlib.Core.Bool.{Bool, true, false, not, true≢false}
use Prim.Native.Nat.{ℕ, ◌+◌}
use lib.ListN.{get_or}
use lib.Dec.{eqb}
use Rattle.tree.specs.Source.{closed}
use Rattle.tree.specs.Due.{due_for}

-- a value, where the whole rule is asked for
pub closed_whole : (b : List ℕ) (whole : Bool) (at : ℕ) → whole ≡ true → not (eqb (get_or b (at + 7) 0) 31) ≡ closed b whole at
unfolding closed
closed_whole b whole at e = rw e

-- a delete, where only parents are
pub closed_parents : (b : List ℕ) (whole : Bool) (at : ℕ) → whole ≡ false → eqb (get_or b (at + 6) 0) 2 ≡ closed b whole at
unfolding closed
closed_parents b whole at e = rw e

-- a test that is not negated
pub asked : (w : Bool) → not w ≡ false → w ≡ true
asked true e = refl
asked false e = absurd (true≢false e)

-- a test that is negated does not hold
pub unasked : {X : Type 0} (w : Bool) → not w ≡ true → w ≡ true → X
unasked true e f = absurd (true≢false (sym e))
unasked false e f = absurd (true≢false (sym f))

-- ---- the index that is due: n, or 0 where none is

pub due_asked : (whole : Bool) (n : ℕ) → whole ≡ true → (r : ℕ) → r ≡ n → r ≡ due_for false whole n
unfolding due_for
due_asked whole n w r e = rw w e

pub due_unasked : (whole : Bool) (n : ℕ) → not whole ≡ true → 0 ≡ due_for false whole n
unfolding due_for
due_unasked true n e = absurd (true≢false (sym e))
due_unasked false n e = refl

pub due_sure : (sure whole : Bool) (n : ℕ) → sure ≡ true → (r : ℕ) → r ≡ n → r ≡ due_for sure whole n
unfolding due_for
due_sure sure whole n s r e = rw s e

pub due_unsure : (sure whole : Bool) (n : ℕ) → sure ≡ false → (r : ℕ) → r ≡ due_for false whole n → r ≡ due_for sure whole n
due_unsure sure whole n s r e = rw s e

-- it is the one where the whole rule is asked for
pub due_whole : (sure whole : Bool) (n r : ℕ) → r ≡ due_for sure whole n → whole ≡ true → r ≡ n
unfolding due_for
due_whole true whole n r e w = e
due_whole false whole n r e w = e ∙ rw w
