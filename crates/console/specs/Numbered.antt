-- An answer, and a few numbers, in a lent slice.
use Rattle.std.specs.Prelude.{ℕ, ◌≡◌, List, ◌∷◌, length, drop, ltb}
use Rattle.base.specs.Choice.{pick}
use Rattle.rules.specs.declared.Answer.{Answer}

-- number, file, record, length and count stand in the first five places, the others are as they were; a shorter slice stays as it was
unfoldable pub numbered : Answer → List ℕ → List ℕ
numbered a old =
    let put = a.number ∷ a.file ∷ a.rec ∷ a.length ∷ a.count ∷ drop 5 old in
    pick (ltb (length old) 5) old put

-- two numbers stand in the first two places, the others are as they were; a shorter slice stays as it was
unfoldable pub two_of : ℕ → ℕ → List ℕ → List ℕ
two_of a b old = let put = a ∷ b ∷ drop 2 old in pick (ltb (length old) 2) old put

-- and three
unfoldable pub three_of : ℕ → ℕ → ℕ → List ℕ → List ℕ
three_of a b c old = let put = a ∷ b ∷ c ∷ drop 3 old in pick (ltb (length old) 3) old put

-- how a call says an answer: its number is the result n, and its five numbers stand in the slice, which was old and is new
pub record Says (a : Answer) (old : List ℕ) (n : ℕ) (new : List ℕ) : Type 0 where
  pub result : n ≡ a.number
  pub numbers : new ≡ numbered a old
