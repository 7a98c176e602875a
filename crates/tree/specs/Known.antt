-- What is known at an offset that a walk over the tuples of a field has come to.
use Rattle.std.specs.Prelude.{◌≡◌, List, ℕ, ◌+◌, ◌≤◌, ◌<◌, length}
use Rattle.tree.specs.Source.{past, count}

-- from an offset on the bytes are whole tuples up to the end
pub data Whole (b : List ℕ) : ℕ → Type 0 where
  ended : {at : ℕ} → at ≡ length b → Whole b at
  onward : {at : ℕ} → past b at ≤ length b → Whole b (past b at) → Whole b at

-- an offset that tuples lead to from another
pub data Reach (b : List ℕ) : ℕ → ℕ → Type 0 where
  there : {i at : ℕ} → i ≡ at → Reach b i at
  further : {i at : ℕ} → i < at → Reach b (past b i) at → Reach b i at

-- no tuple before the offset names parent p
abbrev pub Fresh : List ℕ → ℕ → ℕ → Type 0
Fresh b at p = (c : ℕ) → count b 0 at c p ≡ 0

-- what is known at the offset of the tuple of place k in a run of parent p
pub record Known (b : List ℕ) (p at k : ℕ) : Type 0 where
  pub whole : Whole b at
  pub reached : Reach b 0 at
  pub outer : p < k
  pub slow : k ≤ at + 1
  pub low : (q : ℕ) → k ≤ q → Fresh b at q

-- what a run of parent p remembers of its entries before the offset: top is no smaller than any of their codes, and so many of them have it
pub record Seen (b : List ℕ) (p at top many : ℕ) : Type 0 where
  pub none : (c : ℕ) → top < c → count b 0 at c p ≡ 0
  pub some : count b 0 at top p ≡ many
