-- Walks over the items of a run, by which its searches are done.
use Rattle.std.specs.Prelude.{◌≡◌, List, ℕ, zero, suc, ◌+◌, ◌-◌, ◌≤◌, ◌<◌, ltb}
use Rattle.base.specs.Choice.{pick}
use Rattle.items.specs.Items.{depth_of, twin_at}
use Rattle.edits.specs.Search.{place_of, end_of, twins}
use Rattle.edits.specs.declared.walking.Reach.{Reach}

-- what item i weighs for a walk in the run of depth d: 1 where it has code c, and more than all items that have it where it ends the run
unfoldable pub heft : List ℕ → ℕ → ℕ → ℕ → ℕ
heft w i d c = pick (ltb (depth_of w i) d) 65536 (twin_at w i d c)

-- what m items from i on weigh
unfoldable pub weight : ℕ → List ℕ → ℕ → ℕ → ℕ → ℕ
weight zero w i d c = 0
weight (suc m) w i d c = heft w i d c + weight m w (i + 1) d c

-- between i and j the run does not end, and there are p twins: what is searched for from i on is found from j on
pub record Passed (w : List ℕ) (n d c i j p : ℕ) : Type 0 where
  pub order : p + i ≤ j
  pub within : j ≤ n
  pub end : end_of w i n d ≡ end_of w j n d
  pub count : twins w i n d c ≡ p + twins w j n d c
  pub place : (k : ℕ) → p < k → place_of w i n d c k ≡ place_of w j n d c (k - p)

-- a walk from i on for twin number k has come to `at`, past fewer twins; where there are any, the last is number nth from mark on
pub record Going (w : List ℕ) (n d c i k at count mark nth : ℕ) : Type 0 where
  pub passed : Passed w n d c i at count
  pub marked : Passed w n d c i mark (count - nth)
  pub few : nth ≤ count
  pub none : nth ≡ 0 → count ≡ 0
  pub less : count < k

-- the same as the code has it
abbrev pub Goes : List ℕ → ℕ → ℕ → ℕ → ℕ → ℕ → Reach → Type 0
Goes w n d c i k s = Going w n d c i k s.at s.count s.mark s.nth

-- where such a walk ends: at the twin, which is counted then, or at the end of the run
pub record Walked (w : List ℕ) (n d c i k : ℕ) (s : Reach) : Type 0 where
  pub most : s.count ≤ k
  pub all : s.count + i ≤ n
  pub found : s.count ≡ k → (s.at ≡ place_of w i n d c k) × (s.at < n) × (k ≤ twins w i n d c)
  pub ended : (s.count ≡ k → ⊥) → (s.at ≡ end_of w i n d) × (s.count ≡ twins w i n d c) × (place_of w i n d c k ≡ n)
  pub goes : (s.count ≡ k → ⊥) → Goes w n d c i k s
