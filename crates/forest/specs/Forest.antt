-- The attribute tree as a forest, and the tuples that it is written as.
use Rattle.std.specs.Prelude.{◌≡◌, List, [], ◌∷◌, ◌++◌, Bool, true, false, ℕ, suc, ◌+◌, eqb}
use Rattle.base.specs.Choice.{pick}

-- a run of entries: the first one's code, value and run of children, and then the rest of the run
pub data Forest : Type 0 where
  nil : Forest
  tree : ℕ → List ℕ → Forest → Forest → Forest

-- a tuple of an ATTR or INAS field in which every instruction is insert: code, index, parent, value
pub record Tup : Type 0 where
  pub natc : ℕ
  pub atix : ℕ
  pub paix : ℕ
  pub atvl : List ℕ

-- how many entries there are
unfoldable pub size : Forest → ℕ
size nil = 0
size (tree c v kids rest) = suc (size kids + size rest)

-- how often a code stands in a list of codes
unfoldable pub occurs : ℕ → List ℕ → ℕ
occurs c [] = 0
occurs c (x ∷ xs) = pick (eqb x c) (suc (occurs c xs)) (occurs c xs)

-- the tuples of a run: seen, the codes of its earlier entries; p, the place of its parent; k, the place of its first entry
unfoldable pub tuples_from : List ℕ → ℕ → ℕ → Forest → List Tup
tuples_from seen p k nil = []
tuples_from seen p k (tree c v kids rest) =
    record { natc = c; atix = suc (occurs c seen); paix = p; atvl = v } ∷ (tuples_from [] k (suc k) kids ++ tuples_from (c ∷ seen) p (suc (k + size kids)) rest)

-- the tuples of a forest
unfoldable pub tuples_of : Forest → List Tup
tuples_of f = tuples_from [] 0 1 f

-- there is a value
unfoldable pub valued : List ℕ → Bool
valued [] = false
valued (x ∷ v) = true

-- a value beside a child
unfoldable pub beside : List ℕ → Forest → Bool
beside [] f = false
beside (x ∷ v) nil = false
beside (x ∷ v) (tree c w kids rest) = true

-- no entry has a value beside a child
pub data Plain : Forest → Type 0 where
  p_nil : Plain nil
  p_tree : {c : ℕ} {v : List ℕ} {kids rest : Forest} → beside v kids ≡ false → Plain kids → Plain rest → Plain (tree c v kids rest)
