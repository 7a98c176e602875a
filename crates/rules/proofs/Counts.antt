-- The count of records: a step changes it by what it inserts and deletes. Assumes nothing.
use mathlib.Core.Path.{◌≡◌, refl}
use mathlib.Core.List.{List, [], ◌∷◌}
use mathlib.Core.Option.{Option, some, none}
use mathlib.Core.Bool.{Bool, true, false}
use Prim.Native.Nat.{ℕ, suc, ◌+◌}
use native.Mathlib.Omega.{arith}
use lib.ListN.{length}
use lib.Dec.{ltb}
use Rattle.base.specs.Choice.{pick}
use Rattle.base.specs.Keys.{same}
use Rattle.rules.specs.Kind.{rank}
use Rattle.rules.specs.Record.{Rec, key_of}
use Rattle.rules.specs.Update.{find, settle, replace, remove, store}

-- a record that joins is one more
length_settle : (r : Rec) (rs : List Rec) → length (settle r rs) ≡ length rs + 1
unfolding settle
length_settle r [] = refl
length_settle r (x ∷ xs) = go (ltb (rank r.kind) (rank x.kind)) (length_settle r xs)
  where
    go : (t : Bool) → length (settle r xs) ≡ length xs + 1 → length (pick t (r ∷ x ∷ xs) (x ∷ settle r xs)) ≡ suc (length xs) + 1
    go true h = omega arith
    go false h = omega (arith, h)

-- a record that is replaced changes nothing
length_replace : (k : List ℕ) (r : Rec) (rs : List Rec) → length (replace k r rs) ≡ length rs
unfolding replace
length_replace k r [] = refl
length_replace k r (x ∷ xs) = go (same (key_of x) k) (length_replace k r xs)
  where
    go : (t : Bool) → length (replace k r xs) ≡ length xs → length (pick t (r ∷ xs) (x ∷ replace k r xs)) ≡ suc (length xs)
    go true h = refl
    go false h = omega (arith, h)

-- a record that leaves is one fewer
length_remove : (k : List ℕ) (rs : List Rec) (r : Rec) → find k rs ≡ some r → length (remove k rs) + 1 ≡ length rs
unfolding remove find
length_remove k [] r e = absurd (let z : ◌≡◌ {A = ℕ} 0 1 = cc in omega arith)
length_remove k (x ∷ xs) r e = go (same (key_of x) k) e (λ h. length_remove k xs r h)
  where
    go : (t : Bool) → pick t (some x) (find k xs) ≡ some r → (find k xs ≡ some r → length (remove k xs) + 1 ≡ length xs)
        → length (pick t xs (x ∷ remove k xs)) + 1 ≡ suc (length xs)
    go true s h = omega arith
    go false s h = let l = h s in omega (arith, l)

-- how many records it is
abbrev pub there : Option Rec → ℕ
there none = 0
there (some r) = 1

-- the old count and the new version, the new count and the old version
pub count_store : (k : List ℕ) (new : Option Rec) (rs : List Rec) → length (store k (find k rs) new rs) + there (find k rs) ≡ length rs + there new
count_store k new rs = go (find k rs) refl new
  where
    go : (old : Option Rec) → find k rs ≡ old → (new : Option Rec) → length (store k old new rs) + there old ≡ length rs + there new
    go none e none = unfold store in refl
    go none e (some n) = let l = length_settle n rs in unfold store in omega (arith, l)
    go (some o) e none = let l = length_remove k rs o e in unfold store in omega (arith, l)
    go (some o) e (some n) = let l = length_replace k n rs in unfold store in omega (arith, l)
