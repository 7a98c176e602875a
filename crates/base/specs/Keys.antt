-- Keys, and lists of things that have keys.
use Rattle.std.specs.Prelude.{ℕ, Bool, true, false, List, [], ◌∷◌, ◌++◌, eqb}
use Rattle.base.specs.Choice.{pick, both, either}
use Rattle.base.specs.Check.{Check, ok, bind, refuse}
use Rattle.base.specs.Lists.{each}

-- a key is a list of numbers; two are the same
unfoldable pub same : List ℕ → List ℕ → Bool
same [] [] = true
same [] (y ∷ ys) = false
same (x ∷ xs) [] = false
same (x ∷ xs) (y ∷ ys) = both (eqb x y) (same xs ys)

-- a key is among others
unfoldable pub among : List ℕ → List (List ℕ) → Bool
among k [] = false
among k (x ∷ xs) = either (same k x) (among k xs)

-- a thing joins the end of a list in which no other has its key, else 7 at tuple j
unfoldable pub join : {A : Type 0} → (A → List ℕ) → ℕ → A → List A → Check (List A)
join key j x xs = pick (among (key x) (each key xs)) (refuse 7 j) (ok (xs ++ (x ∷ [])))

-- the thing with key k leaves a list, else 9 at tuple j
unfoldable pub leave : {A : Type 0} → (A → List ℕ) → ℕ → List ℕ → List A → Check (List A)
leave key j k [] = refuse 9 j
leave key j k (x ∷ xs) =
    let later = bind (leave key j k xs) (λ ys. ok (x ∷ ys)) in
    pick (same (key x) k) (ok xs) later
