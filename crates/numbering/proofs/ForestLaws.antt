-- Items numbered by what stands before each: those of a forest get the tuples that it is written as. Assumes nothing.
use mathlib.Core.Path.{◌≡◌, refl, sym, ap, ◌∙◌}
use mathlib.Core.List.{List, [], ◌∷◌, ◌++◌, append_assoc, append-nil}
use Prim.Native.Nat.{ℕ, suc, ◌+◌, ◌≤◌, ◌<◌}
use native.Mathlib.Omega.{arith}
use lib.ListN.{length}
use lib.Dec.{ltb}
use borrow.Author.Tests.{lt-ltb, le-ltb, eq-eqb, ne_eqb}
use Rattle.base.specs.Choice.{pick}
use Rattle.forest.specs.Forest.{Forest, nil, tree, Tup, occurs, size, tuples_from, tuples_of}
use Rattle.forest.specs.Flat.{Item, item, flat, named, count_flat}
use Rattle.forest.proofs.TuplesLaws.{onto, onto_append, onto_length}
use Rattle.forest.proofs.FlatLaws.{flat_length}

-- ---- the numbers of an item, by the items before it, the latest first

-- the place of the nearest one that is less deep than d
unfoldable pub parent_in : ℕ → List Item → ℕ
parent_in d [] = 0
parent_in d (x ∷ r) = let on = parent_in d r in pick (ltb x.depth d) (suc (length r)) on

-- the tuples of items
unfoldable pub numbered : List Item → List Item → List Tup
numbered back [] = []
numbered back (x ∷ xs) =
    record { natc = x.code; atix = suc (count_flat x.depth x.code back); paix = parent_in x.depth back; atvl = x.value } ∷ numbered (x ∷ back) xs

-- ---- a run

-- a run that is not less deep leaves the parent
parent_deep : (d e : ℕ) (f : Forest) (back : List Item) → d ≤ e → parent_in d (onto (flat e f) back) ≡ parent_in d back
unfolding onto flat parent_in
parent_deep d e nil back h = refl
parent_deep d e (tree c v kids rest) back h =
    ap (parent_in d) (onto_append (flat (suc e) kids) (flat e rest) (item e c v ∷ back))
    ∙ parent_deep d e rest (onto (flat (suc e) kids) (item e c v ∷ back)) h
    ∙ parent_deep d (suc e) kids (item e c v ∷ back) (omega arith)
    ∙ rw (le-ltb e d h)

-- a run that is deeper leaves the twins
twins_deep : (d c' e : ℕ) (f : Forest) (back : List Item) → d < e → count_flat d c' (onto (flat e f) back) ≡ count_flat d c' back
unfolding onto flat count_flat named
twins_deep d c' e nil back h = refl
twins_deep d c' e (tree c v kids rest) back h =
    ap (count_flat d c') (onto_append (flat (suc e) kids) (flat e rest) (item e c v ∷ back))
    ∙ twins_deep d c' e rest (onto (flat (suc e) kids) (item e c v ∷ back)) h
    ∙ twins_deep d c' (suc e) kids (item e c v ∷ back) (omega arith)
    ∙ rw (le-ltb e d (omega arith), ne_eqb e d (λ z. omega (arith, z)))

-- ---- one entry

twins_entry : (d c' c : ℕ) (v : List ℕ) (back : List Item) (seen : List ℕ) → count_flat d c' back ≡ occurs c' seen
    → count_flat d c' (item d c v ∷ back) ≡ occurs c' (c ∷ seen)
unfolding count_flat named occurs
twins_entry d c' c v back seen e = rw (le-ltb d d (omega arith), eq-eqb d d refl, e)

twins_first : (d c' c : ℕ) (v : List ℕ) (back : List Item) → count_flat (suc d) c' (item d c v ∷ back) ≡ 0
unfolding count_flat
twins_first d c' c v back = rw (lt-ltb d (suc d) (omega arith))

parent_first : (d c : ℕ) (v : List ℕ) (back : List Item) → parent_in (suc d) (item d c v ∷ back) ≡ suc (length back)
unfolding parent_in
parent_first d c v back = rw (lt-ltb d (suc d) (omega arith))

parent_entry : (d c : ℕ) (v : List ℕ) (back : List Item) → parent_in d (item d c v ∷ back) ≡ parent_in d back
unfolding parent_in
parent_entry d c v back = rw (le-ltb d d (omega arith))

-- ---- a forest

-- a run and what follows it, where the items before have the numbers that the run's tuples go on from
numbered_run : (back : List Item) (d : ℕ) (seen : List ℕ) (p k : ℕ) (f : Forest) (xs : List Item)
    → k ≡ suc (length back) → parent_in d back ≡ p → ((c : ℕ) → count_flat d c back ≡ occurs c seen)
    → numbered back (flat d f ++ xs) ≡ tuples_from seen p k f ++ numbered (onto (flat d f) back) xs
unfolding flat tuples_from numbered onto occurs
numbered_run back d seen p k nil xs ek ep ec = refl
numbered_run back d seen p k (tree c v kids rest) xs ek ep ec =
    let x : Item = item d c v in
    let b₁ : List Item = x ∷ back in
    let b₂ : List Item = onto (flat (suc d) kids) b₁ in
    let a : List Tup = tuples_from [] k (suc k) kids in
    let r : List Tup = tuples_from (c ∷ seen) p (suc (k + size kids)) rest in
    let n₂ : length b₂ ≡ suc (length back) + size kids = onto_length (flat (suc d) kids) b₁ ∙ omega (arith, flat_length (suc d) kids) in
    let one : numbered b₁ (flat (suc d) kids ++ (flat d rest ++ xs)) ≡ a ++ numbered b₂ (flat d rest ++ xs) =
    numbered_run b₁ (suc d) [] k (suc k) kids (flat d rest ++ xs) (omega arith) (parent_first d c v back ∙ sym ek) (λ c'. twins_first d c' c v back) in
    let two : numbered b₂ (flat d rest ++ xs) ≡ r ++ numbered (onto (flat d rest) b₂) xs =
    numbered_run b₂ d (c ∷ seen) p (suc (k + size kids)) rest xs (omega (arith, n₂)) (parent_deep d (suc d) kids b₁ (omega arith) ∙ parent_entry d c v back ∙ ep)
    (λ c'. twins_deep d c' (suc d) kids b₁ (omega arith) ∙ twins_entry d c' c v back seen (ec c')) in
    rw (append_assoc (flat (suc d) kids) (flat d rest) xs, one, two, onto_append (flat (suc d) kids) (flat d rest) b₁, append_assoc a r (numbered (onto (flat d rest) b₂) xs), ep, ec c)

-- the items of a forest
pub numbered_forest : (f : Forest) → numbered [] (flat 0 f) ≡ tuples_of f
unfolding tuples_of numbered parent_in count_flat occurs
numbered_forest f =
    ap (numbered []) (sym (append-nil (flat 0 f))) ∙ numbered_run [] 0 [] 0 1 f [] refl refl (λ c. refl) ∙ append-nil (tuples_from [] 0 1 f)
