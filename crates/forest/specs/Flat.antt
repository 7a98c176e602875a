-- The working form of a forest: its entries in order, each with its depth; and an update's acts as splices of that list.
use Rattle.std.specs.Prelude.{List, [], ◌∷◌, ◌++◌, Bool, true, false, ℕ, suc, ◌-◌, eqb, ltb}
use Rattle.base.specs.Choice.{pick, both}
use Rattle.base.specs.Check.{Check, ok, no, bind, refuse}
use Rattle.forest.specs.Forest.{Forest, nil, tree, valued}
use Rattle.forest.specs.Acts.{Acts, done, act, insert, delete, modify}

-- an entry: how deep it stands, its code and its value
pub record Item : Type 0 where
  pub depth : ℕ
  pub code : ℕ
  pub value : List ℕ

-- such an entry
abbrev pub item : ℕ → ℕ → List ℕ → Item
item d c v = record { depth = d; code = c; value = v }

-- the entries of a run at depth d, each before its children
unfoldable pub flat : ℕ → Forest → List Item
flat d nil = []
flat d (tree c v kids rest) = item d c v ∷ (flat (suc d) kids ++ flat d rest)

-- a list in two parts
pub record Split : Type 0 where
  pub front : List Item
  pub back : List Item

-- such a list
abbrev pub split : List Item → List Item → Split
split a b = record { front = a; back = b }

-- with one more entry in front
unfoldable pub push : Item → Split → Split
push x s = split (x ∷ s.front) s.back

-- an entry of code c of the run at depth d
unfoldable pub named : ℕ → ℕ → Item → Bool
named d c x = both (eqb x.depth d) (eqb x.code c)

-- past the entries of depth d or more
unfoldable pub over : ℕ → List Item → Split
over d [] = split [] []
over d (x ∷ ts) = let on = push x (over d ts) in pick (ltb x.depth d) (split [] (x ∷ ts)) on

-- how many entries of code c the run at depth d has
unfoldable pub count_flat : ℕ → ℕ → List Item → ℕ
count_flat d c [] = 0
count_flat d c (x ∷ ts) = let on = pick (named d c x) (suc (count_flat d c ts)) (count_flat d c ts) in pick (ltb x.depth d) 0 on

-- where a new entry goes: before number k of its code, or behind the last of them and its children, or, where there is none, at the end
unfoldable pub spot : ℕ → ℕ → ℕ → List Item → Split
spot d c k [] = split [] []
spot d c k (x ∷ ts) =
    let last = pick (eqb (count_flat d c ts) 0) (push x (over (suc d) ts)) (push x (spot d c (k - 1) ts)) in
    let one = pick (eqb k 1) (split [] (x ∷ ts)) last in
    let on = pick (named d c x) one (push x (spot d c k ts)) in
    pick (ltb x.depth d) (split [] (x ∷ ts)) on

-- the same with one more entry in front, if it was found
unfoldable pub pushed : Item → Check Split → Check Split
pushed x (ok s) = ok (push x s)
pushed x (no f) = no f

-- what stands before number k of code c, and what behind it, else 9 at tuple n
unfoldable pub locate : ℕ → ℕ → ℕ → ℕ → List Item → Check Split
locate n d c k [] = refuse 9 n
locate n d c k (x ∷ ts) =
    let one = pick (eqb k 1) (ok (split [] ts)) (pushed x (locate n d c (k - 1) ts)) in
    let on = pick (named d c x) one (pushed x (locate n d c k ts)) in
    pick (ltb x.depth d) (refuse 9 n) on

-- an entry of depth d or more is the first
unfoldable pub deeper : ℕ → List Item → Bool
deeper d [] = false
deeper d (x ∷ ts) = pick (ltb x.depth d) false true

-- a list in front of what was checked
unfoldable pub after : List Item → Check (List Item) → Check (List Item)
after a (ok b) = ok (a ++ b)
after a (no f) = no f

-- the run at depth d, with what follows it, after a run of acts, each of them one splice; barren: its parent has a value
unfoldable pub edit_flat : ℕ → Bool → List Item → Acts → Check (List Item)
edit_flat d barren ts done = ok ts
edit_flat d barren ts (act n insert c k v us rest) =
    let s = spot d c k ts in
    let on = bind (after s.front (after (item d c v ∷ []) (edit_flat (suc d) (valued v) s.back us))) (λ ts'. edit_flat d barren ts' rest) in
    let placed = pick (ltb (suc (count_flat d c ts)) k) (refuse 9 n) on in
    pick barren (refuse 6 n) placed
edit_flat d barren ts (act n delete c k v us rest) =
    bind (locate n d c k ts) (λ s. edit_flat d barren (s.front ++ (over (suc d) s.back).back) rest)
edit_flat d barren ts (act n modify c k v us rest) =
    bind (locate n d c k ts) (λ s.
    let on = bind (after s.front (after (item d c v ∷ []) (edit_flat (suc d) (valued v) s.back us))) (λ ts'. edit_flat d barren ts' rest) in
    pick (both (valued v) (deeper (suc d) s.back)) (refuse 6 n) on)
