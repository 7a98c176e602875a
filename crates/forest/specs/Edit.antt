-- A forest edited by the acts of an update, one after the other. Codes and indices address the forest as earlier acts left it.
use Rattle.std.specs.Prelude.{List, Bool, false, ℕ, suc, ◌-◌, eqb, ltb}
use Rattle.base.specs.Choice.{pick}
use Rattle.base.specs.Check.{Check, ok, bind, refuse}
use Rattle.forest.specs.Forest.{Forest, nil, tree, Tup, tuples_of, valued, beside}
use Rattle.forest.specs.Rule.{tree_of}
use Rattle.forest.specs.Acts.{insert, delete, modify, UTup, Acts, done, act, acts_of}

-- how many entries of a run have code c
unfoldable pub count : ℕ → Forest → ℕ
count c nil = 0
count c (tree d w ks rest) = pick (eqb d c) (suc (count c rest)) (count c rest)

-- a run with a new entry: before number k of its code, or after the whole subtree of the last of them, or, where there is none, as the last child
unfoldable pub put : ℕ → ℕ → List ℕ → Forest → Forest → Forest
put c k v kids nil = tree c v kids nil
put c k v kids (tree d w ks rest) =
    let before = tree c v kids (tree d w ks rest) in
    let after = tree d w ks (tree c v kids rest) in
    let later = tree d w ks (put c (k - 1) v kids rest) in
    let other = tree d w ks (put c k v kids rest) in
    pick (eqb d c) (pick (eqb k 1) before (pick (eqb (count c rest) 0) after later)) other

-- an entry, and behind it what became of the rest of its run
unfoldable pub behind : ℕ → List ℕ → Forest → Check Forest → Check Forest
behind d w ks r = bind r (λ rest. ok (tree d w ks rest))

-- a run without number k of code c and its subtree, else 9 at tuple n
unfoldable pub cut : ℕ → ℕ → ℕ → Forest → Check Forest
cut n c k nil = refuse 9 n
cut n c k (tree d w ks rest) =
    let later = behind d w ks (cut n c (k - 1) rest) in
    let other = behind d w ks (cut n c k rest) in
    let same = pick (eqb k 1) (ok rest) later in
    pick (eqb d c) same other

-- a run with number k of code c set to the value v, and its children to what h makes of them, else 9 at tuple n
unfoldable pub alter : ℕ → ℕ → ℕ → List ℕ → (Forest → Check Forest) → Forest → Check Forest
alter n c k v h nil = refuse 9 n
alter n c k v h (tree d w ks rest) =
    let here = bind (h ks) (λ ks'. ok (tree d v ks' rest)) in
    let later = behind d w ks (alter n c (k - 1) v h rest) in
    let other = behind d w ks (alter n c k v h rest) in
    let same = pick (eqb k 1) here later in
    pick (eqb d c) same other

-- a run after a run of acts; barren: its parent has a value. A child put under a value, and a value sent to an entry with children, are 6; then
-- an index above c + 1 and an absent entry are 9
unfoldable pub edit : Bool → Forest → Acts → Check Forest
edit barren f done = ok f
edit barren f (act n insert c k v us rest) =
    let on = bind (edit (valued v) nil us) (λ ks. edit barren (put c k v ks f) rest) in
    let placed = pick (ltb (suc (count c f)) k) (refuse 9 n) on in
    pick barren (refuse 6 n) placed
edit barren f (act n delete c k v us rest) = bind (cut n c k f) (λ f'. edit barren f' rest)
edit barren f (act n modify c k v us rest) =
    let below : Forest → Check Forest = λ ks. let led = edit (valued v) ks us in pick (beside v ks) (refuse 6 n) led in
    bind (alter n c k v below f) (λ f'. edit barren f' rest)

-- the tuples of a stored field after the tuples of an update
unfoldable pub edited : List Tup → List UTup → Check (List Tup)
edited ts us = bind (acts_of us) (λ u. bind (tree_of ts) (λ f. bind (edit false f u) (λ g. ok (tuples_of g))))
