-- The tree rule over a list of tuples, and the forest that it finds. An entry is followed by its run of children, and a run is made of entries.
use Rattle.std.specs.Prelude.{List, [], ◌∷◌, Bool, false, ℕ, zero, suc, length, eqb}
use Rattle.base.specs.Choice.{pick}
use Rattle.base.specs.Check.{Check, ok, bind, refuse}
use Rattle.forest.specs.Forest.{Forest, nil, tree, Tup, occurs, valued}

-- the codes of the tuples whose parent is p
unfoldable pub codes_of : ℕ → List Tup → List ℕ
codes_of p [] = []
codes_of p (t ∷ ts) = pick (eqb t.paix p) (t.natc ∷ codes_of p ts) (codes_of p ts)

-- ATIX is one more than the earlier entries with the same code and parent
unfoldable pub indexed : List Tup → Tup → Bool
indexed earlier t = eqb t.atix (suc (occurs t.natc (codes_of t.paix earlier)))

-- a run that was read: its entries, the tuples passed so far, the latest first, and those left
pub record Run : Type 0 where
  pub entries : Forest
  pub earlier : List Tup
  pub left : List Tup

-- an entry, its run of children, and then the rest of the run that it stands in
unfoldable pub entry_of : Tup → Check Run → (List Tup → List Tup → Check Run) → Check Run
entry_of t kids rest =
    bind kids (λ r. bind (rest r.earlier r.left) (λ s.
    ok (record { entries = tree t.natc t.atvl r.entries s.entries; earlier = s.earlier; left = s.left })))

-- the run of parent p, of at most n entries; barren: that parent has a value, so that it has no child; a tuple that breaks the rule is 6
unfoldable pub run_up_to : ℕ → List Tup → ℕ → Bool → List Tup → Check Run
run_up_to zero earlier p barren ts = ok (record { entries = nil; earlier = earlier; left = ts })
run_up_to (suc n) earlier p barren [] = ok (record { entries = nil; earlier = earlier; left = [] })
run_up_to (suc n) earlier p barren (t ∷ ts) =
    let place = suc (length earlier) in
    let entry = entry_of t (run_up_to n (t ∷ earlier) place (valued t.atvl) ts) (λ earlier' ts'. run_up_to n earlier' p barren ts') in
    let numbered = pick (indexed earlier t) entry (refuse 6 place) in
    let child = pick barren (refuse 6 place) numbered in
    pick (eqb t.paix p) child (ok (record { entries = nil; earlier = earlier; left = t ∷ ts }))

-- the run at the top takes every tuple, else the first one left, at place k, is 6: its PAIX is not 0, nor the previous tuple, nor one of its ancestors
unfoldable pub all_taken : {A T : Type 0} → A → ℕ → List T → Check A
all_taken a k [] = ok a
all_taken a k (t ∷ ts) = refuse 6 k

-- the forest of tuples for which the whole tree rule holds, else 6 at the first that breaks it
unfoldable pub tree_of : List Tup → Check Forest
tree_of ts = bind (run_up_to (length ts) [] 0 false ts) (λ r. all_taken r.entries (suc (length r.earlier)) r.left)
