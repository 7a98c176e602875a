-- The tree rule and the acts of an update refuse with 6 and 9. Assumes nothing.
use Prim.Native.Nat.{ℕ, zero, suc, ◌-◌}
use mathlib.Core.Path.{refl}
use mathlib.Core.Bool.{Bool, false}
use mathlib.Core.List.{List, [], ◌∷◌}
use lib.ListN.{length}
use lib.Dec.{eqb, ltb}
use Rattle.base.specs.Check.{Check}
use Rattle.forest.specs.Forest.{Forest, nil, tree, Tup, valued, beside}
use Rattle.forest.specs.Rule.{indexed, entry_of, run_up_to, all_taken, tree_of}
use Rattle.forest.specs.Acts.{insert, delete, modify, UTup, Acts, done, act, deletes, act_of, acts_up_to, acts_of}
use Rattle.forest.specs.Edit.{count, put, behind, cut, alter, edit}
use Rattle.numbers.specs.Refusals.{is_in}
use Rattle.numbers.specs.Limited.{LimitedCheck, limited_ok, limited_no}
use Rattle.numbers.proofs.Checks.{limited_pick, limited_bind}

-- ---- the tree rule

-- the run of a parent
limited_run : (n : ℕ) (earlier : List Tup) (p : ℕ) (barren : Bool) (ts : List Tup) → LimitedCheck (6 ∷ []) (run_up_to n earlier p barren ts)
unfolding run_up_to entry_of is_in
limited_run zero earlier p barren ts = limited_ok
limited_run (suc n) earlier p barren [] = limited_ok
limited_run (suc n) earlier p barren (t ∷ ts) =
    limited_pick (eqb t.paix p) _ _
    (limited_pick barren _ _ (limited_no refl)
    (limited_pick (indexed earlier t) _ _
    (limited_bind _ _ (limited_run n (t ∷ earlier) (suc (length earlier)) (valued t.atvl) ts) (λ r.
    limited_bind _ _ (limited_run n r.earlier p barren r.left) (λ s. limited_ok)))
    (limited_no refl)))
    limited_ok

-- every tuple is taken
limited_taken : {A T : Type 0} (a : A) (k : ℕ) (ts : List T) → LimitedCheck (6 ∷ []) (all_taken a k ts)
unfolding all_taken is_in
limited_taken a k [] = limited_ok
limited_taken a k (t ∷ ts) = limited_no refl

-- the forest of tuples
pub limited_tree : (ts : List Tup) → LimitedCheck (6 ∷ []) (tree_of ts)
unfolding tree_of
limited_tree ts = limited_bind (run_up_to (length ts) [] 0 false ts) _ (limited_run (length ts) [] 0 false ts) (λ r. limited_taken r.entries (suc (length r.earlier)) r.left)

-- ---- the acts of an update

-- the run of a parent
limited_acts_run : (n k p : ℕ) (gone : Bool) (ts : List UTup) → LimitedCheck (6 ∷ []) (acts_up_to n k p gone ts)
unfolding acts_up_to act_of is_in
limited_acts_run zero k p gone ts = limited_ok
limited_acts_run (suc n) k p gone [] = limited_ok
limited_acts_run (suc n) k p gone (t ∷ ts) =
    limited_pick (eqb t.paix p) _ _
    (limited_pick gone _ _ (limited_no refl)
    (limited_bind _ _ (limited_acts_run n (suc k) k (deletes t.atin) ts) (λ r.
    limited_bind _ _ (limited_acts_run n r.place p gone r.left) (λ s. limited_ok))))
    limited_ok

-- the acts of tuples
pub limited_acts : (ts : List UTup) → LimitedCheck (6 ∷ []) (acts_of ts)
unfolding acts_of
limited_acts ts = limited_bind (acts_up_to (length ts) 1 0 false ts) _ (limited_acts_run (length ts) 1 0 false ts) (λ r. limited_taken r.acts r.place r.left)

-- ---- edits

-- an entry before the rest of its run
limited_behind : {may : List ℕ} (d : ℕ) (w : List ℕ) (ks : Forest) (r : Check Forest) → LimitedCheck may r → LimitedCheck may (behind d w ks r)
unfolding behind
limited_behind d w ks r p = limited_bind r _ p (λ rest. limited_ok)

-- an entry is cut
limited_cut : (n c k : ℕ) (f : Forest) → LimitedCheck (6 ∷ 9 ∷ []) (cut n c k f)
unfolding cut is_in
limited_cut n c k nil = limited_no refl
limited_cut n c k (tree d w ks rest) =
    limited_pick (eqb d c) _ _
    (limited_pick (eqb k 1) _ _ limited_ok (limited_behind d w ks _ (limited_cut n c (k - 1) rest)))
    (limited_behind d w ks _ (limited_cut n c k rest))

-- an entry is altered
limited_alter : (n c k : ℕ) (v : List ℕ) (h : Forest → Check Forest) (f : Forest) → ((ks : Forest) → LimitedCheck (6 ∷ 9 ∷ []) (h ks)) → LimitedCheck (6 ∷ 9 ∷ []) (alter n c k v h f)
unfolding alter is_in
limited_alter n c k v h nil p = limited_no refl
limited_alter n c k v h (tree d w ks rest) p =
    limited_pick (eqb d c) _ _
    (limited_pick (eqb k 1) _ _ (limited_bind (h ks) _ (p ks) (λ ks'. limited_ok)) (limited_behind d w ks _ (limited_alter n c (k - 1) v h rest p)))
    (limited_behind d w ks _ (limited_alter n c k v h rest p))

-- a forest after acts
pub limited_edit : (barren : Bool) (f : Forest) (us : Acts) → LimitedCheck (6 ∷ 9 ∷ []) (edit barren f us)
unfolding edit is_in
limited_edit barren f done = limited_ok
limited_edit barren f (act n insert c k v us rest) =
    limited_pick barren _ _ (limited_no refl)
    (limited_pick (ltb (suc (count c f)) k) _ _ (limited_no refl)
    (limited_bind (edit (valued v) nil us) _ (limited_edit (valued v) nil us) (λ ks. limited_edit barren (put c k v ks f) rest)))
limited_edit barren f (act n delete c k v us rest) = limited_bind (cut n c k f) _ (limited_cut n c k f) (λ f'. limited_edit barren f' rest)
limited_edit barren f (act n modify c k v us rest) =
    limited_bind _ _
    (limited_alter n c k v _ f (λ ks. limited_pick (beside v ks) _ _ (limited_no refl) (limited_edit (valued v) ks us)))
    (λ f'. limited_edit barren f' rest)
