-- What an accepted edit keeps: no entry has a value beside a child. Assumes nothing.
use mathlib.Core.Path.{◌≡◌, refl, sym}
use mathlib.Core.List.{List, [], ◌∷◌}
use mathlib.Core.Bool.{Bool, true, false, true≢false}
use Prim.Native.Nat.{ℕ, suc, ◌-◌}
use lib.Dec.{eqb, ltb}
use Rattle.base.specs.Choice.{pick}
use Rattle.base.specs.Check.{Check, ok, bind, refuse}
use Rattle.base.proofs.ChoiceLaws.{by_test}
use Rattle.base.proofs.CheckLaws.{bind_inv, ok_inj, refused}
use Rattle.forest.specs.Forest.{Forest, nil, tree, valued, beside, Plain, p_nil, p_tree}
use Rattle.forest.specs.Acts.{Acts, done, act, insert, delete, modify}
use Rattle.forest.specs.Edit.{count, put, behind, cut, alter, edit}

-- ---- an entry that joins, leaves or changes

-- a run with a new entry that is plain
put_plain : (c k : ℕ) (v : List ℕ) (kids f : Forest) → beside v kids ≡ false → Plain kids → Plain f → Plain (put c k v kids f)
unfolding put
put_plain c k v kids nil bare kp fp = p_tree bare kp p_nil
put_plain c k v kids (tree d w ks rest) bare kp (p_tree bare' ksp rp) =
    by_test Plain (eqb d c) _ _
    (λ _. by_test Plain (eqb k 1) _ _
    (λ _. p_tree bare kp (p_tree bare' ksp rp))
    (λ _. by_test Plain (eqb (count c rest) 0) _ _ (λ _. p_tree bare' ksp (p_tree bare kp rp)) (λ _. p_tree bare' ksp (put_plain c (k - 1) v kids rest bare kp rp))))
    (λ _. p_tree bare' ksp (put_plain c k v kids rest bare kp rp))

-- what a test gives, if it gives something, is plain
abbrev Gives : Check Forest → Type 0
Gives c = (g : Forest) → c ≡ ok g → Plain g

-- a plain forest
gives : (f : Forest) → Plain f → Gives (ok f)
gives f p g e = rw (← ok_inj _ _ e) p

-- an entry before a rest that is plain
behind_plain : (d : ℕ) (w : List ℕ) (ks : Forest) (r : Check Forest) → beside w ks ≡ false → Plain ks → Gives r → Gives (behind d w ks r)
unfolding behind
behind_plain d w ks r bare kp given g e = let (rest, x, y) = bind_inv r _ g e in gives _ (p_tree bare kp (given rest x)) g y

-- a run without one of its entries
cut_plain : (n c k : ℕ) (f : Forest) → Plain f → Gives (cut n c k f)
unfolding cut
cut_plain n c k nil fp = λ g e. refused e
cut_plain n c k (tree d w ks rest) (p_tree bare kp rp) =
    by_test Gives (eqb d c) _ _
    (λ _. by_test Gives (eqb k 1) _ _ (λ _. gives rest rp) (λ _. behind_plain d w ks _ bare kp (cut_plain n c (k - 1) rest rp)))
    (λ _. behind_plain d w ks _ bare kp (cut_plain n c k rest rp))

-- a run with another value and other children of one of its entries
alter_plain : (n c k : ℕ) (v : List ℕ) (h : Forest → Check Forest) → ((ks : Forest) → Plain ks → (g : Forest) → h ks ≡ ok g → (beside v g ≡ false) × Plain g)
    → (f : Forest) → Plain f → Gives (alter n c k v h f)
unfolding alter
alter_plain n c k v h below nil fp = λ g e. refused e
alter_plain n c k v h below (tree d w ks rest) (p_tree bare kp rp) =
    by_test Gives (eqb d c) _ _
    (λ _. by_test Gives (eqb k 1) _ _
    (λ _ g e. let (ks', x, y) = bind_inv (h ks) _ g e in let (b, p) = below ks kp ks' x in gives (tree d v ks' rest) (p_tree b p rp) g y)
    (λ _. behind_plain d w ks _ bare kp (alter_plain n c (k - 1) v h below rest rp)))
    (λ _. behind_plain d w ks _ bare kp (alter_plain n c k v h below rest rp))

-- ---- a run of acts

-- under a value nothing comes to be
barren_edit : (us : Acts) (g : Forest) → edit true nil us ≡ ok g → g ≡ nil
unfolding edit cut alter bind
barren_edit done g e = sym (ok_inj _ _ e)
barren_edit (act n insert c k v us rest) g e = refused e
barren_edit (act n delete c k v us rest) g e = refused e
barren_edit (act n modify c k v us rest) g e = refused e

-- so children that are edited stand beside no value, if they did not before
edit_bare : (v : List ℕ) (ks : Forest) (us : Acts) (g : Forest) → beside v ks ≡ false → edit (valued v) ks us ≡ ok g → beside v g ≡ false
unfolding beside valued
edit_bare [] ks us g b e = refl
edit_bare (x ∷ v) nil us g b e = rw (barren_edit us g e)
edit_bare (x ∷ v) (tree c w ks rest) us g b e = absurd (true≢false b)

-- no child, no value beside it
beside_nil : (v : List ℕ) → beside v nil ≡ false
unfolding beside
beside_nil [] = refl
beside_nil (x ∷ v) = refl

-- the children of an entry whose value is set
below_plain : (n : ℕ) (v : List ℕ) (us : Acts) → ((ks : Forest) → Plain ks → Gives (edit (valued v) ks us))
    → (ks : Forest) → Plain ks → (g : Forest) → pick (beside v ks) (refuse 6 n) (edit (valued v) ks us) ≡ ok g → (beside v g ≡ false) × Plain g
below_plain n v us ih ks kp g e = go (beside v ks) refl
  where
    go : (b : Bool) → beside v ks ≡ b → (beside v g ≡ false) × Plain g
    go true b = refused (rw b at e)
    go false b = let led : edit (valued v) ks us ≡ ok g = rw b at e in (edit_bare v ks us g b led, ih ks kp g led)

-- an edit of a plain run gives a plain one
edit_plains : (us : Acts) (barren : Bool) (f : Forest) → Plain f → Gives (edit barren f us)
unfolding edit
edit_plains done barren f fp = gives f fp
edit_plains (act n insert c k v us rest) barren f fp =
    by_test Gives barren _ _ (λ _ g e. refused e)
    (λ _. by_test Gives (ltb (suc (count c f)) k) _ _ (λ _ g e. refused e)
    (λ _ g e. let (ks, x, y) = bind_inv (edit (valued v) nil us) _ g e in
    edit_plains rest barren (put c k v ks f) (put_plain c k v ks f (edit_bare v nil us ks (beside_nil v) x) (edit_plains us (valued v) nil p_nil ks x) fp) g y))
edit_plains (act n delete c k v us rest) barren f fp =
    λ g e. let (f', x, y) = bind_inv (cut n c k f) _ g e in edit_plains rest barren f' (cut_plain n c k f fp f' x) g y
edit_plains (act n modify c k v us rest) barren f fp =
    λ g e. let (f', x, y) = bind_inv (alter n c k v _ f) _ g e in
    edit_plains rest barren f' (alter_plain n c k v _ (below_plain n v us (edit_plains us (valued v))) f fp f' x) g y

-- an accepted edit of a plain forest gives a plain one
pub edit_plain : (f : Forest) (us : Acts) (g : Forest) → Plain f → edit false f us ≡ ok g → Plain g
edit_plain f us g fp e = edit_plains us false f fp g e
