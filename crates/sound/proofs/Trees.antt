-- Trees whose codes and values can be written: as they are read, as an edit leaves them, and as they are written. Assumes nothing.
use Prim.Native.Nat.{ℕ, zero, suc, ◌+◌, ◌-◌, ◌≤◌, ◌<◌}
use mathlib.Core.Path.{◌≡◌}
use mathlib.Core.Bool.{Bool, true, false}
use mathlib.Core.List.{List, [], ◌∷◌}
use native.Mathlib.Omega.{arith}
use lib.ListN.{length}
use lib.Dec.{eqb, ltb}
use Rattle.base.specs.Check.{Check, ok}
use Rattle.base.specs.Lists.{Each}
use Rattle.base.proofs.ChoiceLaws.{by_test}
use Rattle.base.proofs.CheckLaws.{bind_inv, ok_inj, refused}
use Rattle.base.proofs.EachLaws.{each_parts, each_join}
use Rattle.fields.specs.Table.{code}
use Rattle.fields.specs.Values.{num}
use Rattle.fields.specs.Valid.{passes}
use Rattle.forest.specs.Forest.{Forest, nil, tree, Tup, occurs, tuples_from, valued, beside, size}
use Rattle.forest.specs.Rule.{all_taken}
use Rattle.forest.specs.Acts.{Act, insert, delete, modify, UTup, Acts, done, act, ActRun, act_of, acts_up_to, acts_of, deletes}
use Rattle.forest.specs.Edit.{count, put, behind, cut, alter, edit}
use Rattle.sequence.proofs.Tests.{by_bool}
use Rattle.sound.specs.Sound.{SoundText, Ranged, r_nil, r_tree}

-- ---- acts

-- a code and a value that can be written
abbrev pub Good : ℕ → List ℕ → Type 0
Good c v = (passes code (num c) ≡ true) × SoundText v

-- acts whose codes and values can be written
pub data RangedActs : Acts → Type 0 where
  a_done : RangedActs done
  a_act : {n : ℕ} {a : Act} {c k : ℕ} {v : List ℕ} {us rest : Acts} → Good c v → RangedActs us → RangedActs rest → RangedActs (act n a c k v us rest)

-- an update's tuple that can be written
abbrev pub GoodAct : UTup → Type 0
GoodAct t = Good t.natc t.atvl

-- a run of them, and those left behind it
acts_run : (n k p : ℕ) (gone : Bool) (ts : List UTup) (r : ActRun) → Each GoodAct ts → acts_up_to n k p gone ts ≡ ok r → RangedActs r.acts × Each GoodAct r.left
unfolding acts_up_to act_of Each
acts_run zero k p gone ts r g e = rw (← ok_inj _ r e) (a_done, g)
acts_run (suc n) k p gone [] r g e = rw (← ok_inj _ r e) (a_done, tt)
acts_run (suc n) k p gone (t ∷ ts) r g e =
    by_bool (eqb t.paix p)
    (λ h. by_bool gone
    (λ x. refused (rw (h, x) at e))
    (λ x.
    let (kids, a, b) = bind_inv (acts_up_to n (suc k) k (deletes t.atin) ts) _ r (rw (h, x) at e) in
    let (rest, c, d) = bind_inv (acts_up_to n kids.place p false kids.left) _ r b in
    let (i, j) = acts_run n (suc k) k (deletes t.atin) ts kids g.1 a in
    let (l, m) = acts_run n kids.place p false kids.left rest j c in
    rw (← ok_inj _ r d) (a_act g.0 i l, m)))
    (λ h. rw (← ok_inj _ r (rw h at e)) (a_done, g))

-- the acts of tuples that can be written
pub acts_ranged : (ts : List UTup) (us : Acts) → Each GoodAct ts → acts_of ts ≡ ok us → RangedActs us
unfolding acts_of
acts_ranged ts us g e =
    let (r, a, b) = bind_inv (acts_up_to (length ts) 1 0 false ts) _ us e in
    rw (← taken r.acts us r.place r.left b) (acts_run (length ts) 1 0 false ts r g a).0
  where
    taken : (a b : Acts) (k : ℕ) (l : List UTup) → all_taken a k l ≡ ok b → a ≡ b
    taken a b k [] e = unfold all_taken in ok_inj a b e
    taken a b k (t ∷ l) e = unfold all_taken in refused e

-- ---- edits

-- a run with a new entry
put_ranged : (c k : ℕ) (v : List ℕ) (kids f : Forest) → Good c v → Ranged kids → Ranged f → Ranged (put c k v kids f)
unfolding put
put_ranged c k v kids nil g kr fr = r_tree g.0 g.1 kr r_nil
put_ranged c k v kids (tree d w ks rest) g kr (r_tree a b ksr rr) =
    by_test Ranged (eqb d c) _ _
    (λ _. by_test Ranged (eqb k 1) _ _
    (λ _. r_tree g.0 g.1 kr (r_tree a b ksr rr))
    (λ _. by_test Ranged (eqb (count c rest) 0) _ _ (λ _. r_tree a b ksr (r_tree g.0 g.1 kr rr)) (λ _. r_tree a b ksr (put_ranged c (k - 1) v kids rest g kr rr))))
    (λ _. r_tree a b ksr (put_ranged c k v kids rest g kr rr))

-- what a test gives, if it gives something, can be written
abbrev Gives : Check Forest → Type 0
Gives c = (g : Forest) → c ≡ ok g → Ranged g

-- a forest that can
gives : (f : Forest) → Ranged f → Gives (ok f)
gives f p g e = rw (← ok_inj f g e) p

-- an entry before a rest that can
behind_ranged : (d : ℕ) (w : List ℕ) (ks : Forest) (r : Check Forest) → Good d w → Ranged ks → Gives r → Gives (behind d w ks r)
unfolding behind
behind_ranged d w ks r x kr given g e = let (rest, a, b) = bind_inv r _ g e in gives _ (r_tree x.0 x.1 kr (given rest a)) g b

-- a run without one of its entries
cut_ranged : (n c k : ℕ) (f : Forest) → Ranged f → Gives (cut n c k f)
unfolding cut
cut_ranged n c k nil fr = λ g e. refused e
cut_ranged n c k (tree d w ks rest) (r_tree a b kr rr) =
    by_test Gives (eqb d c) _ _
    (λ _. by_test Gives (eqb k 1) _ _ (λ _. gives rest rr) (λ _. behind_ranged d w ks _ (a, b) kr (cut_ranged n c (k - 1) rest rr)))
    (λ _. behind_ranged d w ks _ (a, b) kr (cut_ranged n c k rest rr))

-- a run with another value and other children of one of its entries
alter_ranged : (n c k : ℕ) (v : List ℕ) (h : Forest → Check Forest) → SoundText v → ((ks : Forest) → Ranged ks → Gives (h ks))
    → (f : Forest) → Ranged f → Gives (alter n c k v h f)
unfolding alter
alter_ranged n c k v h y below nil fr = λ g e. refused e
alter_ranged n c k v h y below (tree d w ks rest) (r_tree a b kr rr) =
    by_test Gives (eqb d c) _ _
    (λ _. by_test Gives (eqb k 1) _ _
    (λ _ g e. let (ks', x, z) = bind_inv (h ks) _ g e in gives (tree d v ks' rest) (r_tree a y (below ks kr ks' x) rr) g z)
    (λ _. behind_ranged d w ks _ (a, b) kr (alter_ranged n c (k - 1) v h y below rest rr)))
    (λ _. behind_ranged d w ks _ (a, b) kr (alter_ranged n c k v h y below rest rr))

-- a run of acts
edit_gives : (us : Acts) (barren : Bool) (f : Forest) → RangedActs us → Ranged f → Gives (edit barren f us)
unfolding edit
edit_gives done barren f a fr = gives f fr
edit_gives (act n insert c k v us rest) barren f (a_act x a b) fr =
    by_test Gives barren _ _ (λ _ g e. refused e)
    (λ _. by_test Gives (ltb (suc (count c f)) k) _ _ (λ _ g e. refused e)
    (λ _ g e. let (ks, y, z) = bind_inv (edit (valued v) nil us) _ g e in
    edit_gives rest barren (put c k v ks f) b (put_ranged c k v ks f x (edit_gives us (valued v) nil a r_nil ks y) fr) g z))
edit_gives (act n delete c k v us rest) barren f (a_act x a b) fr =
    λ g e. let (f', y, z) = bind_inv (cut n c k f) _ g e in edit_gives rest barren f' b (cut_ranged n c k f fr f' y) g z
edit_gives (act n modify c k v us rest) barren f (a_act x a b) fr =
    λ g e. let (f', y, z) = bind_inv (alter n c k v _ f) _ g e in
    edit_gives rest barren f' b (alter_ranged n c k v _ x.1 (λ ks kr. by_test Gives (beside v ks) _ _ (λ _ h i. refused i) (λ _. edit_gives us (valued v) ks a kr)) f fr f' y) g z

-- an accepted edit, by acts that can be written, of a tree that can
pub edit_ranged : (f : Forest) (us : Acts) (g : Forest) → RangedActs us → Ranged f → edit false f us ≡ ok g → Ranged g
edit_ranged f us g a fr e = edit_gives us false f a fr g e

-- ---- tuples

-- a tuple that can be written
abbrev pub GoodTuple : Tup → Type 0
GoodTuple t = Good t.natc t.atvl

-- a tree whose tuples can
pub tuples_ranged : (seen : List ℕ) (p k : ℕ) (f : Forest) → Each GoodTuple (tuples_from seen p k f) → Ranged f
unfolding tuples_from Each
tuples_ranged seen p k nil e = r_nil
tuples_ranged seen p k (tree c v kids rest) e =
    let (a, b) = each_parts GoodTuple (tuples_from [] k (suc k) kids) _ e.1 in
    r_tree e.0.0 e.0.1 (tuples_ranged [] k (suc k) kids a) (tuples_ranged (c ∷ seen) p (suc (k + size kids)) rest b)

-- a code stands at most as often as there are codes
occurs_most : (c : ℕ) (l : List ℕ) → occurs c l ≤ length l
unfolding occurs
occurs_most c [] = omega arith
occurs_most c (x ∷ l) = by_test (λ (n : ℕ). n ≤ suc (length l)) (eqb x c) _ _ (λ _. let h = occurs_most c l in omega arith) (λ _. let h = occurs_most c l in omega arith)

-- a tuple with a code and a value that can be written, and small numbers
pub record Small (t : Tup) : Type 0 where
  pub good : GoodTuple t
  pub some : 1 ≤ t.atix
  pub index : t.atix ≤ 65534
  pub parent : t.paix < 65536

-- the tuples of a tree that is not too large
pub tuples_small : (seen : List ℕ) (p k : ℕ) (f : Forest) → Ranged f → length seen + size f ≤ 65534 → p < 65536 → k + size f ≤ 65536 → Each Small (tuples_from seen p k f)
unfolding tuples_from Each size
tuples_small seen p k nil r h i j = tt
tuples_small seen p k (tree c v kids rest) (r_tree a b kr rr) h i j =
    let o = occurs_most c seen in (
      record { good = (a, b); some = omega arith; index = omega arith; parent = i },
      each_join Small (tuples_from [] k (suc k) kids) _ (tuples_small [] k (suc k) kids kr (omega arith) (omega arith) (omega arith))
          (tuples_small (c ∷ seen) p (suc (k + size kids)) rest rr (omega arith) i (omega arith)),
    )

-- the tuples of a tree of any size
pub tuples_good : (seen : List ℕ) (p k : ℕ) (f : Forest) → Ranged f → Each GoodTuple (tuples_from seen p k f)
unfolding tuples_from Each
tuples_good seen p k nil r = tt
tuples_good seen p k (tree c v kids rest) (r_tree a b kr rr) =
    ((a, b), each_join GoodTuple (tuples_from [] k (suc k) kids) _ (tuples_good [] k (suc k) kids kr) (tuples_good (c ∷ seen) p (suc (k + size kids)) rest rr))
