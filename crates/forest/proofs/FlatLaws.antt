-- The working form of a run, and what follows the run, walked over entry by entry. Assumes nothing.
use mathlib.Core.Path.{◌≡◌, refl, sym, ap, ◌∙◌}
use mathlib.Core.List.{List, [], ◌∷◌, ◌++◌, append_assoc}
use mathlib.Core.Bool.{Bool, true, false}
use Prim.Native.Nat.{ℕ, suc, ◌≤◌, ◌<◌}
use native.Mathlib.Omega.{arith}
use lib.Dec.{eqb}
use lib.ListN.{length, length-append}
use borrow.Author.Tests.{lt-ltb, le-ltb, eq-eqb, ne_eqb, eqb-true, eqb-false}
use Rattle.base.specs.Choice.{pick}
use Rattle.base.specs.Check.{Check, ok, no, refuse}
use Rattle.forest.specs.Forest.{Forest, nil, tree, size}
use Rattle.forest.specs.Edit.{count}
use Rattle.forest.specs.Flat.{Item, item, flat, Split, split, push, named, over, count_flat, spot, pushed, locate}

-- what follows the run at depth d: nothing, or an item further out
pub data Stop (d : ℕ) : List Item → Type 0 where
  s_end : Stop d []
  s_out : {x : Item} {ts : List Item} → x.depth < d → Stop d (x ∷ ts)

-- it ends a run further in too
pub stop_suc : (d : ℕ) (ts : List Item) → Stop d ts → Stop (suc d) ts
stop_suc d ts s_end = s_end
stop_suc d ts (s_out {x = x} l) = s_out {x = x} (omega arith)

-- and so does the rest of a run
pub stop_flat : (d : ℕ) (f : Forest) (ts : List Item) → Stop d ts → Stop (suc d) (flat d f ++ ts)
unfolding flat
stop_flat d nil ts s = stop_suc d ts s
stop_flat d (tree c v ks rest) ts s = s_out {x = item d c v} (omega arith)

-- a list put in front
unfoldable pub lead : List Item → Split → Split
lead a s = split (a ++ s.front) s.back

-- an entry of the run with the code
pub at_here : (d c e : ℕ) (v : List ℕ) → e ≡ c → named d c (item d e v) ≡ true
unfolding named
at_here d c e v h = rw (eq-eqb d d refl, eq-eqb e c h)

-- an entry of the run with another code
pub at_other : (d c e : ℕ) (v : List ℕ) → (e ≡ c → ⊥) → named d c (item d e v) ≡ false
unfolding named
at_other d c e v h = rw (eq-eqb d d refl, ne_eqb e c h)

-- an entry further in
at_deep : (d c b e : ℕ) (v : List ℕ) → d < b → named d c (item b e v) ≡ false
unfolding named
at_deep d c b e v h = rw (ne_eqb b d (λ z. omega (arith, z)))

-- past nothing
pub over_stop : (d : ℕ) (ts : List Item) → Stop d ts → over d ts ≡ split [] ts
unfolding over
over_stop d ts s_end = refl
over_stop d ts (s_out {x = x} l) = rw (lt-ltb x.depth d l)

-- past a run
pub over_flat : (d e : ℕ) (f : Forest) (ts : List Item) → d ≤ e → over d (flat e f ++ ts) ≡ lead (flat e f) (over d ts)
unfolding over flat lead push
over_flat d e nil ts h = refl
over_flat d e (tree c v ks rest) ts h =
    rw (le-ltb e d h, append_assoc (flat (suc e) ks) (flat e rest) ts, over_flat d (suc e) ks (flat e rest ++ ts) (omega arith), over_flat d e rest ts h, append_assoc)

-- none behind the run
count_stop : (d c : ℕ) (ts : List Item) → Stop d ts → count_flat d c ts ≡ 0
unfolding count_flat
count_stop d c ts s_end = refl
count_stop d c ts (s_out {x = x} l) = rw (lt-ltb x.depth d l)

-- none among entries further in
pub count_deep : (d c e : ℕ) (f : Forest) (ts : List Item) → d < e → count_flat d c (flat e f ++ ts) ≡ count_flat d c ts
unfolding count_flat flat
count_deep d c e nil ts h = refl
count_deep d c e (tree b v ks rest) ts h =
    rw (le-ltb e d (omega arith), at_deep d c e b v h, append_assoc (flat (suc e) ks) (flat e rest) ts)
    (count_deep d c (suc e) ks (flat e rest ++ ts) (omega arith) ∙ count_deep d c e rest ts h)

-- as many as the run has
pub count_flat_lem : (d c : ℕ) (f : Forest) (ts : List Item) → Stop d ts → count_flat d c (flat d f ++ ts) ≡ count c f
unfolding count_flat flat count
count_flat_lem d c nil ts s = count_stop d c ts s
count_flat_lem d c (tree b v ks rest) ts s =
    let on : count_flat d c ((flat (suc d) ks ++ flat d rest) ++ ts) ≡ count c rest =
    ap (count_flat d c) (append_assoc (flat (suc d) ks) (flat d rest) ts) ∙ count_deep d c (suc d) ks (flat d rest ++ ts) (omega arith) ∙ count_flat_lem d c rest ts s in
    go on (eqb b c) refl
  where
    go : count_flat d c ((flat (suc d) ks ++ flat d rest) ++ ts) ≡ count c rest → (t : Bool) → eqb b c ≡ t
        → count_flat d c (item d b v ∷ ((flat (suc d) ks ++ flat d rest) ++ ts)) ≡ pick (eqb b c) (suc (count c rest)) (count c rest)
    go on true e = rw (le-ltb d d (omega arith), at_here d c b v (eqb-true b c e), e, on)
    go on false e = rw (le-ltb d d (omega arith), at_other d c b v (eqb-false b c e), e, on)

-- behind the run
pub spot_stop : (d c k : ℕ) (ts : List Item) → Stop d ts → spot d c k ts ≡ split [] ts
unfolding spot
spot_stop d c k ts s_end = refl
spot_stop d c k ts (s_out {x = x} l) = rw (lt-ltb x.depth d l)

-- past entries further in
pub spot_deep : (d c k e : ℕ) (f : Forest) (ts : List Item) → d < e → spot d c k (flat e f ++ ts) ≡ lead (flat e f) (spot d c k ts)
unfolding spot flat lead push
spot_deep d c k e nil ts h = refl
spot_deep d c k e (tree b v ks rest) ts h =
    rw (le-ltb e d (omega arith), at_deep d c e b v h, append_assoc (flat (suc e) ks) (flat e rest) ts, spot_deep d c k (suc e) ks (flat e rest ++ ts) (omega arith), spot_deep d c k e rest ts h, append_assoc)

-- a list put in front, if there is something
unfoldable pub leads : List Item → Check Split → Check Split
leads a (ok s) = ok (lead a s)
leads a (no f) = no f

-- nothing behind the run
pub locate_stop : (n d c k : ℕ) (ts : List Item) → Stop d ts → locate n d c k ts ≡ refuse 9 n
unfolding locate
locate_stop n d c k ts s_end = refl
locate_stop n d c k ts (s_out {x = x} l) = rw (lt-ltb x.depth d l)

-- no list put in front
leads_nil : (w : Check Split) → leads [] w ≡ w
unfolding leads lead
leads_nil (ok s) = refl
leads_nil (no f) = refl

-- an entry and two lists put in front
leads_push : (x : Item) (a b : List Item) (w : Check Split) → pushed x (leads a (leads b w)) ≡ leads (x ∷ (a ++ b)) w
unfolding leads lead pushed push
leads_push x a b (ok s) = rw append_assoc
leads_push x a b (no f) = refl

-- past entries further in
pub locate_deep : (n d c k e : ℕ) (f : Forest) (ts : List Item) → d < e → locate n d c k (flat e f ++ ts) ≡ leads (flat e f) (locate n d c k ts)
unfolding locate flat
locate_deep n d c k e nil ts h = sym (leads_nil (locate n d c k ts))
locate_deep n d c k e (tree b v ks rest) ts h =
    rw (le-ltb e d (omega arith), at_deep d c e b v h, append_assoc (flat (suc e) ks) (flat e rest) ts, locate_deep n d c k (suc e) ks (flat e rest ++ ts) (omega arith), locate_deep n d c k e rest ts h)
    (leads_push (item e b v) (flat (suc e) ks) (flat e rest) (locate n d c k ts))

-- a forest has as many items as entries
pub flat_length : (d : ℕ) (f : Forest) → length (flat d f) ≡ size f
unfolding flat size
flat_length d nil = refl
flat_length d (tree c v kids rest) = omega (arith, length-append (flat (suc d) kids) (flat d rest), flat_length (suc d) kids, flat_length d rest)
