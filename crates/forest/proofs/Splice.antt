-- An edit of a forest is the same splices of its working form, refusals too. Assumes nothing.
use mathlib.Core.Path.{◌≡◌, refl, sym, ap, ◌∙◌}
use mathlib.Core.List.{List, [], ◌∷◌, ◌++◌, append_assoc, append-nil}
use mathlib.Core.Logic.{⊎_elim}
use mathlib.Core.Bool.{Bool, true, false}
use Prim.Native.Nat.{ℕ, suc, ◌-◌}
use native.Mathlib.Omega.{arith}
use lib.Dec.{ltb}
use borrow.Author.Tests.{lt-ltb, le-ltb, eq-eqb, ne_eqb}
use Rattle.base.specs.Choice.{pick, both}
use Rattle.base.specs.Check.{Check, ok, no, bind, refuse}
use Rattle.forest.specs.Forest.{Forest, nil, tree, valued, beside}
use Rattle.forest.specs.Acts.{Acts, done, act, insert, delete, modify}
use Rattle.forest.specs.Edit.{count, put, behind, cut, alter, edit}
use Rattle.forest.specs.Flat.{Item, item, flat, split, push, over, count_flat, spot, pushed, locate, deeper, after, edit_flat}
use Rattle.forest.proofs.CheckLaws.{bind_then}
use Rattle.forest.proofs.Numbers.{eq_or_ne}
use Rattle.forest.proofs.FlatLaws.{Stop, s_end, s_out, stop_suc, stop_flat, lead, at_here, at_other, over_stop, over_flat, count_deep, count_flat_lem, spot_stop, spot_deep, leads, locate_stop, locate_deep}

-- where a new entry goes, in both forms
record Spotted (d c k : ℕ) (f : Forest) (ts : List Item) : Type 0 where
  a : List Item
  b : List Item
  spots : spot d c k (flat d f ++ ts) ≡ split a b
  stop : Stop (suc d) b
  same : (v : List ℕ) (ks : Forest) → flat d (put c k v ks f) ++ ts ≡ a ++ (item d c v ∷ (flat (suc d) ks ++ b))

-- a new entry goes behind the first one
spot_further : (d c k j e : ℕ) (w : List ℕ) (k₀ rest : Forest) (ts : List Item)
    → spot d c k (item d e w ∷ ((flat (suc d) k₀ ++ flat d rest) ++ ts)) ≡ push (item d e w) (spot d c j ((flat (suc d) k₀ ++ flat d rest) ++ ts))
    → ((v : List ℕ) (ks : Forest) → put c k v ks (tree e w k₀ rest) ≡ tree e w k₀ (put c j v ks rest))
    → Spotted d c j rest ts → Spotted d c k (tree e w k₀ rest) ts
unfolding flat push lead
spot_further d c k j e w k₀ rest ts p q i =
    record {
      a = item d e w ∷ (flat (suc d) k₀ ++ i.a);
      b = i.b;
      spots = p ∙ ap (push (item d e w)) (ap (spot d c j) (append_assoc (flat (suc d) k₀) (flat d rest) ts) ∙ spot_deep d c j (suc d) k₀ (flat d rest ++ ts) (omega arith) ∙ ap (lead (flat (suc d) k₀)) i.spots);
      stop = i.stop;
      same = λ v ks. ap (λ (g : Forest). flat d g ++ ts) (q v ks)
          ∙ ap (λ (l : List Item). item d e w ∷ l) (append_assoc (flat (suc d) k₀) (flat d (put c j v ks rest)) ts ∙ ap (λ (l : List Item). flat (suc d) k₀ ++ l) (i.same v ks) ∙ sym (append_assoc (flat (suc d) k₀) i.a _));
    }

-- where it goes
spotted : (d c k : ℕ) (f : Forest) (ts : List Item) → Stop d ts → Spotted d c k f ts
unfolding flat spot put push lead
spotted d c k nil ts s =
    record { a = []; b = ts; spots = spot_stop d c k ts s; stop = stop_suc d ts s; same = λ v ks. ap (λ (l : List Item). item d c v ∷ (l ++ ts)) (append-nil (flat (suc d) ks)) }
spotted d c k (tree e w k₀ rest) ts s =
    go (spotted d c k rest ts s) (spotted d c (k - 1) rest ts s)
  where
    m : count_flat d c ((flat (suc d) k₀ ++ flat d rest) ++ ts) ≡ count c rest
    m = ap (count_flat d c) (append_assoc (flat (suc d) k₀) (flat d rest) ts) ∙ count_deep d c (suc d) k₀ (flat d rest ++ ts) (omega arith) ∙ count_flat_lem d c rest ts s

    go : Spotted d c k rest ts → Spotted d c (k - 1) rest ts → Spotted d c k (tree e w k₀ rest) ts
    go i j =
        ⊎_elim
        (λ h. ⊎_elim
        (λ o. record {
          a = [];
          b = item d e w ∷ ((flat (suc d) k₀ ++ flat d rest) ++ ts);
          spots = rw (le-ltb d d (omega arith), at_here d c e w h, eq-eqb k 1 o);
          stop = s_out {x = item d e w} (omega arith);
          same = λ v ks. rw (eq-eqb e c h, eq-eqb k 1 o) (ap (λ (l : List Item). item d c v ∷ l) (append_assoc (flat (suc d) ks) (item d e w ∷ (flat (suc d) k₀ ++ flat d rest)) ts));
        })
        (λ o. ⊎_elim
        (λ z. record {
          a = item d e w ∷ flat (suc d) k₀;
          b = flat d rest ++ ts;
          spots = rw (le-ltb d d (omega arith), at_here d c e w h, ne_eqb k 1 o, m, eq-eqb (count c rest) 0 z)
              (ap (push (item d e w)) (ap (over (suc d)) (append_assoc (flat (suc d) k₀) (flat d rest) ts) ∙ over_flat (suc d) (suc d) k₀ (flat d rest ++ ts) (omega arith) ∙ ap (lead (flat (suc d) k₀)) (over_stop (suc d) (flat d rest ++ ts) (stop_flat d rest ts s)))
              ∙ rw append-nil);
          stop = stop_flat d rest ts s;
          same = λ v ks. rw (eq-eqb e c h, ne_eqb k 1 o, eq-eqb (count c rest) 0 z)
              (ap (λ (l : List Item). item d e w ∷ l) (append_assoc (flat (suc d) k₀) (item d c v ∷ (flat (suc d) ks ++ flat d rest)) ts
              ∙ ap (λ (l : List Item). flat (suc d) k₀ ++ (item d c v ∷ l)) (append_assoc (flat (suc d) ks) (flat d rest) ts)));
        })
        (λ z. spot_further d c k (k - 1) e w k₀ rest ts
        (rw (le-ltb d d (omega arith), at_here d c e w h, ne_eqb k 1 o, m, ne_eqb (count c rest) 0 z))
        (λ v ks. rw (eq-eqb e c h, ne_eqb k 1 o, ne_eqb (count c rest) 0 z))
        j)
        (eq_or_ne (count c rest) 0))
        (eq_or_ne k 1))
        (λ h. spot_further d c k k e w k₀ rest ts (rw (le-ltb d d (omega arith), at_other d c e w h)) (λ v ks. rw (ne_eqb e c h)) i)
        (eq_or_ne e c)

-- number k of code c, in both forms: it is absent, or it stands after a and its subtree before b
data Focus (n d c k : ℕ) (f : Forest) (ts : List Item) : Type 0 where
  absent : locate n d c k (flat d f ++ ts) ≡ refuse 9 n → cut n c k f ≡ refuse 9 n → ((v : List ℕ) (h : Forest → Check Forest) → alter n c k v h f ≡ refuse 9 n) → Focus n d c k f ts
  there : (a b : List Item) (ks g : Forest) (w : List ℕ → Forest → Forest)
      → locate n d c k (flat d f ++ ts) ≡ ok (split a (flat (suc d) ks ++ b)) → Stop (suc d) b
      → cut n c k f ≡ ok g → flat d g ++ ts ≡ a ++ b
      → ((v : List ℕ) (h : Forest → Check Forest) → alter n c k v h f ≡ bind (h ks) (λ k'. ok (w v k')))
      → ((v : List ℕ) (k' : Forest) → flat d (w v k') ++ ts ≡ a ++ (item d c v ∷ (flat (suc d) k' ++ b)))
      → Focus n d c k f ts

-- an entry before a rest that is made of checked children
behind_bind : (e : ℕ) (w : List ℕ) (k₀ : Forest) (r : Check Forest) (u : Forest → Forest) → behind e w k₀ (bind r (λ k'. ok (u k'))) ≡ bind r (λ k'. ok (tree e w k₀ (u k')))
unfolding behind bind
behind_bind e w k₀ (ok g) u = refl
behind_bind e w k₀ (no f) u = refl

-- the entry sought stands behind the first one
further : (n d c k j e : ℕ) (w : List ℕ) (k₀ rest : Forest) (ts : List Item)
    → locate n d c k (item d e w ∷ ((flat (suc d) k₀ ++ flat d rest) ++ ts)) ≡ pushed (item d e w) (locate n d c j ((flat (suc d) k₀ ++ flat d rest) ++ ts))
    → cut n c k (tree e w k₀ rest) ≡ behind e w k₀ (cut n c j rest)
    → ((v : List ℕ) (h : Forest → Check Forest) → alter n c k v h (tree e w k₀ rest) ≡ behind e w k₀ (alter n c j v h rest))
    → Focus n d c j rest ts → Focus n d c k (tree e w k₀ rest) ts
unfolding flat behind bind pushed push leads lead
further n d c k j e w k₀ rest ts p q r (absent l m alt) =
    absent
    (p ∙ ap (pushed (item d e w)) (ap (locate n d c j) (append_assoc (flat (suc d) k₀) (flat d rest) ts) ∙ locate_deep n d c j (suc d) k₀ (flat d rest ++ ts) (omega arith) ∙ ap (leads (flat (suc d) k₀)) l))
    (q ∙ ap (behind e w k₀) m)
    (λ v h. r v h ∙ ap (behind e w k₀) (alt v h))
further n d c k j e w k₀ rest ts p q r (there a b ks g u l s m o alt x) =
    there (item d e w ∷ (flat (suc d) k₀ ++ a)) b ks (tree e w k₀ g) (λ v k'. tree e w k₀ (u v k'))
    (p ∙ ap (pushed (item d e w)) (ap (locate n d c j) (append_assoc (flat (suc d) k₀) (flat d rest) ts) ∙ locate_deep n d c j (suc d) k₀ (flat d rest ++ ts) (omega arith) ∙ ap (leads (flat (suc d) k₀)) l))
    s
    (q ∙ ap (behind e w k₀) m)
    (ap (λ (t : List Item). item d e w ∷ t) (append_assoc (flat (suc d) k₀) (flat d g) ts ∙ ap (λ (t : List Item). flat (suc d) k₀ ++ t) o ∙ sym (append_assoc (flat (suc d) k₀) a b)))
    (λ v h. r v h ∙ ap (behind e w k₀) (alt v h) ∙ behind_bind e w k₀ (h ks) (u v))
    (λ v k'. ap (λ (t : List Item). item d e w ∷ t) (append_assoc (flat (suc d) k₀) (flat d (u v k')) ts ∙ ap (λ (t : List Item). flat (suc d) k₀ ++ t) (x v k') ∙ sym (append_assoc (flat (suc d) k₀) a _)))

-- which of the two it is
focus : (n d c k : ℕ) (f : Forest) (ts : List Item) → Stop d ts → Focus n d c k f ts
unfolding flat locate cut alter
focus n d c k nil ts s = absent (locate_stop n d c k ts s) refl (λ v h. refl)
focus n d c k (tree e w k₀ rest) ts s = go (focus n d c k rest ts s) (focus n d c (k - 1) rest ts s)
  where
    go : Focus n d c k rest ts → Focus n d c (k - 1) rest ts → Focus n d c k (tree e w k₀ rest) ts
    go i j =
        ⊎_elim
        (λ h. ⊎_elim
        (λ o. there [] (flat d rest ++ ts) k₀ rest (λ v k'. tree e v k' rest)
        (rw (le-ltb d d (omega arith), at_here d c e w h, eq-eqb k 1 o) (ap (λ (t : List Item). ok (split [] t)) (append_assoc (flat (suc d) k₀) (flat d rest) ts)))
        (stop_flat d rest ts s)
        (rw (eq-eqb e c h, eq-eqb k 1 o))
        refl
        (λ v u. rw (eq-eqb e c h, eq-eqb k 1 o))
        (λ v k'. ap (λ (t : List Item). item d e v ∷ t) (append_assoc (flat (suc d) k') (flat d rest) ts) ∙ ap (λ (z : ℕ). item d z v ∷ (flat (suc d) k' ++ (flat d rest ++ ts))) h))
        (λ o. further n d c k (k - 1) e w k₀ rest ts
        (rw (le-ltb d d (omega arith), at_here d c e w h, ne_eqb k 1 o))
        (rw (eq-eqb e c h, ne_eqb k 1 o))
        (λ v u. rw (eq-eqb e c h, ne_eqb k 1 o))
        j)
        (eq_or_ne k 1))
        (λ h. further n d c k k e w k₀ rest ts
        (rw (le-ltb d d (omega arith), at_other d c e w h))
        (rw (ne_eqb e c h))
        (λ v u. rw (ne_eqb e c h))
        i)
        (eq_or_ne e c)

-- the end of an insert and of a modify: the children are edited, and then the rest of the acts done
tail_same : (d : ℕ) (barren : Bool) (a b ts : List Item) (x : Item) (W : Forest → Forest) (rest : Acts)
    → ((k' : Forest) → flat d (W k') ++ ts ≡ a ++ (x ∷ (flat (suc d) k' ++ b)))
    → ((g : Forest) → edit_flat d barren (flat d g ++ ts) rest ≡ bind (edit barren g rest) (λ h. ok (flat d h ++ ts)))
    → (E : Check Forest)
    → bind (after a (after (x ∷ []) (bind E (λ k'. ok (flat (suc d) k' ++ b))))) (λ t. edit_flat d barren t rest) ≡ bind (bind E (λ k'. edit barren (W k') rest)) (λ h. ok (flat d h ++ ts))
unfolding bind after
tail_same d barren a b ts x W rest same ih (no f) = refl
tail_same d barren a b ts x W rest same ih (ok k') = ap (λ (t : List Item). edit_flat d barren t rest) (sym (same k')) ∙ ih (W k')

-- the same, where a value must not stand beside a child
tail_beside : (n d : ℕ) (barren : Bool) (a b ts : List Item) (x : Item) (W : Forest → Forest) (rest : Acts)
    → ((k' : Forest) → flat d (W k') ++ ts ≡ a ++ (x ∷ (flat (suc d) k' ++ b)))
    → ((g : Forest) → edit_flat d barren (flat d g ++ ts) rest ≡ bind (edit barren g rest) (λ h. ok (flat d h ++ ts)))
    → (E : Check Forest) (t : Bool)
    → pick t (refuse 6 n) (bind (after a (after (x ∷ []) (bind E (λ k'. ok (flat (suc d) k' ++ b))))) (λ l. edit_flat d barren l rest))
    ≡ bind (bind (bind (pick t (refuse 6 n) E) (λ k'. ok (W k'))) (λ g. edit barren g rest)) (λ h. ok (flat d h ++ ts))
unfolding bind
tail_beside n d barren a b ts x W rest same ih E true = refl
tail_beside n d barren a b ts x W rest same ih E false =
    tail_same d barren a b ts x W rest same ih E ∙ ap (λ (z : Check Forest). bind z (λ h. ok (flat d h ++ ts))) (sym (bind_then E W (λ g. edit barren g rest)))

-- a value beside a child, in both forms
beside_deeper : (d : ℕ) (v : List ℕ) (ks : Forest) (b : List Item) → Stop (suc d) b → both (valued v) (deeper (suc d) (flat (suc d) ks ++ b)) ≡ beside v ks
unfolding valued deeper flat beside
beside_deeper d [] ks b s = refl
beside_deeper d (x ∷ v) nil b s_end = refl
beside_deeper d (x ∷ v) nil b (s_out {x = y} l) = rw (lt-ltb y.depth (suc d) l)
beside_deeper d (x ∷ v) (tree c w ks rest) b s = rw (le-ltb (suc d) (suc d) (omega arith))

-- each act, from the theorem for the acts on the children and for the rest of the acts
module _ (d : ℕ) (barren : Bool) (f : Forest) (ts : List Item) (n c k : ℕ) (v : List ℕ) (us rest : Acts) (s : Stop d ts)
    (in_kids : (b : List Item) → Stop (suc d) b → (ks : Forest) → edit_flat (suc d) (valued v) (flat (suc d) ks ++ b) us ≡ bind (edit (valued v) ks us) (λ g. ok (flat (suc d) g ++ b)))
    (in_rest : (g : Forest) → edit_flat d barren (flat d g ++ ts) rest ≡ bind (edit barren g rest) (λ h. ok (flat d h ++ ts))) where
  -- insert
  inserted : barren ≡ false → edit_flat d barren (flat d f ++ ts) (act n insert c k v us rest) ≡ bind (edit barren f (act n insert c k v us rest)) (λ g. ok (flat d g ++ ts))
  unfolding edit edit_flat bind flat
  inserted no_value = go (spotted d c k f ts s) (ltb (suc (count c f)) k) refl
    where
      go : Spotted d c k f ts → (t : Bool) → ltb (suc (count c f)) k ≡ t → edit_flat d barren (flat d f ++ ts) (act n insert c k v us rest) ≡ bind (edit barren f (act n insert c k v us rest)) (λ g. ok (flat d g ++ ts))
      go i true e = rw (no_value, count_flat_lem d c f ts s, e)
      go i false e =
          rw (no_value, count_flat_lem d c f ts s, e, i.spots, in_kids i.b i.stop nil)
          (tail_same d false i.a i.b ts (item d c v) (λ ks. put c k v ks f) rest (i.same v) (λ g. rw no_value at (in_rest g)) (edit (valued v) nil us))

  -- delete
  deleted : edit_flat d barren (flat d f ++ ts) (act n delete c k v us rest) ≡ bind (edit barren f (act n delete c k v us rest)) (λ g. ok (flat d g ++ ts))
  unfolding edit edit_flat bind lead
  deleted = go (focus n d c k f ts s)
    where
      go : Focus n d c k f ts → edit_flat d barren (flat d f ++ ts) (act n delete c k v us rest) ≡ bind (edit barren f (act n delete c k v us rest)) (λ g. ok (flat d g ++ ts))
      go (absent l m alt) = rw (l, m)
      go (there a b ks g w l t m o alt x) =
          rw (l, m, over_flat (suc d) (suc d) ks b (omega arith), over_stop (suc d) b t)
          (ap (λ (z : List Item). edit_flat d barren z rest) (sym o) ∙ in_rest g)

  -- modify
  modified : edit_flat d barren (flat d f ++ ts) (act n modify c k v us rest) ≡ bind (edit barren f (act n modify c k v us rest)) (λ g. ok (flat d g ++ ts))
  unfolding edit edit_flat bind
  modified = go (focus n d c k f ts s)
    where
      go : Focus n d c k f ts → edit_flat d barren (flat d f ++ ts) (act n modify c k v us rest) ≡ bind (edit barren f (act n modify c k v us rest)) (λ g. ok (flat d g ++ ts))
      go (absent l m alt) = rw (l, alt)
      go (there a b ks g w l t m o alt x) =
          rw (l, alt, beside_deeper d v ks b t, in_kids b t ks)
          (tail_beside n d barren a b ts (item d c v) (w v) rest (x v) in_rest (edit (valued v) ks us) (beside v ks))

-- the theorem: the acts of an update on a forest are the same splices of its working form, refusals too
pub edit_splice : (d : ℕ) (barren : Bool) (f : Forest) (ts : List Item) (us : Acts) → Stop d ts → edit_flat d barren (flat d f ++ ts) us ≡ bind (edit barren f us) (λ g. ok (flat d g ++ ts))
unfolding edit edit_flat bind
edit_splice d barren f ts done s = refl
edit_splice d true f ts (act n insert c k v us rest) s = refl
edit_splice d false f ts (act n insert c k v us rest) s =
    inserted d false f ts n c k v us rest s (λ b t ks. edit_splice (suc d) (valued v) ks b us t) (λ g. edit_splice d false g ts rest s) refl
edit_splice d barren f ts (act n delete c k v us rest) s =
    deleted d barren f ts n c k v us rest s (λ b t ks. edit_splice (suc d) (valued v) ks b us t) (λ g. edit_splice d barren g ts rest s)
edit_splice d barren f ts (act n modify c k v us rest) s =
    modified d barren f ts n c k v us rest s (λ b t ks. edit_splice (suc d) (valued v) ks b us t) (λ g. edit_splice d barren g ts rest s)
