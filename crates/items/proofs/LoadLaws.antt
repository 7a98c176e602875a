-- The loading of a stored field: its items are the tree of its tuples, in order. Assumes nothing.
use mathlib.Core.Path.{◌≡◌, refl, sym, ap, ◌∙◌}
use mathlib.Core.List.{List, [], ◌∷◌, ◌++◌, append_assoc, append-nil}
use mathlib.Core.Logic.{⊎_elim}
use mathlib.Core.Bool.{true}
use Prim.Native.Nat.{ℕ, zero, suc, ◌+◌, ◌-◌, ◌*◌, ◌≤◌, ◌<◌}
use native.Mathlib.Omega.{arith}
use native.Mathlib.Numerals.{add-one}
use lib.ListN.{length, length-append}
use Rattle.base.specs.Check.{ok, pass, passed}
use Rattle.base.specs.Lists.{each}
use Rattle.base.proofs.CheckLaws.{bind_inv}
use Rattle.memory.specs.Put.{put}
use Rattle.memory.proofs.PutLaws.{length_put}
use Rattle.skeleton.specs.Place.{between}
use Rattle.fields.specs.Table.{head_of, tuple_of}
use Rattle.fields.specs.Values.{Val}
use Rattle.fields.specs.Content.{fill}
use Rattle.fields.specs.declared.Format.TheVariants.{AttrNew}
use Rattle.fields.proofs.FieldLaws.{fill_list}
use Rattle.forest.specs.Forest.{Forest, nil, tree, Tup, occurs, size, tuples_from, tuples_of}
use Rattle.forest.specs.Rule.{tree_of}
use Rattle.forest.specs.Flat.{Item, item, flat}
use Rattle.forest.proofs.Numbers.{lt_or_le}
use Rattle.forest.proofs.TreeLaws.{tree_sound}
use Rattle.forest.proofs.FlatLaws.{flat_length}
use Rattle.rules.specs.Trees.{tup_of, attr_tree}
use Rattle.tree.specs.Source.{past}
use Rattle.tree.proofs.CountLaws.{past_above}
use Rattle.tree.proofs.TupleShape.{shape}
use Rattle.items.specs.Items.{u16, text_from, depth_of, source, item_at, its, item_bytes, under, Same}
use Rattle.items.specs.Tuples.{Tuples, tuples_to}
use Rattle.items.specs.Loaded.{Loaded}
use Rattle.items.proofs.ItemLaws.{its_end, its_more, its_snoc, same_its, item_put, depth_put, put_below}
use Rattle.items.proofs.TupleLaws.{tuples_past, tuples_next, to_none, to_more, placed}

-- the tuples from an offset up to e
abbrev pub tups_to : List ℕ → ℕ → ℕ → List Tup
tups_to b at e = each tup_of (tuples_to b at e)

-- the tuple at an offset
abbrev tup_at : List ℕ → ℕ → Tup
tup_at b at = record { natc = u16 b at; atix = u16 b (at + 2); paix = u16 b (at + 4); atvl = text_from b (at + 7) }

-- none at the end
tups_end : (b : List ℕ) (at e : ℕ) → e ≤ at → tups_to b at e ≡ []
unfolding each
tups_end b at e h = rw (to_none b at e h)

-- one and the others
tups_more : (b : List ℕ) (at e : ℕ) → at < e → tups_to b at e ≡ tup_at b at ∷ tups_to b (past b at) e
unfolding each tup_of
tups_more b at e h = rw (to_more b at e h)

-- ---- the loading on lists

-- the depth of the item of index p
unfoldable pub depth_in : List Item → ℕ → ℕ
depth_in [] p = 0
depth_in (x ∷ xs) zero = x.depth
depth_in (x ∷ xs) (suc p) = depth_in xs p

-- the depth below place p
unfoldable pub under_in : List Item → ℕ → ℕ
under_in acc zero = 0
under_in acc (suc p) = suc (depth_in acc p)

-- each tuple becomes an item behind the others: its depth is known from its parent's place
unfoldable pub load_on : List Item → List Tup → List Item
load_on acc [] = acc
load_on acc (t ∷ ts) = load_on (acc ++ (item (under_in acc t.paix) t.natc t.atvl ∷ [])) ts

-- an item is found again when others follow
depth_append : (acc xs : List Item) (p : ℕ) → p < length acc → depth_in (acc ++ xs) p ≡ depth_in acc p
unfolding depth_in
depth_append [] xs p h = absurd (omega arith)
depth_append (x ∷ acc) xs zero h = refl
depth_append (x ∷ acc) xs (suc p) h = depth_append acc xs p (omega arith)

-- the last item
depth_last : (acc : List Item) (x : Item) → depth_in (acc ++ (x ∷ [])) (length acc) ≡ x.depth
unfolding depth_in
depth_last [] x = refl
depth_last (y ∷ acc) x = depth_last acc x

-- the depth below a place stays when others follow
under_append : (acc xs : List Item) (p : ℕ) → p ≤ length acc → under_in (acc ++ xs) p ≡ under_in acc p
unfolding under_in
under_append acc xs zero h = refl
under_append acc xs (suc p) h = ap suc (depth_append acc xs p (omega arith))

-- the tuples of a run become its items
load_from : (acc : List Item) (d : ℕ) (seen : List ℕ) (p k : ℕ) (f : Forest) (ts : List Tup) → k ≡ suc (length acc) → p < k → under_in acc p ≡ d
    → load_on acc (tuples_from seen p k f ++ ts) ≡ load_on (acc ++ flat d f) ts
unfolding tuples_from flat load_on under_in
load_from acc d seen p k nil ts e h q = ap (λ (l : List Item). load_on l ts) (sym (append-nil acc))
load_from acc d seen p k (tree c v kids rest) ts e h q =
    let x : Item = item d c v in
    let acc₁ : List Item = acc ++ (x ∷ []) in
    let acc₂ : List Item = acc₁ ++ flat (suc d) kids in
    let a : List Tup = tuples_from [] k (suc k) kids in
    let r : List Tup = tuples_from (c ∷ seen) p (suc (k + size kids)) rest in
    let n₁ : length acc₁ ≡ suc (length acc) = length-append acc (x ∷ []) ∙ omega arith in
    let n₂ : length acc₂ ≡ suc (length acc) + size kids = length-append acc₁ (flat (suc d) kids) ∙ omega (arith, n₁, flat_length (suc d) kids) in
    let d₁ : under_in acc₁ k ≡ suc d = ap (under_in acc₁) e ∙ ap suc (depth_last acc x) in
    let d₂ : under_in acc₂ p ≡ d = under_append acc₁ (flat (suc d) kids) p (omega (arith, n₁)) ∙ under_append acc (x ∷ []) p (omega arith) ∙ q in
    let all : acc₂ ++ flat d rest ≡ acc ++ (x ∷ (flat (suc d) kids ++ flat d rest)) = append_assoc acc₁ (flat (suc d) kids) (flat d rest) ∙ append_assoc acc (x ∷ []) (flat (suc d) kids ++ flat d rest) in
    ap (λ (j : ℕ). load_on (acc ++ (item j c v ∷ [])) ((a ++ r) ++ ts)) q
    ∙ ap (load_on acc₁) (append_assoc a r ts)
    ∙ load_from acc₁ (suc d) [] k (suc k) kids (r ++ ts) (omega (arith, n₁)) (omega arith) d₁
    ∙ load_from acc₂ d (c ∷ seen) p (suc (k + size kids)) rest ts (omega (arith, n₂)) (omega arith) d₂
    ∙ ap (λ (l : List Item). load_on l ts) all

-- and those of a forest
load_tuples : (f : Forest) → load_on [] (tuples_of f) ≡ flat 0 f
unfolding tuples_of under_in load_on
load_tuples f = ap (load_on []) (sym (append-nil (tuples_from [] 0 1 f))) ∙ load_from [] 0 [] 0 1 f [] refl (omega arith) refl

-- ---- parents

-- each tuple's parent stands before it, where the first is of place k
pub data Back : ℕ → List Tup → Type 0 where
  b_end : {k : ℕ} → Back k []
  b_more : {k : ℕ} {t : Tup} {ts : List Tup} → t.paix < k → Back (suc k) ts → Back k (t ∷ ts)

-- so in the tuples of a run
back_from : (seen : List ℕ) (p k q : ℕ) (f : Forest) (ts : List Tup) → p < k → q ≡ k + size f → Back q ts → Back k (tuples_from seen p k f ++ ts)
unfolding tuples_from size
back_from seen p k q nil ts h e b = let z : q ≡ k = omega arith in rw z at b
back_from seen p k q (tree c v kids rest) ts h e b =
    b_more {t = record { natc = c; atix = suc (occurs c seen); paix = p; atvl = v }} {ts = (tuples_from [] k (suc k) kids ++ tuples_from (c ∷ seen) p (suc (k + size kids)) rest) ++ ts} h (rw (append_assoc (tuples_from [] k (suc k) kids) (tuples_from (c ∷ seen) p (suc (k + size kids)) rest) ts)
    (back_from [] k (suc k) (suc (k + size kids)) kids _ (omega arith) (omega arith) (back_from (c ∷ seen) p (suc (k + size kids)) q rest ts (omega arith) (omega arith) b)))

-- tuples for which the tree rule holds
back_rule : (ts : List Tup) (f : Forest) → tree_of ts ≡ ok f → Back 1 ts
unfolding tuples_of
back_rule ts f e =
    let s : tuples_from [] 0 1 f ≡ ts = (tree_sound ts f e).0 in
    rw s at (rw (append-nil (tuples_from [] 0 1 f)) at (back_from [] 0 1 (1 + size f) f [] (omega arith) refl b_end))

-- the first tuple
back_head : (k : ℕ) (t : Tup) (ts : List Tup) → Back k (t ∷ ts) → t.paix < k
back_head k t ts (b_more h b) = h

-- the others
back_tail : (k : ℕ) (t : Tup) (ts : List Tup) → Back k (t ∷ ts) → Back (suc k) ts
back_tail k t ts (b_more h b) = b

-- ---- the loop

-- the depth of an item
depth_its : (s u w : List ℕ) (p i n : ℕ) → i + p < n → depth_in (its s u w i n) p ≡ depth_of w (i + p)
unfolding depth_in item_at
depth_its s u w zero i n h = let z : i + 0 ≡ i = omega arith in rw (its_more s u w i n (omega arith), z)
depth_its s u w (suc p) i n h = let z : i + suc p ≡ i + 1 + p = omega arith in rw (its_more s u w i n (omega arith), z) (depth_its s u w p (i + 1) n (omega arith))

-- the depth below a place, as the code reads it
under_its : (s u w : List ℕ) (p n : ℕ) → p ≤ n → under_in (its s u w 0 n) p ≡ under w p
unfolding under_in under
under_its s u w zero n h = refl
under_its s u w (suc p) n h = let z : 0 + p ≡ p = omega arith in ap suc (rw z at (depth_its s u w p 0 n (omega arith))) ∙ sym (add-one (depth_of w p))

-- a is the offset of the next tuple, i the next item
pub record LoadAt (b : List ℕ) (at e x : ℕ) (w₀ w : List ℕ) (a i : ℕ) : Type 0 where
  pub whole : Tuples b e a
  pub room : 8 * i + (e - a) ≤ e - at
  pub cap : e - at ≤ length w
  pub long : length w ≡ length w₀
  pub back : Back (suc i) (tups_to b a e)
  pub shallow : (j : ℕ) → j < i → depth_of w j ≤ j
  pub same : (s u : List ℕ) → source x s u ≡ b → load_on (its s u w 0 i) (tups_to b a e) ≡ load_on [] (tups_to b at e)

-- before the first tuple
pub load_start : (b : List ℕ) (at e x : ℕ) (w : List ℕ) → Tuples b e at → e - at ≤ length w → (f : Forest) → tree_of (tups_to b at e) ≡ ok f → LoadAt b at e x w w at 0
load_start b at e x w t r f h =
    record {
      whole = t;
      room = omega arith;
      cap = r;
      long = refl;
      back = back_rule (tups_to b at e) f h;
      shallow = λ j l. absurd (omega arith);
      same = λ s u y. ap (λ (l : List Item). load_on l (tups_to b at e)) (its_end s u w 0 0 (omega arith));
    }

-- a tuple is left
module _ (b : List ℕ) (at e x : ℕ) (w₀ w : List ℕ) (a i : ℕ) (l : LoadAt b at e x w₀ w a i) (h : a < e) where
  -- it ends inside the field
  pub load_fits : past b a ≤ e
  load_fits = tuples_past b e a l.whole h

  -- its parent is loaded
  pub load_parent : u16 b (a + 4) ≤ i
  load_parent = let p = back_head (suc i) (tup_at b a) (tups_to b (past b a) e) (rw (tups_more b a e h) at l.back) in omega arith

  -- its depth is no more than its index
  pub load_shallow : under w (u16 b (a + 4)) ≤ i
  unfolding under
  load_shallow = go (u16 b (a + 4)) load_parent
    where
      go : (p : ℕ) → p ≤ i → under w p ≤ i
      go zero q = omega arith
      go (suc p) q = omega (arith, l.shallow p (omega arith))

  module _ (big : length w < 524288) (low : e ≤ 16777216) (cs : u16 b a < 65536) (d : ℕ) (ed : d ≡ under w (u16 b (a + 4))) (c : ℕ) (ec : c ≡ u16 b a) where
    -- there is room for its item
    room₁ : 8 * i + 8 ≤ length w
    room₁ = omega (arith, l.room, l.cap, past_above b a, load_fits)

    -- its depth is a number of two bytes
    fit₁ : d < 65536
    fit₁ = omega (arith, load_shallow, room₁)

    -- the bytes afterwards
    abbrev new : List ℕ
    new = put (8 * i) (item_bytes d c (a + 7) x) w

    -- no depth is more than its index
    shallow₁ : (j : ℕ) → j < i + 1 → depth_of new j ≤ j
    unfolding Same u16
    shallow₁ j q =
        ⊎_elim
        (λ (z : j < i). let p = put_below w i d c (a + 7) x room₁ fit₁ (omega arith) (omega (arith, past_above b a, load_fits)) in
        let e0 = p (8 * j) (omega arith) in
        let e1 = p (8 * j + 1) (omega arith) in
        omega (arith, l.shallow j z))
        (λ (z : i ≤ j). let y : j ≡ i = omega arith in
        rw y (omega (arith, depth_put w i d c (a + 7) x room₁ fit₁ (omega arith) (omega (arith, past_above b a, load_fits)), load_shallow)))
        (lt_or_le j i)

    -- the same is still to come
    same₁ : (s u : List ℕ) → source x s u ≡ b → load_on (its s u new 0 (i + 1)) (tups_to b (past b a) e) ≡ load_on [] (tups_to b at e)
    unfolding load_on
    same₁ s u y =
        let below : its s u new 0 i ≡ its s u w 0 i = same_its s u w new 0 i (8 * i) (omega arith) (omega arith) (put_below w i d c (a + 7) x room₁ fit₁ (omega arith) (omega (arith, past_above b a, load_fits))) in
        let this : item_at s u new i ≡ item (under_in (its s u w 0 i) (u16 b (a + 4))) (u16 b a) (text_from b (a + 7)) =
        item_put w i d c (a + 7) x room₁ fit₁ (omega arith) (omega (arith, past_above b a, load_fits)) s u
        ∙ rw (y, ec, ed, under_its s u w (u16 b (a + 4)) i load_parent) in
        rw (its_snoc s u new 0 i (omega arith), below, this) (rw (tups_more b a e h) at (l.same s u y))

    -- behind it
    pub load_turn : (a' : ℕ) → a' ≡ past b a → (w' : List ℕ) → w' ≡ put (8 * i) (item_bytes d c (a + 7) x) w → LoadAt b at e x w₀ w' a' (i + 1)
    load_turn a' ea w' ew = rw (ew, ea) (record {
      whole = tuples_next b e a l.whole h;
      room = omega (arith, l.room, past_above b a, load_fits);
      cap = omega (arith, l.cap, length_put (8 * i) (item_bytes d c (a + 7) x) w);
      long = length_put (8 * i) (item_bytes d c (a + 7) x) w ∙ l.long;
      back = rw (add-one i) (back_tail (suc i) (tup_at b a) (tups_to b (past b a) e) (rw (tups_more b a e h) at l.back));
      shallow = shallow₁;
      same = same₁;
    })

-- ---- a field

-- a stored field's tuples in the slice, and its tree
pub attr_placed : (b : List ℕ) (at e : ℕ) → at ≤ e → e ≤ length b → fill (head_of AttrNew) (tuple_of AttrNew) (between b at e) ≡ true
    → Tuples b e at × (attr_tree (between b at e) ≡ tree_of (tups_to b at e))
unfolding head_of tuple_of attr_tree
attr_placed b at e h l f =
    let (t, v) = placed b at e h l 1 1 (fill_list (shape 1 1) (between b at e) f) in
    (t, ap (λ (vs : List (List Val)). tree_of (each tup_of vs)) v)

-- the first turn
pub load_field : (b : List ℕ) (at e x : ℕ) (w : List ℕ) → at ≤ e → e ≤ length b → e - at ≤ length w
    → fill (head_of AttrNew) (tuple_of AttrNew) (between b at e) ≡ true → passed (attr_tree (between b at e)) ≡ pass → LoadAt b at e x w w at 0
unfolding passed
load_field b at e x w h l r f p =
    let (t, same) = attr_placed b at e h l f in
    let (g, q, z) = bind_inv (attr_tree (between b at e)) _ _ p in
    load_start b at e x w t r g (sym same ∙ q)

-- the last turn
pub load_done : (b : List ℕ) (at e x : ℕ) (w₀ w : List ℕ) (a i : ℕ) → at ≤ e → e ≤ length b → fill (head_of AttrNew) (tuple_of AttrNew) (between b at e) ≡ true
    → LoadAt b at e x w₀ w a i → e ≤ a → Loaded b at e x w i
unfolding load_on
load_done b at e x w₀ w a i o p z l h =
    record {
      is = λ s u y f g.
          let t : tuples_of f ≡ tups_to b at e = (tree_sound (tups_to b at e) f (sym (attr_placed b at e o p z).1 ∙ g)).0 in
          (rw (tups_end b a e h) at (l.same s u y)) ∙ ap (load_on []) (sym t) ∙ load_tuples f;
      size = omega (arith, l.room);
    }
