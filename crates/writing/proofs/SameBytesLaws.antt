-- What is read of a field of a dataset is written as the very bytes that it was read from. Assumes nothing.
use Prim.Native.Nat.{ℕ, ◌≤◌, ◌<◌}
use mathlib.Core.Path.{◌≡◌, refl, sym, ap, ap₂, ◌∙◌}
use mathlib.Core.Bool.{Bool, true, false}
use mathlib.Core.Option.{some}
use mathlib.Core.List.{List, [], ◌∷◌, ◌++◌}
use native.Mathlib.Omega.{arith}
use lib.Dec.{eqb, leb}
use lib.ListN.{length, get_or, take, drop, take-append-drop}
use lib.Seq.{take_all}
use borrow.Author.Tests.{eqb-true, ne_eqb, leb-true}
use Rattle.base.specs.Choice.{pick}
use Rattle.base.specs.Check.{Check, ok}
use Rattle.base.specs.Lists.{each, gather}
use Rattle.base.specs.Walk.{Got}
use Rattle.base.proofs.ChoiceLaws.{both_hold}
use Rattle.base.proofs.ListLaws.{each_append, each_gather, each_each}
use Rattle.fields.specs.Bytes.{le}
use Rattle.fields.specs.Sizes.{size, sizes, in_range}
use Rattle.fields.specs.Table.{head_of, tuple_of}
use Rattle.fields.specs.Values.{Val, num, value, values, num_at, puts, put_all}
use Rattle.fields.specs.Valid.{Bytes}
use Rattle.fields.specs.Content.{Content, tuples, many, fill, content}
use Rattle.fields.specs.Places.{ending_at}
use Rattle.fields.specs.declared.Sub.{Sub}
use Rattle.fields.specs.declared.Sub.TheVariants.{B11, B12, B14, Among, Raw, Text, Fixed}
use Rattle.fields.specs.declared.Format.{Format}
use Rattle.fields.specs.declared.Format.TheVariants.{IridNew, PridNew, MridNew, FridNew, Foid, AttrNew, InasNew, Spas, SpasNew, C2it, C2il}
use Rattle.fields.proofs.ByteLaws.{le1, bytes_drop}
use Rattle.fields.proofs.SizeLaws.{num_some, sizes_cons}
use Rattle.fields.proofs.TupleLaws.{First, tuples_end, tuples_ind}
use Rattle.fields.proofs.FieldLaws.{filled, fill_list, list_fill, fill_head, head_length_lem, head_tuple}
use Rattle.fields.proofs.ValueLaws.{values_first, head_number}
use Rattle.fields.proofs.EncodeLaws.{puts_values, put_many}
use Rattle.fields.proofs.WiderLaws.{format_wider, spas}
use Rattle.sequence.proofs.Gather.{gather_append}
use Rattle.forest.specs.Forest.{Forest, Tup}
use Rattle.forest.specs.Rule.{tree_of}
use Rattle.forest.proofs.TreeLaws.{tree_sound}
use Rattle.rules.specs.Kind.{rcnm, coded}
use Rattle.rules.specs.Coordinates.{Coord, coord_of, coords_in}
use Rattle.rules.specs.Content.{ident_format, inas_format}
use Rattle.rules.specs.Trees.{tup_of, attr_tree, inas_tree}
use Rattle.rules.specs.Associations.{inas_key, spas_key}
use Rattle.rules.specs.Record.{ident_of, foid_of, standing, spatial_of, assoc_of}
use Rattle.rules.specs.Written.{nums, tup_vals, tree_bytes, assoc_field, field_as, coord_vals, spatial_vals}
use Rattle.rules.specs.Tags.{INAS}
use Rattle.rules.specs.declared.Kind.{Kind}
use Rattle.rules.specs.declared.Kind.TheVariants.{Info, Point, Multi, Feature}

-- ---- subfields that take one value alone

-- the value; for a subfield that takes one value alone, that value
pin : Sub → Val → Val
pin (B11 lo hi) v = pick (eqb lo hi) (num lo) v
pin (B12 lo hi) v = v
pin (B14 lo hi) v = v
pin (Among a b c d) v = v
pin (Raw n) v = v
pin Text v = v
pin (Fixed n) v = v

-- for each subfield
pinned : List Sub → List Val → List Val
pinned [] vs = []
pinned (d ∷ ds) [] = []
pinned (d ∷ ds) (v ∷ vs) = pin d v ∷ pinned ds vs

one_value : (lo hi : ℕ) (l : List ℕ) (m : ℕ) (u : Bool) → eqb lo hi ≡ u → size (B11 lo hi) l ≡ some m → pick u (num lo) (num (le 1 l)) ≡ num (le 1 l)
unfolding size
one_value lo hi l m true q e =
    let r = num_some 1 (in_range lo hi) l m e in
    let s = both_hold (leb lo (le 1 l)) (leb (le 1 l) hi) r.2 in
    let a = leb-true lo (le 1 l) s.0 in
    let b = leb-true (le 1 l) hi s.1 in
    let z : lo ≡ le 1 l = omega (arith, eqb-true lo hi q) in
    ap num z
one_value lo hi l m false q e = refl

pin_same : (d : Sub) (l : List ℕ) (m : ℕ) → size d l ≡ some m → pin d (value d l) ≡ value d l
unfolding pin value
pin_same (B11 lo hi) l m e = one_value lo hi l m (eqb lo hi) refl e
pin_same (B12 lo hi) l m e = refl
pin_same (B14 lo hi) l m e = refl
pin_same (Among a b c d) l m e = refl
pin_same (Raw n) l m e = refl
pin_same Text l m e = refl
pin_same (Fixed n) l m e = refl

-- the values of subfields that stand are these
pinned_same : (ds : List Sub) (l : List ℕ) (n : ℕ) → sizes ds l ≡ some n → pinned ds (values ds l) ≡ values ds l
unfolding pinned
pinned_same [] l n e = unfold values in refl
pinned_same (d ∷ ds) l n e =
    let r = sizes_cons d ds l n e in
    let f = values_first d ds l r.0 r.2 in
    ap (pinned (d ∷ ds)) f
    ∙ ap₂ (λ (v : Val) (vs : List Val). v ∷ vs) (pin_same d l r.0 r.2) (pinned_same ds (drop r.0 l) r.1 r.3)
    ∙ sym f

-- ---- heads

-- a field that is a head alone
head_again : (h : List Sub) (b : List ℕ) (vs : List Val) → Bytes b → fill h [] b ≡ true → vs ≡ pinned h (values h b) → puts h vs ≡ b
head_again h b vs g e q =
    let n = fill_head h b e in
    ap (puts h) (q ∙ pinned_same h b (length b) n) ∙ puts_values h b (length b) g n ∙ take_all (length b) b (omega arith)

-- the identifier of a record of kind k: RCNM, RCID, the code if there is one, RVER, 1
unfoldable pub ident_vals : Kind → List ℕ → List ℕ
ident_vals k b =
    let id = ident_of k b in
    let with_code : List ℕ = rcnm k ∷ id.rcid ∷ id.code ∷ id.rver ∷ 1 ∷ [] in
    let without : List ℕ = rcnm k ∷ id.rcid ∷ id.rver ∷ 1 ∷ [] in
    pick (coded k) with_code without

pub ident_again : (k : Kind) (b : List ℕ) → Bytes b → fill (head_of (ident_format true k)) [] b ≡ true
    → puts (head_of (ident_format true k)) (nums (ident_vals k b)) ≡ b
unfolding head_of ident_format ident_vals ident_of nums each rcnm coded pin pinned values value
ident_again Info b g e = head_again (head_of IridNew) b _ g e refl
ident_again Point b g e = head_again (head_of PridNew) b _ g e refl
ident_again Multi b g e = head_again (head_of MridNew) b _ g e refl
ident_again Feature b g e = head_again (head_of FridNew) b _ g e refl

pub foid_again : (b : List ℕ) → Bytes b → fill (head_of Foid) [] b ≡ true → puts (head_of Foid) (nums (foid_of b)) ≡ b
unfolding head_of foid_of nums each pin pinned values value
foid_again b g e = head_again (head_of Foid) b _ g e refl

-- ---- lists of tuples

-- what is made of each tuple's values is those values
many_again : (t : List Sub) (w : List Val → List Val) → ((l : List ℕ) (n : ℕ) → sizes t l ≡ some n → w (values t l) ≡ values t l)
    → (l : List ℕ) → (tuples t l).ending ≡ 0 → each w (many t l) ≡ many t l
unfolding many each
many_again t w same = tuples_ind t (λ l. each w (many t l) ≡ many t l) base turn
  where
    base : (l : List ℕ) → length l ≤ 0 → each w (many t l) ≡ many t l
    base l h = ap (λ (g : Got (List Val)). each w g.items) (tuples_end t l h) ∙ sym (ap (λ (g : Got (List Val)). g.items) (tuples_end t l h))

    turn : (l : List ℕ) → 0 < length l → (f : First t l) → each w (many t (drop f.bytes l)) ≡ many t (drop f.bytes l) → each w (many t l) ≡ many t l
    turn l h f ih =
        ap (λ (g : Got (List Val)). each w g.items) f.found
        ∙ ap₂ (λ (v : List Val) (vs : List (List Val)). v ∷ vs) (same l f.bytes f.taken) ih
        ∙ sym (ap (λ (g : Got (List Val)). g.items) f.found)

-- a tuple of ATTR or INAS
tup_again : (l : List ℕ) (n : ℕ) → sizes (tuple_of AttrNew) l ≡ some n → tup_vals (tup_of (values (tuple_of AttrNew) l)) ≡ values (tuple_of AttrNew) l
unfolding tuple_of tup_vals tup_of pin pinned values value
tup_again l n e = pinned_same (tuple_of AttrNew) l n e

-- the tuples of a tree that was read
tree_again : (l : List ℕ) (f : Forest) → Bytes l → (tuples (tuple_of AttrNew) l).ending ≡ 0 → tree_of (each tup_of (many (tuple_of AttrNew) l)) ≡ ok f
    → tree_bytes f ≡ l
unfolding tree_bytes
tree_again l f g z e =
    ap (λ (ts : List Tup). put_all (tuple_of AttrNew) (each tup_vals ts)) (tree_sound (each tup_of (many (tuple_of AttrNew) l)) f e).0
    ∙ ap (put_all (tuple_of AttrNew)) (each_each tup_vals tup_of (many (tuple_of AttrNew) l) ∙ many_again (tuple_of AttrNew) (λ v. tup_vals (tup_of v)) tup_again l z)
    ∙ put_many (tuple_of AttrNew) l z g

-- ---- fields

-- an ATTR: it is the tuples of its tree
pub attr_again : (b : List ℕ) (f : Forest) → Bytes b → fill (head_of AttrNew) (tuple_of AttrNew) b ≡ true → attr_tree b ≡ ok f → tree_bytes f ≡ b
unfolding head_of attr_tree ending_at
attr_again b f g e q = tree_again b f g (fill_list (tuple_of AttrNew) b e) q

-- an INAS that is inserted is no other
inas_new : (b : List ℕ) → fill (head_of InasNew) (tuple_of InasNew) b ≡ true → inas_format false b ≡ InasNew
unfolding inas_format head_of pin pinned values
inas_new b e =
    let r = filled (head_of InasNew) (tuple_of InasNew) b e in
    let n = head_number (head_of InasNew) (tuple_of InasNew) b e 4 9 1 refl refl in
    let p = pinned_same (head_of InasNew) b r.bytes r.taken in
    let one : get_or b 9 0 ≡ 1 = sym (le1 b 9 n.0) ∙ sym n.1 ∙ sym (ap (λ (vs : List Val). num_at vs 4) p) in
    rw (ne_eqb (get_or b 9 0) 2 (λ z. omega arith))

-- the values of the head of an INAS of this format, of which the instruction is insert
inas_vals : Format → List ℕ → List Val
inas_vals k b = let v = values (head_of k) b in nums ((num_at v 0 ∷ num_at v 1 ∷ num_at v 2 ∷ num_at v 3 ∷ []) ++ (1 ∷ []))

inas_head : (b : List ℕ) (n : ℕ) → inas_format false b ≡ InasNew → sizes (head_of InasNew) b ≡ some n → nums (inas_key b ++ (1 ∷ [])) ≡ values (head_of InasNew) b
unfolding inas_key inas_vals head_of nums each pin pinned values value
inas_head b n k e =
    let v = values (head_of InasNew) b in
    let insert : 1 ≡ num_at v 4 = ap (λ (vs : List Val). num_at vs 4) (pinned_same (head_of InasNew) b n e) in
    let same : inas_vals InasNew b ≡ values (head_of InasNew) b =
    ap (λ (x : ℕ). num (num_at v 0) ∷ num (num_at v 1) ∷ num (num_at v 2) ∷ num (num_at v 3) ∷ num x ∷ []) insert in
    ap (λ (x : Format). inas_vals x b) k ∙ same

inas_tree_lem : (b : List ℕ) (f : Forest) → inas_format false b ≡ InasNew → inas_tree b ≡ ok f
    → tree_of (each tup_of (content (head_of InasNew) (tuple_of InasNew) b).tuples) ≡ ok f
unfolding inas_tree
inas_tree_lem b f k q = sym (ap (λ (x : Format). tree_of (each tup_of (content (head_of x) (tuple_of x) b).tuples)) k) ∙ q

-- it is its head and the tuples of its tree
pub inas_again : (b : List ℕ) (f : Forest) → Bytes b → fill (head_of InasNew) (tuple_of InasNew) b ≡ true → inas_tree b ≡ ok f
    → assoc_field (assoc_of b) ≡ field_as INAS b
unfolding assoc_field assoc_of standing ending_at tuple_of
inas_again b f g e q =
    let k = inas_new b e in
    let r = filled (head_of InasNew) (tuple_of InasNew) b e in
    let t : tree_of (each tup_of (many (tuple_of AttrNew) (drop r.bytes b))) ≡ ok f =
    sym (ap (λ (vs : List (List Val)). tree_of (each tup_of vs)) r.found) ∙ inas_tree_lem b f k q in
    let head : puts (head_of InasNew) (nums (inas_key b ++ (1 ∷ []))) ≡ take r.bytes b =
    ap (puts (head_of InasNew)) (inas_head b r.bytes k r.taken) ∙ puts_values (head_of InasNew) b r.bytes g r.taken in
    let rest : tree_bytes (standing (inas_tree b)) ≡ drop r.bytes b =
    ap (λ (c : Check Forest). tree_bytes (standing c)) q ∙ tree_again (drop r.bytes b) f (bytes_drop b r.bytes g) r.rest t in
    ap (field_as INAS) (ap₂ (λ (x y : List ℕ). x ++ y) head rest ∙ take-append-drop r.bytes b)

-- ---- lists of several fields

-- the bodies of lists, each filled by its tuples
pub data Lists (t : List Sub) : List (List ℕ) → Type 0 where
  none : Lists t []
  one : {b : List ℕ} {bs : List (List ℕ)} → Bytes b → (tuples t b).ending ≡ 0 → Lists t bs → Lists t (b ∷ bs)

-- what is made of each tuple is its values: the lists one after the other are written as their bodies one after the other
pub lists_again : (t : List Sub) (w : List Val → List Val) → ((l : List ℕ) (n : ℕ) → sizes t l ≡ some n → w (values t l) ≡ values t l)
    → (bs : List (List ℕ)) → Lists t bs → put_all t (each w (gather (many t) bs)) ≡ gather (λ b. b) bs
unfolding gather each put_all
lists_again t w same [] none = refl
lists_again t w same (b ∷ bs) (one g z later) =
    ap (gather (puts t)) (each_append w (many t b) (gather (many t) bs))
    ∙ gather_append (puts t) (each w (many t b)) (each w (gather (many t) bs))
    ∙ ap₂ (λ (x y : List ℕ). x ++ y) (ap (put_all t) (many_again t w same b z) ∙ put_many t b z g) (lists_again t w same bs later)

-- coordinate tuples
coord_again : (l : List ℕ) (n : ℕ) → sizes (tuple_of C2il) l ≡ some n → coord_vals (coord_of (values (tuple_of C2il) l)) ≡ values (tuple_of C2il) l
unfolding tuple_of coord_vals coord_of values value
coord_again l n e = refl

pub coords_again : (bs : List (List ℕ)) → Lists (tuple_of C2il) bs → put_all (tuple_of C2il) (each coord_vals (gather coords_in bs)) ≡ gather (λ b. b) bs
unfolding coords_in
coords_again bs h =
    ap (λ (cs : List Coord). put_all (tuple_of C2il) (each coord_vals cs)) (sym (each_gather coord_of (many (tuple_of C2il)) bs))
    ∙ ap (put_all (tuple_of C2il)) (each_each coord_vals coord_of (gather (many (tuple_of C2il)) bs))
    ∙ lists_again (tuple_of C2il) (λ v. coord_vals (coord_of v)) coord_again bs h

-- a point's C2IT is a list of one tuple
pub point_list : (b : List ℕ) → Bytes b → fill (head_of C2it) (tuple_of C2it) b ≡ true → (0 < length b) × ((tuples (tuple_of C2il) b).ending ≡ 0)
unfolding head_of tuple_of
point_list b g e =
    let n : length b ≡ 8 = head_length_lem (head_of C2it) b refl e in
    let h : 0 < length b = omega arith in
    (h, ap (λ (x : Got (List Val)). x.ending) (head_tuple (head_of C2it) b h e))

-- tuples of SPAS
pub spatial_again : (l : List ℕ) (n : ℕ) → sizes (tuple_of SpasNew) l ≡ some n → spatial_vals (spatial_of (values (tuple_of SpasNew) l)) ≡ values (tuple_of SpasNew) l
unfolding tuple_of spatial_vals spatial_of spas_key nums each pin pinned values value
spatial_again l n e = pinned_same (tuple_of SpasNew) l n e

-- they are read alike where they may be deleted too
spatial_wide : (bs : List (List ℕ)) → Lists (tuple_of SpasNew) bs → gather (many (tuple_of Spas)) bs ≡ gather (many (tuple_of SpasNew)) bs
unfolding gather head_of content sizes ending_at
spatial_wide [] none = refl
spatial_wide (b ∷ bs) (one g z later) =
    let w = format_wider spas b (list_fill (tuple_of SpasNew) b z) in
    ap₂ (λ (x y : List (List Val)). x ++ y) (sym (ap (λ (c : Content). c.tuples) w.1)) (spatial_wide bs later)

pub spatials_again : (bs : List (List ℕ)) → Lists (tuple_of SpasNew) bs
    → put_all (tuple_of SpasNew) (each spatial_vals (each spatial_of (gather (many (tuple_of Spas)) bs))) ≡ gather (λ b. b) bs
spatials_again bs h =
    ap (λ (vs : List (List Val)). put_all (tuple_of SpasNew) (each spatial_vals (each spatial_of vs))) (spatial_wide bs h)
    ∙ ap (put_all (tuple_of SpasNew)) (each_each spatial_vals spatial_of (gather (many (tuple_of SpasNew)) bs))
    ∙ lists_again (tuple_of SpasNew) (λ v. spatial_vals (spatial_of v)) spatial_again bs h
