-- The tree rule of ATTR and INAS fields that have passed number 5, over their bytes; and what one number says of it. Assumes nothing.
use mathlib.Core.Path.{◌≡◌, refl, sym, ap, ◌∙◌}
use mathlib.Core.List.{List, [], ◌∷◌}
use mathlib.Core.Bool.{Bool, true, false}
use Prim.Native.Nat.{ℕ, ◌-◌, ◌≤◌}
use native.Mathlib.Omega.{arith}
use lib.ListN.{length, get_or, take, drop, length-drop}
use lib.Seq.{take_all}
use lib.Dec.{leb, eqb}
use Rattle.base.specs.Choice.{pick}
use Rattle.base.specs.Lists.{each}
use Rattle.fields.specs.Table.{code, insert, head_of, tuple_of}
use Rattle.base.specs.Walk.{Got}
use Rattle.fields.specs.Values.{Val}
use Rattle.fields.specs.Content.{many, fill}
use Rattle.fields.specs.declared.Sub.{Sub}
use Rattle.fields.specs.Places.{ending_at}
use Rattle.fields.specs.declared.Format.TheVariants.{Attr, AttrNew, InasNew, InasGone}
use Rattle.fields.proofs.FieldLaws.{filled, fill_list, head_even, head_length_lem}
use Rattle.fields.proofs.TupleLaws.{tuples_end}
use Rattle.fields.proofs.ByteLaws.{le1}
use Rattle.fields.proofs.SizeLaws.{num_some, sizes_cons}
use Rattle.base.proofs.ChoiceLaws.{both_hold}
use Rattle.fields.specs.Bytes.{le}
use Rattle.fields.specs.Sizes.{in_range, size, sizes}
use borrow.Author.Tests.{leb-true}
use mathlib.Core.Option.{some}
use Rattle.fields.specs.declared.Sub.TheVariants.{B11, Raw}
use Rattle.forest.specs.Rule.{tree_of}
use Rattle.rules.specs.Content.{inas_format}
use Rattle.rules.specs.Trees.{tup_of, attr_tree, attr_acts, inas_tree}
use Rattle.tree.specs.Source.{run_at, remains}
use Rattle.tree.specs.Known.{Whole}
use Rattle.tree.specs.Verdict.{faulty_tuple}
use Rattle.tree.proofs.TupleShape.{shape, number_at, stands_whole}
use Rattle.tree.proofs.AttrRules.{tree_walk, acts_walk}

-- what the walk over all tuples of some bytes finds
abbrev pub Found : List ℕ → Bool → ℕ
Found b whole = remains (length b) (run_at b whole 0 0 1 false)

-- ---- ATTR

-- the tuples of a stored ATTR are whole
pub attr_whole : (b : List ℕ) → fill (head_of AttrNew) (tuple_of AttrNew) b ≡ true → Whole b 0
unfolding head_of tuple_of
attr_whole b e = stands_whole 1 1 b 0 (omega arith) (fill_list (shape 1 1) b e)

-- and the tree rule is what the walk finds
pub attr_tree_lem : (b : List ℕ) → fill (head_of AttrNew) (tuple_of AttrNew) b ≡ true → Found b true ≡ faulty_tuple (attr_tree b)
unfolding head_of tuple_of attr_tree
attr_tree_lem b e = sym (tree_walk 1 1 b (fill_list (shape 1 1) b e))

-- the tuples of a modify's ATTR are whole
pub acts_whole : (b : List ℕ) → fill (head_of Attr) (tuple_of Attr) b ≡ true → Whole b 0
unfolding head_of tuple_of
acts_whole b e = stands_whole 1 3 b 0 (omega arith) (fill_list (shape 1 3) b e)

-- and the test of its acts is what the walk finds
pub attr_acts_lem : (b : List ℕ) → fill (head_of Attr) (tuple_of Attr) b ≡ true → Found b false ≡ faulty_tuple (attr_acts b)
unfolding head_of tuple_of attr_acts
attr_acts_lem b e = sym (acts_walk 1 3 b (fill_list (shape 1 3) b e))

-- ---- INAS

-- behind the ten bytes of its head tuples stand, of which the field's tree is
record Behind (b : List ℕ) : Type 0 where
  long : 10 ≤ length b
  standing : ending_at (shape 1 1) (drop 10 b) 0 ≡ 0
  same : inas_tree b ≡ tree_of (each tup_of (many (shape 1 1) (drop 10 b)))

-- no bytes are no tuples, whatever their format
no_tuples : (t : List Sub) (l : List ℕ) → length l ≤ 0 → (ending_at t l 0 ≡ 0) × (many t l ≡ [])
unfolding ending_at many
no_tuples t l h =
    let e = tuples_end t l h in
    (ap (λ (g : Got (List Val)). g.ending) e, ap (λ (g : Got (List Val)). g.items) e)

-- of an INAS that is inserted as of one that is deleted, which has no tuple
inas_behind : (b : List ℕ) → fill (head_of (inas_format false b)) (tuple_of (inas_format false b)) b ≡ true → Behind b
unfolding inas_format head_of tuple_of inas_tree ending_at
inas_behind b e = go (eqb (get_or b 9 0) 2) refl e
  where
    go : (gone : Bool) → eqb (get_or b 9 0) 2 ≡ gone → fill (head_of (pick gone InasGone InasNew)) (tuple_of (pick gone InasGone InasNew)) b ≡ true → Behind b
    go true x f =
        let r = head_even (head_of InasGone) [] b refl f in
        let short : length (drop 10 b) ≤ 0 = omega (arith, head_length_lem (head_of InasGone) b refl f, length-drop 10 b) in
        record {
          long = r.0;
          standing = (no_tuples (shape 1 1) (drop 10 b) short).0;
          same = rw x (ap (λ (vs : List (List Val)). tree_of (each tup_of vs)) (r.2 ∙ (no_tuples [] (drop 10 b) short).1 ∙ sym (no_tuples (shape 1 1) (drop 10 b) short).1));
        }
    go false x f =
        let r = head_even (head_of InasNew) (shape 1 1) b refl f in
        record { long = r.0; standing = r.1; same = rw x (ap (λ (vs : List (List Val)). tree_of (each tup_of vs)) r.2) }

-- the bytes behind the head
abbrev pub behind_head : List ℕ → List ℕ
behind_head b = take (length b - 10) (drop 10 b)

-- are all that is left
behind_all : (b : List ℕ) → behind_head b ≡ drop 10 b
behind_all b = take_all (length b - 10) (drop 10 b) (omega (arith, length-drop 10 b))

-- and no more than the field
pub behind_short : (b : List ℕ) → length (behind_head b) ≤ length b
behind_short b = omega (arith, ap length (behind_all b), length-drop 10 b)

-- its head is there
pub inas_long : (b : List ℕ) → fill (head_of (inas_format false b)) (tuple_of (inas_format false b)) b ≡ true → 10 ≤ length b
inas_long b e = (inas_behind b e).long

-- the tuples behind it are whole
pub inas_whole : (b : List ℕ) → fill (head_of (inas_format false b)) (tuple_of (inas_format false b)) b ≡ true → Whole (behind_head b) 0
inas_whole b e = rw (behind_all b) (stands_whole 1 1 (drop 10 b) 0 (omega arith) (inas_behind b e).standing)

-- and the tree rule is what the walk over them finds
pub inas_tree_lem : (b : List ℕ) → fill (head_of (inas_format false b)) (tuple_of (inas_format false b)) b ≡ true → Found (behind_head b) true ≡ faulty_tuple (inas_tree b)
inas_tree_lem b e =
    let i = inas_behind b e in
    rw (behind_all b) (sym (tree_walk 1 1 (drop 10 b) i.standing) ∙ ap faulty_tuple (sym i.same))

-- the byte of an instruction that has to be insert
insert_byte : (b : List ℕ) (n : ℕ) → sizes (head_of InasNew) b ≡ some n → get_or b 9 0 ≡ 1
unfolding head_of size
insert_byte b n e =
    let rrnm = number_at (B11 150 150) (Raw 4 ∷ code ∷ code ∷ insert ∷ []) b 0 1 n refl refl e in
    let rrid = number_at (Raw 4) (code ∷ code ∷ insert ∷ []) b 1 5 rrnm.left refl refl rrnm.takes in
    let niac = number_at code (code ∷ insert ∷ []) b 5 7 rrid.left refl refl rrid.takes in
    let narc = number_at code (insert ∷ []) b 7 9 niac.left refl refl niac.takes in
    let (m, k, iuin, rest, all) = sizes_cons insert [] (drop 9 b) narc.left narc.takes in
    let (one, there, range) = num_some 1 (in_range 1 1) (drop 9 b) m iuin in
    let (low, high) = both_hold (leb 1 (le 1 (drop 9 b))) (leb (le 1 (drop 9 b)) 1) range in
    omega (arith, le1 b 9 (omega (arith, length-drop 9 b)), leb-true 1 (le 1 (drop 9 b)) low, leb-true (le 1 (drop 9 b)) 1 high)

-- an INAS that passed number 5 in a record of either sort meets what the code asks for
pub inas_asked : (new : Bool) (b : List ℕ) → fill (head_of (inas_format new b)) (tuple_of (inas_format new b)) b ≡ true
    → fill (head_of (inas_format false b)) (tuple_of (inas_format false b)) b ≡ true
unfolding inas_format
inas_asked false b e = e
inas_asked true b e = let byte = insert_byte b _ (filled (head_of InasNew) (tuple_of InasNew) b e).taken in rw (byte) e
