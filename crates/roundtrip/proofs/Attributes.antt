-- The attributes of a sound record are read again from their written tuples. Assumes nothing.
use Prim.Native.Nat.{◌+◌, ◌*◌, ◌≤◌}
use mathlib.Core.Path.{◌≡◌, refl, ap, ◌∙◌}
use mathlib.Core.Bool.{true}
use mathlib.Core.List.{List, [], ◌∷◌}
use native.Mathlib.Omega.{arith}
use borrow.Author.Tests.{lt-ltb, le-leb}
use lib.ListN.{length, length-append}
use Rattle.base.specs.Check.{ok}
use Rattle.base.specs.Lists.{each, gather}
use Rattle.base.specs.Walk.{Got}
use Rattle.base.proofs.ChoiceLaws.{both_too}
use Rattle.base.proofs.EachLaws.{each_map}
use Rattle.fields.specs.Table.{code, count, insert, head_of, tuple_of}
use Rattle.fields.specs.Values.{Val, num, txt, mark, puts, put_all}
use Rattle.fields.specs.Content.{tuples, many}
use Rattle.fields.specs.Valid.{allows, passes, pass_all, pass_each, Has}
use Rattle.fields.specs.Places.{ending_at}
use Rattle.fields.specs.declared.Format.TheVariants.{AttrNew}
use Rattle.fields.specs.declared.Sub.TheVariants.{Raw, Text}
use Rattle.fields.proofs.FieldLaws.{list_fill}
use Rattle.fields.proofs.DecodeLaws.{all_back, length_num, length_text, length_puts}
use Rattle.forest.specs.Forest.{Forest, Tup, tuples_of, size}
use Rattle.forest.specs.Rule.{tree_of}
use Rattle.forest.proofs.TreeLaws.{tree_complete}
use Rattle.forest.proofs.TuplesLaws.{tuples_length}
use Rattle.rules.specs.Trees.{tup_of, attr_tree}
use Rattle.rules.specs.Written.{tup_vals, tree_bytes}
use Rattle.sound.specs.Sound.{Attributes}
use Rattle.sound.proofs.Values.{pass_each_lem}
use Rattle.sound.proofs.Trees.{Small, tuples_small}

-- ---- one tuple

-- its bytes: four numbers, and a text
tuple_length : (t : Tup) → length (puts (tuple_of AttrNew) (tup_vals t)) ≡ 8 + length t.atvl
unfolding tuple_of tup_vals mark puts
tuple_length t =
    omega (
      arith,
      length_puts code (count ∷ Raw 2 ∷ insert ∷ Text ∷ []) (num t.natc) (num t.atix ∷ num t.paix ∷ num 1 ∷ txt t.atvl ∷ []),
      length_puts count (Raw 2 ∷ insert ∷ Text ∷ []) (num t.atix) (num t.paix ∷ num 1 ∷ txt t.atvl ∷ []),
      length_puts (Raw 2) (insert ∷ Text ∷ []) (num t.paix) (num 1 ∷ txt t.atvl ∷ []),
      length_puts insert (Text ∷ []) (num 1) (txt t.atvl ∷ []),
      length_puts Text [] (txt t.atvl) [],
      length_num code t.natc,
      length_num count t.atix,
      length_num (Raw 2) t.paix,
      length_num insert 1,
      length_text Text t.atvl,
    )

-- it passes
tuple_pass : (t : Tup) → Small t → pass_all (tuple_of AttrNew) (tup_vals t) ≡ true
unfolding tuple_of tup_vals pass_all passes allows
tuple_pass t s =
    let l : t.atix ≤ 65534 = s.index in
    both_too s.good.0
    (both_too (both_too (lt-ltb t.atix 65536 (omega arith)) (both_too (le-leb 1 t.atix s.some) (le-leb t.atix 65534 l)))
    (both_too (both_too (lt-ltb t.paix 65536 s.parent) refl)
    (both_too refl (both_too s.good.1.taken refl))))

-- ---- a tree

-- each tuple is eight bytes or more
tuples_bytes_lem : (ts : List Tup) → 8 * length ts ≤ length (put_all (tuple_of AttrNew) (each tup_vals ts))
unfolding put_all gather each
tuples_bytes_lem [] = omega arith
tuples_bytes_lem (t ∷ ts) =
    let h = tuples_bytes_lem ts in
    omega (arith, length-append (puts (tuple_of AttrNew) (tup_vals t)) (put_all (tuple_of AttrNew) (each tup_vals ts)), tuple_length t)

-- the tuples of a tree that fits a record pass
pub tree_pass : (f : Forest) → Attributes f → length (tree_bytes f) ≤ 99999 → pass_each (tuple_of AttrNew) (each tup_vals (tuples_of f)) ≡ true
unfolding tree_bytes tuples_of
tree_pass f a l =
    let n : 8 * length (tuples_of f) ≤ length (tree_bytes f) = tuples_bytes_lem (tuples_of f) in
    let m : length (tuples_of f) ≡ size f = tuples_length f in
    pass_each_lem (tuple_of AttrNew) tup_vals (tuples_of f) (λ t _. omega (arith, tuple_length t))
    (each_map (tuples_of f) tuple_pass (tuples_small [] 0 1 f a.ranged (omega arith) (omega arith) (omega arith)))

-- the values of a tuple are those of the tuple
values_back : (ts : List Tup) → each tup_of (each tup_vals ts) ≡ ts
unfolding each tup_of tup_vals
values_back [] = refl
values_back (t ∷ ts) = ap (λ (l : List Tup). t ∷ l) (values_back ts)

-- its tuples are read again
pub tree_tuples : (f : Forest) → Attributes f → length (tree_bytes f) ≤ 99999 → tuples (tuple_of AttrNew) (tree_bytes f) ≡ record { items = each tup_vals (tuples_of f); ending = 0 }
unfolding tree_bytes
tree_tuples f a l = all_back (tuple_of AttrNew) (each tup_vals (tuples_of f)) (tree_pass f a l)

-- the tree of its tuples' values
pub tree_again : (f : Forest) → Attributes f → tree_of (each tup_of (each tup_vals (tuples_of f))) ≡ ok f
tree_again f a = ap tree_of (values_back (tuples_of f)) ∙ tree_complete f a.plain

-- an ATTR has its format
pub attr_has : (f : Forest) → Attributes f → length (tree_bytes f) ≤ 99999 → Has AttrNew (tree_bytes f)
unfolding head_of ending_at
attr_has f a l = list_fill (tuple_of AttrNew) (tree_bytes f) (ap (λ (g : Got (List Val)). g.ending) (tree_tuples f a l))

-- and its tree
pub attr_tree_lem : (f : Forest) → Attributes f → length (tree_bytes f) ≤ 99999 → attr_tree (tree_bytes f) ≡ ok f
unfolding attr_tree many
attr_tree_lem f a l = ap (λ (g : Got (List Val)). tree_of (each tup_of g.items)) (tree_tuples f a l) ∙ tree_again f a
