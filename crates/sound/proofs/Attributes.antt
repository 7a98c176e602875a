-- The attributes of fields that are made of bytes: a tree that is read, and the tree that the acts of a modify leave. Assumes nothing.
use Prim.Native.Nat.{ℕ}
use mathlib.Core.Path.{◌≡◌, refl, sym, ap, ◌∙◌}
use mathlib.Core.Bool.{true}
use mathlib.Core.List.{List, [], ◌∷◌}
use native.Mathlib.Omega.{arith}
use Rattle.base.specs.Check.{ok}
use Rattle.base.specs.Lists.{each, Each}
use Rattle.base.proofs.ChoiceLaws.{both_hold}
use Rattle.base.proofs.CheckLaws.{bind_inv}
use Rattle.base.proofs.EachLaws.{each_zip}
use Rattle.fields.specs.Table.{code, count, insert, change, head_of, tuple_of}
use Rattle.fields.specs.Values.{Val, num_at, text_at}
use Rattle.fields.specs.Content.{many}
use Rattle.fields.specs.Valid.{Bytes, passes, pass_all, Has}
use Rattle.fields.specs.Places.{ending_at}
use Rattle.fields.specs.declared.Format.TheVariants.{Attr, AttrNew}
use Rattle.fields.specs.declared.Sub.{Sub}
use Rattle.fields.specs.declared.Sub.TheVariants.{Raw, Text}
use Rattle.fields.proofs.FieldLaws.{fill_list}
use Rattle.fields.proofs.EncodeLaws.{pass_many}
use Rattle.forest.specs.Forest.{Forest, tuples_of}
use Rattle.forest.specs.Rule.{tree_of}
use Rattle.forest.proofs.TreeLaws.{tree_sound}
use Rattle.forest.proofs.EditLaws.{edit_plain}
use Rattle.rules.specs.Trees.{tup_of, utup_of, attr_tree, attr_acts}
use Rattle.rules.specs.Modify.{act_attr}
use Rattle.updates.proofs.Kept.{of_each}
use Rattle.sound.specs.Sound.{Attributes}
use Rattle.sound.proofs.Values.{is_num_lem, is_text_lem, all_length, each_pass}
use Rattle.sound.proofs.Trees.{Good, GoodTuple, GoodAct, acts_ranged, edit_ranged, tuples_ranged}
use Rattle.sound.proofs.Texts.{TextBytes, many_bytes}

-- the subfields of a tuple, by that of its instruction
abbrev rows : Sub → List Sub
rows d = code ∷ count ∷ Raw 2 ∷ d ∷ Text ∷ []

-- the code and the value of a tuple that passes can be written
good_values : (d : Sub) (vs : List Val) → pass_all (rows d) vs ≡ true → Each TextBytes vs → Good (num_at vs 0) (text_at vs 4)
unfolding pass_all Each
good_values d [] p t = absurd (omega (arith, all_length (rows d) [] p))
good_values d (a ∷ []) p t = absurd (omega (arith, all_length (rows d) (a ∷ []) p))
good_values d (a ∷ b ∷ []) p t = absurd (omega (arith, all_length (rows d) (a ∷ b ∷ []) p))
good_values d (a ∷ b ∷ c ∷ []) p t = absurd (omega (arith, all_length (rows d) (a ∷ b ∷ c ∷ []) p))
good_values d (a ∷ b ∷ c ∷ x ∷ []) p t = absurd (omega (arith, all_length (rows d) (a ∷ b ∷ c ∷ x ∷ []) p))
good_values d (a ∷ b ∷ c ∷ x ∷ e ∷ y ∷ vs) p t = absurd (omega (arith, all_length (rows d) (a ∷ b ∷ c ∷ x ∷ e ∷ y ∷ vs) p))
good_values d (a ∷ b ∷ c ∷ x ∷ e ∷ []) p w =
    let q = both_hold (passes code a) _ p in
    let r = both_hold (passes count b) _ q.1 in
    let s = both_hold (passes (Raw 2) c) _ r.1 in
    let t = both_hold (passes d x) _ s.1 in
    let u = both_hold (passes Text e) true t.1 in
    (ap (passes code) (sym (is_num_lem code a refl q.0)) ∙ q.0, record { taken = ap (passes Text) (sym (is_text_lem e u.0)) ∙ u.0; bytes = w.1.1.1.1.0 })

-- the tree of tuples that pass
pub tree_attributes : (vss : List (List Val)) (f : Forest) → Each (λ vs. pass_all (tuple_of AttrNew) vs ≡ true) vss → Each (Each TextBytes) vss → tree_of (each tup_of vss) ≡ ok f → Attributes f
unfolding tuple_of tup_of tuples_of
tree_attributes vss f e w h =
    let (a, b) = tree_sound (each tup_of vss) f h in
    record { plain = b; ranged = tuples_ranged [] 0 1 f (rw (a) (of_each GoodTuple tup_of vss (each_zip vss (λ vs p q. good_values insert vs p q) e w))) }

-- the tree of an ATTR that is read
pub attributes_read : (b : List ℕ) (f : Forest) → Bytes b → Has AttrNew b → attr_tree b ≡ ok f → Attributes f
unfolding attr_tree head_of ending_at
attributes_read b f g e h =
    tree_attributes (many (tuple_of AttrNew) b) f (each_pass (tuple_of AttrNew) _ (pass_many (tuple_of AttrNew) b (fill_list (tuple_of AttrNew) b e) g)) (many_bytes (tuple_of AttrNew) b (fill_list (tuple_of AttrNew) b e) g) h

-- the tree that a modify's ATTR leaves
pub attributes_edited : (b : List ℕ) (f h : Forest) → Bytes b → Has Attr b → Attributes f → act_attr b f ≡ ok h → Attributes h
unfolding act_attr attr_acts head_of tuple_of ending_at utup_of
attributes_edited b f h g e a x =
    let (us, y, z) = bind_inv (attr_acts b) _ h x in
    let p = each_pass (tuple_of Attr) (many (tuple_of Attr) b) (pass_many (tuple_of Attr) b (fill_list (tuple_of Attr) b e) g) in
    let r = acts_ranged (each utup_of (many (tuple_of Attr) b)) us (of_each GoodAct utup_of (many (tuple_of Attr) b) (each_zip (many (tuple_of Attr) b) (λ vs q t. good_values change vs q t) p (many_bytes (tuple_of Attr) b (fill_list (tuple_of Attr) b e) g))) y in
    record { plain = edit_plain f us h a.plain z; ranged = edit_ranged f us h r a.ranged z }
