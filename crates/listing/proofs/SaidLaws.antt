-- What the fields of a record that has passed its numbers say is what the rules have of it. Assumes nothing.
use mathlib.Core.Path.{◌≡◌, refl, sym, ap, ◌∙◌}
use mathlib.Core.Bool.{Bool, true, false}
use mathlib.Core.List.{List, [], ◌∷◌, ◌++◌}
use Prim.Native.Nat.{ℕ, ◌+◌, ◌/◌}
use native.Mathlib.Nat.{zero-add}
use native.Mathlib.Omega.{arith}
use borrow.Author.Tests.{eqb-true}
use lib.Dec.{eqb}
use lib.ListN.{length, get_or, length-append}
use Rattle.base.specs.Choice.{pick, either}
use Rattle.base.specs.Check.{Check, ok, no, bind, in_field, pass, passed}
use Rattle.base.specs.Lists.{empty, each, gather}
use Rattle.base.specs.Walk.{steps, walk}
use Rattle.base.proofs.CheckLaws.{bind_inv, field_inv}
use Rattle.base.proofs.ChoiceLaws.{both_hold}
use Rattle.base.proofs.ListLaws.{each_length}
use Rattle.skeleton.specs.File.{Field}
use Rattle.fields.specs.Sizes.{sizes}
use Rattle.fields.specs.Table.{head_of, tuple_of}
use Rattle.fields.specs.Content.{tuple_step, tuples, many, fill, content}
use Rattle.fields.specs.declared.Format.TheVariants.{AttrNew}
use Rattle.fields.proofs.FieldLaws.{fill_count}
use Rattle.forest.specs.Forest.{Forest, Tup, size, tuples_of as tuples_of_tree}
use Rattle.forest.specs.Rule.{run_up_to, all_taken, tree_of}
use Rattle.forest.proofs.TuplesLaws.{tuples_length}
use Rattle.forest.proofs.TreeLaws.{tree_sound}
use Rattle.rules.specs.Tags.{ATTR, C2IT, C2IL}
use Rattle.rules.specs.ByTag.{with_tag, bodies, first_tag}
use Rattle.rules.specs.Kind.{kind_of, tag_of}
use Rattle.rules.specs.Grammar.{as_stored}
use Rattle.rules.specs.Content.{number5}
use Rattle.rules.specs.Coordinates.{coords_in, is_coordinates}
use Rattle.rules.specs.Trees.{tup_of, attr_tree, tree_stands, trees_stand, number6}
use Rattle.rules.specs.Record.{standing, parts_of, rec_of}
use Rattle.rules.specs.declared.Kind.{Kind}
use Rattle.rules.specs.declared.Kind.TheVariants.{Info, Point, Multi, Feature}
use Rattle.rules.specs.declared.Mode.TheVariants.{InDataset}
use Rattle.rules.proofs.KindLaws.{kind_of_tag}
use Rattle.rules.proofs.CoordinateLaws.{coords_length}
use Rattle.contents.specs.Fit.{fits, all_fit}
use Rattle.contents.proofs.FitLaws.{five_fit}
use Rattle.contents.proofs.TreeLaws.{tree_new_fits}
use Rattle.listing.specs.Said.{whole, entries_of, entries_in, tuples_of, tuples_in, kind_for, record_in}
use Rattle.listing.proofs.CountLaws.{entries_none}

-- ---- the kind

pub record_is : (fs : List Field) (k : Kind) → first_tag fs ≡ tag_of k → record_in fs ≡ rec_of k fs
unfolding record_in kind_for
record_is fs k e = ap (λ (t : ℕ). rec_of (kind_for (kind_of t)) fs) e ∙ ap (λ o. rec_of (kind_for o) fs) (kind_of_tag k)

-- ---- coordinate tuples

-- those of the fields with one tag
abbrev counted : ℕ → List Field → ℕ
counted t fs = length (gather coords_in (bodies t fs))

counted_more : (t : ℕ) (f : Field) (fs : List Field) → counted t (f ∷ fs) ≡ pick (eqb f.tag t) (length f.body / 8) 0 + counted t fs
unfolding bodies with_tag gather each
counted_more t f fs = go (eqb f.tag t)
  where
    go : (b : Bool) → length (gather coords_in (each (λ (g : Field). g.body) (pick b (f ∷ with_tag t fs) (with_tag t fs)))) ≡ pick b (length f.body / 8) 0 + length (gather coords_in (each (λ (g : Field). g.body) (with_tag t fs)))
    go true = length-append (coords_in f.body) _ ∙ ap (λ (n : ℕ). n + length (gather coords_in (each (λ (g : Field). g.body) (with_tag t fs)))) (coords_length f.body)
    go false = sym (zero-add _)

-- a field has one tag
one_tag : (t n : ℕ) → pick (eqb t C2IT) n 0 + pick (eqb t C2IL) n 0 ≡ pick (either (eqb t C2IT) (eqb t C2IL)) n 0
one_tag t n = go (eqb t C2IT) (eqb t C2IL) refl refl
  where
    go : (a b : Bool) → eqb t C2IT ≡ a → eqb t C2IL ≡ b → pick a n 0 + pick b n 0 ≡ pick (either a b) n 0
    go true true x y = absurd (let p = eqb-true t C2IT x in let q = eqb-true t C2IL y in omega arith)
    go true false x y = omega arith
    go false true x y = omega arith
    go false false x y = refl

both_counted : (fs : List Field) → counted C2IT fs + counted C2IL fs ≡ tuples_in fs
unfolding tuples_in tuples_of is_coordinates bodies with_tag gather each
both_counted [] = refl
both_counted (f ∷ fs) =
    let n = length f.body / 8 in
    omega (arith, counted_more C2IT f fs, counted_more C2IL f fs, one_tag f.tag (length f.body / 8), both_counted fs)

gather_parts : (a b : List (List ℕ)) → length (gather coords_in (a ++ b)) ≡ length (gather coords_in a) + length (gather coords_in b)
unfolding gather
gather_parts [] b = sym (zero-add _)
gather_parts (x ∷ a) b =
    omega (arith, length-append (coords_in x) (gather coords_in (a ++ b)), length-append (coords_in x) (gather coords_in a), gather_parts a b)

pub coordinates_said : (fs : List Field) → length (parts_of fs).coordinates ≡ tuples_in fs
unfolding parts_of
coordinates_said fs = gather_parts (bodies C2IT fs) (bodies C2IL fs) ∙ both_counted fs

-- ---- entries

-- a tree has as many entries as the field has tuples
attr_size : (b : List ℕ) (t : Forest) → fill (head_of AttrNew) (tuple_of AttrNew) b ≡ true → attr_tree b ≡ ok t → size (standing (attr_tree b)) ≡ entries_of b
unfolding attr_tree standing entries_of content head_of sizes
attr_size b t e x =
    let ts : List Tup = each tup_of (many (tuple_of AttrNew) b) in
    let s : tuples_of_tree t ≡ ts = (tree_sound ts t x).0 in
    let a : length (tuples_of_tree t) ≡ size t = tuples_length t in
    let l : length ts ≡ length (many (tuple_of AttrNew) b) = each_length tup_of (many (tuple_of AttrNew) b) in
    ap (λ c. size (standing c)) x ∙ sym a ∙ ap length s ∙ l ∙ sym (ap whole (fill_count (head_of AttrNew) (tuple_of AttrNew) b e))

none_size : size (standing (attr_tree [])) ≡ 0
unfolding attr_tree standing many tuples tuple_step walk steps empty tree_of run_up_to all_taken bind each size
none_size = refl

passed_tree : (c : Check Forest) (u : Unit {0}) → passed c ≡ ok u → (t : Forest) × (c ≡ ok t)
unfolding passed bind
passed_tree (ok t) u e = (t, refl)
passed_tree (no x) u e = absurd (let z : ◌≡◌ {A = ℕ} 0 1 = cc in omega arith)

attr_here : (f : Field) → eqb f.tag ATTR ≡ true → tree_stands true f ≡ ok tt → passed (attr_tree f.body) ≡ ok tt
unfolding tree_stands
attr_here f e t = rw e at t

-- the fields behind the identifier
entries_said : (i : ℕ) (fs : List Field) → all_fit true fs ≡ true → trees_stand true i fs ≡ pass → size (standing (attr_tree (get_or (bodies ATTR fs) 0 []))) ≡ entries_in fs
unfolding entries_in bodies with_tag each all_fit trees_stand
entries_said i [] a s = none_size ∙ sym entries_none
entries_said i (f ∷ fs) a s =
    let p = both_hold (fits true f) (all_fit true fs) a in
    let q = bind_inv (in_field i (tree_stands true f)) (λ _. trees_stand true (i + 1) fs) tt s in
    go (eqb f.tag ATTR) refl p.0 (field_inv i (tree_stands true f) q.0 q.1) (entries_said (i + 1) fs p.1 q.2)
  where
    go : (b : Bool) → eqb f.tag ATTR ≡ b → fits true f ≡ true → tree_stands true f ≡ ok tt
        → size (standing (attr_tree (get_or (each (λ (g : Field). g.body) (with_tag ATTR fs)) 0 []))) ≡ entries_of (get_or (each (λ (g : Field). g.body) (with_tag ATTR fs)) 0 [])
        → size (standing (attr_tree (get_or (each (λ (g : Field). g.body) (pick b (f ∷ with_tag ATTR fs) (with_tag ATTR fs))) 0 []))) ≡ entries_of (get_or (each (λ (g : Field). g.body) (pick b (f ∷ with_tag ATTR fs) (with_tag ATTR fs))) 0 [])
    go true e w t ih =
        let k = tree_new_fits true f.tag f.body w (eqb-true f.tag ATTR e) refl in
        let c : passed (attr_tree f.body) ≡ ok tt = attr_here f e t in
        let r = passed_tree (attr_tree f.body) tt c in
        attr_size f.body r.0 k r.1
    go false e w t ih = ih

-- no identifier is an ATTR
ident_other : (k : Kind) → eqb (tag_of k) ATTR ≡ false
unfolding tag_of
ident_other Info = refl
ident_other Point = refl
ident_other Multi = refl
ident_other Feature = refl

pub attributes_said : (k : Kind) (f : Field) (fs : List Field) → f.tag ≡ tag_of k → number5 InDataset k (f ∷ fs) ≡ pass → number6 InDataset k (f ∷ fs) ≡ pass
    → size (parts_of (f ∷ fs)).attributes ≡ entries_in (f ∷ fs)
unfolding parts_of entries_in number6 as_stored bodies with_tag each
attributes_said k f fs e five six =
    let other : eqb f.tag ATTR ≡ false = ap (λ (t : ℕ). eqb t ATTR) e ∙ ident_other k in
    rw other (entries_said 2 fs (five_fit InDataset k f fs tt five) six)
