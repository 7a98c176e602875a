-- The parts of a record of a dataset that has passed 5 and 6: what is written of each is what was read. Assumes nothing.
use Prim.Native.Nat.{ℕ, ◌+◌, ◌≤◌, ◌<◌}
use mathlib.Core.Path.{◌≡◌, refl, sym, ap, ap₂, ◌∙◌, subst}
use mathlib.Core.Bool.{true}
use mathlib.Core.List.{List, [], ◌∷◌, append-nil}
use native.Mathlib.Omega.{arith}
use lib.ListN.{length, get_or}
use Rattle.base.specs.Check.{Check, bind, in_field, pass}
use Rattle.base.specs.Lists.{each, gather, empty, Each}
use Rattle.base.specs.Walk.{walk, steps}
use Rattle.base.proofs.CheckLaws.{bind_inv, passed_inv, field_inv}
use Rattle.skeleton.specs.File.{Field}
use Rattle.fields.specs.Table.{head_of, tuple_of}
use Rattle.fields.specs.Values.{puts, put_all}
use Rattle.fields.specs.Valid.{Bytes}
use Rattle.fields.specs.Content.{tuples, tuple_step, many, fill}
use Rattle.fields.specs.Places.{ending_at}
use Rattle.fields.specs.declared.Format.TheVariants.{Foid, SpasNew, C2il}
use Rattle.fields.proofs.FieldLaws.{fill_list, head_length_lem}
use Rattle.forest.specs.Forest.{Forest, tuples_of, tuples_from}
use Rattle.forest.specs.Rule.{tree_of, run_up_to, all_taken}
use Rattle.rules.specs.Tags.{FOID, ATTR, INAS, SPAS, C2IT, C2IL}
use Rattle.rules.specs.ByTag.{body_of}
use Rattle.rules.specs.Content.{format_of, inas_format, stands, all_stand}
use Rattle.rules.specs.Trees.{attr_tree, inas_tree, tree_stands, trees_stand}
use Rattle.rules.specs.Record.{foid_of, standing, assoc_of}
use Rattle.rules.specs.Written.{field_as, list_field, nums, tree_bytes, assoc_field}
use Rattle.rules.proofs.FilledLaws.{stands_fill}
use Rattle.writing.proofs.OrderedLaws.{Tagged, BodiesBytes}
use Rattle.writing.proofs.SameBytesLaws.{foid_again, attr_again, inas_again, Lists, none, one, point_list}

-- ---- fields that have passed 5 and 6

-- a field of a dataset with tag t and body b that has its format and whose tree stands
pub record RightAt (t : ℕ) (b : List ℕ) : Type 0 where
  pub bytes : Bytes b
  pub filled : fill (head_of (format_of true t b)) (tuple_of (format_of true t b)) b ≡ true
  pub tree : tree_stands true (field_as t b) ≡ pass

abbrev pub Right : Field → Type 0
Right f = RightAt f.tag f.body

-- all fields after the identifier
pub all_right : (i j : ℕ) (fs : List Field) → BodiesBytes fs → all_stand true i fs ≡ pass → trees_stand true j fs ≡ pass → Each Right fs
unfolding all_stand trees_stand Each
all_right i j [] g e t = tt
all_right i j (f ∷ fs) g e t =
    let a = bind_inv (stands i (format_of true f.tag f.body) f.body) _ tt e in
    let b = bind_inv (in_field j (tree_stands true f)) _ tt t in (
      record { bytes = g.0; filled = stands_fill i (format_of true f.tag f.body) f.body a.0 a.1; tree = field_inv j (tree_stands true f) tt b.1 },
      all_right (i + 1) (j + 1) fs g.1 a.2 b.2,
    )

-- ---- by tag

right_tag : (t : ℕ) (f : Field) → f.tag ≡ t → Right f → RightAt t f.body
right_tag t f e r = subst (λ (u : ℕ). RightAt u f.body) e r

field_tag : (t : ℕ) (f : Field) → f.tag ≡ t → field_as t f.body ≡ f
field_tag t f e = ap (λ (u : ℕ). field_as u f.body) (sym e)

-- a list that has bytes is a field
pub list_some : (t : ℕ) (b : List ℕ) → 0 < length b → list_field t b ≡ field_as t b ∷ []
unfolding list_field
list_some t [] h = absurd (omega arith)
list_some t (x ∷ b) h = refl

-- FOID: at most one
pub foid_part_lem : (xs : List Field) → Tagged FOID xs → Each Right xs → length xs ≤ 1 → list_field FOID (puts (head_of Foid) (nums (gather foid_of (each body_of xs)))) ≡ xs
unfolding gather each nums puts head_of list_field format_of tuple_of Each
foid_part_lem [] t r h = refl
foid_part_lem (f ∷ []) t r h =
    let a = right_tag FOID f t.0 r.0 in
    let n : length f.body ≡ 8 = head_length_lem (head_of Foid) f.body refl a.filled in
    ap (λ (ns : List ℕ). list_field FOID (puts (head_of Foid) (nums ns))) (append-nil (foid_of f.body))
    ∙ ap (list_field FOID) (foid_again f.body a.bytes a.filled)
    ∙ list_some FOID f.body (omega arith)
    ∙ ap (λ (g : Field). g ∷ []) (field_tag FOID f t.0)
foid_part_lem (f ∷ g ∷ xs) t r h = absurd (omega arith)

attr_right : (b : List ℕ) → RightAt ATTR b → tree_bytes (standing (attr_tree b)) ≡ b
unfolding format_of tree_stands standing
attr_right b r =
    let t = passed_inv (attr_tree b) r.tree in
    ap (λ (c : Check Forest). tree_bytes (standing c)) t.1 ∙ attr_again b t.0 r.bytes r.filled t.1

pub attr_part_lem : (xs : List Field) → Tagged ATTR xs → Each Right xs → length xs ≤ 1
    → tree_bytes (standing (attr_tree (get_or (each body_of xs) 0 []))) ≡ gather body_of xs
unfolding gather each attr_tree standing tree_bytes many tuples walk steps tuple_step empty tree_of run_up_to all_taken bind tuples_of tuples_from put_all tuple_of Each
attr_part_lem [] t r h = refl
attr_part_lem (f ∷ []) t r h = attr_right f.body (right_tag ATTR f t.0 r.0) ∙ sym (append-nil f.body)
attr_part_lem (f ∷ g ∷ xs) t r h = absurd (omega arith)

-- INAS: each
inas_right : (b : List ℕ) → RightAt INAS b → assoc_field (assoc_of b) ≡ field_as INAS b
unfolding format_of inas_format tree_stands
inas_right b r = let t = passed_inv (inas_tree b) r.tree in inas_again b t.0 r.bytes r.filled t.1

pub inas_part_lem : (xs : List Field) → Tagged INAS xs → Each Right xs → each assoc_field (each assoc_of (each body_of xs)) ≡ xs
unfolding each Each
inas_part_lem [] t r = refl
inas_part_lem (f ∷ xs) t r =
    ap₂ (λ (g : Field) (gs : List Field). g ∷ gs) (inas_right f.body (right_tag INAS f t.0 r.0) ∙ field_tag INAS f t.0) (inas_part_lem xs t.1 r.1)

-- C2IL: the bodies are lists
pub coord_lists : (xs : List Field) → Tagged C2IL xs → Each Right xs → Lists (tuple_of C2il) (each body_of xs)
unfolding each format_of head_of ending_at Each
coord_lists [] t r = none
coord_lists (f ∷ xs) t r =
    let a = right_tag C2IL f t.0 r.0 in one a.bytes (fill_list (tuple_of C2il) f.body a.filled) (coord_lists xs t.1 r.1)

-- C2IT: they are lists of one tuple
pub point_lists : (xs : List Field) → Tagged C2IT xs → Each Right xs → Lists (tuple_of C2il) (each body_of xs)
unfolding each format_of Each
point_lists [] t r = none
point_lists (f ∷ xs) t r =
    let a = right_tag C2IT f t.0 r.0 in one a.bytes (point_list f.body a.bytes a.filled).1 (point_lists xs t.1 r.1)

-- at most one of them, which has bytes
pub point_part : (xs : List Field) → Tagged C2IT xs → Each Right xs → length xs ≤ 1 → xs ≡ list_field C2IT (gather body_of xs)
unfolding gather list_field format_of Each
point_part [] t r h = refl
point_part (f ∷ []) t r h =
    let a = right_tag C2IT f t.0 r.0 in
    ap (λ (g : Field). g ∷ []) (sym (field_tag C2IT f t.0))
    ∙ sym (list_some C2IT f.body (point_list f.body a.bytes a.filled).0)
    ∙ ap (list_field C2IT) (sym (append-nil f.body))
point_part (f ∷ g ∷ xs) t r h = absurd (omega arith)

-- SPAS: the bodies are lists
pub spatial_lists : (xs : List Field) → Tagged SPAS xs → Each Right xs → Lists (tuple_of SpasNew) (each body_of xs)
unfolding each format_of head_of ending_at Each
spatial_lists [] t r = none
spatial_lists (f ∷ xs) t r =
    let a = right_tag SPAS f t.0 r.0 in one a.bytes (fill_list (tuple_of SpasNew) f.body a.filled) (spatial_lists xs t.1 r.1)
