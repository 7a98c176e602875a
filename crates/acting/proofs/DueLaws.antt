-- What the fields of a modify have passed, by their tags. Assumes nothing.
use Prim.Native.Nat.{ℕ, ◌*◌, ◌%◌, ◌≤◌}
use mathlib.Core.Path.{◌≡◌, refl, sym, ap, ◌∙◌, subst}
use mathlib.Core.Bool.{Bool, true, false}
use mathlib.Core.Option.{some, none}
use mathlib.Core.List.{List, [], ◌∷◌}
use native.Mathlib.Omega.{arith}
use borrow.Author.Tests.{ne_eqb}
use lib.ListN.{length}
use Rattle.base.specs.Check.{ok, pass}
use Rattle.base.specs.Lists.{Each}
use Rattle.base.proofs.CheckLaws.{bind_inv, refused}
use Rattle.base.proofs.OptionLaws.{never}
use Rattle.base.proofs.EachLaws.{each_map}
use Rattle.skeleton.specs.File.{Field}
use Rattle.fields.specs.Table.{head_of, tuple_of}
use Rattle.fields.specs.Content.{many}
use Rattle.fields.specs.declared.Format.TheVariants.{C2il}
use Rattle.fields.specs.Valid.{Has}
use Rattle.fields.proofs.EvenLaws.{fill_even}
use Rattle.rules.specs.Tags.{ATTR, INAS, SPAS, COCC, C2IT, C2IL}
use Rattle.rules.specs.ByTag.{with_tag, has, front}
use Rattle.rules.specs.Kind.{kind_of, rows_of}
use Rattle.rules.specs.Grammar.{in_order, ruin_byte, coui_byte, as_stored, forbidden, fields_stand, number4}
use Rattle.rules.specs.Content.{ident_format, format_of, insert_only, stands, all_stand, number5}
use Rattle.rules.specs.Trees.{tree_stands, trees_stand, number6}
use Rattle.rules.specs.Record.{update_record}
use Rattle.rules.specs.Written.{field_as}
use Rattle.rules.specs.declared.Kind.{Kind}
use Rattle.rules.specs.declared.Kind.TheVariants.{Info, Point, Multi, Feature}
use Rattle.rules.specs.declared.Mode.TheVariants.{InUpdate}
use Rattle.sound.specs.Sound.{rowed}
use Rattle.sound.proofs.Order.{most, order_rowed, order_once}
use Rattle.sound.proofs.Stand.{Formed, all_formed, all_treed}
use Rattle.sound.proofs.Records.{four_inv}
use Rattle.sound.proofs.Changed.{tests}
use Rattle.coords.specs.Placing.{EvenLists}
use Rattle.version.proofs.RowLaws.{tree_row, place_row, point_row}
use Rattle.acting.specs.Ready.{Due}

-- ---- the kinds

-- COCC stands once
place_most : (k : Kind) → most COCC (rows_of k) ≡ true
unfolding most rowed rows_of
place_most Info = refl
place_most Point = refl
place_most Multi = refl
place_most Feature = refl

-- ---- one field

-- a C2IL is whole tuples
even_list : (b : List ℕ) → Has C2il b → length b % 8 ≡ 0
unfolding head_of tuple_of
even_list b e =
    let whole : length b ≡ 8 * length (many (tuple_of C2il) b) = fill_even (tuple_of C2il) refl b e in
    omega arith

-- a field behind the identifier
due_of : (k : Kind) (f : Field) → rowed f.tag (rows_of k) ≡ true → Formed false f → tree_stands false f ≡ pass → Due k f
unfolding format_of tree_stands
due_of k f row formed treed =
    let b = f.body in
    let rows : (t : ℕ) → f.tag ≡ t → rowed t (rows_of k) ≡ true = λ t e. subst (λ (z : ℕ). rowed z (rows_of k) ≡ true) e row in
    let form : (t : ℕ) → f.tag ≡ t → Has (format_of false t b) b = λ t e. subst (λ (z : ℕ). Has (format_of false z b) b) e formed in
    let tree : (t : ℕ) → f.tag ≡ t → tree_stands false (field_as t b) ≡ pass = λ t e. subst (λ (z : ℕ). tree_stands false (field_as z b) ≡ pass) e treed in
    record {
      attr = λ e. (form ATTR e, tree ATTR e, tree_row k (rows ATTR e));
      inas = λ e. (form INAS e, tree INAS e);
      cocc = λ e. (form COCC e, place_row k (rows COCC e));
      c2it = λ e. (form C2IT e, point_row k (rows C2IT e));
      spas = λ e. form SPAS e;
      even = λ e. even_list b (form C2IL e);
    }

-- the tag of an identifier is none of theirs
not_ident : {X : Type 0} (k : Kind) (s t : ℕ) → kind_of s ≡ some k → kind_of t ≡ none → s ≡ t → X
not_ident k s t q n e = never (sym q ∙ ap kind_of e ∙ n)

ident_due : (k : Kind) (f : Field) → kind_of f.tag ≡ some k → Due k f
unfolding kind_of
ident_due k f q =
    record {
      attr = λ e. not_ident k f.tag ATTR q refl e;
      inas = λ e. not_ident k f.tag INAS q refl e;
      cocc = λ e. not_ident k f.tag COCC q refl e;
      c2it = λ e. not_ident k f.tag C2IT q refl e;
      spas = λ e. not_ident k f.tag SPAS q refl e;
      even = λ e. not_ident k f.tag C2IL q refl e;
    }

-- ---- all of them

dues : (k : Kind) (fs : List Field) → Each (λ f. rowed f.tag (rows_of k) ≡ true) fs → Each (Formed false) fs → Each (λ f. tree_stands false f ≡ pass) fs → Each (Due k) fs
unfolding Each
dues k [] a b c = tt
dues k (f ∷ fs) a b c = (due_of k f a.0 b.0 c.0, dues k fs a.1 b.1 c.1)

pub evens : (k : Kind) (fs : List Field) → Each (Due k) fs → EvenLists fs
unfolding Each EvenLists
evens k [] a = tt
evens k (f ∷ fs) a = (a.0.even, evens k fs a.1)

-- a modify
pub modify_due : (k : Kind) (fs : List Field) → update_record fs ≡ ok k → ruin_byte k (front fs) ≡ 3 → Each (Due k) fs × (length (with_tag COCC fs) ≤ 1)
unfolding number4 number5 number6 fields_stand front Each with_tag kind_of
modify_due k [] e r = refused (tests [] k e).0
modify_due k (f ∷ fs) e r =
    let (four, five, six, seven) = tests (f ∷ fs) k e in
    let (kind, stand) = four_inv InUpdate 0 f fs k four in
    let shut = forbidden InUpdate (ruin_byte k f.body) (coui_byte fs) (has COCC fs) in
    let (t, order, whole) = bind_inv (in_order shut (rows_of k) 2 fs) _ tt stand in
    let (a, ident, more) = bind_inv (stands 1 (ident_format (insert_only InUpdate) k) f.body) _ tt five in
    let (b, all, counted) = bind_inv (all_stand (as_stored InUpdate (ruin_byte k f.body)) 2 fs) _ tt more in
    let old : as_stored InUpdate (ruin_byte k f.body) ≡ false = unfold as_stored in rw r refl in
    let formed = all_formed false 2 fs (subst (λ (z : Bool). all_stand z 2 fs ≡ pass) old all) in
    let treed = all_treed false 2 fs (subst (λ (z : Bool). trees_stand z 2 fs ≡ pass) old six) in
    let rows = each_map fs (λ f q. q.0) (order_rowed shut (rows_of k) 2 fs order) in
    let skip = ne_eqb f.tag COCC (λ z. not_ident k f.tag COCC kind refl z) in
    ((ident_due k f kind, dues k fs rows formed treed), rw skip (order_once shut COCC (rows_of k) 2 fs (place_most k) order))
