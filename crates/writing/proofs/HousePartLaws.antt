-- The house form of a record's fields part by part. Assumes nothing.
use Prim.Native.Nat.{ℕ, ◌≤◌}
use mathlib.Core.Path.{◌≡◌, refl, sym, ap, ap₂, ◌∙◌}
use mathlib.Core.Bool.{true, false}
use mathlib.Core.List.{List, [], ◌∷◌, ◌++◌, append-nil}
use borrow.Author.Tests.{eq-eqb}
use lib.Dec.{eqb}
use lib.ListN.{length}
use Rattle.base.specs.Lists.{gather, Each}
use Rattle.skeleton.specs.File.{Field}
use Rattle.rules.specs.Tags.{ATTR, SPAS, C2IT, C2IL}
use Rattle.rules.specs.ByTag.{body_of}
use Rattle.rules.specs.Written.{field_as, list_field, coord_tag}
use Rattle.rules.specs.declared.Kind.{Kind}
use Rattle.rules.specs.declared.Kind.TheVariants.{Info, Point, Multi, Feature}
use Rattle.writing.specs.House.{is_list, list_before, in_house_form}
use Rattle.writing.proofs.HouseLaws.{house_plain, house_list}
use Rattle.writing.proofs.OrderedLaws.{Tagged}
use Rattle.writing.proofs.RecordPartLaws.{Right, point_part}

-- fields of a tag that is no list's
pub house_plains : (t : ℕ) (xs ys : List Field) → is_list true t ≡ false → Tagged t xs → in_house_form true (xs ++ ys) ≡ xs ++ in_house_form true ys
unfolding Each
house_plains t [] ys l h = refl
house_plains t (f ∷ xs) ys l h =
    house_plain true f (xs ++ ys) (ap (is_list true) h.0 ∙ l) ∙ ap (λ (gs : List Field). f ∷ gs) (house_plains t xs ys l h.1)

-- the first of them, if there is one, has another tag
abbrev pub Apart : ℕ → List Field → Type 0
Apart t [] = Unit {0}
Apart t (g ∷ gs) = eqb t g.tag ≡ false

-- a list before a list of the same tag, and others
list_joins : (t : ℕ) (b c : List ℕ) (gs : List Field) → Apart t gs → list_before t b (list_field t c ++ gs) ≡ list_field t (b ++ c) ++ gs
unfolding list_before list_field
list_joins t [] c gs a = refl
list_joins t (x ∷ b) (y ∷ c) gs a = rw (eq-eqb t t refl)
list_joins t (x ∷ b) [] [] a = ap (λ (l : List ℕ). field_as t (x ∷ l) ∷ []) (sym (append-nil b))
list_joins t (x ∷ b) [] (g ∷ gs) a = rw a (ap (λ (l : List ℕ). field_as t (x ∷ l) ∷ g ∷ gs) (sym (append-nil b)))

-- lists of one tag are one, and where they are empty none
pub house_lists : (t : ℕ) (xs ys : List Field) → is_list true t ≡ true → Tagged t xs → Apart t (in_house_form true ys)
    → in_house_form true (xs ++ ys) ≡ list_field t (gather body_of xs) ++ in_house_form true ys
unfolding gather Each
house_lists t [] ys l h a = unfold list_field in refl
house_lists t (f ∷ xs) ys l h a =
    house_list true f (xs ++ ys) (ap (is_list true) h.0 ∙ l)
    ∙ ap₂ (λ (u : ℕ) (gs : List Field). list_before u f.body gs) h.0 (house_lists t xs ys l h.1 a)
    ∙ list_joins t f.body (gather body_of xs) (in_house_form true ys) a

pub apart_tagged : (t u : ℕ) (xs ys : List Field) → eqb t u ≡ false → Tagged u xs → Apart t ys → Apart t (xs ++ ys)
unfolding Each
apart_tagged t u [] ys n h a = a
apart_tagged t u (f ∷ xs) ys n h a = ap (eqb t) h.0 ∙ n

pub apart_list : (t u : ℕ) (b : List ℕ) (ys : List Field) → eqb t u ≡ false → Apart t ys → Apart t (list_field u b ++ ys)
unfolding list_field
apart_list t u [] ys n a = a
apart_list t u (x ∷ b) ys n a = n

pub apart_alone : (t u : ℕ) (b : List ℕ) → eqb t u ≡ false → Apart t (list_field u b)
unfolding list_field
apart_alone t u [] n = tt
apart_alone t u (x ∷ b) n = n

house_spas : (xs : List Field) → Tagged SPAS xs → in_house_form true xs ≡ list_field SPAS (gather body_of xs)
unfolding is_list in_house_form
house_spas xs h = ap (in_house_form true) (sym (append-nil xs)) ∙ house_lists SPAS xs [] refl h tt ∙ append-nil (list_field SPAS (gather body_of xs))

-- a list of coordinates, and what follows it
house_c2il : (xs ys : List Field) → Tagged C2IL xs → Tagged SPAS ys
    → in_house_form true (xs ++ ys) ≡ list_field C2IL (gather body_of xs) ++ list_field SPAS (gather body_of ys)
unfolding is_list
house_c2il xs ys h t =
    let a : Apart C2IL (in_house_form true ys) = rw (house_spas ys t) (apart_alone C2IL SPAS (gather body_of ys) refl) in
    house_lists C2IL xs ys refl h a ∙ ap (λ (gs : List Field). list_field C2IL (gather body_of xs) ++ gs) (house_spas ys t)

pub house_coords : (k : Kind) (xs ys : List Field) → Tagged (coord_tag k) xs → Tagged SPAS ys → Each Right xs → (k ≡ Point → length xs ≤ 1)
    → in_house_form true (xs ++ ys) ≡ list_field (coord_tag k) (gather body_of xs) ++ list_field SPAS (gather body_of ys)
unfolding coord_tag is_list
house_coords Info xs ys h t r o = house_c2il xs ys h t
house_coords Point xs ys h t r o =
    house_plains C2IT xs ys refl h ∙ ap₂ (λ (a b : List Field). a ++ b) (point_part xs h r (o refl)) (house_spas ys t)
house_coords Multi xs ys h t r o = house_c2il xs ys h t
house_coords Feature xs ys h t r o = house_c2il xs ys h t

pub attr_coord : (k : Kind) → eqb ATTR (coord_tag k) ≡ false
unfolding coord_tag
attr_coord Info = refl
attr_coord Point = refl
attr_coord Multi = refl
attr_coord Feature = refl
