-- Laws of the line of one record. Assumes nothing.
use mathlib.Core.Path.{◌≡◌, sym, ap, ap₂, ◌∙◌}
use mathlib.Core.Bool.{true}
use mathlib.Core.List.{List, [], ◌∷◌}
use Prim.Native.Nat.{ℕ, ◌+◌, ◌≤◌}
use native.Mathlib.Omega.{arith}
use Rattle.std.specs.Prelude.{Option, Some, None}
use Rattle.base.specs.Check.{pass}
use Rattle.base.proofs.CheckLaws.{bind_inv}
use Rattle.memory.specs.Wrote.{Wrote}
use Rattle.skeleton.specs.File.{Field}
use Rattle.skeleton.specs.Digits.{in_fewest_digits}
use Rattle.skeleton.specs.Emit.{tag_bytes}
use Rattle.skeleton.specs.Place.{between, place_at, fields_at}
use Rattle.skeleton.specs.declared.directory.Shape.{Shape}
use Rattle.skeleton.specs.declared.place.Place.{Place}
use Rattle.skeleton.proofs.PlaceLaws.{fields_more, fields_done}
use Rattle.fields.specs.Table.{head_of, tuple_of}
use Rattle.fields.specs.Content.{fill}
use Rattle.fields.proofs.WiderLaws.{irid, prid, mrid, frid, format_wider}
use Rattle.rules.specs.ByTag.{first_tag, front}
use Rattle.rules.specs.Kind.{kind_of, tag_of}
use Rattle.rules.specs.Content.{insert_only, ident_format, stands, number5}
use Rattle.rules.specs.Trees.{number6}
use Rattle.rules.specs.Listing.{line, record_line}
use Rattle.rules.specs.Record.{ident_of, rec_of}
use Rattle.rules.specs.declared.Kind.{Kind}
use Rattle.rules.specs.declared.Kind.TheVariants.{Info, Point, Multi, Feature}
use Rattle.rules.specs.declared.Mode.TheVariants.{InDataset}
use Rattle.rules.proofs.KindLaws.{kind_of_tag}
use Rattle.rules.proofs.FilledLaws.{stands_fill}
use Rattle.records.specs.Answers.{found_kind}
use Rattle.contents.specs.Fit.{identified}
use Rattle.writing.proofs.PartsLaws.{wrote_as}
use Rattle.listing.specs.Said.{entries_in, tuples_in, Passed, record_in}
use Rattle.listing.specs.Lines.{line_of}
use Rattle.listing.proofs.SaidLaws.{record_is, coordinates_said, attributes_said}

-- ---- the identifier

-- where every instruction is insert, it has the format of any
ident_wider : (k : Kind) (b : List ℕ) → fill (head_of (ident_format true k)) (tuple_of (ident_format true k)) b ≡ true → identified k b ≡ true
unfolding identified ident_format
ident_wider Info b e = (format_wider irid b e).0
ident_wider Point b e = (format_wider prid b e).0
ident_wider Multi b e = (format_wider mrid b e).0
ident_wider Feature b e = (format_wider frid b e).0

five_ident : (k : Kind) (f : Field) (fs : List Field) → number5 InDataset k (f ∷ fs) ≡ pass → identified k f.body ≡ true
unfolding number5 insert_only
five_ident k f fs e =
    let r = bind_inv (stands 1 (ident_format true k) f.body) _ tt e in
    ident_wider k f.body (stands_fill 1 (ident_format true k) f.body r.0 r.1)

tag_some : (k : Kind) → 0 ≡ tag_of k → ⊥
unfolding tag_of
tag_some Info e = omega arith
tag_some Point e = omega arith
tag_some Multi e = omega arith
tag_some Feature e = omega arith

-- ---- the line

-- the line of a record whose first field is f
line_said : (n : ℕ) (k : Kind) (f : Field) (fs : List Field) → f.tag ≡ tag_of k → number5 InDataset k (f ∷ fs) ≡ pass → number6 InDataset k (f ∷ fs) ≡ pass
    → line_of n k (ident_of k f.body).rcid (ident_of k f.body).rver (entries_in (f ∷ fs)) (tuples_in (f ∷ fs)) ≡ record_line n (rec_of k (f ∷ fs))
unfolding line_of record_line rec_of front
line_said n k f fs e five six =
    let numbers : ℕ → ℕ → List (List ℕ) = λ a b.
    in_fewest_digits (ident_of k f.body).rcid ∷ in_fewest_digits (ident_of k f.body).rver ∷ in_fewest_digits a ∷ in_fewest_digits b ∷ [] in
    ap₂ (λ (a b : ℕ). line (in_fewest_digits n) (tag_bytes (tag_of k) ∷ numbers a b)) (sym (attributes_said k f fs e five six)) (sym (coordinates_said (f ∷ fs)))

is_inj : (j k : Kind) → Some j ≡ Some k → j ≡ k
is_inj j k e = cc

module _ (r : List ℕ) (h : Shape) (p : Passed (fields_at r h 24)) (e : Option Place) (en : e ≡ place_at r h 24) where
  -- it has a first field
  pub record_none : e ≡ None → ⊥
  unfolding first_tag
  record_none x = tag_some p.kind (sym (ap first_tag (fields_done r h 24 e en x)) ∙ p.tag)

  module _ (field : Place) (x : e ≡ Some field) where
    abbrev first : Field
    first = record { tag = field.tag; body = between r field.start field.end }

    fields : fields_at r h 24 ≡ first ∷ fields_at r h field.next
    fields = fields_more r h 24 e en field x

    passed : Passed (first ∷ fields_at r h field.next)
    passed = rw fields at p

    module _ (o : Option Kind) (eo : o ≡ found_kind (kind_of field.tag)) where
      known : o ≡ Some passed.kind
      unfolding first_tag
      known = eo ∙ ap (λ (t : ℕ). found_kind (kind_of t)) passed.tag ∙ ap found_kind (kind_of_tag passed.kind)

      pub record_unknown : o ≡ None → ⊥
      record_unknown y = let z : None ≡ Some passed.kind = sym y ∙ known in let w : ◌≡◌ {A = ℕ} 0 1 = cc in omega arith

      module _ (k : Kind) (y : o ≡ Some k) where
        same : k ≡ passed.kind
        same = is_inj k passed.kind (sym y ∙ known)

        five : number5 InDataset k (first ∷ fields_at r h field.next) ≡ pass
        five = rw same passed.five

        pub record_ident : identified k (between r field.start field.end) ≡ true
        record_ident = five_ident k first (fields_at r h field.next) five

        pub record_wrote : (n id version es ts at q : ℕ) (d d₁ : List ℕ) → id ≡ (ident_of k (between r field.start field.end)).rcid → version ≡ (ident_of k (between r field.start field.end)).rver
            → es ≡ entries_in (fields_at r h 24) → ts ≡ tuples_in (fields_at r h 24) → Wrote at (line_of n k id version es ts) d q d₁ × (q ≤ at + 110)
            → Wrote at (record_line n (record_in (fields_at r h 24))) d q d₁ × (q ≤ at + 110)
        unfolding first_tag
        record_wrote n id version es ts at q d d₁ a b c s w =
            let behind = fields_at r h field.next in
            let six : number6 InDataset k (first ∷ behind) ≡ pass = rw same passed.six in
            let named : first_tag (first ∷ behind) ≡ tag_of k = passed.tag ∙ ap tag_of (sym same) in
            let said : line_of n k id version es ts ≡ record_line n (record_in (fields_at r h 24)) =
            rw (a, b, c, s, fields) (line_said n k first behind named five six ∙ ap (record_line n) (sym (record_is (first ∷ behind) k named))) in
            (wrote_as said w.0, w.1)
