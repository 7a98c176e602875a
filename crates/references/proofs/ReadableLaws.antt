-- In a dataset that has passed 1 to 7 every reference can be read. Assumes nothing.
use mathlib.Core.Path.{◌≡◌, refl, sym}
use mathlib.Core.List.{List, [], ◌∷◌}
use mathlib.Core.Bool.{Bool, true, false, not}
use Prim.Native.Nat.{ℕ, ◌+◌, ◌≤◌}
use native.Mathlib.Omega.{arith}
use borrow.Author.Tests.{eq-eqb, ne_eqb, eqb-true}
use lib.Dec.{eqb}
use Rattle.std.specs.Prelude.{Option, Some}
use Rattle.base.specs.Choice.{pick}
use Rattle.base.specs.Check.{ok}
use Rattle.base.specs.Lists.{each}
use Rattle.base.proofs.CheckLaws.{bind_inv}
use Rattle.base.proofs.ChoiceLaws.{both_hold}
use Rattle.fields.specs.Table.{head_of, tuple_of}
use Rattle.fields.specs.Content.{many, fill}
use Rattle.fields.specs.declared.Format.TheVariants.{InasNew, Spas, SpasNew}
use Rattle.fields.proofs.WiderLaws.{spas, format_wider}
use Rattle.skeleton.specs.File.{Field, records_from}
use Rattle.skeleton.specs.Place.{between, place_at, fields_at}
use Rattle.skeleton.specs.declared.directory.Shape.{Shape}
use Rattle.skeleton.specs.declared.place.Place.{Place}
use Rattle.skeleton.proofs.PlaceLaws.{fields_more}
use Rattle.rules.specs.Tags.{INAS, SPAS}
use Rattle.rules.specs.ByTag.{first_tag}
use Rattle.rules.specs.Kind.{tag_of}
use Rattle.rules.specs.Grammar.{as_stored, number4}
use Rattle.rules.specs.Content.{inas_format, format_of, number5}
use Rattle.rules.specs.Record.{Rec, key_of, dataset_record}
use Rattle.rules.specs.Associations.{inas_key, spas_marks, field_marks, marks}
use Rattle.rules.specs.Outcome.{done}
use Rattle.rules.specs.File.{last_rank, dataset_test, through, taken}
use Rattle.rules.specs.declared.Kind.{Kind}
use Rattle.rules.specs.declared.Kind.TheVariants.{Info, Point, Multi, Feature}
use Rattle.rules.specs.declared.Mode.TheVariants.{InDataset}
use Rattle.rules.proofs.OutcomeLaws.{and_then_inv}
use Rattle.rules.proofs.FileLaws.{through_later}
use Rattle.contents.specs.Fit.{fits, all_fit}
use Rattle.contents.proofs.StepLaws.{second_entry}
use Rattle.contents.proofs.FormatLaws.{of_inas, of_spas}
use Rattle.contents.proofs.FitLaws.{five_fit}
use Rattle.contents.proofs.SevenLaws.{kind_some, four_first}
use Rattle.keys.specs.Standing.{outcome_from}
use Rattle.keys.proofs.ReferenceLaws.{unread_done}
use Rattle.references.specs.Readable.{readable, all_readable, plain, record_readable, every_readable}

-- ---- a field that has the format of its tag

module _ (f : Field) (e : fits true f ≡ true) where
  fits_inas : f.tag ≡ INAS → fill (head_of InasNew) (tuple_of InasNew) f.body ≡ true
  unfolding fits inas_format
  fits_inas t =
      let k : format_of true f.tag f.body ≡ InasNew = sym (of_inas true f.tag f.body (λ z. omega arith) t InasNew refl) in
      rw k at e

  fits_spas : f.tag ≡ SPAS → fill (head_of Spas) (tuple_of Spas) f.body ≡ true
  unfolding fits
  fits_spas t =
      let k : format_of true f.tag f.body ≡ SpasNew = sym (of_spas true f.tag f.body (λ z. omega arith) (λ z. omega arith) t SpasNew refl) in
      let g : fill (head_of SpasNew) (tuple_of SpasNew) f.body ≡ true = rw k at e in
      (format_wider spas f.body g).0

  fits_readable : readable f ≡ true
  unfolding readable
  fits_readable = go (eqb f.tag INAS) (eqb f.tag SPAS) refl refl
    where
      go : (a b : Bool) → eqb f.tag INAS ≡ a → eqb f.tag SPAS ≡ b
          → pick a (fill (head_of InasNew) (tuple_of InasNew) f.body) (pick b (fill (head_of Spas) (tuple_of Spas) f.body) true) ≡ true
      go true b x y = fits_inas (eqb-true f.tag INAS x)
      go false true x y = fits_spas (eqb-true f.tag SPAS y)
      go false false x y = refl

pub all_fits : (fs : List Field) → all_fit true fs ≡ true → all_readable fs ≡ true
unfolding all_fit all_readable
all_fits [] e = refl
all_fits (f ∷ fs) e =
    let s = both_hold (fits true f) (all_fit true fs) e in
    rw (fits_readable f s.0) (all_fits fs s.1)

-- an identifier is no association
ident_plain : (k : Kind) (f : Field) → f.tag ≡ tag_of k → plain f ≡ true
unfolding plain tag_of
ident_plain Info f e = rw e
ident_plain Point f e = rw e
ident_plain Multi f e = rw e
ident_plain Feature f e = rw e

-- ---- a record, and a file, that have passed

record_readable_lem : (least : ℕ) (earlier : List (List ℕ)) (fs : List Field) (r : Rec) → dataset_record least earlier fs ≡ ok r → record_readable fs ≡ true
unfolding dataset_record record_readable first_tag as_stored
record_readable_lem least earlier [] r e =
    let p = bind_inv (number4 InDataset least []) _ r e in
    absurd (kind_some p.0 (four_first InDataset least [] p.0 p.1))
record_readable_lem least earlier (f ∷ fs) r e =
    let p = bind_inv (number4 InDataset least (f ∷ fs)) _ r e in
    let q = bind_inv (number5 InDataset p.0 (f ∷ fs)) _ r p.2 in
    let first = ident_plain p.0 f (four_first InDataset least (f ∷ fs) p.0 p.1) in
    rw first (all_fits fs (five_fit InDataset p.0 f fs q.0 q.1))

through_readable : (items : List (List Field)) (n : ℕ) (seen recs : List Rec) → 4 ≤ n → through dataset_test 1 n seen items ≡ done recs → every_readable items ≡ true
unfolding through every_readable
through_readable [] n seen recs h e = refl
through_readable (fs ∷ items) n seen recs h e =
    let l = through_later fs items n seen recs h e in
    rw (record_readable_lem (last_rank seen) (each key_of seen) fs l.made l.passes)
    (through_readable items (n + 1) (l.made ∷ seen) l.others (omega arith) l.onward)

pub passed_readable : (f : List ℕ) (start : ℕ) → outcome_from f start 0 [] ≡ done tt → every_readable (records_from f start).items ≡ true
unfolding outcome_from taken
passed_readable f start e =
    let r = unread_done (taken dataset_test 1 3 4 [] (records_from f start)) e in
    let p = and_then_inv (through dataset_test 1 4 [] (records_from f start).items) _ r.0 r.1 in
    through_readable (records_from f start).items 4 [] p.0 (omega arith) p.1

-- ---- an association by its tag

module _ (tag : ℕ) (b : List ℕ) (e : readable (record { tag = tag; body = b }) ≡ true) where
  pub inas_readable : tag ≡ 0x494e4153 → fill (head_of InasNew) (tuple_of InasNew) b ≡ true
  unfolding readable
  inas_readable t = simp (eq-eqb tag 0x494e4153 t) at e

  pub spas_readable : (tag ≡ 0x494e4153 → ⊥) → tag ≡ 0x53504153 → fill (head_of Spas) (tuple_of Spas) b ≡ true
  unfolding readable
  spas_readable n t = simp (ne_eqb tag 0x494e4153 n, eq-eqb tag 0x53504153 t) at e

-- ---- the first field of a record, and those behind it

first_apart : (f : Field) (fs : List Field) → record_readable (f ∷ fs) ≡ true → (plain f ≡ true) × (all_readable fs ≡ true)
unfolding record_readable
first_apart f fs e = both_hold (plain f) (all_readable fs) e

-- no association, no reference
plain_marks : (i : ℕ) (f : Field) → plain f ≡ true → field_marks i f ≡ []
unfolding plain field_marks
plain_marks i f e = go (eqb f.tag INAS) (eqb f.tag SPAS) e
  where
    go : (a b : Bool) → pick a false (not b) ≡ true
        → pick a (record { key = inas_key f.body; field = i; tuple = 0 } ∷ []) (pick b (spas_marks i 1 (many (tuple_of Spas) f.body)) []) ≡ []
    go true b z = absurd (let y : ◌≡◌ {A = ℕ} 0 1 = cc in omega arith)
    go false true z = absurd (let y : ◌≡◌ {A = ℕ} 0 1 = cc in omega arith)
    go false false z = refl

-- they stand from the second entry on
module _ (r : List ℕ) (h : Shape) (e : record_readable (fields_at r h 24) ≡ true) where
  some : fields_at r h 24 ≡ [] → ⊥
  unfolding record_readable
  some z = absurd (let y : false ≡ true = rw z at e in let x : ◌≡◌ {A = ℕ} 0 1 = cc in omega arith)

  parted : (f : Field) × (fields_at r h 24 ≡ f ∷ fields_at r h (28 + h.a + h.b))
  parted = second_entry r h some

  apart_second : (plain parted.0 ≡ true) × (all_readable (fields_at r h (28 + h.a + h.b)) ≡ true)
  apart_second = first_apart parted.0 (fields_at r h (28 + h.a + h.b)) (rw parted.1 at e)

  pub second_readable : all_readable (fields_at r h (28 + h.a + h.b)) ≡ true
  second_readable = apart_second.1

  pub second_marks : marks 2 (fields_at r h (28 + h.a + h.b)) ≡ marks 1 (fields_at r h 24)
  unfolding marks
  second_marks = rw parted.1 (rw (plain_marks 1 parted.0 apart_second.0) refl)

-- ---- field by field: by the place e that was read at p

module _ (r : List ℕ) (h : Shape) (p : ℕ) (e : Option Place) (en : e ≡ place_at r h p) (field : Place) (x : e ≡ Some field)
    (a : all_readable (fields_at r h p) ≡ true) where
  apart : (readable (record { tag = field.tag; body = between r field.start field.end }) ≡ true) × (all_readable (fields_at r h field.next) ≡ true)
  unfolding all_readable
  apart = both_hold _ _ (rw (fields_more r h p e en field x) at a)

  pub readable_here : readable (record { tag = field.tag; body = between r field.start field.end }) ≡ true
  readable_here = apart.0

  pub readable_next : all_readable (fields_at r h field.next) ≡ true
  readable_next = apart.1
