-- What a general record that has passed says of its fields. Assumes nothing.
use mathlib.Core.Path.{◌≡◌, refl}
use mathlib.Core.Bool.{Bool, true, false}
use mathlib.Core.List.{List, [], ◌∷◌}
use Prim.Native.Nat.{ℕ}
use native.Mathlib.Omega.{arith}
use borrow.Author.Tests.{eqb-true}
use lib.Dec.{eqb}
use Rattle.std.specs.Prelude.{Option, Some, None}
use Rattle.base.specs.Choice.{pick}
use Rattle.base.specs.Check.{no, bind, fault, pass}
use Rattle.base.proofs.CheckLaws.{bind_inv}
use Rattle.fields.specs.declared.Format.TheVariants.{Dsid, DsidUpdate}
use Rattle.fields.proofs.WiderLaws.{dsid, format_wider}
use Rattle.skeleton.specs.File.{Field}
use Rattle.skeleton.specs.Place.{between, place_at, fields_at}
use Rattle.skeleton.specs.declared.directory.Shape.{Shape}
use Rattle.skeleton.specs.declared.place.Place.{Place}
use Rattle.skeleton.proofs.PlaceLaws.{fields_more, fields_done}
use Rattle.rules.specs.Tags.{DSID}
use Rattle.rules.specs.Kind.{general_rows}
use Rattle.rules.specs.Grammar.{in_order}
use Rattle.rules.specs.Content.{stands}
use Rattle.rules.specs.General.{general_record, general_format}
use Rattle.rules.specs.declared.Mode.{Mode}
use Rattle.rules.specs.declared.Mode.TheVariants.{InDataset, InUpdate}
use Rattle.rules.proofs.FilledLaws.{stands_fill}
use Rattle.following.specs.Naming.{Identified}

-- its first field is DSID, those behind it are in order, and DSID has its format
pub record Headed (m : Mode) (f : Field) (fs : List Field) : Type 0 where
  pub tag : f.tag ≡ DSID
  pub ordered : in_order (λ t. false) general_rows 2 fs ≡ pass
  pub filled : stands 1 (general_format m) f.body ≡ pass

pub headed : (m : Mode) (f : Field) (fs : List Field) → general_record m (f ∷ fs) ≡ pass → Headed m f fs
unfolding general_record
headed m f fs e = go (eqb f.tag DSID) refl e
  where
    go : (t : Bool) → eqb f.tag DSID ≡ t
        → pick t (bind (in_order (λ t. false) general_rows 2 fs) (λ _. stands 1 (general_format m) f.body)) (no (fault 4 1 0)) ≡ pass → Headed m f fs
    go true x y =
        let b = bind_inv (in_order (λ t. false) general_rows 2 fs) (λ _. stands 1 (general_format m) f.body) tt y in
        record { tag = eqb-true f.tag DSID x; ordered = b.1; filled = b.2 }
    go false x y = absurd (let z : ◌≡◌ {A = ℕ} 0 1 = cc in omega arith)

-- there is a first field
pub some_field {ℓ} : (m : Mode) {X : Type ℓ} → general_record m [] ≡ pass → X
unfolding general_record
some_field m e = absurd (let z : ◌≡◌ {A = ℕ} 0 1 = cc in omega arith)

-- in either mode the subfields of a dataset's DSID fill it
pub dsid_filled : (m : Mode) (b : List ℕ) → stands 1 (general_format m) b ≡ pass → Identified b
unfolding general_format
dsid_filled InDataset b e = stands_fill 1 Dsid b tt e
dsid_filled InUpdate b e = (format_wider dsid b (stands_fill 1 DsidUpdate b tt e)).0

module _ (m : Mode) (r : List ℕ) (h : Shape) (e : Option Place) (en : e ≡ place_at r h 24) (g : general_record m (fields_at r h 24) ≡ pass) where
  pub never_none {ℓ} : {X : Type ℓ} → e ≡ None → X
  never_none x = some_field m (rw (fields_done r h 24 e en x) at g)

  pub identified : (d : Place) → e ≡ Some d → Identified (between r d.start d.end)
  identified d x =
      let p : general_record m (record { tag = d.tag; body = between r d.start d.end } ∷ fields_at r h d.next) ≡ pass = rw (fields_more r h 24 e en d x) at g in
      dsid_filled m (between r d.start d.end) (headed m _ _ p).filled
