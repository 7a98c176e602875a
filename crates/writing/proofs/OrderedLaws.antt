-- The fields of a record whose tags are right (number 4), part by part. Assumes nothing.
use Prim.Native.Nat.{ℕ, ◌+◌, ◌≤◌}
use mathlib.Core.Path.{◌≡◌, refl, sym, ap, ◌∙◌}
use mathlib.Core.Bool.{Bool, true, false, true≢false}
use mathlib.Core.Option.{some}
use mathlib.Core.List.{List, [], ◌∷◌, ◌++◌, append-nil}
use native.Mathlib.Omega.{arith}
use borrow.Author.Tests.{eqb-true, eqb-false}
use lib.Dec.{eqb}
use lib.ListN.{length}
use Rattle.base.specs.Choice.{pick}
use Rattle.base.specs.Check.{no, fault, pass}
use Rattle.base.specs.Lists.{Each}
use Rattle.base.proofs.CheckLaws.{refused}
use Rattle.skeleton.specs.File.{Field}
use Rattle.fields.specs.Valid.{Bytes}
use Rattle.rules.specs.Tags.{FOID, ATTR, INAS, SPAS, COCC, C2IT, C2IL}
use Rattle.rules.specs.Kind.{Row, once, needs, any, rows_of}
use Rattle.rules.specs.Grammar.{rows_after, on_rows, in_order, forbidden}
use Rattle.rules.specs.Written.{coord_tag}
use Rattle.rules.specs.declared.Kind.{Kind}
use Rattle.rules.specs.declared.Kind.TheVariants.{Info, Point, Multi, Feature}
use Rattle.rules.specs.declared.Mode.TheVariants.{InDataset}

-- each has this tag
abbrev pub Tagged : ℕ → List Field → Type 0
Tagged t fs = Each (λ (f : Field). f.tag ≡ t) fs

-- the bodies are bytes
abbrev pub BodiesBytes : List Field → Type 0
BodiesBytes fs = Each (λ (f : Field). Bytes f.body) fs

-- ---- one row

-- the fields of the first row, and those of the other rows, in order
pub record Split (out : ℕ → Bool) (row : Row) (rows : List Row) (fs : List Field) : Type 0 where
  pub mine : List Field
  pub others : List Field
  pub is : fs ≡ mine ++ others
  pub tagged : Tagged row.tag mine
  pub allowed : Each (λ (f : Field). out f.tag ≡ false) mine
  pub few : row.often ≡ false → length mine ≤ 1
  pub place : ℕ
  pub rest : in_order out rows place others ≡ pass

-- one field more, by the tests of it
split_by : (out : ℕ → Bool) (row : Row) (rows : List Row) (i : ℕ) (f : Field) (fs : List Field)
    → ((j : ℕ) → in_order out (row ∷ rows) j fs ≡ pass → Split out row rows fs)
    → (w : Bool) → out f.tag ≡ w → (u : Bool) → eqb row.tag f.tag ≡ u → (v : Bool) → row.often ≡ v
    → pick w (no (fault 4 i 0)) (on_rows (pick u (some (pick v (row ∷ rows) rows)) (rows_after f.tag rows)) i (λ left. in_order out left (i + 1) fs)) ≡ pass
    → Split out row rows (f ∷ fs)
unfolding Each
split_by out row rows i f fs ih true p u q v o e = refused e
split_by out row rows i f fs ih false p true q true o e =
    let s = ih (i + 1) e in
    record {
      mine = f ∷ s.mine;
      others = s.others;
      is = ap (λ (gs : List Field). f ∷ gs) s.is;
      tagged = (sym (eqb-true row.tag f.tag q), s.tagged);
      allowed = (p, s.allowed);
      few = λ z. absurd (true≢false (sym o ∙ z));
      place = s.place;
      rest = s.rest;
    }
split_by out row rows i f fs ih false p true q false o e =
    record {
      mine = f ∷ [];
      others = fs;
      is = refl;
      tagged = (sym (eqb-true row.tag f.tag q), tt);
      allowed = (p, tt);
      few = λ z. omega arith;
      place = i + 1;
      rest = e;
    }
split_by out row rows i f fs ih false p false q v o e =
    record { mine = []; others = f ∷ fs; is = refl; tagged = tt; allowed = tt; few = λ z. omega arith; place = i; rest = unfold in_order in rw p e }

pub split : (out : ℕ → Bool) (row : Row) (rows : List Row) (i : ℕ) (fs : List Field) → in_order out (row ∷ rows) i fs ≡ pass → Split out row rows fs
unfolding in_order rows_after Each
split out row rows i [] e = record { mine = []; others = []; is = refl; tagged = tt; allowed = tt; few = λ z. omega arith; place = i; rest = refl }
split out row rows i (f ∷ fs) e =
    split_by out row rows i f fs (λ j x. split out row rows j fs x) (out f.tag) refl (eqb row.tag f.tag) refl row.often refl e

-- no row is left, so there is no field
none_left : (out : ℕ → Bool) (i : ℕ) (fs : List Field) → in_order out [] i fs ≡ pass → fs ≡ []
unfolding in_order rows_after
none_left out i [] e = refl
none_left out i (f ∷ fs) e = go (out f.tag) e
  where
    go : (w : Bool) → pick w (no (fault 4 i 0)) (no (fault 4 i 0)) ≡ pass → f ∷ fs ≡ []
    go true x = refused x
    go false x = refused x

-- ---- the parts of a record of a dataset

-- FOID, ATTR, INAS, the coordinates, SPAS; what a kind lacks is empty
pub record Parted (k : Kind) (fs : List Field) : Type 0 where
  pub foids : List Field
  pub attrs : List Field
  pub inass : List Field
  pub coords : List Field
  pub spass : List Field
  pub is : fs ≡ foids ++ (attrs ++ (inass ++ (coords ++ spass)))
  pub foid_tags : Tagged FOID foids
  pub attr_tags : Tagged ATTR attrs
  pub inas_tags : Tagged INAS inass
  pub coord_tags : Tagged (coord_tag k) coords
  pub spas_tags : Tagged SPAS spass
  pub one_foid : length foids ≤ 1
  pub one_attr : length attrs ≤ 1
  pub one_coord : k ≡ Point → length coords ≤ 1

-- COCC is shut out
no_cocc : (fs : List Field) → Tagged COCC fs → Each (λ (f : Field). eqb f.tag COCC ≡ false) fs → fs ≡ []
unfolding Each
no_cocc [] t a = refl
no_cocc (f ∷ fs) t a = absurd (eqb-false f.tag COCC a.0 t.0)

module _ (ruin coui : ℕ) (controlled : Bool) where
  -- what is shut out of a dataset
  out : ℕ → Bool
  out = forbidden InDataset ruin coui controlled

  pub parted : (k : Kind) (i : ℕ) (fs : List Field) → in_order (forbidden InDataset ruin coui controlled) (rows_of k) i fs ≡ pass → Parted k fs
  unfolding rows_of coord_tag out forbidden Each
  parted Info i fs e =
      let a = split out (once ATTR) (any INAS ∷ []) i fs e in
      let b = split out (any INAS) [] a.place a.others a.rest in
      let z = none_left out b.place b.others b.rest in
      record {
        foids = [];
        attrs = a.mine;
        inass = b.mine;
        coords = [];
        spass = [];
        is = a.is ∙ ap (λ (gs : List Field). a.mine ++ gs) (b.is ∙ ap (λ (gs : List Field). b.mine ++ gs) z);
        foid_tags = tt;
        attr_tags = a.tagged;
        inas_tags = b.tagged;
        coord_tags = tt;
        spas_tags = tt;
        one_foid = omega arith;
        one_attr = a.few refl;
        one_coord = λ x. omega arith;
      }
  parted Point i fs e =
      let a = split out (any INAS) (needs C2IT ∷ []) i fs e in
      let b = split out (needs C2IT) [] a.place a.others a.rest in
      let z = none_left out b.place b.others b.rest in
      record {
        foids = [];
        attrs = [];
        inass = a.mine;
        coords = b.mine;
        spass = [];
        is = a.is ∙ ap (λ (gs : List Field). a.mine ++ gs) (b.is ∙ ap (λ (gs : List Field). b.mine ++ gs) z);
        foid_tags = tt;
        attr_tags = tt;
        inas_tags = a.tagged;
        coord_tags = b.tagged;
        spas_tags = tt;
        one_foid = omega arith;
        one_attr = omega arith;
        one_coord = λ x. b.few refl;
      }
  parted Multi i fs e =
      let a = split out (any INAS) (once COCC ∷ any C2IL ∷ []) i fs e in
      let b = split out (once COCC) (any C2IL ∷ []) a.place a.others a.rest in
      let c = split out (any C2IL) [] b.place b.others b.rest in
      let z = none_left out c.place c.others c.rest in
      let n = no_cocc b.mine b.tagged b.allowed in
      record {
        foids = [];
        attrs = [];
        inass = a.mine;
        coords = c.mine;
        spass = [];
        is = a.is ∙ ap (λ (gs : List Field). a.mine ++ gs)
            (b.is ∙ ap (λ (gs : List Field). gs ++ b.others) n ∙ c.is ∙ ap (λ (gs : List Field). c.mine ++ gs) z);
        foid_tags = tt;
        attr_tags = tt;
        inas_tags = a.tagged;
        coord_tags = c.tagged;
        spas_tags = tt;
        one_foid = omega arith;
        one_attr = omega arith;
        one_coord = λ x. absurd (let z : ◌≡◌ {A = ℕ} 0 1 = cc in omega arith);
      }
  parted Feature i fs e =
      let a = split out (needs FOID) (once ATTR ∷ any INAS ∷ any SPAS ∷ []) i fs e in
      let b = split out (once ATTR) (any INAS ∷ any SPAS ∷ []) a.place a.others a.rest in
      let c = split out (any INAS) (any SPAS ∷ []) b.place b.others b.rest in
      let d = split out (any SPAS) [] c.place c.others c.rest in
      let z = none_left out d.place d.others d.rest in
      record {
        foids = a.mine;
        attrs = b.mine;
        inass = c.mine;
        coords = [];
        spass = d.mine;
        is = a.is ∙ ap (λ (gs : List Field). a.mine ++ gs) (b.is ∙ ap (λ (gs : List Field). b.mine ++ gs)
            (c.is ∙ ap (λ (gs : List Field). c.mine ++ gs) (d.is ∙ ap (λ (gs : List Field). d.mine ++ gs) z ∙ append-nil d.mine)));
        foid_tags = a.tagged;
        attr_tags = b.tagged;
        inas_tags = c.tagged;
        coord_tags = tt;
        spas_tags = d.tagged;
        one_foid = a.few refl;
        one_attr = b.few refl;
        one_coord = λ x. omega arith;
      }
