-- What the fields of a record went through that passed 4, 5 and 6. Assumes nothing.
use Prim.Native.Nat.{ℕ, ◌≤◌}
use mathlib.Core.Path.{◌≡◌, refl, sym, ap, ◌∙◌}
use mathlib.Core.Bool.{Bool, true, false, not}
use mathlib.Core.Option.{Option, some, none}
use mathlib.Core.List.{List, [], ◌∷◌}
use lib.ListN.{length}
use lib.Dec.{ltb}
use Rattle.base.specs.Choice.{pick, either}
use Rattle.base.specs.Check.{ok, no, bind, fault, pass}
use Rattle.base.specs.Lists.{Each}
use Rattle.base.proofs.CheckLaws.{bind_inv, ok_inj, pass_inv, refused}
use Rattle.base.proofs.EachLaws.{each_map}
use Rattle.skeleton.specs.File.{Field}
use Rattle.fields.specs.Table.{head_of, tuple_of}
use Rattle.fields.specs.Valid.{Bytes, Has}
use Rattle.fields.proofs.ByteLaws.{le1}
use Rattle.fields.proofs.ValueLaws.{head_number}
use Rattle.fields.proofs.WiderLaws.{Wide, irid, prid, mrid, frid, format_wider}
use Rattle.rules.specs.Tags.{COCC}
use Rattle.rules.specs.ByTag.{with_tag, has}
use Rattle.rules.specs.Kind.{kind_of, rank, coded, rows_of}
use Rattle.rules.specs.Grammar.{in_order, complete, ruin_byte, coui_byte, as_stored, forbidden, fields_stand, on_kind, number4}
use Rattle.rules.specs.Content.{ident_format, insert_only, stands, all_stand, number5}
use Rattle.rules.specs.Trees.{tree_stands, number6}
use Rattle.rules.specs.Record.{ident_of}
use Rattle.rules.specs.declared.Kind.{Kind}
use Rattle.rules.specs.declared.Kind.TheVariants.{Info, Point, Multi, Feature}
use Rattle.rules.specs.declared.Mode.{Mode}
use Rattle.rules.specs.declared.Mode.TheVariants.{InDataset, InUpdate}
use Rattle.rules.proofs.FilledLaws.{stands_fill}
use Rattle.sequence.proofs.Tests.{by_bool}
use Rattle.sound.specs.Sound.{rowed}
use Rattle.sound.proofs.Order.{most, order_rowed, order_once}
use Rattle.sound.proofs.Stand.{Formed, all_formed, all_treed}

-- a field behind the identifier; new: every instruction is insert
pub record Stood (new : Bool) (k : Kind) (f : Field) : Type 0 where
  pub row : rowed f.tag (rows_of k) ≡ true
  pub formed : Formed new f
  pub treed : tree_stands new f ≡ pass
  pub bytes : Bytes f.body

-- fields as in a dataset: those that may stand once do, and those that are needed are there
pub record Whole (k : Kind) (fs : List Field) : Type 0 where
  pub once : (t : ℕ) → most t (rows_of k) ≡ true → length (with_tag t fs) ≤ 1
  pub needs : complete (rows_of k) fs ≡ true

-- the identifier f and the fields behind it
pub record Through (m : Mode) (k : Kind) (f : Field) (fs : List Field) : Type 0 where
  pub kind : kind_of f.tag ≡ some k
  pub ident : Has (ident_format false k) f.body
  pub ident_bytes_lem : Bytes f.body
  pub stood : Each (Stood (as_stored m (ruin_byte k f.body)) k) fs
  pub whole : as_stored m (ruin_byte k f.body) ≡ true → Whole k fs

-- ---- 4

-- the kind, and what its fields passed
pub four_inv : (m : Mode) (least : ℕ) (f : Field) (fs : List Field) (k : Kind) → number4 m least (f ∷ fs) ≡ ok k → (kind_of f.tag ≡ some k) × (fields_stand m k f.body fs ≡ pass)
unfolding number4
four_inv m least f fs k e = go (kind_of f.tag) refl e
  where
    go : (o : Option Kind) → kind_of f.tag ≡ o
        → on_kind o (λ k. pick (ltb (rank k) least) (no (fault 4 1 0)) (bind (fields_stand m k f.body fs) (λ _. ok k))) ≡ ok k
        → (kind_of f.tag ≡ some k) × (fields_stand m k f.body fs ≡ pass)
    go none h e = refused e
    go (some j) h e =
        by_bool (ltb (rank j) least)
        (λ t. refused (rw t at e))
        (λ t.
        let (u, a, b) = bind_inv (fields_stand m j f.body fs) (λ _. ok j) k (rw t at e) in
        let z : j ≡ k = ok_inj j k b in
        (h ∙ ap {B = Option Kind} some z, ap (λ (i : Kind). fields_stand m i f.body fs) (sym z) ∙ a))

-- a test that is not asked for, or holds
either_inv : (a b : Bool) → either (not a) b ≡ true → a ≡ true → b ≡ true
either_inv true b e h = e
either_inv false b e h = absurd_of h
  where
    absurd_of : false ≡ true → b ≡ true
    absurd_of h = cc

-- ---- the identifier

-- the format of an update's identifier is the wider one
pub ident_wider : (k : Kind) → Wide (ident_format true k) (ident_format false k)
unfolding ident_format
ident_wider Info = irid
ident_wider Point = prid
ident_wider Multi = mrid
ident_wider Feature = frid

-- an identifier that passed has the wider format
ident_has : (m : Mode) (k : Kind) (b : List ℕ) → Has (ident_format (insert_only m) k) b → Has (ident_format false k) b
unfolding insert_only
ident_has InDataset k b e = (format_wider (ident_wider k) b e).0
ident_has InUpdate k b e = e

-- the byte in RUIN's place is RUIN
pub ruin_byte_lem : (k : Kind) (b : List ℕ) → Has (ident_format false k) b → ruin_byte k b ≡ (ident_of k b).ruin
unfolding ruin_byte ident_of ident_format head_of coded
ruin_byte_lem Info b e = let (l, v) = head_number (head_of (ident_format false Info)) (tuple_of (ident_format false Info)) b e 4 9 1 refl refl in sym (le1 b 9 l) ∙ sym v
ruin_byte_lem Point b e = let (l, v) = head_number (head_of (ident_format false Point)) (tuple_of (ident_format false Point)) b e 3 7 1 refl refl in sym (le1 b 7 l) ∙ sym v
ruin_byte_lem Multi b e = let (l, v) = head_number (head_of (ident_format false Multi)) (tuple_of (ident_format false Multi)) b e 3 7 1 refl refl in sym (le1 b 7 l) ∙ sym v
ruin_byte_lem Feature b e = let (l, v) = head_number (head_of (ident_format false Feature)) (tuple_of (ident_format false Feature)) b e 4 9 1 refl refl in sym (le1 b 9 l) ∙ sym v

-- ---- all of it

-- four things that each field has
stood_all : (new : Bool) (k : Kind) (fs : List Field) → Each (λ f. rowed f.tag (rows_of k) ≡ true) fs → Each (Formed new) fs → Each (λ f. tree_stands new f ≡ pass) fs
    → Each (λ f. Bytes f.body) fs → Each (Stood new k) fs
unfolding Each
stood_all new k [] a b c d = tt
stood_all new k (f ∷ fs) a b c d = (record { row = a.0; formed = b.0; treed = c.0; bytes = d.0 }, stood_all new k fs a.1 b.1 c.1 d.1)

-- a record made of bytes that passed 4, 5 and 6
pub through : (m : Mode) (least : ℕ) (f : Field) (fs : List Field) (k : Kind) → Each (λ g. Bytes g.body) (f ∷ fs)
    → number4 m least (f ∷ fs) ≡ ok k → number5 m k (f ∷ fs) ≡ pass → number6 m k (f ∷ fs) ≡ pass → Through m k f fs
unfolding number5 number6 fields_stand Each
through m least f fs k g four five six =
    let (kind, stand) = four_inv m least f fs k four in
    let shut = forbidden m (ruin_byte k f.body) (coui_byte fs) (has COCC fs) in
    let (t, order, whole) = bind_inv (in_order shut (rows_of k) 2 fs) _ tt stand in
    let (u, ident, more) = bind_inv (stands 1 (ident_format (insert_only m) k) f.body) _ tt five in
    let new = as_stored m (ruin_byte k f.body) in
    let (v, all, counted) = bind_inv (all_stand new 2 fs) _ tt more in
    record {
      kind = kind;
      ident = ident_has m k f.body (stands_fill 1 (ident_format (insert_only m) k) f.body tt ident);
      ident_bytes_lem = g.0;
      stood = stood_all new k fs (each_map fs (λ f q. q.0) (order_rowed shut (rows_of k) 2 fs order)) (all_formed new 2 fs all) (all_treed new 2 fs six) g.1;
      whole = λ h. record { once = λ t m. order_once shut t (rows_of k) 2 fs m order; needs = either_inv new (complete (rows_of k) fs) (pass_inv _ 4 0 0 tt whole) h };
    }
