-- Fields that have their formats: what number 5 says of each, and that a field of a record that is inserted has the format of any. Assumes nothing.
use mathlib.Core.Path.{◌≡◌, refl}
use mathlib.Core.Bool.{Bool, true, false}
use mathlib.Core.List.{List, [], ◌∷◌}
use Prim.Native.Nat.{ℕ, ◌+◌}
use native.Mathlib.Omega.{arith}
use borrow.Author.Tests.{leb-true, ne_eqb}
use lib.Dec.{eqb, leb}
use lib.ListN.{get_or}
use Rattle.std.specs.Prelude.{Option, Some}
use Rattle.base.specs.Choice.{pick}
use Rattle.base.specs.Check.{ok}
use Rattle.base.proofs.CheckLaws.{bind_inv}
use Rattle.base.proofs.ChoiceLaws.{both_hold}
use Rattle.fields.specs.Values.{values, num_at}
use Rattle.fields.specs.Valid.{allows}
use Rattle.fields.specs.Table.{head_of, tuple_of}
use Rattle.fields.specs.Content.{fill}
use Rattle.fields.specs.declared.Format.{Format}
use Rattle.fields.specs.declared.Format.TheVariants.{Foid, Attr, AttrNew, InasNew, Spas, SpasNew, Cocc, C2it, C2il}
use Rattle.fields.proofs.ByteLaws.{le1}
use Rattle.fields.proofs.ValueLaws.{head_number, head_allowed}
use Rattle.fields.proofs.WiderLaws.{attr, spas, format_wider}
use Rattle.skeleton.specs.File.{Field}
use Rattle.skeleton.specs.Place.{between, place_at, fields_at}
use Rattle.skeleton.specs.declared.directory.Shape.{Shape}
use Rattle.skeleton.specs.declared.place.Place.{Place}
use Rattle.skeleton.proofs.PlaceLaws.{fields_more}
use Rattle.rules.specs.Tags.{ATTR, INAS, SPAS, FOID, COCC, C2IT}
use Rattle.rules.specs.Grammar.{ruin_byte, as_stored}
use Rattle.rules.specs.Content.{insert_only, ident_format, inas_format, format_of, stands, all_stand, number5}
use Rattle.rules.specs.declared.Kind.{Kind}
use Rattle.rules.specs.declared.Mode.{Mode}
use Rattle.rules.proofs.FilledLaws.{stands_fill}
use Rattle.contents.specs.Fit.{fits, all_fit}

-- ---- what number 5 says

-- so are all
pub all_fit_lem : (new : Bool) (i : ℕ) (fs : List Field) (u : Unit {0}) → all_stand new i fs ≡ ok u → all_fit new fs ≡ true
unfolding all_stand all_fit fits
all_fit_lem new i [] u e = refl
all_fit_lem new i (f ∷ fs) u e =
    let r = bind_inv (stands i (format_of new f.tag f.body) f.body) (λ _. all_stand new (i + 1) fs) u e in
    rw (stands_fill i (format_of new f.tag f.body) f.body r.0 r.1) (all_fit_lem new (i + 1) fs u r.2)

-- in a record that it passes
pub five_fit : (m : Mode) (k : Kind) (f : Field) (fs : List Field) (u : Unit {0}) → number5 m k (f ∷ fs) ≡ ok u → all_fit (as_stored m (ruin_byte k f.body)) fs ≡ true
unfolding number5
five_fit m k f fs u e =
    let r = bind_inv (stands 1 (ident_format (insert_only m) k) f.body) _ u e in
    let s = bind_inv (all_stand (as_stored m (ruin_byte k f.body)) 2 fs) _ u r.2 in
    all_fit_lem (as_stored m (ruin_byte k f.body)) 2 fs s.0 s.1

-- ---- field by field

-- by the place e that was read at p
module _ (r : List ℕ) (h : Shape) (p : ℕ) (e : Option Place) (en : e ≡ place_at r h p) (d : Place) (x : e ≡ Some d)
    (new : Bool) (a : all_fit new (fields_at r h p) ≡ true) where
  apart : (fits new (record { tag = d.tag; body = between r d.start d.end }) ≡ true) × (all_fit new (fields_at r h d.next) ≡ true)
  unfolding all_fit
  apart = both_hold _ _ (rw (fields_more r h p e en d x) at a)

  pub fit_here : fits new (record { tag = d.tag; body = between r d.start d.end }) ≡ true
  fit_here = apart.0

  pub fit_next : all_fit new (fields_at r h d.next) ≡ true
  fit_next = apart.1

-- ---- the format of any record

-- an INAS of an inserted record says insert
inserts : (b : List ℕ) → fill (head_of InasNew) (tuple_of InasNew) b ≡ true → get_or b 9 0 ≡ 2 → ⊥
unfolding head_of allows
inserts b e z =
    let v : ℕ = num_at (values (head_of InasNew) b) 4 in
    let a = both_hold (leb 1 v) (leb v 1) (head_allowed (head_of InasNew) (tuple_of InasNew) b e 4 1 refl) in
    let n = head_number (head_of InasNew) (tuple_of InasNew) b e 4 9 1 refl refl in
    omega (arith, leb-true v 1 a.1, n.1, le1 b 9 n.0)

inas_wider : (b : List ℕ) → fill (head_of InasNew) (tuple_of InasNew) b ≡ true → fill (head_of (inas_format false b)) (tuple_of (inas_format false b)) b ≡ true
unfolding inas_format
inas_wider b e = simp (ne_eqb (get_or b 9 0) 2 (inserts b e)) e

wider_true : (t : ℕ) (b : List ℕ) → fill (head_of (format_of true t b)) (tuple_of (format_of true t b)) b ≡ true
    → fill (head_of (format_of false t b)) (tuple_of (format_of false t b)) b ≡ true
unfolding format_of inas_format
wider_true t b e = by_tag (eqb t ATTR) (eqb t INAS) (eqb t SPAS) (pick (eqb t FOID) Foid (pick (eqb t COCC) Cocc (pick (eqb t C2IT) C2it C2il))) e
  where
    by_tag : (a i s : Bool) (k : Format)
        → fill (head_of (pick a AttrNew (pick i (inas_format true b) (pick s SpasNew k)))) (tuple_of (pick a AttrNew (pick i (inas_format true b) (pick s SpasNew k)))) b ≡ true
        → fill (head_of (pick a Attr (pick i (inas_format false b) (pick s Spas k)))) (tuple_of (pick a Attr (pick i (inas_format false b) (pick s Spas k)))) b ≡ true
    by_tag true i s k g = (format_wider attr b g).0
    by_tag false true s k g = inas_wider b g
    by_tag false false true k g = (format_wider spas b g).0
    by_tag false false false k g = g

pub fit_any : (new : Bool) (f : Field) → fits new f ≡ true → fits false f ≡ true
unfolding fits
fit_any true f e = wider_true f.tag f.body e
fit_any false f e = e

pub all_any : (new : Bool) (fs : List Field) → all_fit new fs ≡ true → all_fit false fs ≡ true
unfolding all_fit
all_any new [] e = refl
all_any new (f ∷ fs) e =
    let s = both_hold (fits new f) (all_fit new fs) e in
    rw (fit_any new f s.0) (all_any new fs s.1)
