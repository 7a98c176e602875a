-- An accepted update raises the update number by one and keeps name and edition. Assumes nothing.
use mathlib.Core.Path.{◌≡◌, refl, sym, ap, ◌∙◌}
use mathlib.Core.List.{List, ◌∷◌}
use Prim.Native.Nat.{◌+◌}
use borrow.Author.Tests.{eqb-true}
use lib.Dec.{eqb}
use Rattle.base.specs.Check.{ok}
use Rattle.base.specs.Keys.{same}
use Rattle.base.proofs.ChoiceLaws.{both_hold}
use Rattle.base.proofs.CheckLaws.{bind_inv, pass_inv, ok_inj}
use Rattle.base.proofs.KeysLaws.{same_sound}
use Rattle.skeleton.specs.File.{Field}
use Rattle.fields.specs.Table.{head_of}
use Rattle.fields.specs.Values.{values, num_at, text_at}
use Rattle.fields.specs.declared.Format.TheVariants.{Dsid}
use Rattle.rules.specs.ByTag.{front}
use Rattle.rules.specs.General.{dsid_of, name_of, edition_of, number_of, number8, merged}
use Rattle.rules.specs.Written.{Dataset, number12}
use Rattle.rules.specs.Outcome.{done}
use Rattle.rules.specs.File.{Sent}
use Rattle.rules.specs.Update.{general, steps, updated}
use Rattle.rules.proofs.OutcomeLaws.{and_then_inv, at_inv, done_inj}

module _ (old new : List Field) where
  -- what 8 has passed
  pub number8_inv : (u : Unit {0}) → number8 old new ≡ ok u
      → (name_of new ≡ name_of old) × (edition_of new ≡ edition_of old) × (number_of new ≡ number_of old + 1)
  unfolding number8
  number8_inv u e =
      let s = both_hold (same (name_of new) (name_of old)) _ (pass_inv _ 8 1 0 u e) in
      let t = both_hold (eqb (edition_of new) (edition_of old)) _ s.1 in
      (same_sound (name_of new) (name_of old) s.0, eqb-true (edition_of new) (edition_of old) t.0, eqb-true (number_of new) (number_of old + 1) t.1)
      -- what the general record has passed, and what it is

  pub general_inv : (g : List Field) → general old new ≡ ok g → ((u : Unit {0}) × (number8 old new ≡ ok u)) × (merged old new ≡ g)
  unfolding general
  general_inv g e =
      let a = bind_inv (number8 old new) _ g e in
      let b = bind_inv (number12 (merged old new)) _ g a.2 in
      let z : merged old new ≡ g = ok_inj _ _ b.2 in
      ((a.0, a.1), z)

-- the merged record begins with the update's DSID
merged_front : (old : List Field) (f : Field) (fs : List Field) → front (merged old (f ∷ fs)) ≡ f.body
unfolding merged front
merged_front old f fs = refl

-- the result has the dataset's name and edition, and its update number plus one
pub raises : (d d' : Dataset) (u : Sent) (f : Field) (fs : List Field) → u.general ≡ f ∷ fs → updated d u ≡ done d'
    → (name_of d'.general ≡ name_of d.general) × (edition_of d'.general ≡ edition_of d.general) × (number_of d'.general ≡ number_of d.general + 1)
unfolding updated name_of edition_of number_of dsid_of front
raises d d' u f fs h e =
    let a = and_then_inv _ _ d' e in
    let b = and_then_inv (steps 3 u.records d.records) _ d' a.2 in
    let c = and_then_inv _ _ d' b.2 in
    let g = general_inv d.general u.general a.0 (at_inv 2 2 (general d.general u.general) a.0 a.1) in
    let n = number8_inv d.general u.general g.0.0 g.0.1 in
    let q : a.0 ≡ d'.general = ap (λ (x : Dataset). x.general) (done_inj _ d' c.2) in
    let p : front d'.general ≡ front u.general =
    ap front (sym q) ∙ ap front (sym g.1) ∙ ap (λ (w : List Field). front (merged d.general w)) h ∙ merged_front d.general f fs ∙ sym (ap front h) in
    (ap (λ b. text_at (values (head_of Dsid) b) 7) p ∙ n.0, ap (λ b. num_at (values (head_of Dsid) b) 8) p ∙ n.1, ap (λ b. num_at (values (head_of Dsid) b) 9) p ∙ n.2)
