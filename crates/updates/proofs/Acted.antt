-- What an accepted update record does: an insert brings a record with RVER 1 where there was none, a delete takes the one that was there, a modify
-- changes it, each under the key that it names and with RVER one more than the old one. Assumes nothing.
use Prim.Native.Nat.{◌+◌}
use mathlib.Core.Path.{◌≡◌, refl}
use mathlib.Core.Bool.{false}
use mathlib.Core.Option.{Option, some, none}
use mathlib.Core.List.{List}
use borrow.Author.Tests.{eqb-true}
use lib.Dec.{eqb}
use Rattle.base.specs.Check.{ok, pass}
use Rattle.base.proofs.ChoiceLaws.{both_hold}
use Rattle.base.proofs.CheckLaws.{bind_inv, pass_inv, ok_inj, refused}
use Rattle.skeleton.specs.File.{Field}
use Rattle.rules.specs.ByTag.{front}
use Rattle.rules.specs.Coordinates.{sent}
use Rattle.rules.specs.Record.{Ident, ident_of, Parts, Rec, key_named, key_of, rec_of}
use Rattle.rules.specs.Written.{written_fields, number12}
use Rattle.rules.specs.Modify.{act_fields}
use Rattle.rules.specs.Change.{follows, same_foid, fitting, revised, inserted, deleted, modified, change}
use Rattle.rules.specs.declared.Kind.{Kind}
use Rattle.sequence.specs.Keyed.{Under, Goes, brings, takes, alters, Laws}
use Rattle.sequence.proofs.Tests.{by_bool}
use Rattle.updates.specs.Accepted.{rver_of}
use Rattle.updates.specs.Acts.{kind_in, named_by, act_of, done_by, changed_by, chart}

-- the identifier of an update record of kind k
abbrev pub ident : Kind → List Field → Ident
ident k fs = ident_of k (front fs)

-- what an accepted update record of kind k made of a version
pub data Acted (k : Kind) (fs : List Field) : Option Rec → Option Rec → Type 0 where
  acted_insert : (ident k fs).ruin ≡ 1 → (ident k fs).rver ≡ 1 → number12 (written_fields (rec_of k fs)) ≡ pass → Acted k fs none (some (rec_of k fs))
  acted_delete : {old : Rec} → (ident k fs).ruin ≡ 2 → follows (ident k fs) old ≡ pass → Acted k fs (some old) none
  acted_modify : {old : Rec} {p : Parts} → eqb (ident k fs).ruin 1 ≡ false → eqb (ident k fs).ruin 2 ≡ false → follows (ident k fs) old ≡ pass
      → same_foid 1 fs old ≡ pass → act_fields (sent fs) 1 fs old.parts ≡ ok p → number12 (written_fields (revised (ident k fs).rver p old)) ≡ pass
      → Acted k fs (some old) (some (revised (ident k fs).rver p old))

-- a record that can be written
fitting_inv : (r : Rec) (p : Option Rec) → fitting r ≡ ok p → (number12 (written_fields r) ≡ pass) × (some r ≡ p)
unfolding fitting
fitting_inv r p e =
    let (t, x, y) = bind_inv (number12 (written_fields r)) (λ _. ok (some r)) p e in
    (x, ok_inj (some r) p y)

module _ (k : Kind) (fs : List Field) where
  -- an insert
  by_insert : (o p : Option Rec) → (ident k fs).ruin ≡ 1 → inserted k fs o ≡ ok p → Acted k fs o p
  unfolding inserted
  by_insert (some r) p i e = refused e
  by_insert none p i e =
      by_bool (eqb (ident k fs).rver 1)
      (λ h. let (w, z) = fitting_inv (rec_of k fs) p (rw h at e) in
      rw (← z) (acted_insert i (eqb-true (ident k fs).rver 1 h) w))
      (λ h. refused (rw h at e))

  -- a delete
  by_delete : (o p : Option Rec) → (ident k fs).ruin ≡ 2 → deleted k fs o ≡ ok p → Acted k fs o p
  unfolding deleted
  by_delete none p i e = refused e
  by_delete (some r) p i e =
      let (t, x, y) = bind_inv (follows (ident k fs) r) (λ _. ok none) p e in
      rw (← ok_inj none p y) (acted_delete i x)

  -- a modify
  by_modify : (o p : Option Rec) → eqb (ident k fs).ruin 1 ≡ false → eqb (ident k fs).ruin 2 ≡ false → modified k fs o ≡ ok p → Acted k fs o p
  unfolding modified
  by_modify none p i j e = refused e
  by_modify (some r) p i j e =
      let (t, x, y) = bind_inv (follows (ident k fs) r) _ p e in
      let (s, v, w) = bind_inv (same_foid 1 fs r) _ p y in
      let (q, a, b) = bind_inv (act_fields (sent fs) 1 fs r.parts) _ p w in
      let (c, z) = fitting_inv (revised (ident k fs).rver q r) p b in
      rw (← z) (acted_modify i j x v a c)

  -- any of them
  pub acted : (o p : Option Rec) → change k fs o ≡ ok p → Acted k fs o p
  unfolding change
  acted o p e =
      by_bool (eqb (ident k fs).ruin 1)
      (λ h. by_insert o p (eqb-true (ident k fs).ruin 1 h) (rw h at e))
      (λ h. by_bool (eqb (ident k fs).ruin 2)
      (λ g. by_delete o p (eqb-true (ident k fs).ruin 2 g) (rw (h, g) at e))
      (λ g. by_modify o p h g (rw (h, g) at e)))

  -- RVER and code follow the old ones
  follows_inv : (old : Rec) → follows (ident k fs) old ≡ pass → ((ident k fs).rver ≡ old.rver + 1) × ((ident k fs).code ≡ old.code)
  unfolding follows
  follows_inv old e =
      let s = both_hold (eqb (ident k fs).rver (old.rver + 1)) _ (pass_inv _ 10 1 0 tt e) in
      (eqb-true (ident k fs).rver (old.rver + 1) s.0, eqb-true (ident k fs).code old.code s.1)

  -- each accepted update record has an RVER one more than the version that it found
  pub acted_rver : (o p : Option Rec) → Acted k fs o p → (ident k fs).rver ≡ rver_of o + 1
  unfolding rver_of
  acted_rver none (some s) (acted_insert i v w) = v
  acted_rver (some r) none (acted_delete i f) = (follows_inv r f).0
  acted_rver (some r) (some s) (acted_modify i j f g a w) = (follows_inv r f).0
  acted_rver none none x'' = elim x'' [ ]

  -- and the record that it leaves has that RVER
  pub acted_new : (o : Option Rec) (s : Rec) → Acted k fs o (some s) → s.rver ≡ rver_of o + 1
  unfolding rver_of rec_of revised
  acted_new none s (acted_insert i v w) = v
  acted_new (some r) s (acted_modify i j f g a w) = (follows_inv r f).0

  -- it does what its instruction says, under the key that it names
  acted_goes : (o p : Option Rec) → Under chart (key_named k fs) o → Acted k fs o p → Goes chart (key_named k fs) (done_by (some k) fs) o p
  unfolding done_by act_of key_named key_of rec_of revised
  acted_goes none (some s) u (acted_insert i v w) = rw i (brings refl)
  acted_goes (some r) none u (acted_delete i f) = rw i takes
  acted_goes (some r) (some s) u (acted_modify i j f g a w) = rw (i, j) (alters u)
  acted_goes none none u x4 = elim x4 [ ]

-- the law of the run
pub lawful : Laws chart
unfolding changed_by
lawful = record { goes = λ fs o p u e. go fs (kind_in fs) o p u e }
  where
    go : (fs : List Field) (m : Option Kind) (o p : Option Rec) → Under chart (named_by m fs) o → changed_by m fs o ≡ ok p → Goes chart (named_by m fs) (done_by m fs) o p
    go fs none o p u e = unfold changed_by in refused e
    go fs (some k) o p u e = unfold named_by changed_by in acted_goes k fs o p u (acted k fs o p e)
