-- What update records that are right on their own do with a key, as code finds it. Assumes nothing.
use Prim.Native.Nat.{ℕ}
use mathlib.Core.Path.{◌≡◌, refl, sym, ap, subst, ◌∙◌}
use mathlib.Core.Bool.{Bool, true, false, not}
use mathlib.Core.Option.{Option, some}
use mathlib.Core.List.{List, [], ◌∷◌}
use native.Mathlib.Omega.{arith}
use borrow.Author.Tests.{eqb-true}
use lib.Dec.{eqb}
use Rattle.base.specs.Choice.{pick}
use Rattle.base.specs.Check.{ok, bind}
use Rattle.base.specs.Keys.{same}
use Rattle.base.specs.Lists.{each, Each}
use Rattle.base.proofs.CheckLaws.{bind_inv, ok_inj}
use Rattle.base.proofs.ChoiceLaws.{neither, both_true}
use Rattle.skeleton.specs.File.{Field}
use Rattle.rules.specs.ByTag.{first_tag, front}
use Rattle.rules.specs.Kind.{kind_of, tag_of}
use Rattle.rules.specs.Grammar.{ruin_byte, number4}
use Rattle.rules.specs.Content.{number5}
use Rattle.rules.specs.Trees.{number6}
use Rattle.rules.specs.Associations.{number7}
use Rattle.rules.specs.Record.{ident_of, key_named, update_record}
use Rattle.rules.specs.declared.Kind.{Kind}
use Rattle.rules.specs.declared.Mode.TheVariants.{InUpdate}
use Rattle.rules.proofs.KindLaws.{kind_of_tag}
use Rattle.contents.specs.Fit.{identified}
use Rattle.contents.proofs.ReaderLaws.{five_identified}
use Rattle.contents.proofs.SevenLaws.{four_first}
use Rattle.contents.proofs.SpatialLaws.{eqb_swap}
use Rattle.sequence.specs.Order.{is_delete, deleted}
use Rattle.sequence.proofs.Tests.{by_bool, both_no}
use Rattle.updates.specs.Acts.{kind_in, named_by, act_of, done_by, chart}
use Rattle.sound.proofs.Records.{ruin_byte_lem}
use Rattle.sound.proofs.Changed.{Sendable}
use Rattle.keys.specs.Listed.{key_of, listed}
use Rattle.keys.specs.Numbered.{number_of, Ranged}
use Rattle.keys.proofs.IdentLaws.{Keyed, keyed_by}
use Rattle.keys.proofs.NumberLaws.{same_number}
use Rattle.keys.proofs.KeyLaws.{kind_ranked_lem}
use Rattle.keys.specs.Key.{kind_ranked}
use Rattle.composing.specs.Acts.{ruin_with, fate_of, deleted_of, Known}
use Rattle.composing.specs.Fate.{fate}

-- ---- one update record

-- 4 and 5 of a record of an update
passed_two : (fs : List Field) (k : Kind) → update_record fs ≡ ok k → (number4 InUpdate 0 fs ≡ ok k) × (u : Unit {0}) × (number5 InUpdate k fs ≡ ok u)
unfolding update_record
passed_two fs k e =
    let (j, a, b) = bind_inv (number4 InUpdate 0 fs) _ k e in
    let (u, c, d) = bind_inv (number5 InUpdate j fs) _ k b in
    let (v, x, y) = bind_inv (number6 InUpdate j fs) _ k d in
    let z : j ≡ k = go j (eqb (ruin_byte j (front fs)) 1) y in
    (subst (λ (i : Kind). number4 InUpdate 0 fs ≡ ok i) z a, u, subst (λ (i : Kind). number5 InUpdate i fs ≡ ok u) z c)
  where
    go : (j : Kind) (t : Bool) → pick t (bind (number7 fs) (λ _. ok j)) (ok j) ≡ ok k → j ≡ k
    go j true x = ok_inj j k (bind_inv (number7 fs) (λ _. ok j) k x).2
    go j false x = ok_inj j k x

module _ (k : Kind) (f : Field) (fs : List Field) (tag : first_tag (f ∷ fs) ≡ tag_of k) (u : Unit {0}) (five : number5 InUpdate k (f ∷ fs) ≡ ok u) where
  keyed : Keyed k (f ∷ fs)
  keyed = keyed_by InUpdate k f fs u five

  kind_first : kind_in (f ∷ fs) ≡ some k
  kind_first = ap kind_of tag ∙ kind_of_tag k

  ruin_first : ruin_with (key_of (f ∷ fs)) (f ∷ fs) ≡ (ident_of k (front (f ∷ fs))).ruin
  unfolding ruin_with front
  ruin_first =
      ap (λ (j : Kind). ruin_byte j f.body) (ap kind_ranked keyed.kind ∙ kind_ranked_lem k)
      ∙ ruin_byte_lem k f.body (unfold identified in five_identified InUpdate k f fs u five)

  known_first : Known (f ∷ fs)
  unfolding named_by done_by
  known_first =
      record {
        names = λ j r.
            ap (λ (o : Option Kind). same (named_by o (f ∷ fs)) j) kind_first
            ∙ same_number (key_named k (f ∷ fs)) j keyed.ranged r
            ∙ eqb_swap (number_of j) (number_of (key_named k (f ∷ fs)))
            ∙ ap (λ (n : ℕ). eqb n (number_of j)) (sym keyed.number);
        act = ap (λ (o : Option Kind). done_by o (f ∷ fs)) kind_first ∙ ap act_of (sym ruin_first);
      }

-- no fields are no record
no_fields : (k : Kind) → number4 InUpdate 0 [] ≡ ok k → ⊥
unfolding number4
no_fields k e = let z : ◌≡◌ {A = ℕ} 0 1 = cc in omega arith

-- a record of an update that is right on its own
pub known_right : (fs : List Field) (k : Kind) → update_record fs ≡ ok k → Known fs
known_right [] k e = absurd (no_fields k (passed_two [] k e).0)
known_right (f ∷ fs) k e = let w = passed_two (f ∷ fs) k e in known_first k f fs (four_first InUpdate 0 (f ∷ fs) k w.0) w.1 w.2

-- ---- all of them

-- those of an update that was read from bytes
pub known_all : (us : List (List Field)) → Each Sendable us → Each Known us
unfolding Each
known_all [] s = tt
known_all (fs ∷ us) s = (known_right fs s.0.kind s.0.tested, known_all us s.1)

-- a delete by RUIN
delete_two : (n : ℕ) → is_delete (act_of n) ≡ eqb n 2
unfolding is_delete act_of
delete_two n =
    by_bool (eqb n 1)
    (λ h. let z = eqb-true n 1 h in rw z)
    (λ h. by_bool (eqb n 2) (λ g. rw (h, g)) (λ g. rw (h, g)))

module _ (key : ℕ) (k : List ℕ) (r : Ranged k) (e : number_of k ≡ key) where
  -- whether one names the key
  names_key : (fs : List Field) → Known fs → same (chart.names fs) k ≡ eqb (key_of fs) key
  names_key fs n = n.names k r ∙ ap (eqb (key_of fs)) e

  -- one that names it deletes it
  deletes_key : (fs : List Field) → Known fs → eqb (key_of fs) key ≡ true → is_delete (chart.act fs) ≡ eqb (ruin_with key fs) 2
  deletes_key fs n h = ap is_delete n.act ∙ delete_two (ruin_with (key_of fs) fs) ∙ ap (λ (j : ℕ). eqb (ruin_with j fs) 2) (eqb-true (key_of fs) key h)

  pub fate_known : (us : List (List Field)) → Each Known us → (b : Bool) → fate chart k us b ≡ fate_of key us b
  unfolding fate fate_of Each
  fate_known [] n b = refl
  fate_known (fs ∷ us) n b =
      by_bool (eqb (key_of fs) key)
      (λ h. rw (names_key fs n.0, h, deletes_key fs n.0 h) (fate_known us n.1 (not (eqb (ruin_with key fs) 2))))
      (λ h. rw (names_key fs n.0, h) (fate_known us n.1 b))

  pub deleted_known : (us : List (List Field)) → Each Known us → deleted chart k us ≡ deleted_of key us
  unfolding deleted deleted_of Each
  deleted_known [] n = refl
  deleted_known (fs ∷ us) n =
      by_bool (eqb (key_of fs) key)
      (λ h. rw (names_key fs n.0, h, deletes_key fs n.0 h, both_true (eqb (ruin_with key fs) 2), deleted_known us n.1))
      (λ h. rw (names_key fs n.0, h, both_no (is_delete (chart.act fs)) false refl, deleted_known us n.1))

-- a key that none of them names
pub fate_unlisted : (key : ℕ) (us : List (List Field)) (b : Bool) → listed key (each key_of us) ≡ false → fate_of key us b ≡ b
unfolding fate_of listed each
fate_unlisted key [] b e = refl
fate_unlisted key (fs ∷ us) b e = let (h, g) = neither (eqb (key_of fs) key) (listed key (each key_of us)) e in rw h (fate_unlisted key us b g)
