-- Number 11 of a record of the result, by the keys of its associations in any order. Assumes nothing.
use Prim.Native.Nat.{ℕ}
use mathlib.Core.Path.{◌≡◌, refl, sym, ap, ap₂, ◌∙◌}
use mathlib.Core.Bool.{Bool, true, false, true≢false}
use mathlib.Core.List.{List, [], ◌∷◌, ◌++◌}
use lib.ListN.{take}
use lib.Dec.{eqb}
use borrow.Author.Tests.{eqb-true}
use Rattle.base.specs.Choice.{both}
use Rattle.base.specs.Check.{no, fault, pass}
use Rattle.base.specs.Lists.{each, gather}
use Rattle.base.specs.declared.Fault.{Fault}
use Rattle.base.proofs.ListLaws.{each_each, each_gather}
use Rattle.skeleton.specs.File.{Field}
use Rattle.fields.specs.Table.{tuple_of}
use Rattle.fields.specs.Content.{many}
use Rattle.fields.specs.declared.Format.TheVariants.{Spas}
use Rattle.rules.specs.Tags.{INAS, SPAS}
use Rattle.rules.specs.ByTag.{with_tag, bodies}
use Rattle.rules.specs.Associations.{Mark, inas_key, spas_key, spas_keys, marks, field_keys}
use Rattle.rules.specs.Record.{Rec, assoc_of, spatial_of, parts_of, rec_of}
use Rattle.rules.specs.Modify.{assoc_key, spatial_key}
use Rattle.rules.specs.Written.{written_fields}
use Rattle.rules.specs.declared.Kind.{Kind}
use Rattle.rules.proofs.MarkLaws.{mark_key}
use Rattle.sequence.proofs.Tests.{by_bool}
use Rattle.updates.specs.Streamed.{refers_to}
use Rattle.sound.specs.Sound.{SoundRec}
use Rattle.sound.proofs.Marks.{marks_keys}
use Rattle.sound.proofs.WrittenKeys.{written_keys}
use Rattle.cells.specs.Cells.{bodies_of, spatial_in}
use Rattle.cells.proofs.SpasLaws.{tuple_key}
use Rattle.version.specs.Areas.{inas_area, spas_area}
use Rattle.version.specs.Held.{Held}
use Rattle.version.specs.declared.Version.{Version}
use Rattle.composing.specs.Linked.{all_stand, linked}

-- ---- tests in any order

both_assoc : (a b c : Bool) → both (both a b) c ≡ both a (both b c)
both_assoc true b c = refl
both_assoc false b c = refl

both_swap : (a b c : Bool) → both a (both b c) ≡ both b (both a c)
both_swap true b c = refl
both_swap false true c = refl
both_swap false false c = refl

module _ (stands : List ℕ → Bool) where
  -- of two parts
  pub stand_join : (a b : List (List ℕ)) → all_stand stands (a ++ b) ≡ both (all_stand stands a) (all_stand stands b)
  unfolding all_stand
  stand_join [] b = refl
  stand_join (k ∷ a) b =
      ap (both (stands (take 2 k))) (stand_join a b) ∙ sym (both_assoc (stands (take 2 k)) (all_stand stands a) (all_stand stands b))

  -- ---- number 11

  -- it passes where each of them stands
  refers_pass : (ms : List Mark) → all_stand stands (each mark_key ms) ≡ true → refers_to stands ms ≡ pass
  unfolding refers_to all_stand each
  refers_pass [] e = refl
  refers_pass (m ∷ ms) e =
      by_bool (stands (take 2 m.key))
      (λ h. rw h (refers_pass ms (rw h at e)))
      (λ h. absurd (true≢false (sym (rw h at e))))

  -- else it is 11
  refers_no : (ms : List Mark) → all_stand stands (each mark_key ms) ≡ false → (x : Fault) × (x.number ≡ 11) × (refers_to stands ms ≡ no x)
  unfolding refers_to all_stand each
  refers_no [] e = absurd (true≢false e)
  refers_no (m ∷ ms) e =
      by_bool (stands (take 2 m.key))
      (λ h. let (x, y, z) = refers_no ms (rw h at e) in (x, y, rw h z))
      (λ h. (fault 11 m.field m.tuple, refl, rw h))

  -- of a record as it is written
  written_linked : (r : Rec) → SoundRec r → all_stand stands (each mark_key (marks 1 (written_fields r))) ≡ linked stands r
  unfolding linked
  written_linked r s =
      ap (all_stand stands) (marks_keys 1 (written_fields r) ∙ written_keys r s)
      ∙ stand_join (each assoc_key r.parts.associations) (each spatial_key r.parts.spatial)

  pub linked_pass : (r : Rec) → SoundRec r → linked stands r ≡ true → refers_to stands (marks 1 (written_fields r)) ≡ pass
  linked_pass r s e = refers_pass (marks 1 (written_fields r)) (written_linked r s ∙ e)

  pub linked_no : (r : Rec) → SoundRec r → linked stands r ≡ false → (x : Fault) × (x.number ≡ 11) × (refers_to stands (marks 1 (written_fields r)) ≡ no x)
  linked_no r s e = refers_no (marks 1 (written_fields r)) (written_linked r s ∙ e)

  -- ---- of fields

  -- INAS and SPAS apart
  pub stand_apart : (fs : List Field) → all_stand stands (gather field_keys fs) ≡ both (all_stand stands (each inas_key (bodies INAS fs))) (all_stand stands (gather spas_keys (bodies SPAS fs)))
  unfolding all_stand gather field_keys bodies with_tag each
  stand_apart [] = refl
  stand_apart (f ∷ fs) =
      let here = spas_keys f.body in
      let i = all_stand stands (each inas_key (bodies INAS fs)) in
      let s = all_stand stands (gather spas_keys (bodies SPAS fs)) in
      by_bool (eqb f.tag INAS)
      (λ h. let g : eqb f.tag SPAS ≡ false = ap (λ (t : ℕ). eqb t SPAS) (eqb-true f.tag INAS h) in
      rw (h, g) (ap (both (stands (take 2 (inas_key f.body)))) (stand_apart fs) ∙ sym (both_assoc (stands (take 2 (inas_key f.body))) i s)))
      (λ h. by_bool (eqb f.tag SPAS)
      (λ g. rw (h, g)
      (stand_join here (gather field_keys fs) ∙ ap (both (all_stand stands here)) (stand_apart fs) ∙ both_swap (all_stand stands here) i s
      ∙ ap (both i) (sym (stand_join here (gather spas_keys (bodies SPAS fs))))))
      (λ g. rw (h, g) (stand_apart fs)))

  -- of a record by its fields
  pub fields_linked : (k : Kind) (fs : List Field) → linked stands (rec_of k fs) ≡ all_stand stands (gather field_keys fs)
  unfolding linked rec_of parts_of
  fields_linked k fs =
      let a : each assoc_key (each assoc_of (bodies INAS fs)) ≡ each inas_key (bodies INAS fs) = each_each assoc_key assoc_of (bodies INAS fs) ∙ (unfold assoc_of in refl) in
      let b : each spatial_key (each spatial_of (gather (many (tuple_of Spas)) (bodies SPAS fs))) ≡ gather spas_keys (bodies SPAS fs)
      = each_each spatial_key spatial_of (gather (many (tuple_of Spas)) (bodies SPAS fs)) ∙ (unfold spatial_of spas_keys in each_gather spas_key (many (tuple_of Spas)) (bodies SPAS fs)) in
      ap₂ (λ (x y : List (List ℕ)). both (all_stand stands x) (all_stand stands y)) a b ∙ sym (stand_apart fs)

  -- ---- of a record that the workspace holds

  pub held_linked : (d u w : List ℕ) (v : Version) (r : Rec) → Held d u w v r
      → linked stands r ≡ both (all_stand stands (each inas_key (bodies_of d u (inas_area w) v.inas))) (all_stand stands (each tuple_key (bodies_of d u (spas_area w) v.spas)))
  unfolding linked
  held_linked d u w v r h =
      let i = bodies_of d u (inas_area w) v.inas in
      let s = bodies_of d u (spas_area w) v.spas in
      let a : each assoc_key r.parts.associations ≡ each inas_key i = ap (each assoc_key) h.parts.associations ∙ each_each assoc_key assoc_of i ∙ (unfold assoc_of in refl) in
      let b : each spatial_key r.parts.spatial ≡ each tuple_key s = ap (each spatial_key) h.parts.spatial ∙ each_each spatial_key spatial_in s in
      ap₂ (λ (x y : List (List ℕ)). both (all_stand stands x) (all_stand stands y)) a b
