-- The keys of a record's associations: numbers 7 and 11 as sentences about them. Assumes nothing.
use Prim.Native.Nat.{ℕ, ◌+◌}
use mathlib.Core.Path.{◌≡◌, refl, ap, ap₂, ◌∙◌}
use mathlib.Core.Bool.{true, false}
use mathlib.Core.List.{List, [], ◌∷◌, ◌++◌}
use lib.ListN.{take}
use lib.Dec.{eqb}
use borrow.Author.Tests.{eqb-true}
use Rattle.base.specs.Choice.{pick}
use Rattle.base.specs.Check.{pass}
use Rattle.base.specs.Lists.{each, gather, Each}
use Rattle.base.specs.Keys.{among}
use Rattle.base.proofs.ListLaws.{each_append}
use Rattle.base.proofs.CheckLaws.{refused}
use Rattle.skeleton.specs.File.{Field}
use Rattle.fields.specs.Table.{tuple_of}
use Rattle.fields.specs.Content.{many}
use Rattle.fields.specs.declared.Format.TheVariants.{Spas}
use Rattle.rules.specs.Tags.{INAS, SPAS}
use Rattle.rules.specs.ByTag.{with_tag, bodies}
use Rattle.rules.specs.Associations.{Mark, inas_key, spas_key, spas_keys, field_keys, field_marks, marks, keys_once, number11}
use Rattle.rules.proofs.MarkLaws.{mark_key, field_marked}
use Rattle.sequence.proofs.Tests.{by_bool}
use Rattle.sound.specs.Sound.{Apart}
use Rattle.sound.proofs.Keys.{Within, w_none, w_keep, w_skip, within_all, within_none, within_join}

-- ---- 7 and 11

-- 7 passes where the keys are apart
pub once_apart : (seen : List (List ℕ)) (ms : List Mark) → keys_once seen ms ≡ pass → Apart seen (each mark_key ms)
unfolding keys_once Apart each
once_apart seen [] e = tt
once_apart seen (m ∷ ms) e = by_bool (among m.key seen) (λ h. refused (rw h at e)) (λ h. (h, once_apart (m.key ∷ seen) ms (rw h at e)))

-- and there alone
pub apart_once : (seen : List (List ℕ)) (ms : List Mark) → Apart seen (each mark_key ms) → keys_once seen ms ≡ pass
unfolding keys_once Apart each
apart_once seen [] e = refl
apart_once seen (m ∷ ms) e = rw e.0 (apart_once (m.key ∷ seen) ms e.1)

-- the record that a key names has one of these keys
abbrev pub Stands : List (List ℕ) → List ℕ → Type 0
Stands keys k = among (take 2 k) keys ≡ true

-- 11 passes where every record that is named stands
pub eleven_each : (keys : List (List ℕ)) (ms : List Mark) → number11 keys ms ≡ pass → Each (Stands keys) (each mark_key ms)
unfolding number11 Each each
eleven_each keys [] e = tt
eleven_each keys (m ∷ ms) e = by_bool (among (take 2 m.key) keys) (λ h. (h, eleven_each keys ms (rw h at e))) (λ h. refused (rw h at e))

-- and there alone
pub each_eleven : (keys : List (List ℕ)) (ms : List Mark) → Each (Stands keys) (each mark_key ms) → number11 keys ms ≡ pass
unfolding number11 Each each
each_eleven keys [] e = refl
each_eleven keys (m ∷ ms) e = rw e.0 (each_eleven keys ms e.1)

-- ---- the keys of fields

-- the marks of a record have its keys
pub marks_keys : (i : ℕ) (fs : List Field) → each mark_key (marks i fs) ≡ gather field_keys fs
unfolding marks gather
marks_keys i [] = unfold each in refl
marks_keys i (f ∷ fs) = each_append mark_key (field_marks i f) (marks (i + 1) fs) ∙ ap₂ (λ (a b : List (List ℕ)). a ++ b) (field_marked i f) (marks_keys (i + 1) fs)

-- the keys of INAS fields are among them
pub within_inas : (fs : List Field) → Within (each inas_key (bodies INAS fs)) (gather field_keys fs)
unfolding bodies with_tag each gather field_keys spas_keys
within_inas [] = w_none
within_inas (f ∷ fs) =
    by_bool (eqb f.tag INAS)
    (λ h. rw h (w_keep (within_inas fs)))
    (λ h. rw h (within_join [] (pick (eqb f.tag SPAS) (each spas_key (many (tuple_of Spas) f.body)) []) (within_none _) (within_inas fs)))

-- a field with tag SPAS is no INAS
spas_only : (f : Field) → eqb f.tag SPAS ≡ true → eqb f.tag INAS ≡ false
spas_only f h = ap (λ (u : ℕ). eqb u INAS) (eqb-true f.tag SPAS h)

-- so are those of SPAS fields
pub within_spas : (fs : List Field) → Within (gather (λ b. each spas_key (many (tuple_of Spas) b)) (bodies SPAS fs)) (gather field_keys fs)
unfolding bodies with_tag each gather field_keys spas_keys
within_spas [] = w_none
within_spas (f ∷ fs) =
    by_bool (eqb f.tag SPAS)
    (λ h. let l = each spas_key (many (tuple_of Spas) f.body) in rw (spas_only f h, h) (within_join l l (within_all l) (within_spas fs)))
    (λ h. rw h (within_join [] (pick (eqb f.tag INAS) (inas_key f.body ∷ []) []) (within_none _) (within_spas fs)))

-- what each key has, each key of a part has
pub each_within : (P : List ℕ → Type 0) {a b : List (List ℕ)} → Within a b → Each P b → Each P a
unfolding Each
each_within P w_none e = tt
each_within P (w_keep w) e = (e.0, each_within P w e.1)
each_within P (w_skip w) e = each_within P w e.1
