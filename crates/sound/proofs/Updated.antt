-- An accepted update, read from bytes, of a sound dataset gives a sound dataset. Assumes nothing.
use Prim.Native.Nat.{ℕ, ◌+◌, ◌<◌}
use mathlib.Core.Path.{◌≡◌, sym, ◌∙◌, subst}
use mathlib.Core.List.{List, [], ◌∷◌, ◌++◌}
use native.Mathlib.Omega.{arith}
use borrow.Author.Tests.{ne_eqb}
use lib.ListN.{length}
use Rattle.base.specs.Check.{ok, bind, pass, passed}
use Rattle.base.specs.Lists.{each, Each}
use Rattle.base.specs.Walk.{Got}
use Rattle.base.proofs.CheckLaws.{bind_inv, passed_inv}
use Rattle.base.proofs.EachLaws.{each_map, each_zip, each_parts}
use Rattle.skeleton.specs.File.{Field}
use Rattle.fields.specs.Valid.{Bytes}
use Rattle.rules.specs.Associations.{marks, number11}
use Rattle.rules.specs.Record.{Rec, key_of, update_record}
use Rattle.rules.specs.General.{merged}
use Rattle.rules.specs.Modify.{assoc_key, spatial_key}
use Rattle.rules.specs.Written.{Dataset, written_fields}
use Rattle.rules.specs.Outcome.{done, at}
use Rattle.rules.specs.File.{update_test, through, references, Sent, sent_as, read_update}
use Rattle.rules.specs.Update.{updated}
use Rattle.rules.proofs.OutcomeLaws.{and_then_inv, at_inv}
use Rattle.rules.proofs.Follows.{general_inv}
use Rattle.rules.proofs.MarkLaws.{mark_key}
use Rattle.updates.proofs.Read.{is_sent_lem, general_sent}
use Rattle.updates.proofs.Results.{steps_sorted}
use Rattle.updates.proofs.Accepted.{parted}
use Rattle.updates.proofs.Kept.{steps_each, every_inv, each_of}
use Rattle.sound.specs.Sound.{SoundRec, Named, Carried, Sound}
use Rattle.sound.proofs.Marks.{Stands, eleven_each, marks_keys}
use Rattle.sound.proofs.Changed.{Sendable, changed_sound}
use Rattle.sound.proofs.FileBytes.{Bodies, file_carried}
use Rattle.sound.proofs.General.{merged_stands, merged_carried}
use Rattle.sound.proofs.WrittenKeys.{written_keys}

-- ---- the records of an update

-- the test of a record behind the second
test_later : (n : ℕ) (seen : List Rec) (fs : List Field) → 2 < n → update_test n seen fs ≡ bind (passed (update_record fs)) (λ _. ok [])
unfolding update_test
test_later n seen fs l = rw (ne_eqb n 1 (λ z. omega arith), ne_eqb n 2 (λ z. omega arith))

-- those behind the second
records_sendable : (n : ℕ) (seen : List Rec) (items : List (List Field)) (recs : List Rec) → 2 < n → Each Bodies items → through update_test 2 n seen items ≡ done recs → Each Sendable items
unfolding through Each
records_sendable n seen [] recs l g e = tt
records_sendable n seen (fs ∷ rest) recs l g e =
    let (new, a, b) = and_then_inv (at 2 n (update_test n seen fs)) _ recs e in
    let (later, c, d) = and_then_inv (through update_test 2 (n + 1) (new ++ seen) rest) _ recs b in
    let t : update_test n seen fs ≡ ok new = at_inv 2 n (update_test n seen fs) new a in
    let (u, x, y) = bind_inv (passed (update_record fs)) (λ _. ok []) new (sym (test_later n seen fs l) ∙ t) in
    let (k, z) = passed_inv (update_record fs) x in
    (record { bytes = g.0; kind = k; tested = z }, records_sendable (n + 1) (new ++ seen) rest later (omega arith) g.1 c)

-- an update's general record can be carried, and its records can be sent
sent_as_lem : (items : List (List Field)) (recs : List Rec) → 2 < 1 + length items → Each Carried items → through update_test 2 1 [] items ≡ done recs
    → Carried (sent_as items).general × Each Sendable (sent_as items).records
unfolding through Each
sent_as_lem [] recs l c e = absurd (omega arith)
sent_as_lem (x ∷ []) recs l c e = absurd (omega arith)
sent_as_lem (x ∷ y ∷ rest) recs l c e =
    let (one, a, b) = and_then_inv (at 2 1 (update_test 1 [] x)) _ recs e in
    let (later, d, f) = and_then_inv (through update_test 2 2 (one ++ []) (y ∷ rest)) _ recs b in
    let (two, g, h) = and_then_inv (at 2 2 (update_test 2 (one ++ []) y)) _ later d in
    let (more, i, j) = and_then_inv (through update_test 2 3 (two ++ (one ++ [])) rest) _ later h in
    (c.1.0, records_sendable 3 (two ++ (one ++ [])) rest more (omega arith) (each_map rest (λ fs r. r.bodies) c.1.1) i)

-- of an update that is read from bytes
pub sent_sound : (g : List ℕ) (u : Sent) → Bytes g → read_update g ≡ done u → Carried u.general × Each Sendable u.records
sent_sound g u b e =
    let s = is_sent_lem g u e in
    let c : Each Carried s.items = subst (λ (w : Got (List Field)). Each Carried w.items) s.walked (file_carried g b) in
    subst (λ (w : Sent). Carried w.general × Each Sendable w.records) (sym s.said) (sent_as_lem s.items [] s.enough c s.tested)

-- ---- references

-- the keys of a sound record's associations, of whom each has P
named_keys : (P : List ℕ → Type 0) (r : Rec) → SoundRec r → Each P (each mark_key (marks 1 (written_fields r)))
    → Each P (each assoc_key r.parts.associations) × Each P (each spatial_key r.parts.spatial)
named_keys P r s e = each_parts P (each assoc_key r.parts.associations) (each spatial_key r.parts.spatial) (rw (marks_keys 1 (written_fields r) ∙ written_keys r s) at e)

-- what the written fields name stands
written_named : (keys : List (List ℕ)) (r : Rec) → SoundRec r → number11 keys (marks 1 (written_fields r)) ≡ pass → Named keys r
written_named keys r s e =
    let (a, b) = named_keys (Stands keys) r s (eleven_each keys (marks 1 (written_fields r)) e) in
    record { associations = each_of (Stands keys) assoc_key r.parts.associations a; spatial = each_of (Stands keys) spatial_key r.parts.spatial b }

-- ---- the result

-- an accepted update keeps a dataset sound
pub updated_sound : (g : List ℕ) (d : Dataset) (u : Sent) (r : Dataset) → Bytes g → Sound d → read_update g ≡ done u → updated d u ≡ done r → Sound r
unfolding references
updated_sound g d u r b s x e =
    let p = parted d u r e in
    let (c, w) = sent_sound g u b x in
    let m : merged d.general u.general ≡ r.general = (general_inv d.general u.general r.general p.general).1 in
    let rs : Each SoundRec r.records = steps_each SoundRec Sendable changed_sound 3 u.records d.records r.records w s.records p.stepped in
    let keys = each key_of r.records in
    let named : Each (λ q. number11 keys (marks 1 (written_fields q)) ≡ pass) r.records =
    each_of (λ fs. number11 keys (marks 1 fs) ≡ pass) written_fields r.records (every_inv (λ fs. number11 keys (marks 1 fs)) 3 4 (each written_fields r.records) p.referred) in
    record {
      descriptive = subst Carried (sym p.descriptive) s.descriptive;
      general = subst Carried m (merged_carried d.general u.general s.general c);
      general_stands = rw m at (merged_stands d.general u.general s.general_stands (general_sent g u x));
      systems = subst Carried (sym p.systems) s.systems;
      systems_first = rw p.systems s.systems_first;
      records = rs;
      sorted = steps_sorted 3 u.records d.records s.sorted r.records p.stepped;
      named = each_zip r.records (λ q a h. written_named keys q a h) rs named;
    }
