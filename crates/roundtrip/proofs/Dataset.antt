-- The round trip: a sound dataset each record of which can be written is read again from its written form, the same. Assumes nothing.
use Prim.Native.Nat.{ℕ, ◌+◌, ◌≤◌, ◌<◌}
use mathlib.Core.Path.{◌≡◌, refl, sym, ap, ◌∙◌}
use mathlib.Core.Bool.{true, false, true≢false}
use mathlib.Core.Option.{none}
use mathlib.Core.List.{List, [], ◌∷◌}
use native.Mathlib.Omega.{arith}
use borrow.Author.Tests.{lt-leb}
use lib.ListN.{length}
use Rattle.base.specs.Check.{Check, ok, bind, pass}
use Rattle.base.specs.Lists.{each, Each}
use Rattle.base.specs.Keys.{same, among}
use Rattle.base.proofs.KeysLaws.{same_sound, same_refl}
use Rattle.base.proofs.OptionLaws.{never}
use Rattle.base.proofs.EachLaws.{each_zip, each_join}
use Rattle.skeleton.specs.File.{Field, records_of}
use Rattle.skeleton.specs.Writable.{TagFits, TagsFit, Widths, Writable, AllWritable}
use Rattle.skeleton.proofs.EmitFileLaws.{writable as writable_fields, file_back}
use Rattle.rules.specs.Tags.{FOID, ATTR, SPAS}
use Rattle.rules.specs.Kind.{tag_of, rank}
use Rattle.rules.specs.Associations.{marks, number11}
use Rattle.rules.specs.Record.{Rec, Assoc, key_of}
use Rattle.rules.specs.Written.{Dataset, list_field, assoc_field, coord_tag, part_fields, written_fields, number12, written, written_bytes}
use Rattle.rules.specs.Outcome.{done, and_then, at, every_record}
use Rattle.rules.specs.File.{last_rank, dataset_test, through, ending, taken, dataset_of, references, read_dataset, writable}
use Rattle.rules.specs.declared.Kind.{Kind}
use Rattle.rules.specs.declared.Kind.TheVariants.{Info, Point, Multi, Feature}
use Rattle.rules.proofs.OutcomeLaws.{and_then_inv, done_inj}
use Rattle.rules.proofs.FileLaws.{test_later}
use Rattle.sequence.specs.Keyed.{Ordered, Once, find}
use Rattle.sequence.proofs.Tests.{by_bool}
use Rattle.updates.specs.Acts.{chart}
use Rattle.updates.proofs.Steps.{placed}
use Rattle.updates.proofs.Kept.{every_done, every_inv, each_of, of_each}
use Rattle.sound.specs.Sound.{SoundRec, Sound}
use Rattle.sound.proofs.General.{each_fits}
use Rattle.roundtrip.proofs.Room.{short}
use Rattle.roundtrip.proofs.Record.{eleven_passes, record_reads}

-- ---- tags

-- those of identifiers and coordinates
ident_fits : (k : Kind) → TagFits (tag_of k) × TagFits (coord_tag k)
unfolding tag_of coord_tag
ident_fits Info = ((omega arith, λ z. omega arith), (omega arith, λ z. omega arith))
ident_fits Point = ((omega arith, λ z. omega arith), (omega arith, λ z. omega arith))
ident_fits Multi = ((omega arith, λ z. omega arith), (omega arith, λ z. omega arith))
ident_fits Feature = ((omega arith, λ z. omega arith), (omega arith, λ z. omega arith))

-- a field whose tag fits
abbrev Fits : Field → Type 0
Fits f = TagFits f.tag

-- a list
list_fits : (t : ℕ) (b : List ℕ) → TagFits t → Each Fits (list_field t b)
unfolding list_field Each
list_fits t [] f = tt
list_fits t (x ∷ b) f = (f, tt)

-- associations
assoc_fits : (l : List Assoc) → Each Fits (each assoc_field l)
unfolding each Each assoc_field
assoc_fits [] = tt
assoc_fits (a ∷ l) = ((omega arith, λ z. omega arith), assoc_fits l)

-- a record's fields
record_fits : (r : Rec) → TagsFit (written_fields r)
unfolding written_fields part_fields Each
record_fits r =
    let (i, c) = ident_fits r.kind in
    each_fits (written_fields r) (
      i,
      each_join Fits (list_field FOID _) _ (list_fits FOID _ (omega arith, λ z. omega arith))
          (each_join Fits (list_field ATTR _) _ (list_fits ATTR _ (omega arith, λ z. omega arith))
          (each_join Fits (each assoc_field r.parts.associations) _ (assoc_fits r.parts.associations)
          (each_join Fits (list_field (coord_tag r.kind) _) _ (list_fits (coord_tag r.kind) _ c) (list_fits SPAS _ (omega arith, λ z. omega arith))))),
    )

-- a record has fields
record_some : (r : Rec) → 0 < length (written_fields r)
unfolding written_fields
record_some r = omega arith

-- ---- the file

-- five digits each
widths : Widths 5 5
widths = record { a_some = omega arith; a_digit = omega arith; b_some = omega arith; b_digit = omega arith }

-- one record
fields_fit : (fs : List Field) → 0 < length fs → TagsFit fs → number12 fs ≡ pass → Writable 5 5 fs
fields_fit fs s t w = let l = short fs w in writable_fields 5 5 fs s t (omega arith) (omega arith) (omega arith)

-- the records of the four kinds
records_fit : (rs : List Rec) → Each (λ r. number12 (written_fields r) ≡ pass) rs → AllWritable 5 5 (each written_fields rs)
unfolding each Each
records_fit [] w = tt
records_fit (r ∷ rs) w = (fields_fit (written_fields r) (record_some r) (record_fits r) w.0, records_fit rs w.1)

-- what can be written, record by record
pub record Fitting (d : Dataset) : Type 0 where
  pub descriptive : number12 d.descriptive ≡ pass
  pub general : number12 d.general ≡ pass
  pub systems : number12 d.systems ≡ pass
  pub records : Each (λ r. number12 (written_fields r) ≡ pass) d.records

-- a dataset that can be written
pub fitting : (d : Dataset) → writable d ≡ done d → Fitting d
unfolding writable written Each
fitting d e =
    let (t, x, y) = and_then_inv (every_record number12 1 1 (written d)) (λ _. done d) d e in
    let a = every_inv number12 1 1 (written d) x in
    record { descriptive = a.0; general = a.1.0; systems = a.1.1.0; records = each_of (λ fs. number12 fs ≡ pass) written_fields d.records a.1.1.1 }

-- the file is found record by record
records_again : (d : Dataset) → Sound d → Fitting d → records_of (written_bytes d) ≡ record { items = written d; ending = 0 }
unfolding written_bytes written
records_again d s f =
    file_back 5 5 widths (written d) (
      fields_fit d.descriptive s.descriptive.some s.descriptive.tags f.descriptive,
      (
        fields_fit d.general s.general.some s.general.tags f.general,
        (fields_fit d.systems s.systems.some s.systems.tags f.systems, records_fit d.records f.records),
      ),
    )
    (omega arith)

-- ---- its records

-- no key that was seen stands
abbrev Unseen : List Rec → List Rec → Type 0
Unseen seen rs = (q : List ℕ) → among q (each key_of seen) ≡ true → find chart q rs ≡ none

-- so the first one's was not seen
first_new : (r : Rec) (seen rs : List Rec) → Unseen seen (r ∷ rs) → among (key_of r) (each key_of seen) ≡ false
unfolding find
first_new r seen rs u =
    by_bool (among (key_of r) (each key_of seen))
    (λ h. never (rw (same_refl (key_of r)) at (u (key_of r) h)))
    (λ h. h)

-- nor, with the first one's, those of the others
rest_new : (r : Rec) (seen rs : List Rec) → find chart (key_of r) rs ≡ none → Unseen seen (r ∷ rs) → Unseen (r ∷ seen) rs
unfolding find among each
rest_new r seen rs o u q e =
    by_bool (same q (key_of r))
    (λ h. ap (λ (k : List ℕ). find chart k rs) (same_sound q (key_of r) h) ∙ o)
    (λ h. by_bool (same (key_of r) q)
    (λ g. ap (λ (k : List ℕ). find chart k rs) (sym (same_sound (key_of r) q g)) ∙ o)
    (λ g. rw g at (u q (rw h at e))))

-- they are read again
through_again : (n : ℕ) (seen rs : List Rec) → 3 < n → Each SoundRec rs → Each (λ r. number12 (written_fields r) ≡ pass) rs → Ordered chart (last_rank seen) rs → Once chart rs
    → Unseen seen rs → through dataset_test 1 n seen (each written_fields rs) ≡ done rs
unfolding through each Each Ordered Once and_then at bind last_rank
through_again n seen [] l s w o a u = refl
through_again n seen (r ∷ rs) l s w o a u =
    let k : last_rank seen ≤ rank r.kind = rw (placed r) at o.0 in
    let e : dataset_test n seen (written_fields r) ≡ bind (ok r) (λ x. ok (x ∷ [])) =
    test_later n seen (written_fields r) l ∙ ap (λ (c : Check Rec). bind c (λ x. ok (x ∷ []))) (record_reads (last_rank seen) (each key_of seen) r s.0 w.0 k (first_new r seen rs u)) in
    let ih : through dataset_test 1 (n + 1) (r ∷ seen) (each written_fields rs) ≡ done rs =
    through_again (n + 1) (r ∷ seen) rs (omega arith) s.1 w.1 (rw (placed r) at o.1) a.1 (rest_new r seen rs a.0 u) in
    rw (e, ih)

-- a rank that is not below 1 is not below 0
from_none : (rs : List Rec) → Ordered chart 1 rs → Ordered chart 0 rs
unfolding Ordered
from_none [] o = tt
from_none (r ∷ rs) o = (omega arith, o.1)

-- nothing was seen
none_seen : (rs : List Rec) → Unseen [] rs
unfolding each among
none_seen rs q e = absurd (true≢false (sym e))

-- all records of the file
all_again : (d : Dataset) → Sound d → Fitting d → through dataset_test 1 1 [] (written d) ≡ done d.records
unfolding through dataset_test written and_then at bind last_rank
all_again d s f =
    let t = through_again 4 [] d.records (omega arith) s.records f.records (from_none d.records s.sorted.ordered) s.sorted.once (none_seen d.records) in
    rw (s.general_stands, s.systems_first, t)

-- ---- the dataset

-- its references stand
references_again : (d : Dataset) → Sound d → references 1 d.records (each written_fields d.records) ≡ done tt
unfolding references
references_again d s =
    let keys = each key_of d.records in
    every_done (λ fs. number11 keys (marks 1 fs)) 1 4 (each written_fields d.records)
    (of_each (λ fs. number11 keys (marks 1 fs) ≡ pass) written_fields d.records (each_zip d.records (λ r a n. eleven_passes r a keys n) s.records s.named))

-- enough records
ending_again : (d : Dataset) → ending 1 3 (1 + length (written d)) 0 d.records ≡ done d.records
unfolding ending written
ending_again d = rw (lt-leb (1 + length (written d)) 3 (omega arith))

-- the round trip
pub round_trip : (d : Dataset) → Sound d → writable d ≡ done d → read_dataset (written_bytes d) ≡ done d
unfolding read_dataset dataset_of taken and_then written
round_trip d s w =
    let f = fitting d w in
    rw (records_again d s f, all_again d s f, ending_again d, references_again d s)

-- so the written form of what it is read as is that form itself
pub written_again_lem : (d e : Dataset) → Sound d → writable d ≡ done d → read_dataset (written_bytes d) ≡ done e → written_bytes e ≡ written_bytes d
written_again_lem d e s w h = ap written_bytes (done_inj e d (sym h ∙ round_trip d s w))
