-- A dataset that is read from bytes is sound. Assumes nothing.
use Prim.Native.Nat.{ℕ, ◌+◌, ◌<◌}
use mathlib.Core.Path.{◌≡◌, refl, sym, ap, ◌∙◌, subst}
use mathlib.Core.List.{List, [], ◌∷◌, ◌++◌}
use native.Mathlib.Omega.{arith}
use lib.ListN.{length, drop}
use lib.Dec.{eqb}
use Rattle.base.specs.Choice.{pick}
use Rattle.base.specs.Check.{ok, no, fault, pass}
use Rattle.base.specs.Lists.{each, Each}
use Rattle.base.specs.Keys.{among}
use Rattle.base.specs.Walk.{Got}
use Rattle.base.proofs.CheckLaws.{bind_inv, ok_inj, pass_inv, refused}
use Rattle.base.proofs.EachLaws.{each_map}
use Rattle.skeleton.specs.File.{Field}
use Rattle.fields.specs.Valid.{Bytes}
use Rattle.rules.specs.Tags.{CSID}
use Rattle.rules.specs.ByTag.{first_tag}
use Rattle.rules.specs.Grammar.{as_stored, number4}
use Rattle.rules.specs.Content.{number5}
use Rattle.rules.specs.Trees.{number6}
use Rattle.rules.specs.Associations.{marks, number7, number11}
use Rattle.rules.specs.Record.{Rec, key_of, rec_of, dataset_record}
use Rattle.rules.specs.General.{general_record}
use Rattle.rules.specs.Written.{Dataset}
use Rattle.rules.specs.Outcome.{done, at}
use Rattle.rules.specs.File.{last_rank, dataset_test, through, stored_as, references, read_dataset}
use Rattle.rules.specs.declared.Mode.TheVariants.{InDataset}
use Rattle.rules.proofs.OutcomeLaws.{and_then_inv, at_inv, done_inj}
use Rattle.rules.proofs.FileLaws.{through_later}
use Rattle.sequence.proofs.Tests.{by_bool}
use Rattle.updates.specs.Sorted.{Sorted}
use Rattle.updates.proofs.Read.{is_read_lem}
use Rattle.updates.proofs.Results.{read_sorted}
use Rattle.updates.proofs.Kept.{every_inv}
use Rattle.sound.specs.Sound.{SoundRec, Named, Carried, Sound}
use Rattle.sound.proofs.Marks.{eleven_each}
use Rattle.sound.proofs.Records.{through as through_fields}
use Rattle.sound.proofs.Parts.{record_sound, record_named}
use Rattle.sound.proofs.FileBytes.{Bodies, file_carried}

-- ---- one record

-- a record that is sound, and whose names stand where those of its fields do
record Good (fs : List Field) (r : Rec) : Type 0 where
  sound : SoundRec r
  named : (keys : List (List ℕ)) → number11 keys (marks 1 fs) ≡ pass → Named keys r

-- so is one that is read
record_good : (least : ℕ) (earlier : List (List ℕ)) (fs : List Field) (r : Rec) → Bodies fs → dataset_record least earlier fs ≡ ok r → Good fs r
unfolding dataset_record number4 as_stored
record_good least earlier [] r g e = let (k, a, b) = bind_inv (number4 InDataset least []) _ r e in refused a
record_good least earlier (f ∷ fs) r g e =
    let (k, a, b) = bind_inv (number4 InDataset least (f ∷ fs)) _ r e in
    let (x, c, d) = bind_inv (number5 InDataset k (f ∷ fs)) _ r b in
    let (y, h, i) = bind_inv (number6 InDataset k (f ∷ fs)) _ r d in
    let t = through_fields InDataset least f fs k g a c h in
    by_bool (among (key_of (rec_of k (f ∷ fs))) earlier)
    (λ q. refused (rw q at i))
    (λ q.
    let (z, l, m) = bind_inv (number7 (f ∷ fs)) _ r (rw q at i) in
    rw (← ok_inj (rec_of k (f ∷ fs)) r m)
    (record {
      sound = record_sound InDataset k f fs t t.stood (t.whole refl) l;
      named = λ keys n. record_named InDataset k f fs t t.stood (t.whole refl) keys (eleven_each keys (marks 1 (f ∷ fs)) n);
    }))

-- ---- all records

-- records, each of which is good for its fields
data Goods : List (List Field) → List Rec → Type 0 where
  g_none : Goods [] []
  g_more : {fs : List Field} {rest : List (List Field)} {r : Rec} {rs : List Rec} → Good fs r → Goods rest rs → Goods (fs ∷ rest) (r ∷ rs)

-- those behind the third
records_good : (n : ℕ) (seen : List Rec) (items : List (List Field)) (recs : List Rec) → 3 < n → Each Bodies items → through dataset_test 1 n seen items ≡ done recs → Goods items recs
unfolding through Each
records_good n seen [] recs l g e = rw (← done_inj [] recs e) g_none
records_good n seen (fs ∷ rest) recs l g e =
    let t = through_later fs rest n seen recs l e in
    rw (← t.all)
    (g_more (record_good (last_rank seen) (each key_of seen) fs t.made g.0 t.passes)
    (records_good (n + 1) (t.made ∷ seen) rest t.others (omega arith) g.1 t.onward))

-- each of them is sound
goods_sound : {items : List (List Field)} {recs : List Rec} → Goods items recs → Each SoundRec recs
unfolding Each
goods_sound g_none = tt
goods_sound (g_more g gs) = (g.sound, goods_sound gs)

-- and names what stands
goods_named : (keys : List (List ℕ)) {items : List (List Field)} {recs : List Rec} → Goods items recs → Each (λ fs. number11 keys (marks 1 fs) ≡ pass) items → Each (Named keys) recs
unfolding Each
goods_named keys g_none e = tt
goods_named keys (g_more g gs) e = (g.named keys e.0, goods_named keys gs e.1)

-- ---- the dataset

-- a dataset with these records
sound_as : (items : List (List Field)) (recs : List Rec) → 3 < 1 + length items → Each Carried items → through dataset_test 1 1 [] items ≡ done recs
    → references 1 recs (drop 3 items) ≡ done tt → Sorted recs → Sound (stored_as items recs).dataset
unfolding through dataset_test Each references
sound_as [] recs l c e h s = absurd (omega arith)
sound_as (a ∷ []) recs l c e h s = absurd (omega arith)
sound_as (a ∷ b ∷ []) recs l c e h s = absurd (omega arith)
sound_as (x ∷ y ∷ z ∷ rest) recs l c e h s =
    let (one, a, b) = and_then_inv (at 1 1 (dataset_test 1 [] x)) _ recs e in
    let (later, d, f) = and_then_inv (through dataset_test 1 2 (one ++ []) (y ∷ z ∷ rest)) _ recs b in
    let (two, g, i) = and_then_inv (at 1 2 (dataset_test 2 (one ++ []) y)) _ later d in
    let (more, j, k) = and_then_inv (through dataset_test 1 3 (two ++ (one ++ [])) (z ∷ rest)) _ later i in
    let (three, m, n) = and_then_inv (at 1 3 (dataset_test 3 (two ++ (one ++ [])) z)) _ more j in
    let (last, o, p) = and_then_inv (through dataset_test 1 4 (three ++ (two ++ (one ++ []))) rest) _ more n in
    let q1 : [] ≡ one = ok_inj [] one (at_inv 1 1 (dataset_test 1 [] x) one a) in
    let (u, v, w) = bind_inv (general_record InDataset y) (λ _. ok []) two (at_inv 1 2 (dataset_test 2 (one ++ []) y) two g) in
    let (u', v', w') = bind_inv (pick (eqb (first_tag z) CSID) pass (no (fault 4 1 0))) (λ _. ok []) three (at_inv 1 3 (dataset_test 3 (two ++ (one ++ [])) z) three m) in
    let q : last ≡ recs =
    none_first three last more (ok_inj [] three w') (done_inj _ more p) ∙ none_first two more later (ok_inj [] two w) (done_inj _ later k) ∙ none_first one later recs q1 (done_inj _ recs f) in
    let good : Goods rest recs = rw q at (records_good 4 (three ++ (two ++ (one ++ []))) rest last (omega arith) (each_map rest (λ fs r. r.bodies) c.1.1.1) o) in
    record {
      descriptive = c.0;
      general = c.1.0;
      general_stands = v;
      systems = c.1.1.0;
      systems_first = pass_inv (eqb (first_tag z) CSID) 4 1 0 u' v';
      records = goods_sound good;
      sorted = s;
      named = goods_named (each key_of recs) good (every_inv (λ fs. number11 (each key_of recs) (marks 1 fs)) 1 4 rest h);
    }
  where
    none_first : (a b c : List Rec) → [] ≡ a → a ++ b ≡ c → b ≡ c
    none_first a b c e h = ap (λ (l : List Rec). l ++ b) e ∙ h

-- a dataset that is read from bytes is sound
pub read_sound : (f : List ℕ) (d : Dataset) → Bytes f → read_dataset f ≡ done d → Sound d
read_sound f d g e =
    let i = is_read_lem f d e in
    let c : Each Carried i.items = subst (λ (w : Got (List Field)). Each Carried w.items) i.walked (file_carried f g) in
    subst Sound (sym i.said) (sound_as i.items d.records i.enough c i.tested i.referred (read_sorted f d e))
