-- Laws of the loop that measures a file's written form, and what its answer says of 12 and of the length. Assumes nothing.
use Prim.Native.Nat.{ℕ, ◌+◌, ◌*◌, ◌^◌, ◌≤◌, ◌<◌}
use mathlib.Core.Path.{◌≡◌, refl, sym, ap, ◌∙◌}
use mathlib.Core.Bool.{Bool, false}
use mathlib.Core.List.{List, [], ◌∷◌}
use native.Mathlib.Omega.{arith}
use borrow.Author.Tests.{lt-ltb, le-ltb}
use lib.ListN.{length, length-take, length-drop}
use lib.Dec.{ltb}
use Rattle.std.specs.Prelude.{Result, Ok, Err}
use Rattle.base.specs.Choice.{pick}
use Rattle.base.specs.Check.{fault}
use Rattle.skeleton.specs.File.{Field}
use Rattle.skeleton.specs.Emit.{length_of, emits}
use Rattle.skeleton.specs.Place.{between, fields_at}
use Rattle.skeleton.specs.Record.{record_at}
use Rattle.skeleton.specs.declared.leader.Broken.{Broken}
use Rattle.skeleton.specs.declared.leader.Head.{Head}
use Rattle.skeleton.proofs.RecordLaws.{right, record_in_lem, record_falls, record_word, record_bounded}
use Rattle.skeleton.proofs.EmitFileLaws.{length_emits}
use Rattle.rules.specs.Written.{field_width, written_length, number12}
use Rattle.rules.specs.Outcome.{Outcome, done, refused, and_then, at, every_record}
use Rattle.rules.proofs.OutcomeLaws.{refuses, and_then_inv, done_inj}
use Rattle.sequence.proofs.Tests.{by_bool}
use Rattle.writing.specs.House.{in_house_form}
use Rattle.writer.specs.Forms.{forms_from, lengths}
use Rattle.writer.specs.Measured.{said_by, measured_from}
use Rattle.writer.proofs.FormsLaws.{forms_refused, forms_more}

-- ---- the loop

-- a record of the file is no longer than the file
pub part_small : (f : List ℕ) (p len : ℕ) → length f ≤ 16777216 → length (between f p (p + len)) ≤ 16777216
part_small f p len h = simp (length-take, length-drop) (omega arith)

-- the loop at byte p, with n the number of the record there, and so many bytes before it
pub record MeasuresAt (f : List ℕ) (p n total : ℕ) : Type 0 where
  pub same : measured_from n total (forms_from f p n) ≡ measured_from 1 0 (forms_from f 0 1)
  pub inside : p ≤ length f
  pub few : n ≤ p + 1
  pub small : total ≤ 99999 * p

pub measure_start : (f : List ℕ) → MeasuresAt f 0 1 0
measure_start f = record { same = refl; inside = omega arith; few = omega arith; small = omega arith }

-- number 12 of a record in front
measured_more : (n total : ℕ) (fs : List Field) (rest : List (List Field))
    → measured_from n total (fs ∷ rest) ≡ pick (ltb 99999 (written_length fs)) (refused 1 n (fault 12 0 0)) (measured_from (n + 1) (total + written_length fs) rest)
unfolding measured_from every_record lengths number12 at and_then
measured_more n total fs rest =
    by_bool (ltb 99999 (written_length fs))
    (λ h. rw h)
    (λ h. rw h (ap (λ (m : ℕ). and_then (every_record number12 1 (n + 1) rest) (λ _. done m)) (omega arith)))

module _ (f : List ℕ) (p n total : ℕ) (inv : MeasuresAt f p n total) where
  -- no record is left
  none_left : forms_from f p n ≡ [] → said_by (Ok total) ≡ measured_from 1 0 (forms_from f 0 1)
  unfolding said_by measured_from every_record lengths and_then
  none_left e = let z : total ≡ total + 0 = omega arith in ap (λ (m : ℕ). done m) z ∙ rw e at inv.same

  module _ (h : Result Head Broken) (eh : h ≡ record_at f p) where
    pub measure_refused : (k : Broken) → h ≡ Err k → said_by (Ok total) ≡ measured_from 1 0 (forms_from f 0 1)
    measure_refused k x = none_left (forms_refused f p n h eh k x)

    module _ (d : Head) (x : h ≡ Ok d) (size : ℕ)
        (es : size ≡ written_length (in_house_form (ltb 3 n) (fields_at (between f p (p + d.len)) d.shape 24))) where
      turn : pick (ltb 99999 size) (refused 1 n (fault 12 0 0)) (measured_from (n + 1) (total + size) (forms_from f (p + d.len) (n + 1))) ≡ measured_from 1 0 (forms_from f 0 1)
      turn = rw es (sym (measured_more n total _ _) ∙ rw (forms_more f p n h eh d x) at inv.same)

      pub measure_long : 99999 < size → said_by (Err n) ≡ measured_from 1 0 (forms_from f 0 1)
      unfolding said_by
      measure_long g = rw (lt-ltb 99999 size g) at turn

      module _ (g : size ≤ 99999) where
        pub measure_more : MeasuresAt f (p + d.len) (n + 1) (total + size)
        measure_more =
            let k = right f p h eh d x in
            let s = inv.small in
            let c = inv.few in
            record { same = rw (le-ltb 99999 size g) at turn; inside = k.inside; few = omega (arith, k.long); small = omega (arith, k.long) }

        pub total_word : length f ≤ 16777216 → total + size < 2 ^ 64
        total_word w = let s = inv.small in omega arith

        pub number_word : length f ≤ 16777216 → n + 1 < 2 ^ 64
        number_word w = let c = inv.few in omega arith

pub ruleset measure_turn = (
  part_small,
  measure_start,
  measure_refused,
  measure_long,
  measure_more,
  total_word,
  number_word,
  record_in_lem,
  record_falls,
  record_word,
  record_bounded,
  arith,
)

-- ---- what the answer says

-- no record is above 99,999 bytes, and this is the length of all
pub all_short : (size : ℕ) (fss : List (List Field)) → said_by (Ok size) ≡ measured_from 1 0 fss → (every_record number12 1 1 fss ≡ done tt) × (size ≡ lengths fss)
unfolding said_by measured_from and_then
all_short size fss e =
    let (t, a, b) = and_then_inv (every_record number12 1 1 fss) (λ _. done (0 + lengths fss)) size (sym e) in
    let z = done_inj (0 + lengths fss) size b in
    (a, omega arith)

-- the first that is
pub first_long : (m : ℕ) (fss : List (List Field)) → said_by (Err m) ≡ measured_from 1 0 fss → every_record number12 1 1 fss ≡ refused 1 m (fault 12 0 0)
unfolding said_by measured_from and_then
first_long m fss e = go (every_record number12 1 1 fss) refl
  where
    go : (c : Outcome (Unit {0})) → every_record number12 1 1 fss ≡ c → c ≡ refused 1 m (fault 12 0 0)
    go (done tt) h = refuses (rw h at e)
    go (refused file n x) h =
        let z : ◌≡◌ {A = Outcome ℕ} (refused 1 m (fault 12 0 0)) (refused file n x) = rw h at e in
        let a : file ≡ 1 = cc in
        let b : n ≡ m = cc in
        let c : x ≡ fault 12 0 0 = cc in
        rw (a, b, c)

-- the length of all is that of the file
pub lengths_emits : (first : Bool) (fss : List (List Field)) → length (emits field_width field_width first fss) ≡ lengths fss
unfolding lengths written_length
lengths_emits first [] = unfold emits in refl
lengths_emits first (fs ∷ rest) =
    length_emits field_width field_width first fs rest ∙ ap (λ (m : ℕ). length_of field_width field_width fs + m) (lengths_emits false rest)
