-- Written records and written files are read back. Assumes nothing.
use mathlib.Core.Path.{◌≡◌, refl, sym, ap, ◌∙◌}
use mathlib.Core.List.{List, [], ◌∷◌, ◌++◌, append_assoc}
use mathlib.Core.Bool.{Bool, true, false}
use Prim.Native.Nat.{ℕ, ◌+◌, ◌^◌, ◌≤◌, ◌<◌}
use native.Mathlib.Omega.{arith}
use borrow.Author.Tests.{lt-ltb, ne_eqb}
use lib.ListN.{length, length-append}
use lib.Seq.{take_at}
use lib.Dec.{eqb}
use Rattle.base.specs.Walk.{Got, before}
use Rattle.skeleton.specs.File.{Field, records_from, records_of}
use Rattle.skeleton.specs.Emit.{size, sizes, length_of, emit, emits}
use Rattle.skeleton.specs.Writable.{TagsFit, PlacesFit, Widths, Writable, AllWritable}
use Rattle.skeleton.proofs.FileLaws.{records_step, records_over, records_all}
use Rattle.skeleton.proofs.EmitFieldsLaws.{length_emit, fields_back}
use Rattle.skeleton.proofs.EmitLeaderLaws.{leader_back}
use Rattle.skeleton.proofs.OffsetLaws.{drop_off, length_off}

-- a written record at at is read back to its fields, whatever stands before and after it in the file
pub record_back : (a b : ℕ) → Widths a b → (first : Bool) (fs : List Field) → Writable a b fs
    → (f pre after : List ℕ) (at : ℕ) → f ≡ pre ++ (emit a b first fs ++ after) → length pre ≡ at → eqb at 0 ≡ first
    → records_from f at ≡ before fs (records_from f (at + length_of a b fs))
record_back a b w first fs ok f pre after at e l z =
    let r = emit a b first fs in
    let k = length_emit a b first fs in
    let n : length f ≡ at + length (r ++ after) = length_off f pre (r ++ after) at e l in
    let m = length-append r after in
    let g = fields_back a b first fs ok in
    records_step f at
    ∙ simp (
      lt-ltb at (length f) (omega arith),
      drop_off f pre (r ++ after) at e l,
      z,
      leader_back a b w first fs after ok.short,
      take_at r after (length_of a b fs) k,
      ap (λ (x : Got Field). x.ending) g,
      ap (λ (x : Got Field). x.items) g,
    )

records_back : (a b : ℕ) → Widths a b → (rs : List (List Field)) → AllWritable a b rs
    → (f pre : List ℕ) (at : ℕ) (first : Bool) → f ≡ pre ++ emits a b first rs → length pre ≡ at → eqb at 0 ≡ first
    → records_from f at ≡ record { items = rs; ending = 0 }
unfolding emits
records_back a b w [] ok f pre at first e l z = records_over f at (omega (arith, length_off f pre [] at e l))
records_back a b w (fs ∷ rs) ok f pre at first e l z =
    record_back a b w first fs ok.0 f pre (emits a b false rs) at e l z
    ∙ ap (before fs)
    (records_back a b w rs ok.1 f (pre ++ emit a b first fs) (at + length_of a b fs) false
    (e ∙ sym (append_assoc pre (emit a b first fs) (emits a b false rs))) (simp (length-append, l, length_emit))
    (ne_eqb (at + length_of a b fs) 0 (λ z. omega arith)))

-- the length of a file record by record
pub length_emits : (a b : ℕ) (first : Bool) (fs : List Field) (rs : List (List Field))
    → length (emits a b first (fs ∷ rs)) ≡ length_of a b fs + length (emits a b false rs)
unfolding emits
length_emits a b first fs rs = simp (length-append, length_emit)

-- a written file is read back to its records
pub file_back : (a b : ℕ) → Widths a b → (rs : List (List Field)) → AllWritable a b rs → 0 < length rs
    → records_of (emits a b true rs) ≡ record { items = rs; ending = 0 }
file_back a b w [] ok some = absurd (omega arith)
file_back a b w (fs ∷ rs) ok some =
    records_all _ (λ z. omega (arith, length_emits a b true fs rs))
    ∙ records_back a b w (fs ∷ rs) ok (emits a b true (fs ∷ rs)) [] 0 true refl refl refl

-- ---- what can be written

places_fit : (a b pos : ℕ) (fs : List Field) → pos + sizes fs < 10 ^ a → pos + sizes fs < 10 ^ b → PlacesFit a b pos fs
unfolding sizes
places_fit a b pos [] h g = tt
places_fit a b pos (f ∷ fs) h g = (omega arith, omega arith, places_fit a b (pos + size f) fs (omega arith) (omega arith))

-- widths that hold the whole record's length hold every field's length and position
pub writable : (a b : ℕ) (fs : List Field) → 0 < length fs → TagsFit fs → length_of a b fs < 100000
    → length_of a b fs ≤ 10 ^ a → length_of a b fs ≤ 10 ^ b → Writable a b fs
writable a b fs some tags short h g =
    record { some = some; tags = tags; places = places_fit a b 0 fs (omega arith) (omega arith); short = short }
