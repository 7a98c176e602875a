-- Laws of a record that is written where there is room for it. Assumes nothing.
use Prim.Native.Nat.{ℕ, ◌+◌, ◌^◌, ◌≤◌, ◌<◌}
use mathlib.Core.Path.{◌≡◌, refl, sym, ap, subst}
use mathlib.Core.Bool.{false}
use mathlib.Core.List.{List, ◌∷◌}
use native.Mathlib.Omega.{arith}
use borrow.Author.Tests.{leb-true, leb-false}
use lib.ListN.{length}
use lib.Dec.{leb}
use Rattle.base.specs.Check.{Passed, pass}
use Rattle.memory.specs.Wrote.{Wrote}
use Rattle.skeleton.specs.File.{Field}
use Rattle.skeleton.specs.Emit.{emit}
use Rattle.rules.specs.Record.{Rec}
use Rattle.rules.specs.Written.{written_fields, field_width, written_length}
use Rattle.sequence.proofs.Tests.{by_bool}
use Rattle.updates.specs.Streamed.{record_bytes, record_length}
use Rattle.writing.proofs.MeasuringLaws.{length_told}
use Rattle.composing.specs.Emitted.{Emitted}
use Rattle.composing.specs.Composing.{Composing}
use Rattle.composing.proofs.ComposingLaws.{composing_written, composing_counted}

-- ---- with room, and without

module _ (fs : List Field) (to : ℕ) (before : List ℕ) (l : ℕ) (el : l ≡ written_length fs) where
  pub emitted_not : length before < to + l → Emitted fs to before (to + l) before
  emitted_not h = record { next = ap (λ (k : ℕ). to + k) el; wrote = λ g. absurd (omega arith); kept = λ _. refl }

  pub emitted_room : to + l ≤ length before → to + written_length fs ≤ length before
  emitted_room h = omega arith

  pub emitted_there : to + l ≤ length before → (n : ℕ) (out : List ℕ) → n ≡ to + written_length fs → Wrote to (emit field_width field_width false fs) before n out → Emitted fs to before n out
  emitted_there h n out e w = record { next = e; wrote = λ _. w; kept = λ g. absurd (omega arith) }

  pub emitted_word : to ≤ 4611686018427387904 → written_length fs ≤ 99999 → to + l < 2 ^ 64
  emitted_word h g = omega arith

pub ruleset emitted_ways = (length_told, emitted_not, emitted_room, emitted_there, emitted_word)

-- ---- as one more record of the result

module _ (test : Rec → Passed) (whole : List Rec) (start : ℕ) (before : List ℕ) (m len : ℕ) (out : List ℕ) (r : Rec) (left : List Rec)
    (c : Composing test whole (r ∷ left) start m len before out) (passes : test r ≡ pass) (n : ℕ) (new : List ℕ) where
  pub composing_emitted : Emitted (written_fields r) len out n new → Composing test whole left start (m + 1) n before new
  composing_emitted e =
      by_bool (leb n (length out))
      (λ h. let w : Wrote len (record_bytes r) out n new = unfold record_bytes in e.wrote (leb-true n (length out) h) in
      composing_written test whole start before m len out r left c passes n (unfold record_length in e.next) new w)
      (λ h. let g = leb-false n (length out) h in
      subst (λ (o : List ℕ). Composing test whole left start (m + 1) n before o) (sym (e.kept g))
      (composing_counted test whole start before m len out r left c passes n (unfold record_length in e.next) g))
