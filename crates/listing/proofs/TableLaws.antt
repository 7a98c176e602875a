-- Laws of the listing of a whole input. Assumes nothing.
use mathlib.Core.Path.{◌≡◌, refl, sym, ap, ap₂, ◌∙◌}
use mathlib.Core.List.{List, [], ◌∷◌, ◌++◌, append_assoc}
use Prim.Native.Nat.{ℕ, ◌+◌, ◌-◌, ◌≤◌, ◌<◌}
use native.Mathlib.Omega.{arith}
use borrow.Author.Tests.{lt-ltb, le-ltb}
use lib.Dec.{ltb}
use lib.ListN.{length, take}
use Rattle.std.specs.Prelude.{Result, Ok, Err}
use Rattle.base.specs.Choice.{pick}
use Rattle.base.specs.Text.{ascii}
use Rattle.base.specs.declared.Refusal.{Refusal}
use Rattle.memory.specs.Hold.{zeros, hold}
use Rattle.memory.specs.Wrote.{Wrote}
use Rattle.memory.proofs.HoldLaws.{hold_nil}
use Rattle.memory.proofs.WroteLaws.{then, wrote_take, wrote_length}
use Rattle.skeleton.specs.Digits.{in_fewest_digits}
use Rattle.skeleton.specs.File.{records_from}
use Rattle.writing.proofs.PartsLaws.{wrote_as}
use Rattle.rules.specs.Answers.{refusal, success, not_too_long, read_outcome, read_answer, read}
use Rattle.rules.specs.File.{read_dataset}
use Rattle.rules.specs.Listing.{line, header, too_long, record_lines, printed, listing}
use Rattle.rules.specs.Outcome.{Outcome, done, refused, and_then}
use Rattle.rules.specs.Record.{Rec}
use Rattle.rules.specs.Written.{Dataset, count}
use Rattle.rules.specs.declared.Answer.{Answer}
use Rattle.rules.proofs.OutcomeLaws.{done_inj}
use Rattle.opening.specs.Carried.{first_three, opened_by}
use Rattle.opening.proofs.CarriedLaws.{behind_is}
use Rattle.opening.proofs.OpeningLaws.{from_fourth}
use Rattle.reader.proofs.ReaderLaws.{three_in}
use Rattle.listing.specs.Said.{PassedFrom}
use Rattle.listing.specs.Lines.{refusal_line, total_line, lines_from}
use Rattle.listing.specs.Listed.{longest, listed}
use Rattle.listing.specs.Lists.{Lists}
use Rattle.listing.proofs.PassedLaws.{fourth_clean, fourth_passed, fourth_said, read_inv}

-- ---- what the reader has answered

read_short : (f : List ℕ) → length f ≤ 65536 → read f ≡ read_answer (read_dataset f)
unfolding read read_outcome not_too_long and_then
read_short f h = simp (le-ltb 16777216 (length f) (omega arith))

-- a count that is not 0 is that of a dataset
done_of : (c : Outcome Dataset) (n : ℕ) → n ≡ (read_answer c).count → 0 < n → (d : Dataset) × (c ≡ done d) × (n ≡ 3 + length d.records)
unfolding read_answer success refusal count
done_of (done d) n e h = (d, refl, e)
done_of (refused file m x) n e h = absurd (omega arith)

refused_of : (c : Outcome Dataset) (a : Answer) → a ≡ read_answer c → a.count ≡ 0 → refusal_line a.number a.file a.rec ≡ printed c
unfolding printed refusal_line read_answer success refusal count
refused_of (done d) a e z = let y : a.count ≡ 3 + length d.records = ap (λ (x : Answer). x.count) e in absurd (omega arith)
refused_of (refused file n x) a e z = rw e refl

-- ---- `put_short`

module _ (f : List ℕ) (small : length f ≤ 65536) (a : Answer) (ea : a ≡ read f) where
  pub short_refused : a.count ≡ 0 → (q : ℕ) (d e : List ℕ) → Wrote 0 (refusal_line a.number a.file a.rec) d q e × (q ≤ 0 + 71)
      → Wrote 0 (printed (read_dataset f)) d q e × (q ≤ longest)
  short_refused z q d e w = (wrote_as (refused_of (read_dataset f) a (ea ∙ read_short f small) z) w.0, omega (arith, w.1))

  pub short_count : a.count ≡ (read f).count
  short_count = ap (λ (x : Answer). x.count) ea

  pub short_some : (a.count ≡ 0 → ⊥) → 0 < a.count
  short_some n = omega arith

-- ---- `put_table`

module _ (f : List ℕ) (small : length f ≤ 65536) (n : ℕ) (en : n ≡ (read f).count) (some : 0 < n) where
  got : (d : Dataset) × (read_dataset f ≡ done d) × (n ≡ 3 + length d.records)
  got = done_of (read_dataset f) n (en ∙ ap (λ (x : Answer). x.count) (read_short f small)) some

  begins : (start : ℕ) × (first_three f ≡ done start) × (from_fourth f start ≡ done got.0.records)
  begins = read_inv f got.0 got.1

  pub table_count : 3 ≤ n
  table_count = omega (arith, got.2)

  module _ (o : Result ℕ Refusal) (eo : o ≡ opened_by (first_three f)) where
    pub table_shut : (y : Refusal) → o ≡ Err y → ⊥
    unfolding opened_by
    table_shut y x =
        let z : Err y ≡ Ok begins.0 = sym x ∙ eo ∙ ap opened_by begins.1 in
        let w : ◌≡◌ {A = ℕ} 0 1 = cc in
        omega arith

    module _ (start : ℕ) (x : o ≡ Ok start) where
      three : first_three f ≡ done start
      three = behind_is (first_three f) start (sym x ∙ eo)

      fourth : from_fourth f start ≡ done got.0.records
      fourth = ap (from_fourth f) (done_inj start begins.0 (sym three ∙ begins.1)) ∙ begins.2

      pub table_in : start ≤ length f
      table_in = three_in f start three

      pub table_clean : (records_from f start).ending ≡ 0
      table_clean = fourth_clean f start got.0.records fourth

      pub table_passed : PassedFrom f start
      table_passed = fourth_passed f start got.0.records fourth

      table_is : header ++ (lines_from f start 4 ++ total_line (n - 3)) ≡ printed (read_dataset f)
      unfolding printed lines_from total_line
      table_is =
          let total : n - 3 ≡ length got.0.records = omega (arith, got.2) in
          ap₂ (λ (rs : List Rec) (m : ℕ). header ++ (record_lines 4 rs ++ line (ascii "total") (in_fewest_digits m ∷ []))) (sym (fourth_said f start got.0.records fourth)) total
          ∙ sym (ap printed got.1)

      pub table_wrote : (p₁ p₂ q : ℕ) (d d₁ d₂ d₃ : List ℕ) → Wrote 0 header d p₁ d₁ → Wrote p₁ (lines_from f start 4) d₁ p₂ d₂ × (p₂ ≤ 327709)
          → Wrote p₂ (total_line (n - 3)) d₂ q d₃ × (q ≤ p₂ + 27) → Wrote 0 (printed (read_dataset f)) d q d₃ × (q ≤ longest)
      table_wrote p₁ p₂ q d d₁ d₂ d₃ w₁ w₂ w₃ =
          (wrote_as (append_assoc header (lines_from f start 4) (total_line (n - 3)) ∙ table_is) (then w₃.0 (then w₂.0 w₁)), omega (arith, w₂.1, w₃.1))

-- ---- `put_listing`

module _ (f : List ℕ) (q : ℕ) (d e : List ℕ) where
  pub listing_long : 65536 < length f → Wrote 0 too_long d q e → Wrote 0 (listing f) d q e × (q ≤ longest)
  unfolding listing
  listing_long h w = (wrote_as (sym long) w, omega (arith, w.next))
    where
      long : pick (ltb 65536 (length f)) too_long (printed (read_dataset f)) ≡ too_long
      long = simp (lt-ltb 65536 (length f) h)

  pub listing_short : length f ≤ 65536 → Wrote 0 (printed (read_dataset f)) d q e × (q ≤ longest) → Wrote 0 (listing f) d q e × (q ≤ longest)
  unfolding listing
  listing_short h w = (wrote_as (sym short) w.0, w.1)
    where
      short : pick (ltb 65536 (length f)) too_long (printed (read_dataset f)) ≡ printed (read_dataset f)
      short = simp (le-ltb 65536 (length f) h)

-- ---- `list`

listed_none : (f : List ℕ) (room : ℕ) → room < length (listing f) → listed f room ≡ []
unfolding listed
listed_none f room h = simp (lt-ltb room (length (listing f)) h)

listed_all : (f : List ℕ) (room : ℕ) → length (listing f) ≤ room → listed f room ≡ listing f
unfolding listed
listed_all f room h = simp (le-ltb room (length (listing f)) h)

module _ (f : List ℕ) (n : ℕ) (d e : List ℕ) (w : Wrote 0 (listing f) d n e × (n ≤ longest)) where
  length_is : length (listing f) ≡ n
  length_is = omega (arith, w.0.next)

  long_is : length e ≡ length d
  long_is = wrote_length w.0

  list_longest : length (listing f) ≤ longest
  list_longest = omega (arith, length_is, w.1)

  pub list_none : length e < n → (g : List ℕ) → g ≡ zeros (length e) → Lists f (length d) 0 g
  list_none h g eg = record { long = sym (ap length nothing); holds = eg ∙ ap zeros long_is ∙ sym (ap (hold (length d)) nothing ∙ hold_nil (length d)); enough = list_longest }
    where
      nothing : listed f (length d) ≡ []
      nothing = listed_none f (length d) (omega (arith, long_is, length_is))

  pub list_all : n ≤ length e → (g : List ℕ) → g ≡ hold (length e) (take n e) → Lists f (length d) n g
  list_all h g eg = record { long = sym (ap length all ∙ length_is); holds = eg ∙ ap₂ hold long_is (wrote_take w.0 (omega (arith, long_is, length_is)) ∙ sym all); enough = list_longest }
    where
      all : listed f (length d) ≡ listing f
      all = listed_all f (length d) (omega (arith, long_is, length_is))
