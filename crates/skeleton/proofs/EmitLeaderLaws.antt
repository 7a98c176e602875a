-- The leader of a written record is read back. Assumes nothing.
use mathlib.Core.Path.{◌≡◌, refl, ap, ◌∙◌}
use mathlib.Core.List.{List, [], ◌∷◌, ◌++◌, append_assoc}
use mathlib.Core.Bool.{Bool, true, false}
use Prim.Native.Nat.{ℕ, ◌+◌, ◌-◌, ◌%◌, ◌^◌, ◌≤◌, ◌<◌}
use native.Mathlib.Omega.{arith}
use borrow.Author.Tests.{le-leb, le-ltb}
use lib.ListN.{length, get_or, drop, length-append}
use Rattle.base.specs.Text.{ascii}
use Rattle.skeleton.specs.Digits.{is_digit, number_at, in_digits}
use Rattle.skeleton.specs.Leader.{fits_byte, shaped, template, stated_of, leader_of}
use Rattle.skeleton.specs.Emit.{middle, marks, leading, entries, contents, base_of, length_of, emit}
use Rattle.skeleton.specs.File.{Field}
use Rattle.skeleton.specs.Writable.{Widths}
use Rattle.std.specs.Prelude.{Some}
use Rattle.skeleton.specs.Leader.{good, shape}
use Rattle.skeleton.proofs.EmitDigitsLaws.{length_digits}
use Rattle.skeleton.proofs.EmitFieldsLaws.{length_emit}
use Rattle.skeleton.proofs.OffsetLaws.{byte_off, number_off}

-- ---- its bytes

fits_digit : (m : ℕ) → fits_byte 35 (m % 10 + 48) ≡ true
unfolding fits_byte is_digit
fits_digit m = simp (le-leb 48 (m % 10 + 48) (omega arith), le-leb (m % 10 + 48) 57 (omega arith))

fits_width : (m : ℕ) → 1 ≤ m → m ≤ 9 → fits_byte 43 (m % 10 + 48) ≡ true
unfolding fits_byte
fits_width m l h = simp (le-leb 49 (m % 10 + 48) (omega arith), le-leb (m % 10 + 48) 57 (omega arith))

-- five digits, and what comes after them
shaped_five : (n : ℕ) (ts s : List ℕ) → shaped ts s ≡ true → shaped (35 ∷ 35 ∷ 35 ∷ 35 ∷ 35 ∷ ts) (in_digits 5 n ++ s) ≡ true
unfolding in_digits shaped
shaped_five n ts s e = simp (fits_digit, e)

-- bytes 20 to 23
widths : ℕ → ℕ → List ℕ
widths a b = in_digits 1 a ++ (in_digits 1 b ++ ascii "04")

shaped_widths : (a b : ℕ) → Widths a b → (z : List ℕ) → shaped (ascii "++04") (widths a b ++ z) ≡ true
unfolding widths in_digits shaped fits_byte
shaped_widths a b w z = simp (fits_width a w.a_some w.a_digit, fits_width b w.b_some w.b_digit)

shaped_marks : (first : Bool) (a b : ℕ) → Widths a b → (z : List ℕ) → shaped (drop 17 (template first)) (marks first ++ (widths a b ++ z)) ≡ true
unfolding shaped fits_byte
shaped_marks true a b w z = shaped_widths a b w z
shaped_marks false a b w z = shaped_widths a b w z

shaped_all : (first : Bool) (a b len base : ℕ) → Widths a b → (z : List ℕ)
    → shaped (template first) (in_digits 5 len ++ (middle first ++ (in_digits 5 base ++ (marks first ++ (widths a b ++ z))))) ≡ true
unfolding shaped fits_byte
shaped_all true a b len base w z =
    shaped_five len (drop 5 (template true)) _ (shaped_five base (drop 17 (template true)) _ (shaped_marks true a b w z))
shaped_all false a b len base w z =
    shaped_five len (drop 5 (template false)) _ (shaped_five base (drop 17 (template false)) _ (shaped_marks false a b w z))

-- ---- what they say

length_middle : (first : Bool) → length (middle first) ≡ 7
length_middle true = refl
length_middle false = refl

length_marks : (first : Bool) → length (marks first) ≡ 3
length_marks true = refl
length_marks false = refl

-- a leader that was written at the front of s
module _ (a b : ℕ) (first : Bool) (len base : ℕ) (s z : List ℕ) (w : Widths a b)
    (e : s ≡ in_digits 5 len ++ (middle first ++ (in_digits 5 base ++ (marks first ++ (widths a b ++ z))))) where
  base_read : base < 10 ^ 5 → number_at s 12 5 ≡ Some base
  base_read =
      number_off s (in_digits 5 len ++ middle first) (marks first ++ (widths a b ++ z)) 12 5 base (e ∙ simp append_assoc)
      (simp (length-append, length_digits, length_middle))

  before_widths : List ℕ
  before_widths = in_digits 5 len ++ (middle first ++ (in_digits 5 base ++ marks first))

  twenty : length before_widths ≡ 20
  unfolding before_widths
  twenty = simp (length-append, length_digits, length_middle, length_marks)

  at_widths : s ≡ before_widths ++ (widths a b ++ z)
  unfolding before_widths
  at_widths = e ∙ simp append_assoc

  a_read : get_or s 20 0 - 48 ≡ a
  unfolding widths in_digits
  a_read = simp (byte_off s before_widths (widths a b ++ z) 20 at_widths twenty 0) (let h = w.a_digit in omega arith)

  b_read : get_or s 21 0 - 48 ≡ b
  unfolding widths in_digits
  b_read = simp (byte_off s before_widths (widths a b ++ z) 20 at_widths twenty 1) (let h = w.b_digit in omega arith)

  leader_read : 24 ≤ length s → len ≤ length s → len < 10 ^ 5 → base < 10 ^ 5 → leader_of s first ≡ good len (shape base a b)
  unfolding leader_of stated_of
  leader_read l n h g =
      simp (
        le-ltb (length s) 24 l,
        ap (shaped (template first)) e,
        shaped_all first a b len base w z,
        number_off s [] _ 0 5 len e refl h,
        base_read g,
        le-ltb (length s) len n,
        a_read,
        b_read,
      )

-- the leader of a written record, whatever stands after the record
pub leader_back : (a b : ℕ) → Widths a b → (first : Bool) (fs : List Field) (after : List ℕ) → length_of a b fs < 100000
    → leader_of (emit a b first fs ++ after) first ≡ good (length_of a b fs) (shape (base_of a b fs) a b)
unfolding emit leading widths
leader_back a b w first fs after h =
    let l = length-append (emit a b first fs) after in
    let k = length_emit a b first fs in
    leader_read a b first (length_of a b fs) (base_of a b fs) (emit a b first fs ++ after) ((entries a b 0 fs ++ (30 ∷ contents fs)) ++ after) w
    (simp append_assoc) (omega arith) (omega arith) h (omega arith)
