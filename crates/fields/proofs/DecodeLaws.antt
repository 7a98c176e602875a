-- Written, then read: over every head and tuple, values in range are read again as they were written; and how many bytes they are.
-- Assumes nothing.
use Prim.Native.Nat.{ℕ, ◌+◌, ◌*◌, ◌^◌, ◌≤◌, ◌<◌}
use mathlib.Core.Path.{◌≡◌, refl, sym, ap, ap₂, ◌∙◌}
use mathlib.Core.Bool.{Bool, true, false, true≢false}
use mathlib.Core.Option.{Option, none, some}
use mathlib.Core.List.{List, [], ◌∷◌, ◌++◌, append_assoc, append-nil}
use native.Mathlib.Nat.{mul-zero, mul-suc}
use native.Mathlib.Omega.{arith}
use lib.ListN.{length, drop, length-append}
use lib.Seq.{get_or-append_seam, drop-append_seam, take-append_seam}
use lib.Dec.{ltb, eqb}
use borrow.Author.Tests.{le-leb, lt-ltb, ltb-true, eqb-true}
use Rattle.base.specs.Choice.{pick, both}
use Rattle.base.specs.Lists.{gather}
use Rattle.base.specs.Walk.{Got, before}
use Rattle.base.proofs.ChoiceLaws.{both_hold}
use Rattle.fields.specs.Bytes.{le, bytes, run, clean}
use Rattle.fields.specs.Sizes.{num_size, text_size, fixed_size, size, sizes, amount}
use Rattle.fields.specs.Values.{Val, num, txt, value, values, width, mark, put, puts, put_all}
use Rattle.fields.specs.Content.{Content, tuples, many, fill, content, decode, encode}
use Rattle.fields.specs.Valid.{allows, takes_text, passes, pass_all, pass_each, valid}
use Rattle.fields.specs.Places.{ending_at}
use Rattle.fields.specs.declared.Sub.{Sub}
use Rattle.fields.specs.declared.Sub.TheVariants.{B11, B12, B14, Among, Raw, Text, Fixed}
use Rattle.fields.proofs.ByteLaws.{length_bytes, le_bytes, clean_run, clean_le}
use Rattle.fields.proofs.SizeLaws.{is_num, all_num, widths, num_size_lem}
use Rattle.fields.proofs.TupleLaws.{tuples_end, tuples_on}
use Rattle.fields.proofs.FieldLaws.{fills}
use Rattle.fields.proofs.ValueLaws.{num_value}

-- ---- a value, and bytes behind it

-- it is read again
abbrev Back : Sub → Val → List ℕ → Type 0
Back d v r = (size d (put d v ++ r) ≡ some (length (put d v))) × (value d (put d v ++ r) ≡ v)

num_back : (d : Sub) (n : ℕ) (r : List ℕ) → is_num d ≡ true → passes d (num n) ≡ true → Back d (num n) r
unfolding put passes num_size
num_back d n r i p =
    let q = both_hold (ltb n (256 ^ width d)) (allows d n) p in
    let e : le (width d) (bytes (width d) n ++ r) ≡ n = le_bytes (width d) n r (ltb-true n (256 ^ width d) q.0) in
    let k : width d ≤ length (bytes (width d) n ++ r) = omega (arith, length-append (bytes (width d) n) r, length_bytes (width d) n) in (
      num_size_lem d (bytes (width d) n ++ r) i ∙ simp (le-leb (width d) (length (bytes (width d) n ++ r)) k, e, q.1, length_bytes),
      num_value d (bytes (width d) n ++ r) i ∙ ap num e,
    )

text_back : (t r : List ℕ) → clean t ≡ true → Back Text (txt t) r
unfolding size value put mark text_size
text_back t r c =
    let j : (t ++ 31 ∷ []) ++ r ≡ t ++ 31 ∷ r = append_assoc t (31 ∷ []) r in
    let e : run (t ++ 31 ∷ r) ≡ length t = clean_run t 31 r c refl in
    let k : length t < length (t ++ 31 ∷ r) = omega (arith, length-append t (31 ∷ r)) in (
      simp (j, e, lt-ltb (length t) (length (t ++ 31 ∷ r)) k, get_or-append_seam) (ap some (sym (length-append t (31 ∷ [])))),
      simp (j, e, take-append_seam),
    )

fixed_back : (n : ℕ) (t r : List ℕ) → clean t ≡ true → length t ≡ n → Back (Fixed n) (txt t) r
unfolding size value put mark fixed_size
fixed_back n t r c e = (
  simp (append-nil, ← e, le-leb (length t) (run (t ++ r)) (clean_le t r c)),
  simp (append-nil, ← e, take-append_seam),
)

-- no value of the other sort passes
takes_none : (d : Sub) (n : ℕ) → is_num d ≡ true → takes_text d n ≡ false
unfolding takes_text
takes_none (B11 lo hi) n i = refl
takes_none (B12 lo hi) n i = refl
takes_none (B14 lo hi) n i = refl
takes_none (Among p q s t) n i = refl
takes_none (Raw w) n i = refl
takes_none Text n i = absurd (true≢false (sym i))
takes_none (Fixed w) n i = absurd (true≢false (sym i))

no_text {ℓ} : {X : Type ℓ} (d : Sub) (t : List ℕ) → is_num d ≡ true → passes d (txt t) ≡ true → X
unfolding passes
no_text d t i p = absurd (true≢false (sym (both_hold (clean t) (takes_text d (length t)) p).1 ∙ takes_none d (length t) i))

no_num {ℓ} : {X : Type ℓ} (n : ℕ) → both (ltb n 1) false ≡ true → X
no_num n p = absurd (true≢false (sym (both_hold (ltb n 1) false p).1))

put_back : (d : Sub) (v : Val) (r : List ℕ) → passes d v ≡ true → Back d v r
unfolding passes allows takes_text
put_back (B11 lo hi) (num n) r p = num_back (B11 lo hi) n r refl p
put_back (B12 lo hi) (num n) r p = num_back (B12 lo hi) n r refl p
put_back (B14 lo hi) (num n) r p = num_back (B14 lo hi) n r refl p
put_back (Among a b c d) (num n) r p = num_back (Among a b c d) n r refl p
put_back (Raw w) (num n) r p = num_back (Raw w) n r refl p
put_back Text (num n) r p = no_num n p
put_back (Fixed w) (num n) r p = no_num n p
put_back (B11 lo hi) (txt t) r p = no_text (B11 lo hi) t refl p
put_back (B12 lo hi) (txt t) r p = no_text (B12 lo hi) t refl p
put_back (B14 lo hi) (txt t) r p = no_text (B14 lo hi) t refl p
put_back (Among a b c d) (txt t) r p = no_text (Among a b c d) t refl p
put_back (Raw w) (txt t) r p = no_text (Raw w) t refl p
put_back Text (txt t) r p = text_back t r (both_hold (clean t) true p).0
put_back (Fixed w) (txt t) r p =
    let q = both_hold (clean t) (eqb (length t) w) p in
    fixed_back w t r q.0 (eqb-true (length t) w q.1)

-- ---- values, tuples, fields

pub puts_back : (ds : List Sub) (vs : List Val) (r : List ℕ) → pass_all ds vs ≡ true
    → (sizes ds (puts ds vs ++ r) ≡ some (length (puts ds vs))) × (values ds (puts ds vs ++ r) ≡ vs)
unfolding sizes values puts pass_all
puts_back [] [] r p = (refl, refl)
puts_back [] (v ∷ vs) r p = absurd (true≢false (sym p))
puts_back (d ∷ ds) [] r p = absurd (true≢false (sym p))
puts_back (d ∷ ds) (v ∷ vs) r p =
    let q = both_hold (passes d v) (pass_all ds vs) p in
    let one = put_back d v (puts ds vs ++ r) q.0 in
    let ih = puts_back ds vs r q.1 in (
      simp (append_assoc, one.0, drop-append_seam, ih.0) (ap some (sym (length-append (put d v) (puts ds vs)))),
      simp (append_assoc, one.0, one.1, drop-append_seam, ih.1),
    )

pub all_back : (t : List Sub) (vss : List (List Val)) → pass_each t vss ≡ true → tuples t (put_all t vss) ≡ record { items = vss; ending = 0 }
unfolding put_all gather pass_each
all_back t [] p = tuples_end t [] (omega arith)
all_back t (vs ∷ vss) p =
    let q = both_hold (pass_all t vs) (both (ltb 0 (length (puts t vs))) (pass_each t vss)) p in
    let s = both_hold (ltb 0 (length (puts t vs))) (pass_each t vss) q.1 in
    let pos : 0 < length (puts t vs) = ltb-true 0 (length (puts t vs)) s.0 in
    let one = puts_back t vs (put_all t vss) q.0 in
    let h : 0 < length (puts t vs ++ put_all t vss) = omega (arith, length-append (puts t vs) (put_all t vss)) in
    tuples_on t (puts t vs ++ put_all t vss) h (length (puts t vs)) one.0 pos
    ∙ ap₂ before one.1 (ap (tuples t) (drop-append_seam (puts t vs) (put_all t vss)) ∙ all_back t vss s.1)

-- what is written fills the field, and is its content
pub encode_fill : (h t : List Sub) (c : Content) → valid h t c ≡ true → (fill h t (encode h t c) ≡ true) × (content h t (encode h t c) ≡ c)
unfolding valid encode content ending_at many
encode_fill h t c p =
    let q = both_hold (pass_all h c.head) (pass_each t c.tuples) p in
    let one = puts_back h c.head (put_all t c.tuples) q.0 in
    let b = puts h c.head ++ put_all t c.tuples in
    let seam : drop (length (puts h c.head)) b ≡ put_all t c.tuples = drop-append_seam (puts h c.head) (put_all t c.tuples) in
    let all : tuples t (drop (length (puts h c.head)) b) ≡ record { items = c.tuples; ending = 0 } = ap (tuples t) seam ∙ all_back t c.tuples q.1 in
    let m : many t (drop (amount (sizes h b)) b) ≡ c.tuples =
    ap (λ (o : Option ℕ). many t (drop (amount o) b)) one.0 ∙ ap (λ (g : Got (List Val)). g.items) all
    in (
      fills h t b (length (puts h c.head)) one.0 (ap (λ (g : Got (List Val)). g.ending) all),
      λ k. record { head = one.1 k; tuples = m k },
    )

-- what is written is read again
pub decode_encode : (h t : List Sub) (c : Content) → valid h t c ≡ true → decode h t (encode h t c) ≡ some c
unfolding decode
decode_encode h t c p =
    let r = encode_fill h t c p in
    ap (λ (u : Bool). pick u (some (content h t (encode h t c))) none) r.0 ∙ ap some r.1

-- ---- lengths

-- a number is as wide as its subfield, a text as long as it is and what ends it
pub length_num : (d : Sub) (n : ℕ) → length (put d (num n)) ≡ width d
unfolding put
length_num d n = length_bytes (width d) n

pub length_text : (d : Sub) (t : List ℕ) → length (put d (txt t)) ≡ length t + length (mark d)
unfolding put
length_text d t = length-append t (mark d)

pub length_puts : (d : Sub) (ds : List Sub) (v : Val) (vs : List Val) → length (puts (d ∷ ds) (v ∷ vs)) ≡ length (put d v) + length (puts ds vs)
unfolding puts
length_puts d ds v vs = length-append (put d v) (puts ds vs)

-- a value for each subfield, and each of them a number
length_number : (d : Sub) (v : Val) → is_num d ≡ true → passes d v ≡ true → length (put d v) ≡ width d
length_number d (num n) i p = length_num d n
length_number d (txt t) i p = no_text d t i p

pub length_numbers : (ds : List Sub) (vs : List Val) → all_num ds ≡ true → pass_all ds vs ≡ true → length (puts ds vs) ≡ widths ds
unfolding puts pass_all
length_numbers [] [] i p = refl
length_numbers [] (v ∷ vs) i p = absurd (true≢false (sym p))
length_numbers (d ∷ ds) [] i p = absurd (true≢false (sym p))
length_numbers (d ∷ ds) (v ∷ vs) i p =
    let u = both_hold (is_num d) (all_num ds) i in
    let q = both_hold (passes d v) (pass_all ds vs) p in
    length-append (put d v) (puts ds vs) ∙ ap₂ (λ (x y : ℕ). x + y) (length_number d v u.0 q.0) (length_numbers ds vs u.1 q.1)

-- tuples of numbers
pub length_even : (t : List Sub) (vss : List (List Val)) → all_num t ≡ true → pass_each t vss ≡ true → length (put_all t vss) ≡ widths t * length vss
unfolding put_all gather pass_each
length_even t [] i p = sym (mul-zero (widths t))
length_even t (vs ∷ vss) i p =
    let q = both_hold (pass_all t vs) (both (ltb 0 (length (puts t vs))) (pass_each t vss)) p in
    let s = both_hold (ltb 0 (length (puts t vs))) (pass_each t vss) q.1 in
    rw mul-suc
    (let e : length (put_all t vss) ≡ widths t * length vss = length_even t vss i s.1 in
    omega (arith, length-append (puts t vs) (put_all t vss), length_numbers t vs i q.0))
