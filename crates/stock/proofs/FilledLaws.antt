-- The fields of a record fill it, and it has at most 99,999 bytes. Assumes nothing.
use Prim.Native.Nat.{ℕ, suc, ◌+◌, ◌-◌, ◌*◌, ◌^◌, ◌≤◌, ◌<◌}
use mathlib.Core.Path.{◌≡◌, refl, sym}
use mathlib.Core.Bool.{Bool, true, false}
use mathlib.Core.List.{List, [], ◌∷◌}
use native.Mathlib.Omega.{arith}
use native.Mathlib.Nat.{mul-le-mul_right, pow-suc, one-le-pow, pow-le-pow_right}
use borrow.Author.Tests.{leb-true, eqb-true}
use lib.Dec.{leb, eqb, ltb}
use lib.ListN.{length, length-take, length-drop, drop, get_or}
use Rattle.std.specs.Prelude.{Option, Some, None, Result, Ok, Err}
use Rattle.base.specs.Choice.{pick, both}
use Rattle.base.proofs.ChoiceLaws.{by_test, both_hold}
use Rattle.base.proofs.WalkLaws.{by_measure}
use Rattle.skeleton.specs.Digits.{is_digit, digits, digits_from, number_at, value_of, window}
use Rattle.skeleton.specs.Leader.{good, shape, within, stated_of}
use Rattle.skeleton.specs.Directory.{entry_at, lies, ended, fields_from}
use Rattle.skeleton.specs.Emit.{sizes}
use Rattle.skeleton.specs.Place.{between, place_at, fields_at}
use Rattle.skeleton.specs.Record.{record_at, stated_at}
use Rattle.skeleton.specs.declared.directory.Entry.{Entry}
use Rattle.skeleton.specs.declared.directory.Entry.TheVariants.{Field as FieldAt, End, Bad}
use Rattle.skeleton.specs.declared.directory.Shape.{Shape}
use Rattle.skeleton.specs.declared.leader.Head.{Head}
use Rattle.skeleton.specs.declared.leader.Broken.{Broken}
use Rattle.skeleton.specs.declared.leader.Broken.TheVariants.{Cut}
use Rattle.skeleton.proofs.DirectoryLaws.{lies_in, dir_more, dir_not, dir_end_not, dir_bad}
use Rattle.skeleton.proofs.PlaceLaws.{fields_more, fields_done, place_there, place_end, place_falls}
use Rattle.skeleton.proofs.RecordLaws.{right}

-- ---- the stated length

-- digits behind those of acc
digits_few : (bs : List ℕ) (acc : ℕ) → value_of (digits bs acc) < (acc + 1) * 10 ^ length bs
unfolding digits is_digit
digits_few [] acc = omega arith
digits_few (b ∷ bs) acc =
    by_test (λ n. value_of n < (acc + 1) * 10 ^ suc (length bs)) (both (leb 48 b) (leb b 57)) _ _
    (λ e.
    let x = leb-true b 57 (both_hold (leb 48 b) _ e).1 in
    let y : acc * 10 + (b - 48) + 1 ≤ (acc + 1) * 10 = omega arith in
    rw (pow-suc 10 (length bs)) (omega (arith, digits_few bs (acc * 10 + (b - 48)), mul-le-mul_right (10 ^ length bs) y)))
    (λ _.
    let y : 1 ≤ acc + 1 = omega arith in
    rw (pow-suc 10 (length bs)) (omega (arith, one-le-pow (length bs) 10 (omega arith), mul-le-mul_right (10 ^ length bs) y)))

-- a number of five digits
five_digits : (s : List ℕ) (at : ℕ) → value_of (number_at s at 5) < 100000
unfolding digits_from
five_digits s at =
    let a = digits_few (window s at 5) 0 in
    let b : length (window s at 5) ≤ 5 = simp length-take (omega arith) in
    omega (arith, pow-le-pow_right {n = 10} (omega arith) b)

-- a record has at most 99,999 bytes
within_short : (s : List ℕ) (n m : Option ℕ) → value_of n < 100000 → (d : Head) → within s n m ≡ Ok d → d.len ≤ 99999
within_short s (Some x) (Some y) h d e = go (ltb (length s) x) e
  where
    go : (t : Bool) → pick t (Err Cut) (good x (shape y (get_or s 20 0 - 48) (get_or s 21 0 - 48))) ≡ Ok d → d.len ≤ 99999
    go true z = absurd (let w : ◌≡◌ {A = ℕ} 0 1 = cc in omega arith)
    go false z = let w : x ≡ d.len = cc in omega arith
within_short s (Some x) None h d e = absurd (let w : ◌≡◌ {A = ℕ} 0 1 = cc in omega arith)
within_short s None m h d e = absurd (let w : ◌≡◌ {A = ℕ} 0 1 = cc in omega arith)

pub record_short : (f : List ℕ) (at : ℕ) (q : Result Head Broken) → q ≡ record_at f at → (d : Head) → q ≡ Ok d → d.len ≤ 99999
unfolding stated_at stated_of
record_short f at q e d x =
    let r = right f at q e d x in
    go (ltb (length f - at) 24) r.again
  where
    go : (t : Bool) → pick t (Err Cut) (within (drop at f) (number_at (drop at f) 0 5) (number_at (drop at f) 12 5)) ≡ Ok d → d.len ≤ 99999
    go true z = absurd (let w : ◌≡◌ {A = ℕ} 0 1 = cc in omega arith)
    go false z = within_short (drop at f) (number_at (drop at f) 0 5) (number_at (drop at f) 12 5) (five_digits (drop at f) 0) d z

-- ---- its fields

-- a body is one byte shorter than its field
body_long : (r : List ℕ) (start len : ℕ) → start + len ≤ length r → length (between r start (start + len - 1)) ≡ len - 1
body_long r start len h = simp (length-take, length-drop) (omega arith)

module _ (r : List ℕ) (h : Shape) where
  abbrev Fills : ℕ × ℕ → Type 0
  Fills s = (fields_from r h.base h.a h.b s.0 s.1).ending ≡ 0 → h.base + s.1 + sizes (fields_at r h s.0) ≡ length r

  fills_by : (s : ℕ × ℕ) → ((t : ℕ × ℕ) → length r - t.0 < length r - s.0 → Fills t) → (e : Entry) → e ≡ entry_at r h.a h.b s.0 → Fills s
  unfolding place_at ended sizes
  fills_by s ih (FieldAt tag pos len next) en z = go (lies r h.base s.1 pos len) refl
    where
      go : (t : Bool) → t ≡ lies r h.base s.1 pos len → h.base + s.1 + sizes (fields_at r h s.0) ≡ length r
      go true y =
          let l = lies_in r h.base s.1 pos len (sym y) in
          let more = dir_more r h.base h.a h.b s.0 s.1 0 z _ en tag pos len next refl true y refl in
          let there = place_there r h s.0 _ en tag pos len next refl l.not_empty l.inside in
          let falls = place_falls r h s.0 _ there (record { tag = tag; start = h.base + pos; end = h.base + pos + len - 1; next = next }) refl in
          let fields = fields_more r h s.0 _ there (record { tag = tag; start = h.base + pos; end = h.base + pos + len - 1; next = next }) refl in
          let later = ih (next, s.1 + len) falls more in
          let body : length (between r (h.base + pos) (h.base + pos + len - 1)) ≡ len - 1 = body_long r (h.base + pos) len l.inside in
          rw fields (rw body (omega arith))
      go false y = absurd (let w = dir_not r h.base h.a h.b s.0 s.1 0 z _ en tag pos len next refl false y refl in omega arith)
  fills_by s ih End en z = go (ended r h.base s.0 s.1) refl
    where
      go : (t : Bool) → t ≡ ended r h.base s.0 s.1 → h.base + s.1 + sizes (fields_at r h s.0) ≡ length r
      go true y =
          let a = both_hold (ltb 24 s.0) _ (sym y) in
          let b = both_hold (eqb (s.0 + 1) h.base) _ a.1 in
          let c = eqb-true (h.base + s.1) (length r) b.1 in
          rw (fields_done r h s.0 _ (place_end r h s.0 _ en refl) refl) (omega arith)
      go false y = absurd (let w = dir_end_not r h.base h.a h.b s.0 s.1 0 z _ en refl false y refl in omega arith)
  fills_by s ih Bad en z = absurd (let w = dir_bad r h.base h.a h.b s.0 s.1 0 z _ en refl in omega arith)

  -- the fields of a record, each with its 1E, fill it from its base address on
  fills : (s : ℕ × ℕ) → Fills s
  fills s = by_measure (λ (s : ℕ × ℕ). length r - s.0) Fills (λ s ih. fills_by s ih (entry_at r h.a h.b s.0) refl) s

pub record_filled : (f : List ℕ) (at : ℕ) (q : Result Head Broken) → q ≡ record_at f at → (d : Head) → q ≡ Ok d
    → d.shape.base + sizes (fields_at (between f at (at + d.len)) d.shape 24) ≡ length (between f at (at + d.len))
record_filled f at q e d x =
    let r = right f at q e d x in
    let y = fills (between f at (at + d.len)) d.shape (24, 0) r.walked in
    omega arith
