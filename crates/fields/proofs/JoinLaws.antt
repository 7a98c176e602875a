-- Bytes behind subfields that stand change nothing of them; so lists one after the other are one list. Assumes nothing.
use Prim.Native.Nat.{ℕ, zero, suc, ◌+◌, ◌*◌, ◌≤◌, ◌<◌, zero-le, suc-le-suc}
use mathlib.Core.Path.{◌≡◌, refl, sym, ap, ap₂, ◌∙◌}
use mathlib.Core.Bool.{Bool, true, false}
use mathlib.Core.Option.{some}
use mathlib.Core.List.{List, [], ◌∷◌, ◌++◌}
use native.Mathlib.Nat.{not-suc-le-zero, le_of_suc-le-suc}
use native.Mathlib.Omega.{arith}
use lib.ListN.{length, get_or, take, drop, length-append, get_or-append}
use lib.Seq.{take-append-le, drop-append-le}
use borrow.Author.Tests.{le-leb, lt-ltb}
use Rattle.base.specs.Choice.{pick}
use Rattle.base.specs.Walk.{Got, before}
use Rattle.base.proofs.ListLaws.{none_long}
use Rattle.fields.specs.Bytes.{sep, le, run}
use Rattle.fields.specs.Sizes.{in_range, in_set, any, num_size, text_size, fixed_size, size, sizes}
use Rattle.fields.specs.Values.{Val, num, txt, value, values}
use Rattle.fields.specs.Content.{tuples, many}
use Rattle.fields.specs.declared.Sub.{Sub}
use Rattle.fields.specs.declared.Sub.TheVariants.{B11, B12, B14, Among, Raw, Text, Fixed}
use Rattle.fields.proofs.ByteLaws.{run_le}
use Rattle.fields.proofs.SizeLaws.{num_some, text_some, fixed_some, size_bound, sizes_cons, sizes_join, sizes_bound}
use Rattle.fields.proofs.TupleLaws.{First, tuples_end, tuples_on, tuples_ind}
use Rattle.fields.proofs.ValueLaws.{values_first}

-- ---- bytes

le_behind : (w : ℕ) (l r : List ℕ) → w ≤ length l → le w (l ++ r) ≡ le w l
unfolding le
le_behind zero l r h = refl
le_behind (suc w) [] r h = absurd (not-suc-le-zero h)
le_behind (suc w) (x ∷ l) r h = ap (λ (n : ℕ). x + 256 * n) (le_behind w l r (le_of_suc-le-suc h))

run_behind_by : (u : Bool) (m n k : ℕ) → (m < k → n ≡ m) → pick u 0 (suc m) < suc k → pick u 0 (suc n) ≡ pick u 0 (suc m)
run_behind_by true m n k ih h = refl
run_behind_by false m n k ih h = ap suc (ih (le_of_suc-le-suc h))

-- a run that ends before the bytes do
pub run_behind : (l r : List ℕ) → run l < length l → run (l ++ r) ≡ run l
unfolding run
run_behind [] r h = absurd (not-suc-le-zero h)
run_behind (x ∷ l) r h = run_behind_by (sep x) (run l) (run (l ++ r)) (length l) (run_behind l r) h

run_grows_by : (u : Bool) (m n : ℕ) → m ≤ n → pick u 0 (suc m) ≤ pick u 0 (suc n)
run_grows_by true m n h = zero-le
run_grows_by false m n h = suc-le-suc h

run_grows : (l r : List ℕ) → run l ≤ run (l ++ r)
unfolding run
run_grows [] r = zero-le
run_grows (x ∷ l) r = run_grows_by (sep x) (run l) (run (l ++ r)) (run_grows l r)

-- ---- a subfield

num_behind : (w : ℕ) (ok : ℕ → Bool) (l r : List ℕ) (n : ℕ) → num_size w ok l ≡ some n
    → (num_size w ok (l ++ r) ≡ some n) × (num (le w (l ++ r)) ≡ num (le w l))
unfolding num_size
num_behind w ok l r n e =
    let s = num_some w ok l n e in
    let q : le w (l ++ r) ≡ le w l = le_behind w l r s.1 in
    let h : w ≤ length (l ++ r) = omega (arith, s.1, length-append l r) in
    (simp (le-leb w (length (l ++ r)) h, q, s.2) (ap some s.0), ap num q)

text_behind : (l r : List ℕ) (n : ℕ) → text_size l ≡ some n → (text_size (l ++ r) ≡ some n) × (txt (take (run (l ++ r)) (l ++ r)) ≡ txt (take (run l) l))
unfolding text_size
text_behind l r n e =
    let s = text_some l n e in
    let q : run (l ++ r) ≡ run l = run_behind l r s.1 in
    let h : run l < length (l ++ r) = omega (arith, s.1, length-append l r) in
    let g : get_or (l ++ r) (run l) 0 ≡ get_or l (run l) 0 = get_or-append l r 0 (run l) s.1 in (
      simp (q, lt-ltb (run l) (length (l ++ r)) h, g, s.2) (ap some s.0),
      ap txt (ap (λ (k : ℕ). take k (l ++ r)) q ∙ take-append-le (run l) l r (run_le l)),
    )

fixed_behind : (w : ℕ) (l r : List ℕ) (n : ℕ) → fixed_size w l ≡ some n → (fixed_size w (l ++ r) ≡ some n) × (txt (take w (l ++ r)) ≡ txt (take w l))
unfolding fixed_size
fixed_behind w l r n e =
    let s = fixed_some w l n e in
    let h : w ≤ run (l ++ r) = omega (arith, s.1, run_grows l r) in
    (simp (le-leb w (run (l ++ r)) h) (ap some s.0), ap txt (take-append-le w l r (omega (arith, s.1, run_le l))))

size_behind : (d : Sub) (l r : List ℕ) (n : ℕ) → size d l ≡ some n → (size d (l ++ r) ≡ some n) × (value d (l ++ r) ≡ value d l)
unfolding size value
size_behind (B11 lo hi) l r n e = num_behind 1 (in_range lo hi) l r n e
size_behind (B12 lo hi) l r n e = num_behind 2 (in_range lo hi) l r n e
size_behind (B14 lo hi) l r n e = num_behind 4 (in_range lo hi) l r n e
size_behind (Among p q s t) l r n e = num_behind 1 (in_set p q s t) l r n e
size_behind (Raw w) l r n e = num_behind w any l r n e
size_behind Text l r n e = text_behind l r n e
size_behind (Fixed w) l r n e = fixed_behind w l r n e

-- ---- subfields

pub sizes_behind : (ds : List Sub) (l r : List ℕ) (n : ℕ) → sizes ds l ≡ some n → (sizes ds (l ++ r) ≡ some n) × (values ds (l ++ r) ≡ values ds l)
unfolding sizes values
sizes_behind [] l r n e = (e, refl)
sizes_behind (d ∷ ds) l r n e =
    let s = sizes_cons d ds l n e in
    let one = size_behind d l r s.0 s.2 in
    let rest : drop s.0 (l ++ r) ≡ drop s.0 l ++ r = drop-append-le s.0 l r (size_bound d l s.0 s.2) in
    let ih = sizes_behind ds (drop s.0 l) r s.1 s.3 in (
      sizes_join d ds (l ++ r) s.0 s.1 one.0 (ap (sizes ds) rest ∙ ih.0) ∙ ap some s.4,
      values_first d ds (l ++ r) s.0 one.0
          ∙ ap₂ (λ (v : Val) (vs : List Val). v ∷ vs) one.1 (ap (values ds) rest ∙ ih.1)
          ∙ sym (values_first d ds l s.0 s.2),
    )

-- ---- lists of tuples

-- tuples, and behind them what others are
abbrev pub behind : List (List Val) → Got (List Val) → Got (List Val)
behind vs g = record { items = vs ++ g.items; ending = g.ending }

module _ (t : List Sub) (r : List ℕ) where
  join_base : (l : List ℕ) → length l ≤ 0 → tuples t (l ++ r) ≡ behind (many t l) (tuples t r)
  unfolding many
  join_base l h =
      ap (λ (x : List ℕ). tuples t (x ++ r)) (none_long l h) ∙ ap (λ (g : Got (List Val)). behind g.items (tuples t r)) (sym (tuples_end t l h))

  join_turn : (l : List ℕ) → 0 < length l → (f : First t l) → tuples t (drop f.bytes l ++ r) ≡ behind (many t (drop f.bytes l)) (tuples t r)
      → tuples t (l ++ r) ≡ behind (many t l) (tuples t r)
  unfolding many
  join_turn l h f ih =
      let s = sizes_behind t l r f.bytes f.taken in
      let rest : drop f.bytes (l ++ r) ≡ drop f.bytes l ++ r = drop-append-le f.bytes l r (sizes_bound t l f.bytes f.taken) in
      tuples_on t (l ++ r) (omega (arith, length-append l r)) f.bytes s.0 f.some_bytes
      ∙ ap₂ before s.1 (ap (tuples t) rest ∙ ih)
      ∙ ap (λ (g : Got (List Val)). behind g.items (tuples t r)) (sym f.found)

  -- a list that tuples fill, and bytes behind it
  pub tuples_join : (l : List ℕ) → (tuples t l).ending ≡ 0 → tuples t (l ++ r) ≡ behind (many t l) (tuples t r)
  tuples_join = tuples_ind t (λ l. tuples t (l ++ r) ≡ behind (many t l) (tuples t r)) join_base join_turn

  pub many_join : (l : List ℕ) → (tuples t l).ending ≡ 0 → many t (l ++ r) ≡ many t l ++ many t r
  unfolding many
  many_join l z = ap (λ (g : Got (List Val)). g.items) (tuples_join l z)
