-- The tuples of a field counted: the ways through a loop over them, lists of which the length alone is tested, and what the count means.
-- Assumes nothing.
use Prim.Native.Nat.{ℕ, zero, suc, ◌+◌, ◌-◌, ◌/◌, ◌%◌, ◌≤◌, ◌<◌}
use mathlib.Core.Path.{◌≡◌, refl, sym, ap, ap₂, ◌∙◌}
use mathlib.Core.Bool.{true, false, true≢false}
use mathlib.Core.Option.{none, some}
use mathlib.Core.List.{List, [], ◌∷◌}
use native.Mathlib.Nat.{add-zero, mod-eq-sub-mod, mod-eq_of_lt, zero-mod, zero-div, div-eq_of_lt, div-eq-sub-div}
use native.Mathlib.Omega.{arith}
use lib.ListN.{length, drop, length-drop}
use lib.Dec.{leb, eqb, leb-zero}
use borrow.Author.Tests.{eq-eqb, ne_eqb, le-leb, lt-leb}
use Rattle.std.specs.Prelude.{Option as StdOption, Some, None, Result, Ok, Err}
use Rattle.base.specs.Choice.{pick}
use Rattle.base.specs.Walk.{Got, before}
use Rattle.base.proofs.OptionLaws.{some_inj}
use Rattle.fields.specs.Sizes.{any, num_size, size, sizes, on_size, plus}
use Rattle.fields.specs.Values.{Val, values}
use Rattle.fields.specs.Content.{tuples, tallied, tally}
use Rattle.fields.specs.Places.{subfields_end, tally_at, all_raw}
use Rattle.fields.specs.declared.Sub.{Sub}
use Rattle.fields.specs.declared.Sub.TheVariants.{B11, B12, B14, Among, Raw, Text, Fixed}
use Rattle.fields.proofs.SizeLaws.{widths, tested, subfields_bound, after_at}
use Rattle.fields.proofs.TupleLaws.{split, tuples_end, tuples_bad, tuples_on, here_end, here_bad, here_stuck, here_on}

-- ---- the ways through a loop over tuples

-- one tuple more
tallied_on : (k : ℕ) (v : List Val) (g : Got (List Val)) → tallied k (before v g) ≡ tallied (k + 1) g
tallied_on k v g = ap₂ (λ (x y : ℕ). pick (eqb g.ending 0) (Ok x) (Err y)) (omega arith) (omega arith)

pub tally_done : (t : List Sub) (b : List ℕ) (p k : ℕ) (W : Result ℕ ℕ) → tally_at t b p k ≡ W → length b ≤ p → Ok k ≡ W
unfolding tally_at tally
tally_done t b p k W inv h = sym (ap (tallied k) (here_end t b p h) ∙ ap Ok (add-zero k)) ∙ inv

module _ (t : List Sub) (b : List ℕ) (p k : ℕ) (r : StdOption ℕ) (W : Result ℕ ℕ) (got : r ≡ subfields_end t b p) (inv : tally_at t b p k ≡ W) (h : p < length b) where
  short : tuples t (drop p b) ≡ record { items = []; ending = 5 } → Err (k + 1) ≡ W
  unfolding tally_at tally
  short e = sym (ap (tallied k) e ∙ ap Err (omega arith)) ∙ inv

  pub tally_bad : r ≡ None → Err (k + 1) ≡ W
  tally_bad e = short (here_bad t b p h (sym got ∙ e))

  pub tally_stuck : (n : ℕ) → r ≡ Some n → n ≤ p → Err (k + 1) ≡ W
  tally_stuck n e q = short (here_stuck t b p h n (sym got ∙ e) q)

  pub tally_on : (n : ℕ) → r ≡ Some n → p < n → tally_at t b n (k + 1) ≡ W
  unfolding tally_at tally
  tally_on n e q =
      sym (ap (tallied k) (here_on t b p h n (sym got ∙ e) q) ∙ tallied_on k (values t (drop p b)) (tuples t (drop n b))) ∙ inv

pub tally_in : (t : List Sub) (b : List ℕ) (p n : ℕ) (r : StdOption ℕ) → p ≤ length b → r ≡ subfields_end t b p → r ≡ Some n → n ≤ length b
tally_in t b p n r h got e = subfields_bound t b p n h (sym got ∙ e)

pub ruleset tally_turn = (tally_done, tally_bad, tally_stuck, tally_on, tally_in, arith)

-- ---- lists of which the length alone is tested

-- m bytes counted as tuples of w bytes, where k tuples stand before them
abbrev pub by_length : ℕ → ℕ → ℕ → Result ℕ ℕ
by_length w m k = pick (eqb (m % w) 0) (Ok (k + m / w)) (Err (k + m / w + 1))

by_none : (w m k : ℕ) → m ≡ 0 → by_length w m k ≡ Ok k
by_none w m k e =
    let r : m % w ≡ 0 = ap (λ (x : ℕ). x % w) e ∙ zero-mod w in
    let q : m / w ≡ 0 = ap (λ (x : ℕ). x / w) e ∙ zero-div w in
    simp (eq-eqb (m % w) 0 r) (ap Ok (omega arith))

by_more : (w m k : ℕ) → 0 < w → w ≤ m → by_length w (m - w) (k + 1) ≡ by_length w m k
by_more w m k pos h =
    let r : m % w ≡ (m - w) % w = mod-eq-sub-mod h in
    let q : m / w ≡ (m - w) / w + 1 = div-eq-sub-div pos h in
    rw r (ap₂ (λ (x y : ℕ). pick (eqb ((m - w) % w) 0) (Ok x) (Err y)) (omega arith) (omega arith))

by_less : (w m k : ℕ) → 0 < m → m < w → Err (k + 1) ≡ by_length w m k
by_less w m k pos h =
    let q : m / w ≡ 0 = div-eq_of_lt h in
    sym (simp (ne_eqb (m % w) 0 (λ e. omega (arith, mod-eq_of_lt h))) (ap Err (omega arith)))

pub not_raw {ℓ} : {X : Type ℓ} → false ≡ true → X
not_raw e = absurd (true≢false (sym e))

-- n bytes and then s bytes are n + s bytes
raw_more : (n s : ℕ) (l : List ℕ) (ds : List Sub) → ((m : List ℕ) → sizes ds m ≡ pick (leb s (length m)) (some s) none)
    → on_size (num_size n any l) none (λ m. plus m (sizes ds (drop m l))) ≡ pick (leb (n + s) (length l)) (some (n + s)) none
unfolding num_size
raw_more n s l ds ih =
    split n (length l)
    (λ h. simp (le-leb n (length l) h, ih, length-drop)
    (split s (length l - n)
    (λ k. simp (le-leb s (length l - n) k, le-leb (n + s) (length l) (omega arith)))
    (λ k. simp (lt-leb s (length l - n) k, lt-leb (n + s) (length l) (omega arith)))))
    (λ h. simp (lt-leb n (length l) h, lt-leb (n + s) (length l) (omega arith)))

raw_sizes : (t : List Sub) → all_raw t ≡ true → (l : List ℕ) → sizes t l ≡ pick (leb (widths t) (length l)) (some (widths t)) none
unfolding all_raw sizes size
raw_sizes [] e l = simp leb-zero
raw_sizes (B11 lo hi ∷ ds) e l = not_raw e
raw_sizes (B12 lo hi ∷ ds) e l = not_raw e
raw_sizes (B14 lo hi ∷ ds) e l = not_raw e
raw_sizes (Among p q s t ∷ ds) e l = not_raw e
raw_sizes (Raw n ∷ ds) e l = raw_more n (widths ds) l ds (raw_sizes ds e)
raw_sizes (Text ∷ ds) e l = not_raw e
raw_sizes (Fixed n ∷ ds) e l = not_raw e

module _ (t : List Sub) (raw : all_raw t ≡ true) (pos : 0 < widths t) where
  raw_none : (k : ℕ) (l : List ℕ) → length l ≤ 0 → tally t l k ≡ by_length (widths t) (length l) k
  unfolding tally
  raw_none k l h = ap (tallied k) (tuples_end t l h) ∙ ap Ok (add-zero k) ∙ sym (by_none (widths t) (length l) k (omega arith))

  raw_less : (k : ℕ) (l : List ℕ) → 0 < length l → length l < widths t → tally t l k ≡ by_length (widths t) (length l) k
  unfolding tally
  raw_less k l h m =
      ap (tallied k) (tuples_bad t l h (raw_sizes t raw l ∙ simp (lt-leb (widths t) (length l) m)))
      ∙ ap Err (omega arith)
      ∙ by_less (widths t) (length l) k h m

  raw_next : (k : ℕ) (l : List ℕ) → 0 < length l → widths t ≤ length l → tally t l k ≡ tally t (drop (widths t) l) (k + 1)
  unfolding tally
  raw_next k l h m =
      ap (tallied k) (tuples_on t l h (widths t) (raw_sizes t raw l ∙ simp (le-leb (widths t) (length l) m)) pos)
      ∙ tallied_on k (values t l) (tuples t (drop (widths t) l))

  raw_by : (f k : ℕ) (l : List ℕ) → length l ≤ f → tally t l k ≡ by_length (widths t) (length l) k
  raw_by zero k l h = raw_none k l h
  raw_by (suc f) k l h =
      split (length l) 0 (raw_none k l)
      (λ g. split (widths t) (length l)
      (λ m.
      raw_next k l g m
      ∙ raw_by f (k + 1) (drop (widths t) l) (omega (arith, length-drop (widths t) l))
      ∙ ap (λ (x : ℕ). by_length (widths t) x (k + 1)) (length-drop (widths t) l)
      ∙ by_more (widths t) (length l) k pos m)
      (raw_less k l g))

  -- where any bytes will do, their length tells how many tuples there are
  pub raw_tally : (l : List ℕ) (k : ℕ) → tally t l k ≡ by_length (widths t) (length l) k
  raw_tally l k = raw_by (length l) k l (omega arith)

-- the same from a place on, where the first tuple ends at n
raw_at : (t : List Sub) (b : List ℕ) (p n : ℕ) (r : StdOption ℕ) → all_raw t ≡ true → r ≡ subfields_end t b p → r ≡ Some n → p < n
    → by_length (n - p) (length b - p) 0 ≡ tally_at t b p 0
unfolding subfields_end tally_at
raw_at t b p n r raw got e h =
    let s = after_at p n (sizes t (drop p b)) (sym got ∙ e) in
    let u = tested (leb (widths t) (length (drop p b))) (some (widths t)) s.0 (sym (raw_sizes t raw (drop p b)) ∙ s.1) in
    let w : widths t ≡ s.0 = some_inj u.1 in
    let v : p + s.0 ≡ n = s.2 in
    let q : widths t ≡ n - p = omega arith in
    sym (raw_tally t raw (omega arith) (drop p b) 0 ∙ rw (q, length-drop))

module _ (t : List Sub) (b : List ℕ) (p n : ℕ) (r : StdOption ℕ) (raw : all_raw t ≡ true) (got : r ≡ subfields_end t b p) (e : r ≡ Some n) (h : p < n) where
  pub raw_whole : (length b - p) % (n - p) ≡ 0 → Ok ((length b - p) / (n - p)) ≡ tally_at t b p 0
  raw_whole z = sym (simp (eq-eqb ((length b - p) % (n - p)) 0 z) (ap Ok (omega arith))) ∙ raw_at t b p n r raw got e h

  pub raw_short : ((length b - p) % (n - p) ≡ 0 → ⊥) → Err ((length b - p) / (n - p) + 1) ≡ tally_at t b p 0
  raw_short z = sym (simp (ne_eqb ((length b - p) % (n - p)) 0 z) (ap Err (omega arith))) ∙ raw_at t b p n r raw got e h

-- no first tuple
module _ (t : List Sub) (b : List ℕ) (p : ℕ) (r : StdOption ℕ) (got : r ≡ subfields_end t b p) (h : p < length b) where
  pub first_bad : r ≡ None → Err 1 ≡ tally_at t b p 0
  first_bad e = tally_bad t b p 0 r (tally_at t b p 0) got refl h e

  pub first_stuck : (n : ℕ) → r ≡ Some n → n ≤ p → Err 1 ≡ tally_at t b p 0
  first_stuck n e q = tally_stuck t b p 0 r (tally_at t b p 0) got refl h n e q

pub ruleset raw_turn = (first_bad, first_stuck, raw_whole, raw_short, arith)
