-- Which bytes subfields take: bounds, the first of several and the others, and what one at a place gives, test by test. Assumes nothing.
use Prim.Native.Nat.{ℕ, ◌+◌, ◌-◌, ◌≤◌, ◌<◌}
use mathlib.Core.Path.{◌≡◌, refl, sym, ap, ◌∙◌}
use mathlib.Core.Bool.{Bool, true, false, true≢false}
use mathlib.Core.Option.{Option, none, some}
use mathlib.Core.List.{List, [], ◌∷◌}
use native.Mathlib.Nat.{add-zero, add_assoc}
use native.Mathlib.Omega.{arith}
use lib.ListN.{length, get_or, drop, length-drop}
use lib.Seq.{get_or-drop, drop-drop}
use lib.Dec.{leb, ltb, eqb}
use borrow.Author.Tests.{eq-eqb, ne_eqb, le-leb, lt-leb, lt-ltb, le-ltb, leb-true, ltb-true}
use Rattle.std.specs.Prelude.{Option as StdOption, Some, None}
use Rattle.base.specs.Choice.{pick, both}
use Rattle.base.proofs.ChoiceLaws.{both_hold}
use Rattle.base.proofs.OptionLaws.{some_inj}
use Rattle.fields.specs.Bytes.{le, run}
use Rattle.fields.specs.Sizes.{in_range, in_set, any, num_size, text_size, fixed_size, size, sizes, on_size, plus}
use Rattle.fields.specs.Values.{width}
use Rattle.fields.specs.Valid.{allows}
use Rattle.fields.specs.Places.{after, subfield_end, subfields_end}
use Rattle.fields.specs.declared.Sub.{Sub}
use Rattle.fields.specs.declared.Sub.TheVariants.{B11, B12, B14, Among, Raw, Text, Fixed}
use Rattle.fields.proofs.ByteLaws.{run_le}

-- ---- sizes that are there or not

pub not_some {ℓ} : {X : Type ℓ} {n : ℕ} → none ≡ some n → X
not_some e = absurd (let z : ◌≡◌ {A = ℕ} 0 1 = cc in omega arith)

-- a test that holds where there is a size
pub tested : (t : Bool) (o : Option ℕ) (n : ℕ) → pick t o none ≡ some n → (t ≡ true) × (o ≡ some n)
tested true o n e = (refl, e)
tested false o n e = not_some e

-- one size after the other
pub then_some : (o : Option ℕ) (f : ℕ → Option ℕ) (n : ℕ) → on_size o none f ≡ some n → (m : ℕ) × (o ≡ some m) × (f m ≡ some n)
then_some none f n e = not_some e
then_some (some m) f n e = (m, refl, e)

plus_some : (m n : ℕ) (o : Option ℕ) → plus m o ≡ some n → (k : ℕ) × (o ≡ some k) × (m + k ≡ n)
plus_some m n none e = not_some e
plus_some m n (some k) e = (k, refl, some_inj e)

-- ---- numbers

-- the subfield is a number
abbrev pub is_num : Sub → Bool
is_num (B11 lo hi) = true
is_num (B12 lo hi) = true
is_num (B14 lo hi) = true
is_num (Among p q s t) = true
is_num (Raw n) = true
is_num Text = false
is_num (Fixed n) = false

-- a number is as wide as its format says, and is tested by that format
pub num_size_lem : (d : Sub) (l : List ℕ) → is_num d ≡ true → size d l ≡ num_size (width d) (allows d) l
unfolding size allows
num_size_lem (B11 lo hi) l i = refl
num_size_lem (B12 lo hi) l i = refl
num_size_lem (B14 lo hi) l i = refl
num_size_lem (Among p q s t) l i = refl
num_size_lem (Raw n) l i = refl
num_size_lem Text l i = absurd (true≢false (sym i))
num_size_lem (Fixed n) l i = absurd (true≢false (sym i))

-- w bytes that pass a test
pub num_some : (w : ℕ) (ok : ℕ → Bool) (l : List ℕ) (n : ℕ) → num_size w ok l ≡ some n → (w ≡ n) × (w ≤ length l) × (ok (le w l) ≡ true)
unfolding num_size
num_some w ok l n e =
    let r = tested (leb w (length l)) (pick (ok (le w l)) (some w) none) n e in
    let s = tested (ok (le w l)) (some w) n r.1 in
    (some_inj s.1, leb-true w (length l) r.0, s.0)

-- each subfield is a number
abbrev pub all_num : List Sub → Bool
all_num [] = true
all_num (d ∷ ds) = both (is_num d) (all_num ds)

-- how many bytes subfields that are numbers take
abbrev pub widths : List Sub → ℕ
widths [] = 0
widths (d ∷ ds) = width d + widths ds

-- ---- texts

pub text_some : (l : List ℕ) (n : ℕ) → text_size l ≡ some n → (run l + 1 ≡ n) × (run l < length l) × (eqb (get_or l (run l) 0) 31 ≡ true)
unfolding text_size
text_some l n e =
    let r = tested (ltb (run l) (length l)) (pick (eqb (get_or l (run l) 0) 31) (some (run l + 1)) none) n e in
    let s = tested (eqb (get_or l (run l) 0) 31) (some (run l + 1)) n r.1 in
    (some_inj s.1, ltb-true (run l) (length l) r.0, s.0)

pub fixed_some : (w : ℕ) (l : List ℕ) (n : ℕ) → fixed_size w l ≡ some n → (w ≡ n) × (w ≤ run l)
unfolding fixed_size
fixed_some w l n e = let r = tested (leb w (run l)) (some w) n e in (some_inj r.1, leb-true w (run l) r.0)

-- ---- what subfields take is there

num_bound : (w : ℕ) (ok : ℕ → Bool) (l : List ℕ) (n : ℕ) → num_size w ok l ≡ some n → n ≤ length l
num_bound w ok l n e = let r = num_some w ok l n e in omega (arith, r.0, r.1)

pub size_bound : (d : Sub) (l : List ℕ) (n : ℕ) → size d l ≡ some n → n ≤ length l
unfolding size
size_bound (B11 lo hi) l n e = num_bound 1 (in_range lo hi) l n e
size_bound (B12 lo hi) l n e = num_bound 2 (in_range lo hi) l n e
size_bound (B14 lo hi) l n e = num_bound 4 (in_range lo hi) l n e
size_bound (Among p q s t) l n e = num_bound 1 (in_set p q s t) l n e
size_bound (Raw w) l n e = num_bound w any l n e
size_bound Text l n e = let r = text_some l n e in omega (arith, r.0, r.1)
size_bound (Fixed w) l n e = let r = fixed_some w l n e in omega (arith, r.0, r.1, run_le l)

-- the first subfield's bytes, and the others'
pub sizes_cons : (d : Sub) (ds : List Sub) (l : List ℕ) (n : ℕ) → sizes (d ∷ ds) l ≡ some n
    → (m : ℕ) × (k : ℕ) × (size d l ≡ some m) × (sizes ds (drop m l) ≡ some k) × (m + k ≡ n)
unfolding sizes
sizes_cons d ds l n e =
    let r = then_some (size d l) (λ (m : ℕ). plus m (sizes ds (drop m l))) n e in
    let q = plus_some r.0 n (sizes ds (drop r.0 l)) r.2 in
    (r.0, q.0, r.1, q.1, q.2)

-- subfields that are numbers take as many bytes as they are wide
pub num_widths : (ds : List Sub) (l : List ℕ) (n : ℕ) → all_num ds ≡ true → sizes ds l ≡ some n → n ≡ widths ds
unfolding sizes
num_widths [] l n i e = sym (some_inj e)
num_widths (d ∷ ds) l n i e =
    let r = sizes_cons d ds l n e in
    let q = both_hold (is_num d) (all_num ds) i in
    let w : width d ≡ r.0 = (num_some (width d) (allows d) l r.0 (sym (num_size_lem d l q.0) ∙ r.2)).0 in
    let s : r.0 + r.1 ≡ n = r.4 in
    omega (arith, num_widths ds (drop r.0 l) r.1 q.1 r.3)

-- and the two together
pub sizes_join : (d : Sub) (ds : List Sub) (l : List ℕ) (m k : ℕ) → size d l ≡ some m → sizes ds (drop m l) ≡ some k → sizes (d ∷ ds) l ≡ some (m + k)
unfolding sizes
sizes_join d ds l m k e q = rw (e, q)

pub sizes_bound : (ds : List Sub) (l : List ℕ) (n : ℕ) → sizes ds l ≡ some n → n ≤ length l
unfolding sizes
sizes_bound [] l n e = let z : 0 ≡ n = some_inj e in omega arith
sizes_bound (d ∷ ds) l n e =
    let r = sizes_cons d ds l n e in
    let s : r.0 + r.1 ≡ n = r.4 in
    let g : r.0 ≤ length l = size_bound d l r.0 r.2 in
    let h : r.1 ≤ length (drop r.0 l) = sizes_bound ds (drop r.0 l) r.1 r.3 in
    omega (arith, length-drop r.0 l)

-- ---- a subfield at a place, test by test

-- the end of a subfield by its format
pub by_format : (d e : Sub) (b : List ℕ) (at : ℕ) (r : StdOption ℕ) → r ≡ subfield_end e b at → d ≡ e → r ≡ subfield_end d b at
by_format d e b at r q f = q ∙ ap (λ (x : Sub). subfield_end x b at) (sym f)

after_pick : (at n : ℕ) (t : Bool) → after at (pick t (some n) none) ≡ pick t (Some (at + n)) None
after_pick at n true = refl
after_pick at n false = refl

-- a number
module _ (d : Sub) (b : List ℕ) (at : ℕ) (i : is_num d ≡ true) where
  pub num_short : length b - at < width d → None ≡ subfield_end d b at
  unfolding subfield_end num_size
  num_short h = sym (ap (after at) (num_size_lem d (drop at b) i) ∙ simp (length-drop, lt-leb (width d) (length b - at) h))

  pub num_there : width d ≤ length b - at → (v : ℕ) → v ≡ le (width d) (drop at b) → (r : StdOption ℕ) → r ≡ pick (allows d v) (Some (at + width d)) None
      → r ≡ subfield_end d b at
  unfolding subfield_end num_size
  num_there h v e r q =
      let there : subfield_end d b at ≡ pick (allows d (le (width d) (drop at b))) (Some (at + width d)) None =
      ap (after at) (num_size_lem d (drop at b) i)
      ∙ simp (length-drop, le-leb (width d) (length b - at) h) (after_pick at (width d) (allows d (le (width d) (drop at b))))
      in
      q ∙ ap (λ (u : ℕ). pick (allows d u) (Some (at + width d)) None) e ∙ sym there

-- any bytes
pub raw_there : (n : ℕ) (b : List ℕ) (at : ℕ) → n ≤ length b - at → Some (at + n) ≡ subfield_end (Raw n) b at
unfolding allows
raw_there n b at h = num_there (Raw n) b at refl h (le n (drop at b)) refl (Some (at + n)) refl

-- a text; e, the end of the run
module _ (b : List ℕ) (at e : ℕ) (q : e ≡ at + run (drop at b)) where
  pub text_none : at ≤ length b → length b ≤ e → None ≡ subfield_end Text b at
  unfolding subfield_end size text_size
  text_none g h = sym (simp (length-drop, le-ltb (run (drop at b)) (length b - at) (omega arith)))

  pub text_there : e < length b → get_or b e 0 ≡ 31 → Some (e + 1) ≡ subfield_end Text b at
  unfolding subfield_end size text_size
  text_there h k =
      let k' : get_or b (at + run (drop at b)) 0 ≡ 31 = rw q at k in
      let s : e + 1 ≡ at + (run (drop at b) + 1) = omega arith in
      ap Some s ∙ sym (simp (length-drop, get_or-drop, lt-ltb (run (drop at b)) (length b - at) (omega arith), eq-eqb _ _ k'))

  pub text_other : e < length b → (get_or b e 0 ≡ 31 → ⊥) → None ≡ subfield_end Text b at
  unfolding subfield_end size text_size
  text_other h k =
      let k' : get_or b (at + run (drop at b)) 0 ≡ 31 → ⊥ = rw q at k in
      sym (simp (length-drop, get_or-drop, lt-ltb (run (drop at b)) (length b - at) (omega arith), ne_eqb _ _ k'))

  pub fixed_short : (n : ℕ) → e - at < n → None ≡ subfield_end (Fixed n) b at
  unfolding subfield_end size fixed_size
  fixed_short n h = sym (simp (lt-leb n (run (drop at b)) (omega arith)))

  pub fixed_there : (n : ℕ) → n ≤ e - at → Some (at + n) ≡ subfield_end (Fixed n) b at
  unfolding subfield_end size fixed_size
  fixed_there n h = sym (simp (le-leb n (run (drop at b)) (omega arith)))

-- ---- where subfields end

pub not_at {ℓ} : {X : Type ℓ} {n : ℕ} → None ≡ Some n → X
not_at e = absurd (let z : ◌≡◌ {A = ℕ} 0 1 = cc in omega arith)

pub at_inj : {m n : ℕ} → Some m ≡ Some n → m ≡ n
at_inj e = cc

pub after_bad : (at : ℕ) (o : Option ℕ) → after at o ≡ None → o ≡ none
after_bad at none e = refl
after_bad at (some m) e = not_at (sym e)

pub after_at : (at n : ℕ) (o : Option ℕ) → after at o ≡ Some n → (m : ℕ) × (o ≡ some m) × (at + m ≡ n)
after_at at n none e = not_at e
after_at at n (some m) e = (m, refl, at_inj e)

pub subfield_bound : (d : Sub) (b : List ℕ) (at n : ℕ) → at ≤ length b → subfield_end d b at ≡ Some n → n ≤ length b
unfolding subfield_end
subfield_bound d b at n h e =
    let r = after_at at n (size d (drop at b)) e in
    let q : r.0 ≤ length (drop at b) = size_bound d (drop at b) r.0 r.1 in
    let s : at + r.0 ≡ n = r.2 in
    omega (arith, length-drop at b)

pub subfields_bound : (ds : List Sub) (b : List ℕ) (at n : ℕ) → at ≤ length b → subfields_end ds b at ≡ Some n → n ≤ length b
unfolding subfields_end
subfields_bound ds b at n h e =
    let r = after_at at n (sizes ds (drop at b)) e in
    let q : r.0 ≤ length (drop at b) = sizes_bound ds (drop at b) r.0 r.1 in
    let s : at + r.0 ≡ n = r.2 in
    omega (arith, length-drop at b)

-- one subfield's end, and then the end of the others from there
abbrev pub next : StdOption ℕ → (ℕ → StdOption ℕ) → StdOption ℕ
next (Some n) f = f n
next None f = None

pub end_nil : (b : List ℕ) (at : ℕ) → subfields_end [] b at ≡ Some at
unfolding subfields_end sizes
end_nil b at = ap Some (add-zero at)

after_plus : (at n : ℕ) (o : Option ℕ) → after at (plus n o) ≡ after (at + n) o
after_plus at n none = refl
after_plus at n (some m) = ap Some (sym (add_assoc at n m))

end_by : (ds : List Sub) (b : List ℕ) (at : ℕ) (o : Option ℕ)
    → after at (on_size o none (λ n. plus n (sizes ds (drop n (drop at b))))) ≡ next (after at o) (subfields_end ds b)
unfolding subfields_end
end_by ds b at none = refl
end_by ds b at (some n) = rw drop-drop (after_plus at n (sizes ds (drop (at + n) b)))

pub end_cons : (d : Sub) (ds : List Sub) (b : List ℕ) (at : ℕ) → subfields_end (d ∷ ds) b at ≡ next (subfield_end d b at) (subfields_end ds b)
unfolding subfields_end sizes subfield_end
end_cons d ds b at = end_by ds b at (size d (drop at b))

-- a number in a range
pub in_range_lem : (lo hi n : ℕ) → in_range lo hi n ≡ true → (lo ≤ n) × (n ≤ hi)
in_range_lem lo hi n e = let r = both_hold (leb lo n) (leb n hi) e in (leb-true lo n r.0, leb-true n hi r.1)
