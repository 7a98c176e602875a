-- A record that is right, cut out of its file: its leader says what it said there, and a reader of it passes its fields. Assumes nothing.
use mathlib.Core.Path.{◌≡◌, refl, sym, ap, subst, ◌∙◌}
use mathlib.Core.List.{List, [], ◌∷◌}
use mathlib.Core.Bool.{Bool, true, false}
use Prim.Native.Nat.{ℕ, zero, suc, ◌+◌, ◌-◌, ◌≤◌}
use native.Mathlib.Omega.{arith}
use borrow.Author.Tests.{le-ltb}
use lib.Dec.{eqb, ltb}
use lib.ListN.{length, take, drop}
use lib.Seq.{take-take, get_or-take, length-take-le}
use Rattle.std.specs.Prelude.{Option, Some, None, Result, Ok, Err}
use Rattle.base.specs.Choice.{both}
use Rattle.base.specs.Lists.{each}
use Rattle.base.proofs.ChoiceLaws.{by_test}
use Rattle.base.proofs.ListLaws.{drop_take}
use Rattle.skeleton.specs.Digits.{digits, digits_from, number_at}
use Rattle.skeleton.specs.File.{cut_out}
use Rattle.skeleton.specs.Leader.{fits_byte, shaped, template, within, stated_of, leader_of}
use Rattle.skeleton.specs.Place.{between, fields_at}
use Rattle.skeleton.specs.Record.{found_right, with_directory, record_at}
use Rattle.skeleton.specs.declared.leader.Head.{Head}
use Rattle.skeleton.specs.declared.leader.Broken.{Broken}
use Rattle.skeleton.specs.declared.leader.Broken.TheVariants.{Cut, Leader}
use Rattle.skeleton.proofs.LeaderLaws.{Fitting, leader_fitting}
use Rattle.skeleton.proofs.RecordLaws.{right, cut_is}
use Rattle.fieldwise.specs.Reader.{passed_from}
use Rattle.fieldwise.proofs.ReaderLaws.{refused, passed_fields}

-- ---- the leader of the front of some bytes

-- k bytes from i on
pub window_cut : (i k n : ℕ) (l : List ℕ) → i + k ≤ n → take k (drop i (take n l)) ≡ take k (drop i l)
window_cut i k n l h = ap (take k) (drop_take i n l) ∙ take-take k (n - i) (drop i l) (omega arith)

number_cut : (s : List ℕ) (at w n : ℕ) → at + w ≤ n → number_at (take n s) at w ≡ number_at s at w
unfolding digits_from
number_cut s at w n h = ap (λ (b : List ℕ). digits b 0) (window_cut at w n s h)

shaped_cut : (t s : List ℕ) (n : ℕ) → length t ≤ n → shaped t (take n s) ≡ shaped t s
unfolding shaped
shaped_cut [] s n h = refl
shaped_cut (t ∷ ts) s zero h = absurd (omega arith)
shaped_cut (t ∷ ts) [] (suc n) h = refl
shaped_cut (t ∷ ts) (x ∷ xs) (suc n) h = ap (both (fits_byte t x)) (shaped_cut ts xs n (omega arith))

template_long : (first : Bool) → length (template first) ≡ 24
template_long true = refl
template_long false = refl

-- the record's length is what the leader states
abbrev length_of : Result Head Broken → ℕ
length_of (Ok d) = d.len
length_of (Err n) = 0

within_cut : (s : List ℕ) (d : Head) (x y : Option ℕ) → 24 ≤ d.len → d.len ≤ length s → within s x y ≡ Ok d → within (take d.len s) x y ≡ Ok d
within_cut s d (Some l) (Some c) h i =
    by_test (λ (g : Result Head Broken). g ≡ Ok d → within (take d.len s) (Some l) (Some c) ≡ Ok d) (ltb (length s) l) _ _
    (λ _ e. refused Cut d e)
    (λ _ e.
    let same : l ≡ d.len = ap length_of e in
    let m = length-take-le d.len s i in
    simp (le-ltb (length (take d.len s)) l (omega arith), get_or-take d.len s 20 0 (omega arith), get_or-take d.len s 21 0 (omega arith)) e)
within_cut s d (Some l) None h i = λ e. refused Leader d e
within_cut s d None y h i = λ e. refused Leader d e

stated_cut : (s : List ℕ) (d : Head) → 24 ≤ d.len → d.len ≤ length s → stated_of s ≡ Ok d → stated_of (take d.len s) ≡ Ok d
unfolding stated_of
stated_cut s d h i e =
    rw (number_cut s 0 5 d.len (omega arith), number_cut s 12 5 d.len (omega arith)) (within_cut s d (number_at s 0 5) (number_at s 12 5) h i e)

leader_cut : (s : List ℕ) (first : Bool) (d : Head) → 24 ≤ d.len → leader_of s first ≡ Ok d → leader_of (take d.len s) first ≡ Ok d
unfolding leader_of
leader_cut s first d h e = go (ltb (length s) 24) refl (shaped (template first) s) refl
  where
    inside : d.len ≤ length s
    inside = let k : Fitting s (Ok d) = subst (Fitting s) e (leader_fitting s first) in k.0

    go : (t : Bool) → ltb (length s) 24 ≡ t → (u : Bool) → shaped (template first) s ≡ u → leader_of (take d.len s) first ≡ Ok d
    go true x u y = refused Cut d (simp x at e)
    go false x false y = refused Leader d (simp (x, y) at e)
    go false x true y =
        let m = length-take-le d.len s inside in
        let c = shaped_cut (template first) s d.len (omega (arith, template_long first)) in
        let k : stated_of s ≡ Ok d = simp (x, y) at e in
        simp (le-ltb (length (take d.len s)) 24 (omega arith), c, y) (stated_cut s d h inside k)

-- ---- a record that is right

-- its leader says what the record is
found_right_is : (c d : Head) (x : Result (Unit {0}) Broken) → found_right c x ≡ Ok d → ◌≡◌ {A = Result Head Broken} (Ok c) (Ok d)
found_right_is c d (Ok u) e = e
found_right_is c d (Err n) e = refused n d e

leader_by : (s : List ℕ) (l : Result Head Broken) (d : Head) → with_directory s l ≡ Ok d → l ≡ Ok d
leader_by s (Ok c) d e = found_right_is c d _ e
leader_by s (Err n) d e = refused n d e

leader_is : (f : List ℕ) (at : ℕ) (d : Head) → record_at f at ≡ Ok d → leader_of (drop at f) (eqb at 0) ≡ Ok d
unfolding record_at
leader_is f at d e = leader_by (drop at f) (leader_of (drop at f) (eqb at 0)) d e

-- a reader of the part of its file passes its fields
pub record_passed : (f : List ℕ) (at : ℕ) (d : Head) → Ok d ≡ record_at f at
    → each (cut_out (between f at (at + d.len))) (passed_from (between f at (at + d.len)) 24) ≡ fields_at (between f at (at + d.len)) d.shape 24
record_passed f at d e =
    let k = right f at (Ok d) e d refl in
    let long = k.long in
    let l = leader_cut (drop at f) (eqb at 0) d (omega arith) (leader_is f at d (sym e)) in
    passed_fields (between f at (at + d.len)) (eqb at 0) d (rw (cut_is f at d.len) l) k.walked
