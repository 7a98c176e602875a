-- Values that subfields take: numbers among numbers, one of them by its place, and an instruction that becomes insert. Assumes nothing.
use Prim.Native.Nat.{ℕ, zero, suc, ◌<◌}
use mathlib.Core.Path.{◌≡◌, refl, sym, ap, ap₂, ◌∙◌}
use mathlib.Core.Bool.{true, false, true≢false}
use mathlib.Core.List.{List, [], ◌∷◌, ◌++◌}
use native.Mathlib.Omega.{arith}
use lib.ListN.{length}
use lib.Dec.{leb, ltb}
use borrow.Author.Tests.{lt-ltb, leb-true}
use Rattle.base.specs.Choice.{both}
use Rattle.base.specs.Lists.{each, Each}
use Rattle.base.proofs.ChoiceLaws.{both_hold, both_too}
use Rattle.fields.specs.Bytes.{clean}
use Rattle.fields.specs.Table.{insert}
use Rattle.fields.specs.Values.{Val, num, txt, num_of, text_of, num_at, puts}
use Rattle.fields.specs.Valid.{allows, takes_text, passes, pass_all, pass_each}
use Rattle.fields.specs.declared.Sub.{Sub}
use Rattle.fields.specs.declared.Sub.TheVariants.{B11, B12, B14, Among, Raw, Text, Fixed}
use Rattle.fields.proofs.SizeLaws.{is_num, all_num}

-- ---- one value

-- a number does not take a text
num_only : (d : Sub) (t : List ℕ) → is_num d ≡ true → passes d (txt t) ≡ true → ⊥
unfolding passes takes_text
num_only (B11 lo hi) t i p = true≢false (sym (both_hold (clean t) false p).1)
num_only (B12 lo hi) t i p = true≢false (sym (both_hold (clean t) false p).1)
num_only (B14 lo hi) t i p = true≢false (sym (both_hold (clean t) false p).1)
num_only (Among a b c d) t i p = true≢false (sym (both_hold (clean t) false p).1)
num_only (Raw n) t i p = true≢false (sym (both_hold (clean t) false p).1)
num_only Text t i p = true≢false (sym i)
num_only (Fixed n) t i p = true≢false (sym i)

-- what a number takes is one
pub is_num_lem : (d : Sub) (v : Val) → is_num d ≡ true → passes d v ≡ true → v ≡ num (num_of v)
is_num_lem d (num n) i p = refl
is_num_lem d (txt t) i p = absurd (num_only d t i p)

-- what a text takes is one
pub is_text_lem : (v : Val) → passes Text v ≡ true → v ≡ txt (text_of v)
unfolding passes allows
is_text_lem (num n) p = absurd (true≢false (sym (both_hold (ltb n 1) false p).1))
is_text_lem (txt t) p = refl

-- a range of one number
pub one_number : (n m : ℕ) → passes (B11 n n) (num m) ≡ true → m ≡ n
unfolding passes allows
one_number n m p =
    let q = both_hold (ltb m 256) _ p in
    let r = both_hold (leb n m) (leb m n) q.1 in
    omega (arith, leb-true n m r.0, leb-true m n r.1)

-- ---- values one after the other

-- the n numbers from place j on
unfoldable pub nums_from : ℕ → ℕ → List Val → List Val
nums_from j zero vs = []
nums_from j (suc n) vs = num (num_at vs j) ∷ nums_from (suc j) n vs

-- behind a value
nums_behind : (j n : ℕ) (v : Val) (vs : List Val) → nums_from (suc j) n (v ∷ vs) ≡ nums_from j n vs
unfolding nums_from
nums_behind j zero v vs = refl
nums_behind j (suc n) v vs = ap (λ (l : List Val). num (num_at vs j) ∷ l) (nums_behind (suc j) n v vs)

-- what numbers take is their numbers
pub all_nums : (ds : List Sub) (vs : List Val) → all_num ds ≡ true → pass_all ds vs ≡ true → vs ≡ nums_from 0 (length ds) vs
unfolding nums_from pass_all
all_nums [] [] i p = refl
all_nums [] (v ∷ vs) i p = absurd (true≢false (sym p))
all_nums (d ∷ ds) [] i p = absurd (true≢false (sym p))
all_nums (d ∷ ds) (v ∷ vs) i p =
    let u = both_hold (is_num d) (all_num ds) i in
    let q = both_hold (passes d v) (pass_all ds vs) p in
    ap₂ (λ (x : Val) (l : List Val). x ∷ l) (is_num_lem d v u.0 q.0) (all_nums ds vs u.1 q.1 ∙ sym (nums_behind 0 (length ds) v vs))

-- there is a value for each
pub all_length : (ds : List Sub) (vs : List Val) → pass_all ds vs ≡ true → length vs ≡ length ds
unfolding pass_all
all_length [] [] p = refl
all_length [] (v ∷ vs) p = absurd (true≢false (sym p))
all_length (d ∷ ds) [] p = absurd (true≢false (sym p))
all_length (d ∷ ds) (v ∷ vs) p = ap suc (all_length ds vs (both_hold (passes d v) (pass_all ds vs) p).1)

-- the last of them, an instruction, becomes insert
pub insert_last : (ds : List Sub) (d : Sub) (vs : List Val) (v : Val) → pass_all (ds ++ (d ∷ [])) (vs ++ (v ∷ [])) ≡ true
    → pass_all (ds ++ (insert ∷ [])) (vs ++ (num 1 ∷ [])) ≡ true
unfolding pass_all passes allows
insert_last [] d [] v p = refl
insert_last [] d (x ∷ []) v p = absurd (true≢false (sym (both_hold (passes d x) false p).1))
insert_last [] d (x ∷ y ∷ vs) v p = absurd (true≢false (sym (both_hold (passes d x) false p).1))
insert_last (e ∷ []) d [] v p = absurd (true≢false (sym (both_hold (passes e v) false p).1))
insert_last (e ∷ f ∷ ds) d [] v p = absurd (true≢false (sym (both_hold (passes e v) false p).1))
insert_last (e ∷ ds) d (x ∷ vs) v p =
    let q = both_hold (passes e x) (pass_all (ds ++ (d ∷ [])) (vs ++ (v ∷ []))) p in
    both_too q.0 (insert_last ds d vs v q.1)

-- ---- tuples

-- each tuple of values that pass
pub each_pass : (t : List Sub) (vss : List (List Val)) → pass_each t vss ≡ true → Each (λ vs. pass_all t vs ≡ true) vss
unfolding pass_each Each
each_pass t [] p = tt
each_pass t (vs ∷ vss) p =
    let q = both_hold (pass_all t vs) (both (ltb 0 (length (puts t vs))) (pass_each t vss)) p in
    (q.0, each_pass t vss (both_hold (ltb 0 (length (puts t vs))) (pass_each t vss) q.1).1)

-- and back, where each has a byte
pub pass_each_lem : {A : Type 0} (t : List Sub) (f : A → List Val) (l : List A) → ((a : A) → pass_all t (f a) ≡ true → 0 < length (puts t (f a)))
    → Each (λ a. pass_all t (f a) ≡ true) l → pass_each t (each f l) ≡ true
unfolding pass_each Each each
pass_each_lem t f [] s e = refl
pass_each_lem t f (a ∷ l) s e = both_too e.0 (both_too (lt-ltb 0 (length (puts t (f a))) (s a e.0)) (pass_each_lem t f l s e.1))
