-- Laws of `put` and `part`. Assumes nothing.
use mathlib.Core.Path.{◌≡◌, refl, sym, ap, ◌∙◌}
use mathlib.Core.List.{List, [], ◌∷◌, ◌++◌, append_assoc, append-nil}
use mathlib.Core.Logic.{◌⊎◌, inl, inr, ⊎_elim}
use Prim.Native.Nat.{ℕ, zero, suc, ◌+◌, ◌-◌, ◌≤◌, ◌<◌, min}
use native.Mathlib.Nat.{add-zero, zero-add, add-suc, suc-add}
use native.Mathlib.Numerals.{add-one}
use native.Mathlib.Omega.{arith}
use lib.ListN.{length, take, drop, get_or, set, length-take, length-drop, length-set, drop_of_length-le}
use lib.Seq.{sets, sets-eq, take-suc, take_all, set_comm, get_or-set_other, get_or-take, get_or-drop, ext_get_or, length-take-le, take_at, take-take, drop_at, drop-drop}
use Rattle.base.proofs.ListLaws.{take_drop_cons, drop_take}
use Rattle.memory.specs.Put.{part, put}

-- ---- put, with no side conditions

-- the length stays
pub length_put : (at : ℕ) (ys d : List ℕ) → length (put at ys d) ≡ length d
unfolding put
length_put at [] d = refl
length_put at (y ∷ ys) d = length_put (suc at) ys (set d at y) ∙ length-set d at y

-- nothing stored
pub put_nil : (at : ℕ) (d : List ℕ) → put at [] d ≡ d
unfolding put
put_nil at d = refl

-- one store
pub put_one : (at y : ℕ) (d : List ℕ) → set d at y ≡ put at (y ∷ []) d
unfolding put
put_one at y d = refl

-- two runs, one behind the other
pub put_put : (at : ℕ) (xs ys d : List ℕ) → put (at + length xs) ys (put at xs d) ≡ put at (xs ++ ys) d
unfolding put
put_put at [] ys d = rw add-zero
put_put at (x ∷ xs) ys d = rw (add-suc, ← suc-add) (put_put (suc at) xs ys (set d at x))

-- where there is room, as a cut and a paste
pub put_is : (at : ℕ) (ys d : List ℕ) → at + length ys ≤ length d → put at ys d ≡ take at d ++ ys ++ drop (at + length ys) d
unfolding put
put_is at ys d h = is_sets at ys d ∙ sets-eq ys d at h
  where
    is_sets : (at : ℕ) (ys d : List ℕ) → put at ys d ≡ sets d at ys
    is_sets at [] d = refl
    is_sets at (y ∷ ys) d = is_sets (suc at) ys (set d at y)

-- ---- what a run of stores leaves alone

-- index i is none of the n from `at` on
unfoldable pub Outside : (i at n : ℕ) → Type 0
Outside i at n = (i < at) ⊎ (at + n ≤ i)

-- then it is not the first of them
outside_first : (i at n : ℕ) → Outside i at (suc n) → i ≡ at → ⊥
unfolding Outside
outside_first i at n o e = ⊎_elim (λ (h : i < at). omega arith) (λ (h : at + suc n ≤ i). omega arith) o

-- and none of the others
outside_rest : (i at n : ℕ) → Outside i at (suc n) → Outside i (suc at) n
unfolding Outside
outside_rest i at n o = ⊎_elim (λ (h : i < at). inl (omega arith)) (λ (h : at + suc n ≤ i). inr (omega arith)) o

-- a store outside the run may be done before it or after it
pub put_set_outside : (i y at : ℕ) (ys d : List ℕ) → Outside i at (length ys) → put at ys (set d i y) ≡ set (put at ys d) i y
unfolding put
put_set_outside i y at [] d o = refl
put_set_outside i y at (x ∷ ys) d o =
    ap (put (suc at) ys) (set_comm d i at y x (outside_first i at (length ys) o)) ∙ put_set_outside i y (suc at) ys (set d at x) (outside_rest i at (length ys) o)

-- an element outside the run is as it was
pub get_d_put_outside : (i at : ℕ) (ys d : List ℕ) → Outside i at (length ys) → get_or (put at ys d) i 0 ≡ get_or d i 0
unfolding put
get_d_put_outside i at [] d o = refl
get_d_put_outside i at (y ∷ ys) d o =
    get_d_put_outside i (suc at) ys (set d at y) (outside_rest i at (length ys) o) ∙ get_or-set_other d at i y 0 (outside_first i at (length ys) o)

-- before the run
pub get_d_put_below : (at i : ℕ) (ys d : List ℕ) → i < at → get_or (put at ys d) i 0 ≡ get_or d i 0
unfolding Outside
get_d_put_below at i ys d h = get_d_put_outside i at ys d (inl h)

-- after the run
pub get_d_put_above : (at i : ℕ) (ys d : List ℕ) → at + length ys ≤ i → get_or (put at ys d) i 0 ≡ get_or d i 0
unfolding Outside
get_d_put_above at i ys d h = get_d_put_outside i at ys d (inr h)

-- ---- part

-- a part inside the list has its length
pub length_part : (from n : ℕ) (s : List ℕ) → from + n ≤ length s → length (part from n s) ≡ n
unfolding part
length_part from n s h = simp (length-take, length-drop) (omega arith)

-- of no elements
pub part_none : (from : ℕ) (s : List ℕ) → part from 0 s ≡ []
unfolding part
part_none from s = refl

-- of all elements
pub part_all : (n : ℕ) (s : List ℕ) → length s ≡ n → part 0 n s ≡ s
unfolding part
part_all n s e = take_all n s (omega arith)

-- one element of it
pub get_d_part : (from n i : ℕ) (s : List ℕ) → i < n → get_or (part from n s) i 0 ≡ get_or s (from + i) 0
unfolding part
get_d_part from n i s h = get_or-take n (drop from s) i 0 h ∙ get_or-drop from s i 0

-- the first element, and a part one shorter
pub part_cons : (from n : ℕ) (s : List ℕ) → from < length s → 0 < n → part from n s ≡ get_or s from 0 ∷ part (from + 1) (n - 1) s
unfolding part
part_cons from n s h k = take_drop_cons from n s h k

-- a part one shorter, and the last element
pub part_snoc : (from n : ℕ) (s : List ℕ) → from + n < length s → part from (n + 1) s ≡ part from n s ++ (get_or s (from + n) 0 ∷ [])
unfolding part
part_snoc from n s h = rw (add-one, take-suc (drop from s) n 0 (simp length-drop (omega arith)), get_or-drop)

-- the first a + b elements
take_more : (a b : ℕ) (l : List ℕ) → take (a + b) l ≡ take a l ++ take b (drop a l)
take_more zero b l = rw zero-add
take_more (suc a) zero [] = rw suc-add
take_more (suc a) (suc b) [] = rw suc-add
take_more (suc a) b (x ∷ l) = rw suc-add (ap (λ (r : List ℕ). x ∷ r) (take_more a b l))

-- two parts, one behind the other
pub part_join : (from a b : ℕ) (s : List ℕ) → part from (a + b) s ≡ part from a s ++ part (from + a) b s
unfolding part
part_join from a b s = take_more a b (drop from s) ∙ rw drop-drop

-- a part of a part
pub part_part : (from n k m : ℕ) (s : List ℕ) → k + m ≤ n → part k m (part from n s) ≡ part (from + k) m s
unfolding part
part_part from n k m s h = rw (drop_take k n (drop from s), take-take m (n - k) (drop k (drop from s)) (omega arith), drop-drop)

-- ---- a part after a run of stores

-- two lists that agree on a part
pub part_same : (from n : ℕ) (s t : List ℕ) → length s ≡ length t → ((i : ℕ) → i < n → get_or s (from + i) 0 ≡ get_or t (from + i) 0) → part from n s ≡ part from n t
unfolding part
part_same from n s t e same =
    ext_get_or 0 (part from n s) (part from n t) (lengths s ∙ ap (λ (l : ℕ). min n (l - from)) e ∙ sym (lengths t))
    (λ i h. let k : i < n = omega (arith, lengths s) in get_d_part from n i s k ∙ same i k ∙ sym (get_d_part from n i t k))
  where
    lengths : (l : List ℕ) → length (part from n l) ≡ min n (length l - from)
    lengths l = simp (length-take, length-drop)

-- a part that lies outside the run is as it was
pub part_put_outside : (from n at : ℕ) (ys d : List ℕ) → ((i : ℕ) → i < n → Outside (from + i) at (length ys)) → part from n (put at ys d) ≡ part from n d
part_put_outside from n at ys d out =
    part_same from n (put at ys d) d (length_put at ys d) (λ i h. get_d_put_outside (from + i) at ys d (out i h))

-- before the run
pub part_put_below : (from n at : ℕ) (ys d : List ℕ) → from + n ≤ at → part from n (put at ys d) ≡ part from n d
unfolding Outside
part_put_below from n at ys d h = part_put_outside from n at ys d (λ i k. inl (omega arith))

-- after the run
pub part_put_above : (from n at : ℕ) (ys d : List ℕ) → at + length ys ≤ from → part from n (put at ys d) ≡ part from n d
unfolding Outside
part_put_above from n at ys d h = part_put_outside from n at ys d (λ i k. inr (omega arith))

-- the run itself is read back
pub part_put_here : (at n : ℕ) (ys d : List ℕ) → length ys ≡ n → at + n ≤ length d → part at n (put at ys d) ≡ ys
unfolding part
part_put_here at n ys d e h =
    let room : at + length ys ≤ length d = omega arith in
    rw (put_is at ys d, append_assoc (take at d) ys (drop (at + length ys) d))
    (ap (take n) (drop_at (take at d) (ys ++ drop (at + length ys) d) at (length-take-le at d (omega arith))) ∙ take_at ys (drop (at + length ys) d) n e)

-- one element of the run is read back
pub get_d_put_in : (i at : ℕ) (ys d : List ℕ) → i < length ys → at + length ys ≤ length d → get_or (put at ys d) (at + i) 0 ≡ get_or ys i 0
get_d_put_in i at ys d h room =
    sym (get_d_part at (length ys) i (put at ys d) h) ∙ ap (λ (l : List ℕ). get_or l i 0) (part_put_here at (length ys) ys d refl room)

-- ---- several runs

-- the run behind may be stored first
pub put_put_last_first : (at : ℕ) (xs ys d : List ℕ) → put at xs (put (at + length xs) ys d) ≡ put at (xs ++ ys) d
unfolding put Outside
put_put_last_first at [] ys d = rw add-zero
put_put_last_first at (x ∷ xs) ys d =
    rw (add-suc, ← suc-add, ← put_set_outside at x (suc at + length xs) ys d (inl (omega arith))) (put_put_last_first (suc at) xs ys (set d at x))

-- a run to the end of the list
pub put_rest : (at : ℕ) (ys d : List ℕ) → at + length ys ≡ length d → put at ys d ≡ take at d ++ ys
put_rest at ys d e =
    put_is at ys d (omega arith) ∙ ap (λ (l : List ℕ). take at d ++ ys ++ l) (drop_of_length-le d {i = at + length ys} (omega arith)) ∙ append-nil (take at d ++ ys)

-- a part that was lent and has come back as ys
pub put_lent : (at n : ℕ) (ys d : List ℕ) → length ys ≡ n → at + n ≤ length d → take at d ++ (ys ++ drop n (drop at d)) ≡ put at ys d
put_lent at n ys d size h =
    let room : at + length ys ≤ length d = omega arith in
    rw (put_is at ys d, append_assoc, drop-drop, size)

-- a part that is stored over a whole list of its length, and read again
pub part_over : (from n : ℕ) (s d : List ℕ) → from + n ≤ length s → length d ≡ n → part 0 n (put 0 (part from n s) d) ≡ part from n s
part_over from n s d h e = part_put_here 0 n (part from n s) d (length_part from n s h) (omega arith)

-- ---- a part moved in two steps

-- the elements from number a on, then the first a, which the first step left alone
pub move_last : (at from a n : ℕ) (w : List ℕ) → from ≤ at → a ≤ n → at + n ≤ length w
    → put at (part from a (put (at + a) (part (from + a) (n - a) w) w)) (put (at + a) (part (from + a) (n - a) w) w) ≡ put at (part from n w) w
move_last at from a n w h l room =
    let size : length (part from a w) ≡ a = length_part from a w (omega arith) in
    let all : a + (n - a) ≡ n = omega arith in
    let both : put at (part from a w) (put (at + a) (part (from + a) (n - a) w) w) ≡ put at (part from (a + (n - a)) w) w =
    rw (part_join from a (n - a) w, ← put_put_last_first at (part from a w) (part (from + a) (n - a) w) w, size) in
    rw (part_put_below from a (at + a) (part (from + a) (n - a) w) w (omega arith)) (rw all at both)
