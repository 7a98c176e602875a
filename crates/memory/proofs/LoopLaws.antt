-- A loop that stores a list into a slice, one element a turn, upwards or downwards. Assumes nothing.
use mathlib.Core.Path.{◌≡◌, refl, sym, ap, ◌∙◌}
use mathlib.Core.List.{List, [], ◌∷◌, ◌++◌}
use Prim.Native.Nat.{ℕ, ◌+◌, ◌-◌, ◌≤◌, ◌<◌}
use native.Mathlib.Nat.{add-zero, sub_self, sub-zero}
use native.Mathlib.Omega.{arith}
use lib.ListN.{length, get_or, set, length-set}
use Rattle.memory.specs.Put.{part, put}
use Rattle.memory.proofs.PutLaws.{put_nil, put_one, put_put, put_put_last_first, length_put, length_part, part_none, part_all, part_cons, part_snoc, part_join, part_part, part_put_outside, get_d_part, Outside, get_d_put_outside}

-- what the loop has reached: of the n elements ys, which it stores from index `at` on, those from i up to j stand in d, which was d₀
pub record Stored (at n : ℕ) (ys d₀ : List ℕ) (i j : ℕ) (d : List ℕ) : Type 0 where
  pub size : length ys ≡ n
  pub order : i ≤ j
  pub within : j ≤ n
  pub long : length d ≡ length d₀
  pub is : d ≡ put (at + i) (part i (j - i) ys) d₀

-- the start
pub stored_none : (at n : ℕ) (ys d : List ℕ) (i : ℕ) → length ys ≡ n → i ≤ n → Stored at n ys d i i d
stored_none at n ys d i e h =
    record { size = e; order = omega arith; within = h; long = refl; is = sym (rw (sub_self, part_none) (put_nil (at + i) d)) }

-- the end
pub stored_all : {at n : ℕ} {ys d₀ : List ℕ} {i j : ℕ} {d : List ℕ} → Stored at n ys d₀ i j d → i ≤ 0 → n ≤ j → d ≡ put at ys d₀
stored_all {at} {n} {ys} {d₀} {i} {j} {d} s h k =
    let first : i ≡ 0 = omega arith in
    let last : j ≡ n = omega arith in
    s.is ∙ rw (first, last, add-zero, sub-zero, part_all n ys s.size)

-- a turn upwards
pub stored_up : {at n : ℕ} {ys d₀ : List ℕ} {i j : ℕ} {d : List ℕ} → Stored at n ys d₀ i j d → {v : ℕ} → j < n → v ≡ get_or ys j 0
    → Stored at n ys d₀ i (j + 1) (set d (at + j) v)
stored_up {at} {n} {ys} {d₀} {i} {j} {d} s {v} h e =
    let run : List ℕ = part i (j - i) ys in
    let next : at + j ≡ at + i + length run = omega (arith, length_part i (j - i) ys (omega (arith, s.size))) in
    let more : j + 1 - i ≡ j - i + 1 = omega arith in
    let last : i + (j - i) ≡ j = omega arith in
    let longer : part i (j + 1 - i) ys ≡ run ++ (v ∷ []) = rw (more, part_snoc i (j - i) ys (omega (arith, s.size)), last, e) in
    record {
      size = s.size;
      order = omega arith;
      within = omega arith;
      long = length-set d (at + j) v ∙ s.long;
      is = rw (longer, put_one (at + j) v d, s.is, next) (put_put (at + i) run (v ∷ []) d₀);
    }

-- a turn downwards
pub stored_down : {at n : ℕ} {ys d₀ : List ℕ} {i j : ℕ} {d : List ℕ} → Stored at n ys d₀ i j d → {v : ℕ} → 0 < i → v ≡ get_or ys (i - 1) 0
    → Stored at n ys d₀ (i - 1) j (set d (at + (i - 1)) v)
stored_down {at} {n} {ys} {d₀} {i} {j} {d} s {v} h e =
    let run : List ℕ = part i (j - i) ys in
    let next : at + i ≡ at + (i - 1) + 1 = omega arith in
    let more : j - (i - 1) - 1 ≡ j - i = omega arith in
    let rest : i - 1 + 1 ≡ i = omega arith in
    let longer : part (i - 1) (j - (i - 1)) ys ≡ v ∷ run =
    rw (part_cons (i - 1) (j - (i - 1)) ys (omega (arith, s.size)) (omega arith), more, rest, e) in
    record {
      size = s.size;
      order = omega arith;
      within = s.within;
      long = length-set d (at + (i - 1)) v ∙ s.long;
      is = rw (longer, put_one (at + (i - 1)) v d, s.is, next) (put_put_last_first (at + (i - 1)) (v ∷ []) run d₀);
    }

-- a turn downwards that stores m elements
pub stored_down_run : {at n : ℕ} {ys d₀ : List ℕ} {i j : ℕ} {d : List ℕ} → Stored at n ys d₀ i j d → (m : ℕ) {vs : List ℕ} → m ≤ i → vs ≡ part (i - m) m ys
    → Stored at n ys d₀ (i - m) j (put (at + (i - m)) vs d)
stored_down_run {at} {n} {ys} {d₀} {i} {j} {d} s m {vs} h e =
    let run : List ℕ = part i (j - i) ys in
    let size : length vs ≡ m = ap length e ∙ length_part (i - m) m ys (omega (arith, s.size)) in
    let next : at + i ≡ at + (i - m) + length vs = omega arith in
    let more : j - (i - m) ≡ m + (j - i) = omega arith in
    let rest : i - m + m ≡ i = omega arith in
    let longer : part (i - m) (j - (i - m)) ys ≡ vs ++ run = rw (more, part_join (i - m) m (j - i) ys, rest, e) in
    record {
      size = s.size;
      order = omega arith;
      within = s.within;
      long = length_put (at + (i - m)) vs d ∙ s.long;
      is = rw (longer, s.is, next) (put_put_last_first (at + (i - m)) vs run d₀);
    }

-- a loop that moves a part of d inside d reads what was there at the start, as long as it reads where it has not stored yet
pub stored_unread : {at n : ℕ} {d₀ : List ℕ} {i j : ℕ} {d : List ℕ} (from : ℕ) → Stored at n (part from n d₀) d₀ i j d → (k : ℕ) → k < n → Outside (from + k) (at + i) (j - i)
    → get_or d (from + k) 0 ≡ get_or (part from n d₀) k 0
stored_unread {at} {n} {d₀} {i} {j} {d} from s k h o =
    let run : List ℕ = part i (j - i) (part from n d₀) in
    let size : length run ≡ j - i = length_part i (j - i) (part from n d₀) (omega (arith, s.size)) in
    ap (λ (l : List ℕ). get_or l (from + k) 0) s.is ∙ get_d_put_outside (from + k) (at + i) run d₀ (rw size o) ∙ sym (get_d_part from n k d₀ h)

-- the same of m elements that are read before they are stored
pub stored_unread_run : {at n : ℕ} {d₀ : List ℕ} {i j : ℕ} {d : List ℕ} (from : ℕ) → Stored at n (part from n d₀) d₀ i j d → (k m : ℕ) → k + m ≤ n
    → ((t : ℕ) → t < m → Outside (from + k + t) (at + i) (j - i)) → part (from + k) m d ≡ part k m (part from n d₀)
stored_unread_run {at} {n} {d₀} {i} {j} {d} from s k m h o =
    let run : List ℕ = part i (j - i) (part from n d₀) in
    let size : length run ≡ j - i = length_part i (j - i) (part from n d₀) (omega (arith, s.size)) in
    ap (part (from + k) m) s.is ∙ part_put_outside (from + k) m (at + i) run d₀ (rw size o) ∙ sym (part_part from n k m d₀ h)

-- what such a loop has moved
pub stored_moved : {at n : ℕ} {d₀ : List ℕ} {i j : ℕ} {d : List ℕ} (from : ℕ) → Stored at n (part from n d₀) d₀ i j d → d ≡ put (at + i) (part (from + i) (j - i) d₀) d₀
stored_moved {at} {n} {d₀} {i} {j} {d} from s = s.is ∙ ap (λ (l : List ℕ). put (at + i) l d₀) (part_part from n i (j - i) d₀ (omega (arith, s.order, s.within)))
