-- Laws of the walks over the items of a run. Assumes nothing.
use mathlib.Core.Path.{◌≡◌, refl, sym, ap, ◌∙◌}
use mathlib.Core.List.{List}
use mathlib.Core.Logic.{⊎_elim}
use Prim.Native.Nat.{ℕ, zero, suc, ◌+◌, ◌-◌, ◌*◌, ◌%◌, ◌≤◌, ◌<◌}
use native.Mathlib.Nat.{add-zero, sub-zero, add-mul-mod_self_left, mod-eq_of_lt}
use native.Mathlib.Omega.{arith}
use lib.Dec.{eqb}
use borrow.Author.Tests.{lt-ltb, le-ltb, eq-eqb, ne_eqb}
use Rattle.std.specs.Prelude.{Some}
use Rattle.base.specs.Choice.{pick}
use Rattle.forest.proofs.Numbers.{lt_or_le, eq_or_ne}
use Rattle.items.specs.Items.{depth_of, code_of, twin_at}
use Rattle.items.proofs.ItemLaws.{twin_both, twin_depth, twin_code, twin_once}
use Rattle.edits.specs.Search.{found_in, place_of, end_of, twins, behind_last, spot_of, seat_of, behind_mark}
use Rattle.edits.specs.Walks.{heft, weight, Passed, Going, Goes, Walked}
use Rattle.edits.specs.declared.walking.Reach.{Reach}
use Rattle.edits.proofs.SearchLaws.{found_is, place_end, place_out, place_found, place_next, end_end, end_here, end_on, twins_end, twins_out, twins_on, behind_none, behind_some, spot_zero, spot_past, spot_at, spot_bound}

-- ---- what items weigh

-- an item that ends the run
pub heft_out : (w : List ℕ) (i d c : ℕ) → depth_of w i < d → heft w i d c ≡ 65536
unfolding heft
heft_out w i d c h = rw (lt-ltb (depth_of w i) d h)

-- any other
pub heft_in : (w : List ℕ) (i d c : ℕ) → d ≤ depth_of w i → heft w i d c ≡ twin_at w i d c
unfolding heft
heft_in w i d c h = rw (le-ltb (depth_of w i) d h)

-- the depth, where it stands in one number with the code
pub label_low : (w : List ℕ) (i x : ℕ) → x ≡ depth_of w i + 65536 * code_of w i → depth_of w i < 65536 → x % 65536 ≡ depth_of w i
label_low w i x e h = rw (e, add-mul-mod_self_left) (mod-eq_of_lt h)

-- such a number, x, tells whether it is a twin
pub heft_twin : (w : List ℕ) (i d c x : ℕ) → d ≤ depth_of w i → depth_of w i < 65536 → d < 65536 → x ≡ depth_of w i + 65536 * code_of w i → x ≡ d + 65536 * c → heft w i d c ≡ 1
heft_twin w i d c x h l m e f = heft_in w i d c h ∙ twin_both w i d c (omega arith) (omega arith)

-- or not
pub heft_other : (w : List ℕ) (i d c x : ℕ) → d ≤ depth_of w i → x ≡ depth_of w i + 65536 * code_of w i → (x ≡ d + 65536 * c → ⊥) → heft w i d c ≡ 0
heft_other w i d c x h e ne =
    heft_in w i d c h
    ∙ ⊎_elim
    (λ (p : depth_of w i ≡ d). twin_code w i d c p (λ q. ne (e ∙ rw (p, q))))
    (λ (p : depth_of w i ≡ d → ⊥). twin_depth w i d c p)
    (eq_or_ne (depth_of w i) d)

-- no items
pub weight_none : (w : List ℕ) (i d c : ℕ) → weight 0 w i d c ≡ 0
unfolding weight
weight_none w i d c = refl

-- one item and the others
pub weight_more : (m : ℕ) (w : List ℕ) (i d c : ℕ) → 0 < m → weight m w i d c ≡ heft w i d c + weight (m - 1) w (i + 1) d c
unfolding weight
weight_more zero w i d c h = absurd (omega arith)
weight_more (suc m) w i d c h = let e : suc m - 1 ≡ m = omega arith in rw e

-- ---- what is passed

-- nothing
pub passed_none : (w : List ℕ) (n d c i : ℕ) → i ≤ n → Passed w n d c i i 0
passed_none w n d c i h =
    record { order = omega arith; within = h; end = refl; count = omega arith; place = λ k l. rw sub-zero }

-- one item of the run
pub passed_item : (w : List ℕ) (n d c i : ℕ) → i < n → d ≤ depth_of w i → Passed w n d c i (i + 1) (twin_at w i d c)
passed_item w n d c i h o =
    record {
      order = omega (arith, twin_once w i d c);
      within = omega arith;
      end = end_on w i n d h o;
      count = twins_on w i n d c h o;
      place = λ k l. place_next w i n d c k h o (omega arith) (λ e. omega arith);
    }

-- one walk after another
pub passed_then : {w : List ℕ} {n d c i j l p q : ℕ} → Passed w n d c i j p → Passed w n d c j l q → Passed w n d c i l (p + q)
passed_then {w} {n} {d} {c} {i} {j} {l} {p} {q} a b =
    record {
      order = omega (arith, a.order, b.order);
      within = b.within;
      end = a.end ∙ b.end;
      count = omega (arith, a.count, b.count);
      place = λ k h.
          let e : k - p - q ≡ k - (p + q) = omega arith in
          a.place k (omega arith) ∙ b.place (k - p) (omega arith) ∙ ap (place_of w l n d c) e;
    }

-- m items that weigh less than one that ends the run
pub passed_block : (m : ℕ) (w : List ℕ) (n d c i : ℕ) → i + m ≤ n → weight m w i d c < 65536 → Passed w n d c i (i + m) (weight m w i d c)
unfolding weight
passed_block zero w n d c i h l = rw add-zero (passed_none w n d c i (omega arith))
passed_block (suc m) w n d c i h l =
    ⊎_elim
    (λ (o : depth_of w i < d). absurd (omega (arith, heft_out w i d c o)))
    (λ (o : d ≤ depth_of w i).
    let e : i + 1 + m ≡ i + suc m = omega arith in
    rw (heft_in w i d c o)
    (rw e at (passed_then (passed_item w n d c i (omega arith) o) (passed_block m w n d c (i + 1) (omega arith) (omega arith)))))
    (lt_or_le (depth_of w i) d)

-- ---- a walk

-- at its start
pub going_start : (w : List ℕ) (n d c i k : ℕ) → i ≤ n → 1 ≤ k → Going w n d c i k i 0 i 0
going_start w n d c i k h l =
    record { passed = passed_none w n d c i h; marked = passed_none w n d c i h; few = omega arith; none = λ e. refl; less = omega arith }

-- past items without a twin
pub going_same : {w : List ℕ} {n d c i k at count mark nth : ℕ} (to t : ℕ) → Going w n d c i k at count mark nth → Passed w n d c at to t → t ≤ 0 → Going w n d c i k to (count + t) mark nth
going_same {w} {n} {d} {c} {i} {k} {at} {count} {mark} {nth} to t g p z =
    let same : count ≡ count + t = omega arith in
    record {
      passed = passed_then g.passed p;
      marked = rw (← same) g.marked;
      few = omega (arith, g.few);
      none = λ e. sym same ∙ g.none e;
      less = omega (arith, g.less);
    }

-- past items with twins, fewer than are left to count
pub going_mark : {w : List ℕ} {n d c i k at count mark nth : ℕ} (to t : ℕ) → Going w n d c i k at count mark nth → Passed w n d c at to t → 0 < t → count + t < k → Going w n d c i k to (count + t) at t
going_mark {w} {n} {d} {c} {i} {k} {at} {count} {mark} {nth} to t g p h l =
    let back : count + t - t ≡ count = omega arith in
    record {
      passed = passed_then g.passed p;
      marked = rw back g.passed;
      few = omega arith;
      none = λ e. absurd (omega arith);
      less = l;
    }

-- to the twin that it looks for
pub going_found : {w : List ℕ} {n d c i k at count mark nth : ℕ} → Going w n d c i k at count mark nth → at < n → d ≤ depth_of w at → count + twin_at w at d c ≡ k
    → (at ≡ place_of w i n d c k) × (k ≤ twins w i n d c) × (k + i ≤ n)
going_found {w} {n} {d} {c} {i} {k} {at} {count} {mark} {nth} g h o e =
    let one : k - count ≡ twin_at w at d c = omega arith in (
      sym (g.passed.place k g.less ∙ place_found w at n d c (k - count) h o (omega (arith, g.less)) one),
      omega (arith, g.passed.count, twins_on w at n d c h o),
      omega (arith, g.passed.order, twin_once w at d c),
    )

-- to an item that ends the run
pub going_out : {w : List ℕ} {n d c i k at count mark nth : ℕ} → Going w n d c i k at count mark nth → at < n → depth_of w at < d
    → (at ≡ end_of w i n d) × (count ≡ twins w i n d c) × (place_of w i n d c k ≡ n)
going_out {w} {n} {d} {c} {i} {k} {at} {count} {mark} {nth} g h o =
    (sym (g.passed.end ∙ end_here w at n d h o), omega (arith, g.passed.count, twins_out w at n d c h o), g.passed.place k g.less ∙ place_out w at n d c (k - count) h o)

-- to the end of the items
pub going_end : {w : List ℕ} {n d c i k at count mark nth : ℕ} → Going w n d c i k at count mark nth → n ≤ at
    → (at ≡ end_of w i n d) × (count ≡ twins w i n d c) × (place_of w i n d c k ≡ n)
going_end {w} {n} {d} {c} {i} {k} {at} {count} {mark} {nth} g h =
    let last : at ≡ n = omega (arith, g.passed.within) in
    (last ∙ sym (g.passed.end ∙ end_end w at n d h), omega (arith, g.passed.count, twins_end w at n d c h), g.passed.place k g.less ∙ place_end w at n d c (k - count) h)

-- what a walk says that has ended so
pub walked_ended : {w : List ℕ} {n d c i k : ℕ} (s : Reach) → Goes w n d c i k s → (s.at ≡ end_of w i n d) × (s.count ≡ twins w i n d c) × (place_of w i n d c k ≡ n) → Walked w n d c i k s
walked_ended {w} {n} {d} {c} {i} {k} s g h =
    record {
      most = omega (arith, g.less);
      all = omega (arith, g.passed.order, g.passed.within);
      found = λ e. absurd (omega (arith, e, g.less));
      ended = λ ne. h;
      goes = λ ne. g;
    }

-- ---- where a new item goes

-- before a twin
pub seat_at : (w : List ℕ) (i n d c k r : ℕ) → (k ≡ 0 → ⊥) → k ≤ twins w i n d c → r ≡ place_of w i n d c k → r ≡ seat_of w i n d c k
unfolding seat_of
seat_at w i n d c k r z h e = rw (le-ltb (twins w i n d c + 1) k (omega arith), spot_at w i n d c k (twins w i n d c) z h) e

-- nowhere
pub seat_far : (w : List ℕ) (i n d c k m : ℕ) → m ≡ twins w i n d c → m + 1 < k → n + 1 ≡ seat_of w i n d c k
unfolding seat_of
seat_far w i n d c k m e h = rw (lt-ltb (twins w i n d c + 1) k (omega arith))

-- behind all of them
seat_past : (w : List ℕ) (i n d c k : ℕ) → k ≤ twins w i n d c + 1 → (k ≡ 0 → ⊥) → twins w i n d c < k → seat_of w i n d c k ≡ behind_last w i n d c (twins w i n d c)
unfolding seat_of
seat_past w i n d c k h z l = rw (le-ltb (twins w i n d c + 1) k h, spot_past w i n d c k (twins w i n d c) l)

-- as number 0
seat_zero : (w : List ℕ) (i n d c k : ℕ) → k ≡ 0 → seat_of w i n d c k ≡ behind_last w i n d c (twins w i n d c)
unfolding seat_of
seat_zero w i n d c k z = rw (le-ltb (twins w i n d c + 1) k (omega arith), spot_zero w i n d c k (twins w i n d c) z)

-- the last of them is where the walk has marked it
mark_last : {w : List ℕ} {n d c i k at count mark nth : ℕ} → Going w n d c i k at count mark nth → at ≡ end_of w i n d → behind_mark w n d c at mark nth ≡ behind_last w i n d c count
unfolding behind_mark
mark_last {w} {n} {d} {c} {i} {k} {at} {count} {mark} {nth} g e =
    ⊎_elim
    (λ (z : nth ≡ 0). rw (eq-eqb nth 0 z) (e ∙ sym (behind_none w i n d c count (g.none z))))
    (λ (z : nth ≡ 0 → ⊥).
    let some : 0 < nth = omega (arith, z) in
    let back : count - (count - nth) ≡ nth = omega (arith, g.few) in
    let here : place_of w i n d c count ≡ place_of w mark n d c nth = g.marked.place count (omega (arith, g.few)) ∙ ap (place_of w mark n d c) back in
    rw (ne_eqb nth 0 z, ← here) (sym (behind_some w i n d c count (omega (arith, g.few)))))
    (eq_or_ne nth 0)

-- ---- the number that is looked for: with 0, more than there can be

-- with 0
sought_zero : (k asked : ℕ) → asked ≡ pick (eqb k 0) 65536 k → k ≡ 0 → asked ≡ 65536
sought_zero k asked e z = e ∙ rw (eq-eqb k 0 z)

-- with another
sought_same : (k asked : ℕ) → asked ≡ pick (eqb k 0) 65536 k → (k ≡ 0 → ⊥) → asked ≡ k
sought_same k asked e z = e ∙ rw (ne_eqb k 0 z)

-- what it is among
pub sought_bound : (k asked : ℕ) → asked ≡ pick (eqb k 0) 65536 k → k < 65536 → (1 ≤ asked) × (asked ≤ 65536)
sought_bound k asked e h =
    ⊎_elim
    (λ (z : k ≡ 0). let f = sought_zero k asked e z in (omega arith, omega arith))
    (λ (z : k ≡ 0 → ⊥). let f = sought_same k asked e z in (omega (arith, z), omega arith))
    (eq_or_ne k 0)

-- it is no smaller
pub sought_least : (k asked : ℕ) → asked ≡ pick (eqb k 0) 65536 k → k ≤ asked
sought_least k asked e = ⊎_elim (λ (z : k ≡ 0). omega arith) (λ (z : k ≡ 0 → ⊥). omega (arith, sought_same k asked e z)) (eq_or_ne k 0)

-- where the walk has found it
pub seat_found : (w : List ℕ) (i n d c k asked count r : ℕ) → asked ≡ pick (eqb k 0) 65536 k → n < 65536 → count + i ≤ n → count ≡ asked → (r ≡ place_of w i n d c asked) × (r < n) × (asked ≤ twins w i n d c)
    → r ≡ seat_of w i n d c k
seat_found w i n d c k asked count r e small all is f =
    ⊎_elim
    (λ (z : k ≡ 0). absurd (omega (arith, sought_zero k asked e z)))
    (λ (z : k ≡ 0 → ⊥). let same = sought_same k asked e z in seat_at w i n d c k r z (omega (arith, f.2)) (f.0 ∙ ap (place_of w i n d c) same))
    (eq_or_ne k 0)

-- where it has ended
pub seat_behind : {w : List ℕ} {n d c i asked at count mark nth : ℕ} (k r : ℕ) → asked ≡ pick (eqb k 0) 65536 k → Going w n d c i asked at count mark nth
    → (at ≡ end_of w i n d) × (count ≡ twins w i n d c) × (place_of w i n d c asked ≡ n) → k ≤ count + 1 → r ≡ behind_mark w n d c at mark nth → r ≡ seat_of w i n d c k
seat_behind {w} {n} {d} {c} {i} {asked} {at} {count} {mark} {nth} k r s g h l e =
    e ∙ mark_last g h.0 ∙ ap (behind_last w i n d c) h.1
    ∙ ⊎_elim
    (λ (z : k ≡ 0). sym (seat_zero w i n d c k z))
    (λ (z : k ≡ 0 → ⊥). let same = sought_same k asked s z in sym (seat_past w i n d c k (omega (arith, h.1)) z (omega (arith, h.1, g.less))))
    (eq_or_ne k 0)

-- it is in the run
pub seat_there : (w : List ℕ) (i n d c k r : ℕ) → i ≤ n → k ≤ twins w i n d c + 1 → r ≡ seat_of w i n d c k → (Some r ≡ found_in (n + 1) (seat_of w i n d c k)) × ((i ≤ r) × (r ≤ n))
unfolding seat_of
seat_there w i n d c k r h l e =
    let s : seat_of w i n d c k ≡ spot_of w i n d c k (twins w i n d c) = rw (le-ltb (twins w i n d c + 1) k l) in
    let b = spot_bound w i n d c k (twins w i n d c) h in
    (found_is (n + 1) (seat_of w i n d c k) r e (omega (arith, s, b.1, e)), (omega (arith, s, b.0, e), omega (arith, s, b.1, e)))

-- where it is none
pub seat_none : (w : List ℕ) (i n d c k r : ℕ) → i ≤ n → r ≡ seat_of w i n d c k → n < r → twins w i n d c + 1 < k
unfolding seat_of
seat_none w i n d c k r h e l =
    ⊎_elim
    (λ (o : twins w i n d c + 1 < k). o)
    (λ (o : k ≤ twins w i n d c + 1). absurd (omega (arith, spot_bound w i n d c k (twins w i n d c) h, rw (le-ltb (twins w i n d c + 1) k o) at e)))
    (lt_or_le (twins w i n d c + 1) k)

-- where it is one
pub seat_some : (w : List ℕ) (i n d c k r : ℕ) → r ≡ seat_of w i n d c k → r ≤ n → (k ≤ twins w i n d c + 1) × (r ≡ spot_of w i n d c k (twins w i n d c))
unfolding seat_of
seat_some w i n d c k r e l =
    ⊎_elim
    (λ (o : twins w i n d c + 1 < k). absurd (omega (arith, rw (lt-ltb (twins w i n d c + 1) k o) at e)))
    (λ (o : k ≤ twins w i n d c + 1). (o, rw (le-ltb (twins w i n d c + 1) k o) at e))
    (lt_or_le (twins w i n d c + 1) k)
