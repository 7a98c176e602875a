-- Laws of the loops over the items of the working form: how many bytes they are written in, and these bytes. Assumes nothing.
use mathlib.Core.Path.{◌≡◌, refl, sym, ap, ◌∙◌}
use mathlib.Core.List.{List, [], ◌++◌, append_assoc, append-nil}
use Prim.Native.Nat.{ℕ, zero, suc, ◌+◌, ◌-◌, ◌*◌, ◌≤◌, ◌<◌}
use native.Mathlib.Nat.{sub-eq-zero_of_le}
use native.Mathlib.Omega.{arith}
use lib.ListN.{length, get_or, length-append}
use Rattle.memory.specs.Put.{put}
use Rattle.memory.specs.Wrote.{Wrote}
use Rattle.memory.proofs.WroteLaws.{wrote_none, then, wrote_length}
use Rattle.forest.specs.Forest.{Forest}
use Rattle.forest.specs.Flat.{flat}
use Rattle.rules.specs.Written.{tree_bytes}
use Rattle.items.specs.Items.{depth_of, code_of, value_of, item_at, its}
use Rattle.items.proofs.ItemLaws.{its_end, its_more}
use Rattle.numbering.specs.Numbers.{parent_before, twins_before}
use Rattle.numbering.specs.Known.{NumbersOf}
use Rattle.numbering.specs.Block.{Numbered}
use Rattle.numbering.specs.declared.emitting.Part.{Part}
use Rattle.numbering.specs.declared.known.Numbers.{Numbers}
use Rattle.numbering.specs.Tuples.{tuple_bytes, tuples_bytes, size_of, tuple_with, tuple_at, bytes_from, bytes_to, Begun, Sized, Emitted}
use Rattle.numbering.proofs.BackLaws.{tuples_to, tuples_end, tuples_more, tuples_forest}
use Rattle.numbering.proofs.BytesLaws.{tuple_length, tuples_none, tuples_cons, tree_tuples}

-- ---- how many bytes

module _ (s u w : List ℕ) (n : ℕ) where
  -- those of the items from i on
  abbrev left : ℕ → ℕ
  left i = size_of (its s u w i n)

  left_more : (i : ℕ) → i < n → left i ≡ length (value_of s u w i) + 8 + left (i + 1)
  unfolding size_of item_at
  left_more i h = rw (its_more s u w i n h) (omega arith)

  left_end : (i : ℕ) → n ≤ i → left i ≡ 0
  unfolding size_of
  left_end i h = rw (its_end s u w i n h)

  -- a tuple has as many as its item
  tuple_size : (i : ℕ) → length (tuple_bytes (tuple_at s u w i)) ≡ length (value_of s u w i) + 8
  unfolding tuple_at tuple_with
  tuple_size i = tuple_length (tuple_at s u w i)

  -- the tuples from i on are that of item i and those behind it
  bytes_more : (i : ℕ) → i < n → tuples_bytes (tuples_to s u w i n) ≡ tuple_bytes (tuple_at s u w i) ++ tuples_bytes (tuples_to s u w (i + 1) n)
  bytes_more i h = ap tuples_bytes (tuples_more s u w i n h) ∙ tuples_cons (tuple_at s u w i) (tuples_to s u w (i + 1) n)

  bytes_end : (i : ℕ) → n ≤ i → tuples_bytes (tuples_to s u w i n) ≡ []
  bytes_end i h = ap tuples_bytes (tuples_end s u w i n h) ∙ tuples_none

  written_size : (m i : ℕ) → i + m ≡ n → length (tuples_bytes (tuples_to s u w i n)) ≡ left i
  written_size zero i e = rw (bytes_end i (omega arith), left_end i (omega arith))
  written_size (suc m) i e =
      ap length (bytes_more i (omega arith))
      ∙ omega (arith, length-append (tuple_bytes (tuple_at s u w i)) (tuples_bytes (tuples_to s u w (i + 1) n)), tuple_size i, written_size m (i + 1) (omega arith), left_more i (omega arith))

  -- of a forest's items, those of its tuples
  forest_bytes : (f : Forest) → its s u w 0 n ≡ flat 0 f → tree_bytes f ≡ tuples_bytes (tuples_to s u w 0 n)
  forest_bytes f e = tree_tuples f ∙ ap tuples_bytes (sym (tuples_forest s u w n f e))

  pub forest_size : (f : Forest) → its s u w 0 n ≡ flat 0 f → length (tree_bytes f) ≡ left 0
  forest_size f e = ap length (forest_bytes f e) ∙ written_size n 0 (omega arith)

-- ---- `size`

-- the loop at item i, where t bytes were counted
pub record SizeAt (s u w : List ℕ) (n t i : ℕ) : Type 0 where
  pub sum : t + size_of (its s u w i n) ≡ size_of (its s u w 0 n)
  pub least : 8 * i ≤ t
  pub most : t ≤ i * 16777224
  pub inside : i ≤ n

pub size_start : (s u w : List ℕ) (n : ℕ) → SizeAt s u w n 0 0
size_start s u w n = record { sum = omega arith; least = omega arith; most = omega arith; inside = omega arith }

module _ (s u w : List ℕ) (n t i : ℕ) (inv : SizeAt s u w n t i) where
  pub size_turn : i < n → (r : ℕ) → r ≡ length (value_of s u w i) → r ≤ 16777216 → SizeAt s u w n (t + (r + 8)) (i + 1)
  size_turn h r e k =
      record { sum = omega (arith, inv.sum, left_more s u w n i h); least = omega (arith, inv.least); most = omega (arith, inv.most); inside = omega arith }

  pub size_done : n ≤ i → Sized s u w n t
  size_done h =
      let e : t ≡ size_of (its s u w 0 n) = omega (arith, inv.sum, left_end s u w n i h) in
      let same : i ≡ n = omega (arith, inv.inside) in
      record { sum = e; is = λ f x. e ∙ sym (forest_size s u w n f x); least = omega (arith, inv.least); most = rw same at inv.most }

pub ruleset size_ways = (size_start, size_turn, size_done, arith)

-- ---- the bytes of some of the items

module _ (s u w : List ℕ) where
  abbrev run : ℕ → ℕ → List ℕ
  run i k = bytes_to s u w i k

  run_end : (i k : ℕ) → k ≤ i → run i k ≡ []
  unfolding bytes_to bytes_from
  run_end i k h = rw (sub-eq-zero_of_le h)

  run_more : (i k : ℕ) → i < k → run i k ≡ tuple_bytes (tuple_at s u w i) ++ run (i + 1) k
  unfolding bytes_to bytes_from
  run_more i k h = go (k - i) refl
    where
      go : (m : ℕ) → k - i ≡ m → bytes_from s u w i (k - i) ≡ tuple_bytes (tuple_at s u w i) ++ bytes_from s u w (i + 1) (k - (i + 1))
      go zero e = absurd (omega arith)
      go (suc m) e = let f : k - (i + 1) ≡ m = omega arith in rw (e, f)

  run_at : (m i j k : ℕ) → i + m ≡ j → j ≤ k → run i k ≡ run i j ++ run j k
  run_at zero i j k e h = let f : i ≡ j = omega arith in rw (f, run_end j j (omega arith))
  run_at (suc m) i j k e h =
      rw (run_more i k (omega arith), run_more i j (omega arith), run_at m (i + 1) j k (omega arith) h) (sym (append_assoc (tuple_bytes (tuple_at s u w i)) (run (i + 1) j) (run j k)))

  -- up to an item and from there on
  run_split : (i j k : ℕ) → i ≤ j → j ≤ k → run i k ≡ run i j ++ run j k
  run_split i j k h l = run_at (j - i) i j k (omega arith) l

  -- an item more
  run_last : (x i : ℕ) → x ≤ i → run x (i + 1) ≡ run x i ++ tuple_bytes (tuple_at s u w i)
  run_last x i h =
      run_split x i (i + 1) h (omega arith)
      ∙ ap (λ (l : List ℕ). run x i ++ l) (run_more i (i + 1) (omega arith) ∙ ap (λ (l : List ℕ). tuple_bytes (tuple_at s u w i) ++ l) (run_end (i + 1) (i + 1) (omega arith)) ∙ append-nil (tuple_bytes (tuple_at s u w i)))

  -- they are the bytes of the tuples
  run_tuples : (n m i : ℕ) → i + m ≡ n → run i n ≡ tuples_bytes (tuples_to s u w i n)
  run_tuples n zero i e = run_end i n (omega arith) ∙ sym (bytes_end s u w n i (omega arith))
  run_tuples n (suc m) i e =
      run_more i n (omega arith) ∙ ap (λ (l : List ℕ). tuple_bytes (tuple_at s u w i) ++ l) (run_tuples n m (i + 1) (omega arith)) ∙ sym (bytes_more s u w n i (omega arith))

  run_size : (n : ℕ) → length (run 0 n) ≡ size_of (its s u w 0 n)
  run_size n = ap length (run_tuples n n 0 (omega arith)) ∙ written_size s u w n n 0 (omega arith)

-- ---- `emit_items` and `emit_numbered`

-- of the items from x up to y those up to i were written, from `at` up to p of the output
pub record EmitAt (s u w : List ℕ) (x y : ℕ) (out₀ : List ℕ) (at : ℕ) (out : List ℕ) (p i : ℕ) : Type 0 where
  pub is : Wrote at (bytes_to s u w x i) out₀ p out
  pub later : x ≤ i
  pub inside : i ≤ y

pub emit_start : (s u w : List ℕ) (x y : ℕ) (out : List ℕ) (at : ℕ) → x ≤ y → EmitAt s u w x y out at out at x
emit_start s u w x y out at h = record { is = rw (run_end s u w x x (omega arith)) (wrote_none at out); later = omega arith; inside = h }

module _ (s u w : List ℕ) (x y : ℕ) (out₀ : List ℕ) (at : ℕ) (out : List ℕ) (p i : ℕ) (inv : EmitAt s u w x y out₀ at out p i) where
  pub emit_long : length out ≡ length out₀
  emit_long = wrote_length inv.is

  -- room for the items up to j
  pub block_room : (j : ℕ) → i ≤ j → j ≤ y → at + length (bytes_to s u w x y) ≤ length out₀ → p + length (bytes_to s u w i j) ≤ length out
  block_room j h l r =
      omega (
        arith,
        inv.is.next,
        emit_long,
        ap length (run_split s u w x i y inv.later inv.inside),
        length-append (bytes_to s u w x i) (bytes_to s u w i y),
        ap length (run_split s u w i j y h l),
        length-append (bytes_to s u w i j) (bytes_to s u w j y),
      )

  pub emit_room : i < y → at + length (bytes_to s u w x y) ≤ length out₀ → p + length (value_of s u w i) + 8 ≤ length out
  emit_room h r =
      omega (
        arith,
        block_room y inv.inside (omega arith) r,
        ap length (run_more s u w i y h),
        length-append (tuple_bytes (tuple_at s u w i)) (bytes_to s u w (i + 1) y),
        tuple_size s u w y i,
      )

  -- the items up to j were written
  pub block_turn : (j : ℕ) → i ≤ j → j ≤ y → (p' : ℕ) (out' : List ℕ) → Wrote p (bytes_to s u w i j) out p' out' → EmitAt s u w x y out₀ at out' p' j
  block_turn j h l p' out' q = record { is = rw (run_split s u w x i j inv.later h) (then q inv.is); later = omega (arith, inv.later); inside = l }

  -- the tuple of item i was written
  pub emit_turn : i < y → (a b : ℕ) → a ≡ twins_before w (depth_of w i) (code_of w i) i + 1 → b ≡ parent_before w (depth_of w i) i
      → (p' : ℕ) (out' : List ℕ) → Wrote p (tuple_bytes (tuple_with s u w i a b)) out p' out' → EmitAt s u w x y out₀ at out' p' (i + 1)
  unfolding tuple_at
  emit_turn h a b ea eb p' out' q =
      let q' : Wrote p (tuple_bytes (tuple_at s u w i)) out p' out' = rw (← ea, ← eb) q in
      record { is = rw (run_last s u w x i inv.later) (then q' inv.is); later = omega (arith, inv.later); inside = omega arith }

  pub emit_known : i < y → (r : Numbers) → NumbersOf w i r → (p' : ℕ) (out' : List ℕ) → Wrote p (tuple_bytes (tuple_with s u w i r.index r.parent)) out p' out'
      → EmitAt s u w x y out₀ at out' p' (i + 1)
  emit_known h r e p' out' q = emit_turn h r.index r.parent e.index_is e.parent_is p' out' q

  pub emit_booked : i < y → (l : List ℕ) → Numbered w x y l → (a b : ℕ) → a ≡ get_or l (2 * (i - x)) 0 → b ≡ get_or l (2 * (i - x) + 1) 0
      → (p' : ℕ) (out' : List ℕ) → Wrote p (tuple_bytes (tuple_with s u w i a b)) out p' out' → EmitAt s u w x y out₀ at out' p' (i + 1)
  unfolding Numbered
  emit_booked h l numbers a b ea eb p' out' q =
      let e = numbers i inv.later h in
      emit_turn h a b (ea ∙ e.0) (eb ∙ e.1) p' out' q

  pub emit_all : y ≤ i → Wrote at (bytes_to s u w x y) out₀ p out
  emit_all h = let e : i ≡ y = omega (arith, inv.inside) in rw e at inv.is

pub begun_at : (s u w : List ℕ) (n : ℕ) (out₀ : List ℕ) (at : ℕ) (out : List ℕ) (p i : ℕ) → EmitAt s u w 0 n out₀ at out p i
    → Begun s u w n at out₀ (record { count = i; behind = p }) out
begun_at s u w n out₀ at out p i inv = record { few = inv.inside; is = inv.is }

-- all of them were
pub begun_all : (s u w : List ℕ) (n : ℕ) (out₀ : List ℕ) (at : ℕ) (out : List ℕ) (p i : ℕ) → EmitAt s u w 0 n out₀ at out p i → n ≤ i
    → Begun s u w n at out₀ (record { count = n; behind = p }) out
begun_all s u w n out₀ at out p i inv h = record { few = omega arith; is = emit_all s u w 0 n out₀ at out p i inv h }

-- ---- `emit`

-- all items were written
pub emit_done : (s u w : List ℕ) (n at : ℕ) (d : List ℕ) (r : ℕ) (e : List ℕ) → Wrote at (bytes_to s u w 0 n) d r e → Emitted s u w n at d r e
emit_done s u w n at d r e q =
    let next : r ≡ at + size_of (its s u w 0 n) = q.next ∙ ap (λ (k : ℕ). at + k) (run_size s u w n) in
    record {
      next = next;
      is = λ f x. record {
        next = next ∙ ap (λ (k : ℕ). at + k) (sym (forest_size s u w n f x));
        is = q.is ∙ ap (λ (l : List ℕ). put at l d) (run_tuples s u w n n 0 (omega arith) ∙ sym (forest_bytes s u w n f x));
      };
    }

pub first_room : (s u w : List ℕ) (n at : ℕ) (d : List ℕ) → at + size_of (its s u w 0 n) ≤ length d → at + length (bytes_to s u w 0 n) ≤ length d
first_room s u w n at d h = omega (arith, run_size s u w n)

module _ (s u w : List ℕ) (n at : ℕ) (d : List ℕ) (b : Part) (e : List ℕ) (begun : Begun s u w n at d b e) where
  -- the first items as a state of the loop over blocks
  begun_state : EmitAt s u w 0 n d at e b.behind b.count
  begun_state = record { is = begun.is; later = omega arith; inside = begun.few }

  pub rest_room : at + size_of (its s u w 0 n) ≤ length d → b.behind + length (bytes_to s u w b.count n) ≤ length e
  rest_room h = block_room s u w 0 n d at e b.behind b.count begun_state n begun.few (omega arith) (first_room s u w n at d h)

  pub emit_whole : n ≤ b.count → Emitted s u w n at d b.behind e
  emit_whole h = emit_done s u w n at d b.behind e (emit_all s u w 0 n d at e b.behind b.count begun_state h)

  pub emit_rest : (r : ℕ) (f : List ℕ) → Wrote b.behind (bytes_to s u w b.count n) e r f → Emitted s u w n at d r f
  emit_rest r f q =
      let all = block_turn s u w 0 n d at e b.behind b.count begun_state n begun.few (omega arith) r f q in
      emit_done s u w n at d r f all.is

pub ruleset emit_ways = (first_room, rest_room, emit_whole, emit_rest, arith)
