-- Laws of the table of parents. Assumes nothing.
use mathlib.Core.Path.{◌≡◌, refl, sym, ◌∙◌}
use mathlib.Core.List.{List}
use mathlib.Core.Logic.{⊎_elim}
use Prim.Native.Nat.{ℕ, zero, suc, ◌+◌, ◌≤◌, ◌<◌}
use native.Mathlib.Numerals.{add-one}
use native.Mathlib.Omega.{arith}
use lib.ListN.{length, get_or, set, length-set}
use lib.Seq.{get_or-set_same, get_or-set_other}
use Rattle.forest.proofs.Numbers.{lt_or_le}
use Rattle.items.specs.Items.{depth_of, under}
use Rattle.numbering.specs.Numbers.{parent_before}
use Rattle.numbering.specs.Block.{ParentsTo, Parents}
use Rattle.numbering.proofs.BackLaws.{parent_start, parent_over_less}
use Rattle.numbering.proofs.KnownLaws.{parent_stays, parent_few}

-- at a depth below the item before item i, that item is the parent
parent_under : (w : List ℕ) (i d : ℕ) → under w i ≤ d → parent_before w d i ≡ i
unfolding under
parent_under w zero d h = parent_start w d
parent_under w (suc i) d h = parent_over_less w d i (omega arith)

-- before the first item nothing is to be known
pub parents_start : (w k : List ℕ) → Parents w 0 k
unfolding ParentsTo under
parents_start w k d h l = absurd (omega arith)

-- ---- `deepen`

-- one depth more
deeper : (w : List ℕ) (i : ℕ) (k : List ℕ) (d : ℕ) → under w i ≤ d → d < length k → ParentsTo d w i k → ParentsTo (d + 1) w i (set k d i)
unfolding ParentsTo
deeper w i k d h l known x hx lx =
    ⊎_elim
    (λ (m : x < d). let other : (x ≡ d → ⊥) = λ e. omega arith in rw (get_or-set_other k d x i 0 other) (known x m (omega (arith, length-set k d i))))
    (λ (m : d ≤ x). let s : x ≡ d = omega arith in rw (s, get_or-set_same k d i 0 l) (sym (parent_under w i d h)))
    (lt_or_le x d)

-- fewer depths
shallower : (w : List ℕ) (i : ℕ) (k : List ℕ) (d e : ℕ) → e ≤ d → ParentsTo d w i k → ParentsTo e w i k
unfolding ParentsTo
shallower w i k d e h known x hx lx = known x (omega arith) lx

-- as many as the table has are all
all_depths : (w : List ℕ) (i : ℕ) (k : List ℕ) (d e : ℕ) → length k ≤ d → ParentsTo d w i k → ParentsTo e w i k
unfolding ParentsTo
all_depths w i k d e h known x hx lx = known x (omega arith) lx

-- the loop at depth d, from depth e on
pub record DeepAt (k₀ : List ℕ) (i e : ℕ) (k : List ℕ) (d : ℕ) : Type 0 where
  pub size : length k ≡ length k₀
  pub later : e ≤ d
  pub right : (w : List ℕ) → e ≡ under w i → Parents w i k₀ → ParentsTo d w i k

pub deep_start : (k : List ℕ) (i e : ℕ) → DeepAt k i e k e
deep_start k i e = record { size = refl; later = omega arith; right = λ w u p. rw u p }

module _ (k₀ : List ℕ) (i e : ℕ) (k : List ℕ) (d : ℕ) (inv : DeepAt k₀ i e k d) where
  pub deep_turn : d < length k → DeepAt k₀ i e (set k d i) (d + 1)
  deep_turn h =
      record {
        size = length-set k d i ∙ inv.size;
        later = omega (arith, inv.later);
        right = λ w u p. deeper w i k d (omega (arith, inv.later)) h (inv.right w u p);
      }

  pub deep_out : (depth : ℕ) → length k ≤ d → (w : List ℕ) → e ≡ under w i → Parents w i k₀ → ParentsTo (depth + 1) w i k
  deep_out depth h w u p = all_depths w i k d (depth + 1) h (inv.right w u p)

  pub deep_end : (depth : ℕ) → depth < d → (w : List ℕ) → e ≡ under w i → Parents w i k₀ → ParentsTo (depth + 1) w i k
  deep_end depth h w u p = shallower w i k d (depth + 1) (omega arith) (inv.right w u p)

-- ---- `next_parent`

module _ (w k : List ℕ) (i d : ℕ) (ed : d ≡ depth_of w i) (known : ParentsTo (d + 1) w i k) where
  -- the table is behind item i
  behind : Parents w (i + 1) k
  unfolding ParentsTo under
  behind = rw (add-one i) (λ x h l. known x (omega arith) l ∙ sym (rw (add-one i) at (parent_stays w i x (omega arith))))

  pub parent_by_look : (v : ℕ) → v ≡ parent_before w d i → (v ≡ parent_before w (depth_of w i) i) × (v ≤ i) × Parents w (i + 1) k
  parent_by_look v e = (rw (← ed) e, omega (arith, parent_few w d i), behind)

  pub parent_by_table : (v : ℕ) → v ≡ get_or k d 0 → d < length k → (v ≡ parent_before w (depth_of w i) i) × (v ≤ i) × Parents w (i + 1) k
  unfolding ParentsTo
  parent_by_table v e h = parent_by_look v (e ∙ known d (omega arith) h)

-- ---- `know_parents`

-- the table is behind the last item
pub parents_all : (w k : List ℕ) (i x : ℕ) → i ≤ x → x ≤ i → Parents w i k → Parents w x k
parents_all w k i x h l p = let e : x ≡ i = omega arith in rw e p
