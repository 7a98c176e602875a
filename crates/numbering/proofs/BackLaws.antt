-- Laws of looking back from an item, and of the tuples that items have by that. Assumes nothing.
use mathlib.Core.Path.{◌≡◌, refl, sym, ◌∙◌}
use mathlib.Core.List.{List, [], ◌∷◌}
use mathlib.Core.Logic.{⊎_elim}
use mathlib.Core.Bool.{Bool, true, false}
use Prim.Native.Nat.{ℕ, zero, suc, ◌+◌, ◌-◌, ◌≤◌, ◌<◌}
use native.Mathlib.Numerals.{add-one}
use native.Mathlib.Omega.{arith}
use lib.ListN.{length}
use lib.Dec.{ltb, eqb}
use borrow.Author.Tests.{lt-ltb, le-ltb, ne_eqb}
use Rattle.base.specs.Choice.{pick}
use Rattle.forest.specs.Forest.{Forest, Tup, tuples_of}
use Rattle.forest.specs.Flat.{Item, flat, count_flat}
use Rattle.forest.proofs.Numbers.{eq_or_ne}
use Rattle.items.specs.Items.{depth_of, code_of, item_at, its, twin_at}
use Rattle.items.proofs.ItemLaws.{its_end, its_more, twin_is, twin_once}
use Rattle.numbering.specs.Numbers.{parent_before, twins_before}
use Rattle.numbering.specs.Tuples.{tuple_with, tuple_at}
use Rattle.numbering.proofs.ForestLaws.{parent_in, numbered, numbered_forest}

-- ---- one item further back

module _ (w : List ℕ) (d : ℕ) where
  -- before the first item
  pub parent_start : parent_before w d 0 ≡ 0
  unfolding parent_before
  parent_start = refl

  -- over an item that is less deep
  pub parent_over_less : (j : ℕ) → depth_of w j < d → parent_before w d (suc j) ≡ suc j
  unfolding parent_before
  parent_over_less j l = rw (lt-ltb (depth_of w j) d l)

  -- over one that is not
  pub parent_over : (j : ℕ) → d ≤ depth_of w j → parent_before w d (suc j) ≡ parent_before w d j
  unfolding parent_before
  parent_over j l = rw (le-ltb (depth_of w j) d l)

  module _ (c : ℕ) where
    pub twins_start : twins_before w d c 0 ≡ 0
    unfolding twins_before
    twins_start = refl

    pub twins_over_less : (j : ℕ) → depth_of w j < d → twins_before w d c (suc j) ≡ 0
    unfolding twins_before
    twins_over_less j l = rw (lt-ltb (depth_of w j) d l)

    pub twins_over : (j : ℕ) → d ≤ depth_of w j → twins_before w d c (suc j) ≡ twin_at w j d c + twins_before w d c j
    unfolding twins_before
    twins_over j l = rw (le-ltb (depth_of w j) d l)

-- ---- the ways through the loops; x is the depth of the item before j

-- where none is left
pub parent_none : (w : List ℕ) (i d j : ℕ) → parent_before w d j ≡ parent_before w d i → j ≤ 0 → 0 ≡ parent_before w d i
parent_none w i d zero inv h = sym (parent_start w d) ∙ inv
parent_none w i d (suc j) inv h = absurd (omega arith)

pub parent_here : (w : List ℕ) (i d j x : ℕ) → parent_before w d j ≡ parent_before w d i → 0 < j → x ≡ depth_of w (j - 1) → x < d → j - 1 + 1 ≡ parent_before w d i
parent_here w i d zero x inv h e l = absurd (omega arith)
parent_here w i d (suc j) x inv h e l =
    let k : suc j - 1 ≡ j = omega arith in
    let e' : x ≡ depth_of w j = rw k at e in
    let s : suc j - 1 + 1 ≡ suc j = omega arith in
    s ∙ sym (parent_over_less w d j (omega arith)) ∙ inv

pub parent_on : (w : List ℕ) (i d j x : ℕ) → parent_before w d j ≡ parent_before w d i → 0 < j → x ≡ depth_of w (j - 1) → d ≤ x
    → parent_before w d (j - 1) ≡ parent_before w d i
parent_on w i d zero x inv h e l = absurd (omega arith)
parent_on w i d (suc j) x inv h e l =
    let k : suc j - 1 ≡ j = omega arith in
    let e' : x ≡ depth_of w j = rw k at e in
    rw k (sym (parent_over w d j (omega arith)) ∙ inv)

pub ruleset parent_ways = (parent_none, parent_here, parent_on, arith)

-- t of them were counted
pub twins_none : (w : List ℕ) (i d c j t : ℕ) → t + twins_before w d c j ≡ twins_before w d c i → j ≤ 0 → t ≡ twins_before w d c i
twins_none w i d c zero t inv h = omega (arith, twins_start w d c)
twins_none w i d c (suc j) t inv h = absurd (omega arith)

pub twins_here : (w : List ℕ) (i d c j t x : ℕ) → t + twins_before w d c j ≡ twins_before w d c i → 0 < j → x ≡ depth_of w (j - 1) → x < d → t ≡ twins_before w d c i
twins_here w i d c zero t x inv h e l = absurd (omega arith)
twins_here w i d c (suc j) t x inv h e l =
    let k : suc j - 1 ≡ j = omega arith in
    let e' : x ≡ depth_of w j = rw k at e in
    omega (arith, twins_over_less w d c j (omega arith))

pub twins_on : (w : List ℕ) (i d c j t x y : ℕ) → t + twins_before w d c j ≡ twins_before w d c i → 0 < j → x ≡ depth_of w (j - 1) → d ≤ x
    → y ≡ twin_at w (j - 1) d c → t + y + twins_before w d c (j - 1) ≡ twins_before w d c i
twins_on w i d c zero t x y inv h e l f = absurd (omega arith)
twins_on w i d c (suc j) t x y inv h e l f =
    let k : suc j - 1 ≡ j = omega arith in
    let e' : x ≡ depth_of w j = rw k at e in
    let f' : y ≡ twin_at w j d c = rw k at f in
    rw k (omega (arith, twins_over w d c j (omega arith)))

pub ruleset twins_ways = (twins_none, twins_here, twins_on, arith)

-- ---- the tuples of items

module _ (s u w : List ℕ) where
  -- the items before item i, the latest first
  unfoldable pub earlier : ℕ → List Item
  earlier zero = []
  earlier (suc i) = item_at s u w i ∷ earlier i

  earlier_length : (i : ℕ) → length (earlier i) ≡ i
  unfolding earlier
  earlier_length zero = refl
  earlier_length (suc i) = omega (arith, earlier_length i)

  parent_list : (d i : ℕ) → parent_in d (earlier i) ≡ parent_before w d i
  unfolding earlier parent_in parent_before item_at
  parent_list d zero = refl
  parent_list d (suc i) = rw (parent_list d i, earlier_length i)

  -- a twin counts one
  one_more : (t : ℕ) → t ≤ 1 → (n : ℕ) (b : Bool) → pick b 0 (pick (eqb t 1) (suc n) n) ≡ pick b 0 (t + n)
  one_more t h n true = refl
  one_more t h n false = ⊎_elim (λ (e : t ≡ 1). rw e (omega arith)) (λ (e : t ≡ 1 → ⊥). rw (ne_eqb t 1 e) (omega (arith, e))) (eq_or_ne t 1)

  twins_list : (d c i : ℕ) → count_flat d c (earlier i) ≡ twins_before w d c i
  unfolding earlier count_flat twins_before item_at
  twins_list d c zero = refl
  twins_list d c (suc i) = rw (twins_list d c i, twin_is s u w i d c) (one_more (twin_at w i d c) (twin_once w i d c) (twins_before w d c i) (ltb (depth_of w i) d))

  -- the tuples of the items from i up to n
  unfoldable pub tuples_to : ℕ → ℕ → List Tup
  tuples_to i n = numbered (earlier i) (its s u w i n)

  pub tuples_end : (i n : ℕ) → n ≤ i → tuples_to i n ≡ []
  unfolding tuples_to numbered
  tuples_end i n h = rw (its_end s u w i n h)

  pub tuples_more : (i n : ℕ) → i < n → tuples_to i n ≡ tuple_at s u w i ∷ tuples_to (i + 1) n
  unfolding tuples_to numbered tuple_at tuple_with item_at earlier
  tuples_more i n h =
      rw (its_more s u w i n h, parent_list (depth_of w i) i, twins_list (depth_of w i) (code_of w i) i, add-one i, add-one (twins_before w (depth_of w i) (code_of w i) i))

  -- those of a forest's items are the forest's
  pub tuples_forest : (n : ℕ) (f : Forest) → its s u w 0 n ≡ flat 0 f → tuples_to 0 n ≡ tuples_of f
  unfolding tuples_to earlier
  tuples_forest n f e = rw e (numbered_forest f)
