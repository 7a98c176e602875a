-- Laws of keys that ascend. Assumes nothing.
use mathlib.Core.Path.{◌≡◌, refl, sym, ◌∙◌}
use mathlib.Core.List.{List, [], ◌∷◌}
use mathlib.Core.Bool.{Bool, true, false, true≢false}
use Prim.Native.Nat.{ℕ, ◌/◌, ◌≤◌, ◌<◌}
use native.Mathlib.Omega.{arith}
use borrow.Author.Tests.{ltb-true}
use lib.ListN.{length, get_or-eq_default}
use lib.Dec.{ltb}
use Rattle.base.proofs.ChoiceLaws.{by_test, both_hold}
use Rattle.memory.specs.Hold.{zeros}
use Rattle.keys.specs.Listed.{listed, EachOnce}
use Rattle.keys.specs.Bits.{flag_of, raised}
use Rattle.keys.specs.Map.{Mapped}
use Rattle.keys.specs.Order.{ascends, Ascending, ascended_to, sealed}
use Rattle.keys.specs.Slots.{slot_of, has_slot, Slots, noted}
use Rattle.keys.proofs.BitLaws.{flag_none, flag_other, raised_long}
use Rattle.keys.proofs.ListLaws.{listed_later, listed_none}
use Rattle.keys.proofs.MapLaws.{zeros_all}

-- ---- lists of keys

-- the first of them, and the others
pub record Parted (low x : ℕ) (xs : List ℕ) : Type 0 where
  pub first : low < x
  pub others : ascends x xs ≡ true

pub parted : (low x : ℕ) (xs : List ℕ) → ascends low (x ∷ xs) ≡ true → Parted low x xs
unfolding ascends
parted low x xs e =
    let b = both_hold (ltb low x) (ascends x xs) e in
    record { first = ltb-true low x b.0; others = b.1 }

-- none that is above a larger one is the key
pub above_none : (low : ℕ) (l : List ℕ) (key : ℕ) → ascends low l ≡ true → key ≤ low → listed key l ≡ false
above_none low [] key a h = listed_none key
above_none low (x ∷ xs) key a h =
    let p = parted low x xs a in
    let g = p.first in
    listed_later key x xs (λ z. omega arith) ∙ above_none x xs key p.others (omega arith)

-- so each of them stands once
once_above : (low : ℕ) (l : List ℕ) → ascends low l ≡ true → EachOnce l
unfolding EachOnce
once_above low [] a = tt
once_above low (x ∷ xs) a = let p = parted low x xs a in (above_none x xs x p.others (omega arith), once_above x xs p.others)

pub ascending_once : (l : List ℕ) → Ascending l → EachOnce l
unfolding Ascending
ascending_once l a = once_above 0 l a

-- ---- `ascended_to`

module _ (last key : ℕ) where
  pub ascended_so : (so : Bool) → so ≡ true → ltb last key ≡ ascended_to so last key
  unfolding ascended_to
  ascended_so so e = rw e refl

  pub ascended_not : (so : Bool) → so ≡ false → false ≡ ascended_to so last key
  unfolding ascended_to
  ascended_not so e = rw e refl

  -- they still do: the last was below the key
  pub ascended_still : (so : Bool) → ascended_to so last key ≡ true → (so ≡ true) × (ltb last key ≡ true)
  unfolding ascended_to
  ascended_still so e = both_hold so (ltb last key) e

pub ruleset ascended_ways = (ascended_so, ascended_not)

-- ---- `seal`

module _ (t : List ℕ) (so : Bool) where
  pub seal_so : so ≡ true → (t' : List ℕ) → t' ≡ raised t 262144 → t' ≡ sealed t so
  unfolding sealed
  seal_so e t' x = rw e x

  pub seal_not : so ≡ false → t ≡ sealed t so
  unfolding sealed
  seal_not e = rw e refl

  pub sealed_long : length (sealed t so) ≡ length t
  unfolding sealed
  sealed_long = by_test (λ (u : List ℕ). length u ≡ length t) so _ _ (λ _. raised_long t 262144) (λ _. refl)

pub ruleset seal_ways = (seal_so, seal_not)

-- no key has the flag that says that they ascend
apart : (k : ℕ) → has_slot k ≡ true → slot_of k ≡ 262144 → ⊥
unfolding has_slot
apart k h e = let z = ltb-true (slot_of k) 262144 h in omega arith

pub slots_sealed : (l t : List ℕ) (so : Bool) → Slots l t → Slots l (sealed t so)
unfolding Slots Mapped sealed
slots_sealed l t so ms =
    by_test (λ (u : List ℕ). Mapped has_slot slot_of l u) so _ _
    (λ _ k h g. flag_other t (slot_of k) 262144 (apart k h) ∙ ms k h (omega (arith, raised_long t 262144)))
    (λ _. ms)

-- so it is not raised by the keys
pub unsealed_none : (n : ℕ) → flag_of (zeros n) 262144 ≡ false
unsealed_none n = flag_none (zeros n) 262144 (zeros_all n (262144 / 8))

pub unsealed_more : (t : List ℕ) (k : ℕ) → flag_of t 262144 ≡ false → flag_of (noted t k) 262144 ≡ false
unfolding noted
unsealed_more t k e =
    by_test (λ (u : List ℕ). flag_of u 262144 ≡ false) (has_slot k) _ _
    (λ h. flag_other t 262144 (slot_of k) (λ z. apart k h (sym z)) ∙ e)
    (λ _. e)

-- where it is raised, the keys ascended
pub sealed_so : (t : List ℕ) (so : Bool) → flag_of t 262144 ≡ false → flag_of (sealed t so) 262144 ≡ true → so ≡ true
unfolding sealed
sealed_so t true e h = refl
sealed_so t false e h = absurd (true≢false (sym h ∙ e))

-- ---- `ordered`

pub ordered_past : (t : List ℕ) → length t ≤ 32768 → false ≡ flag_of t 262144
ordered_past t h = sym (flag_none t 262144 (get_or-eq_default t 0 (omega arith)))

pub ruleset ordered_ways = (ordered_past, arith)
