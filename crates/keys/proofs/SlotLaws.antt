-- Laws of the map of keys that can be named. Assumes nothing.
use mathlib.Core.Path.{◌≡◌, refl, ap, ◌∙◌}
use mathlib.Core.List.{List, [], ◌∷◌, ◌++◌}
use mathlib.Core.Bool.{true}
use Prim.Native.Nat.{ℕ, ◌+◌, ◌-◌, ◌*◌, ◌/◌, ◌%◌, ◌≤◌, ◌<◌}
use native.Mathlib.Omega.{arith}
use borrow.Author.Tests.{lt-ltb, le-ltb, eq-eqb, ne_eqb, ltb-true, eqb-true}
use lib.ListN.{length}
use lib.Dec.{ltb, eqb}
use Rattle.std.specs.Prelude.{Option, Some, None}
use Rattle.base.specs.Choice.{pick}
use Rattle.base.proofs.ChoiceLaws.{by_test}
use Rattle.memory.specs.Hold.{zeros}
use Rattle.keys.specs.Listed.{listed}
use Rattle.keys.specs.Below.{below}
use Rattle.keys.specs.Bits.{flag_of, raised}
use Rattle.keys.specs.Map.{Mapped, kind_in, rcid_in}
use Rattle.keys.specs.Slots.{slot_within, slot_of, has_slot, slot_in, Slots, noted}
use Rattle.keys.proofs.BelowLaws.{below_here, below_none, below_is, below_past}
use Rattle.keys.proofs.BitLaws.{raised_long}
use Rattle.keys.proofs.MapLaws.{zeros_all, mapped_none, mapped_more, mapped_out}

-- ---- `slot` and `note`

-- a part of the map: the key's place in it, where its RCID is not too large
module _ (first room rcid : ℕ) (h : first + room ≤ 262144) where
  part_room : (p : ℕ) → p ≡ first + rcid → rcid < room → Some p ≡ below 262144 (slot_within first room rcid)
  unfolding slot_within
  part_room p e l = simp (lt-ltb rcid room l, ← e) (below_here 262144 p (omega arith))

  part_none : room ≤ rcid → None ≡ below 262144 (slot_within first room rcid)
  unfolding slot_within
  part_none l = simp (le-ltb rcid room l) (below_none 262144 262144 (omega arith))

module _ (k : ℕ) where
  module _ (e : k / 4294967296 ≡ 1) where
    slot_info : slot_of k ≡ slot_within 0 65536 (k % 4294967296)
    unfolding slot_of
    slot_info = simp (eq-eqb (kind_in k) 1 e) refl

    pub info_room : k % 4294967296 < 65536 → Some (k % 4294967296) ≡ slot_in k
    unfolding slot_in
    info_room l = rw slot_info (part_room 0 65536 (k % 4294967296) (omega arith) (k % 4294967296) (omega arith) l)

    pub info_none : 65536 ≤ k % 4294967296 → None ≡ slot_in k
    unfolding slot_in
    info_none l = rw slot_info (part_none 0 65536 (k % 4294967296) (omega arith) l)

  module _ (e : k / 4294967296 ≡ 2) where
    slot_point : slot_of k ≡ slot_within 65536 131072 (k % 4294967296)
    unfolding slot_of
    slot_point = simp (ne_eqb (kind_in k) 1 (λ z. omega arith), eq-eqb (kind_in k) 2 e) refl

    pub point_room : k % 4294967296 < 131072 → Some (65536 + k % 4294967296) ≡ slot_in k
    unfolding slot_in
    point_room l = rw slot_point (part_room 65536 131072 (k % 4294967296) (omega arith) (65536 + k % 4294967296) refl l)

    pub point_none : 131072 ≤ k % 4294967296 → None ≡ slot_in k
    unfolding slot_in
    point_none l = rw slot_point (part_none 65536 131072 (k % 4294967296) (omega arith) l)

  module _ (e : k / 4294967296 ≡ 3) where
    slot_multi : slot_of k ≡ slot_within 196608 65536 (k % 4294967296)
    unfolding slot_of
    slot_multi = simp (ne_eqb (kind_in k) 1 (λ z. omega arith), ne_eqb (kind_in k) 2 (λ z. omega arith), eq-eqb (kind_in k) 3 e) refl

    pub multi_room : k % 4294967296 < 65536 → Some (196608 + k % 4294967296) ≡ slot_in k
    unfolding slot_in
    multi_room l = rw slot_multi (part_room 196608 65536 (k % 4294967296) (omega arith) (196608 + k % 4294967296) refl l)

    pub multi_none : 65536 ≤ k % 4294967296 → None ≡ slot_in k
    unfolding slot_in
    multi_none l = rw slot_multi (part_none 196608 65536 (k % 4294967296) (omega arith) l)

  pub slot_none : (k / 4294967296 ≡ 1 → ⊥) → (k / 4294967296 ≡ 2 → ⊥) → (k / 4294967296 ≡ 3 → ⊥) → None ≡ slot_in k
  unfolding slot_of slot_in
  slot_none n o p = simp (ne_eqb (kind_in k) 1 n, ne_eqb (kind_in k) 2 o, ne_eqb (kind_in k) 3 p) (below_none 262144 262144 (omega arith))

pub ruleset slot_ways = (info_room, info_none, point_room, point_none, multi_room, multi_none, slot_none, arith)

-- a key that has a place, and one that has none
module _ (k : ℕ) (r : Option ℕ) (e : r ≡ slot_in k) where
  pub slot_is : (s : ℕ) → r ≡ Some s → (s ≡ slot_of k) × (slot_of k < 262144)
  unfolding slot_in
  slot_is s x = below_is 262144 (slot_of k) r e s x

  pub note_raised : (s : ℕ) → r ≡ Some s → (t t' : List ℕ) → t' ≡ raised t s → t' ≡ noted t k
  unfolding noted has_slot
  note_raised s x t t' y = let i = slot_is s x in simp (lt-ltb (slot_of k) 262144 i.1) (y ∙ ap (raised t) i.0)

  pub note_not : r ≡ None → (t : List ℕ) → t ≡ noted t k
  unfolding noted has_slot slot_in
  note_not x t = simp (le-ltb (slot_of k) 262144 (below_past 262144 (slot_of k) r e x)) refl

pub ruleset note_ways = (note_raised, note_not)

-- ---- from its place a key can be told

-- the key at a place
abbrev slot_key : ℕ → ℕ
slot_key s = pick (ltb s 65536) (4294967296 + s) (pick (ltb s 196608) (2 * 4294967296 + (s - 65536)) (3 * 4294967296 + (s - 196608)))

-- a place, if it is one, is that of the key
abbrev Tells : ℕ → ℕ → Type 0
Tells k s = ltb s 262144 ≡ true → slot_key s ≡ k

no_place : (k : ℕ) → Tells k 262144
no_place k h = absurd (let z : 262144 < 262144 = ltb-true 262144 262144 h in omega arith)

-- in each of the three parts
within_tells : (k first room : ℕ) → (rcid_in k < room → slot_key (first + rcid_in k) ≡ k) → Tells k (slot_within first room (rcid_in k))
unfolding slot_within
within_tells k first room h =
    by_test (Tells k) (ltb (rcid_in k) room) _ _ (λ l _. h (ltb-true (rcid_in k) room l)) (λ _. no_place k)

slot_tells : (k : ℕ) → Tells k (slot_of k)
unfolding slot_of
slot_tells k =
    by_test (Tells k) (eqb (kind_in k) 1) _ _
    (λ e.
    let z : kind_in k ≡ 1 = eqb-true (kind_in k) 1 e in
    within_tells k 0 65536 (λ l. simp (lt-ltb (0 + rcid_in k) 65536 (omega arith)) (omega arith)))
    (λ _.
    by_test (Tells k) (eqb (kind_in k) 2) _ _
    (λ e.
    let z : kind_in k ≡ 2 = eqb-true (kind_in k) 2 e in
    within_tells k 65536 131072
    (λ l. simp (le-ltb (65536 + rcid_in k) 65536 (omega arith), lt-ltb (65536 + rcid_in k) 196608 (omega arith)) (omega arith)))
    (λ _.
    by_test (Tells k) (eqb (kind_in k) 3) _ _
    (λ e.
    let z : kind_in k ≡ 3 = eqb-true (kind_in k) 3 e in
    within_tells k 196608 65536
    (λ l. simp (le-ltb (196608 + rcid_in k) 65536 (omega arith), le-ltb (196608 + rcid_in k) 196608 (omega arith)) (omega arith)))
    (λ _. no_place k)))

told : (k : ℕ) → has_slot k ≡ true → slot_key (slot_of k) ≡ k
unfolding has_slot
told k h = slot_tells k h

-- ---- the map

pub slots_none : (n : ℕ) → Slots [] (zeros n)
unfolding Slots
slots_none n = mapped_none has_slot slot_of slot_key told (zeros n) (zeros_all n)

pub slots_more : (l : List ℕ) (t t' : List ℕ) (k : ℕ) → Slots l t → t' ≡ noted t k → Slots (l ++ (k ∷ [])) t'
unfolding Slots noted
slots_more l t t' k ms e =
    rw e (by_test (λ (u : List ℕ). Mapped has_slot slot_of (l ++ (k ∷ [])) u) (has_slot k) _ _
    (mapped_more has_slot slot_of slot_key told l t ms k)
    (mapped_out has_slot slot_of slot_key told l t ms k))

pub noted_long : (t t' : List ℕ) (k n : ℕ) → t' ≡ noted t k → length t ≡ n → length t' ≡ n
unfolding noted
noted_long t t' k n e h = rw e (by_test (λ (u : List ℕ). length u ≡ n) (has_slot k) _ _ (λ _. raised_long t (slot_of k) ∙ h) (λ _. h))

-- what the map says of a key
pub slots_say : (l : List ℕ) (t : List ℕ) (k : ℕ) → Slots l t → (r : Option ℕ) → r ≡ slot_in k → (s : ℕ) → r ≡ Some s → s / 8 < length t → flag_of t s ≡ listed k l
unfolding Slots Mapped has_slot
slots_say l t k ms r e s x g =
    let i = slot_is k r e s x in
    rw i.0 (ms k (lt-ltb (slot_of k) 262144 i.1) (rw i.0 at g))
