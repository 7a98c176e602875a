-- Laws of values where they stand. Assumes nothing.
use mathlib.Core.Path.{◌≡◌, refl, sym, ap, ◌∙◌}
use mathlib.Core.List.{List, [], ◌∷◌, ◌++◌}
use Prim.Native.Nat.{ℕ, ◌+◌, ◌-◌, ◌*◌, ◌≤◌, ◌<◌}
use native.Mathlib.Omega.{arith}
use lib.ListN.{length, get_or, drop, length-drop}
use lib.Seq.{length-take-le}
use borrow.Author.Tests.{eq-eqb, ne_eqb}
use Rattle.memory.specs.Put.{part}
use Rattle.memory.specs.Wrote.{Wrote}
use Rattle.memory.proofs.WroteLaws.{then}
use Rattle.fields.specs.Bytes.{run}
use Rattle.fields.proofs.ByteLaws.{run_le}
use Rattle.items.specs.Items.{u16, text_from, offset_of, source_of, source, value_of}

-- ---- a text

module _ (b : List ℕ) (o : ℕ) where
  text_run : length (text_from b o) ≡ run (drop o b)
  unfolding text_from
  text_run = length-take-le (run (drop o b)) (drop o b) (run_le (drop o b))

  -- it lies in the slice
  text_in : length (text_from b o) ≤ length b - o
  text_in = omega (arith, text_run, run_le (drop o b), length-drop o b)

  pub text_beyond : length b ≤ o → (0 ≡ length (text_from b o)) × (0 ≤ length b)
  text_beyond h = (omega (arith, text_in), omega arith)

  pub text_there : o < length b → (e : ℕ) → e ≡ o + run (drop o b) → (e - o ≡ length (text_from b o)) × (e - o ≤ length b)
  text_there h e x = (omega (arith, text_run), omega (arith, text_run, text_in))

  pub text_later : (e : ℕ) → e ≡ o + run (drop o b) → o ≤ e
  text_later e x = omega arith

  module _ (n : ℕ) (en : n ≡ length (text_from b o)) where
    text_part : part o n b ≡ text_from b o
    unfolding text_from part
    text_part = let g : n ≡ run (drop o b) = en ∙ text_run in rw g

    -- as it is copied
    pub text_room : (n ≡ 0 → ⊥) → o + n ≤ length b
    text_room z = omega (arith, text_in, z)

    pub text_written : {at p r : ℕ} {d e e' : List ℕ} → Wrote p (31 ∷ []) e r e' → Wrote at (part o n b) d p e → Wrote at (text_from b o ++ (31 ∷ [])) d r e'
    text_written q p = then q (rw text_part at p)

    pub text_empty : n ≡ 0 → {at r : ℕ} {d e : List ℕ} → Wrote at (31 ∷ []) d r e → Wrote at (text_from b o ++ (31 ∷ [])) d r e
    text_empty z p = rw (none (text_from b o) (sym en ∙ z)) p
      where
        none : (l : List ℕ) → length l ≡ 0 → l ≡ []
        none [] h = refl
        none (x ∷ l) h = absurd (omega arith)

pub ruleset text_ways = (text_beyond, text_there, text_later, arith)

-- ---- the offset of a value: two bytes and a third

pub offset_is : (w : List ℕ) (i low : ℕ) → low ≡ u16 w (8 * i + 4) → low + 65536 * get_or w (8 * i + 6) 0 ≡ offset_of w i
unfolding offset_of u16
offset_is w i low e = let k : 8 * i + 4 + 1 ≡ 8 * i + 5 = omega arith in let e' : low ≡ get_or w (8 * i + 4) 0 + 256 * get_or w (8 * i + 5) 0 = rw k at e in omega arith

-- ---- the value of an item stands in the one slice or in the other; o is its offset

module _ (s u w : List ℕ) (i o : ℕ) (eo : o ≡ offset_of w i) where
  pub value_dataset : source_of w i ≡ 0 → value_of s u w i ≡ text_from s o
  unfolding value_of source
  value_dataset e = rw (eo, eq-eqb (source_of w i) 0 e)

  pub value_update : (source_of w i ≡ 0 → ⊥) → value_of s u w i ≡ text_from u o
  unfolding value_of source
  value_update e = rw (eo, ne_eqb (source_of w i) 0 e)

  -- its length
  pub length_dataset : source_of w i ≡ 0 → (n : ℕ) → n ≡ length (text_from s o) → n ≡ length (value_of s u w i)
  length_dataset e n en = en ∙ ap length (sym (value_dataset e))

  pub length_update : (source_of w i ≡ 0 → ⊥) → (n : ℕ) → n ≡ length (text_from u o) → n ≡ length (value_of s u w i)
  length_update e n en = en ∙ ap length (sym (value_update e))

  -- the room for it
  pub room_dataset : source_of w i ≡ 0 → (at m : ℕ) → at + length (value_of s u w i) + 1 ≤ m → at + length (text_from s o) + 1 ≤ m
  room_dataset e at m h = rw (value_dataset e) at h

  pub room_update : (source_of w i ≡ 0 → ⊥) → (at m : ℕ) → at + length (value_of s u w i) + 1 ≤ m → at + length (text_from u o) + 1 ≤ m
  room_update e at m h = rw (value_update e) at h

  -- it was written
  module _ {at r : ℕ} {d e : List ℕ} where
    pub wrote_dataset : source_of w i ≡ 0 → Wrote at (text_from s o ++ (31 ∷ [])) d r e → Wrote at (value_of s u w i ++ (31 ∷ [])) d r e
    wrote_dataset x p = rw (value_dataset x) p

    pub wrote_update : (source_of w i ≡ 0 → ⊥) → Wrote at (text_from u o ++ (31 ∷ [])) d r e → Wrote at (value_of s u w i ++ (31 ∷ [])) d r e
    wrote_update x p = rw (value_update x) p

pub ruleset value_ways = (length_dataset, length_update, room_dataset, room_update, wrote_dataset, wrote_update, arith)

pub ruleset text_writes = (text_room, text_written, text_empty, arith)
