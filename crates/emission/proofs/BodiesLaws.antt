-- Laws of the bodies that cells refer to. Assumes nothing.
use Prim.Native.Nat.{ℕ, suc, ◌+◌, ◌-◌, ◌*◌, ◌^◌, ◌≤◌, ◌<◌, min}
use mathlib.Core.Path.{◌≡◌, refl, sym, ap, ◌∙◌}
use mathlib.Core.List.{List, [], ◌∷◌, ◌++◌, append_assoc}
use native.Mathlib.Nat.{sub-zero}
use native.Mathlib.Omega.{arith}
use lib.ListN.{length, get_or, take, drop, length-append, length-take}
use lib.Seq.{take_all}
use Rattle.base.specs.Lists.{each, gather}
use Rattle.memory.specs.Put.{part}
use Rattle.memory.specs.Wrote.{Wrote}
use Rattle.memory.proofs.WroteLaws.{then, wrote_none, wrote_length}
use Rattle.skeleton.specs.Emit.{sizes, entries, contents}
use Rattle.skeleton.specs.Place.{between}
use Rattle.skeleton.proofs.EmitFieldsLaws.{length_contents}
use Rattle.fields.proofs.TupleLaws.{split}
use Rattle.rules.specs.Tags.{INAS}
use Rattle.rules.specs.Written.{field_width}
use Rattle.cells.specs.Cells.{u24, body_at, bodies_from, bodies_of}
use Rattle.cells.proofs.LengthLaws.{between_long, body_old, body_new}
use Rattle.writing.specs.Parts.{entry_bytes}
use Rattle.writing.proofs.PartsLaws.{wrote_as}
use Rattle.emission.specs.Bodies.{bodies_left, joined, inas_fields}
use Rattle.emission.proofs.LeftLaws.{Left, left_start, left_done, left_room, left_more}

-- ---- bytes that may run past the end of a slice

-- k of them are there
module _ (b : List ℕ) (start n k : ℕ) (e : (k ≡ length (between b start (start + n))) × (k ≤ n)) where
  pub put_none : (at : ℕ) (out : List ℕ) → k ≡ 0 → Wrote at (between b start (start + n)) out at out
  put_none at out z = wrote_as (sym (no_elements (between b start (start + n)) (omega (arith, e.0)))) (wrote_none at out)
    where
      no_elements : (l : List ℕ) → length l ≡ 0 → l ≡ []
      no_elements [] h = refl
      no_elements (x ∷ l) h = absurd (omega arith)

  pub put_inside : (k ≡ 0 → ⊥) → start + k ≤ length b
  put_inside z = omega (arith, e.0, between_long b start n)

  pub put_some : (k ≡ 0 → ⊥) → (at p : ℕ) (out out' : List ℕ) → Wrote at (part start k b) out p out' → Wrote at (between b start (start + n)) out p out'
  unfolding part
  put_some z at p out out' w = wrote_as (cut (start + n - start) (drop start b) (e.0 ∙ length-take (start + n - start) (drop start b))) w
    where
      cut : (m : ℕ) (l : List ℕ) → k ≡ min m (length l) → take k l ≡ take m l
      cut m l h =
          split m (length l)
          (λ g. let i : k ≡ m = omega arith in rw i)
          (λ g. take_all k l (omega arith) ∙ sym (take_all m l (omega arith)))

pub ruleset put_ways = (put_none, put_inside, put_some)

-- ---- the body of one cell

-- the body of cell i, in the slice that the cell names
module _ (d u c : List ℕ) (i start n : ℕ) (s : (start ≡ u24 c (7 * i)) × (start < 16777216)) (e : (n ≡ u24 c (7 * i + 4)) × (n < 16777216)) where
  module _ (at : ℕ) (out : List ℕ) where
    pub room_old : get_or c (7 * i + 3) 0 ≡ 0 → at + length (body_at d u c i) ≤ length out → at + length (between d start (start + n)) ≤ length out
    room_old z h = rw (body_old d u c i start n s e z) h

    pub room_new : (get_or c (7 * i + 3) 0 ≡ 0 → ⊥) → at + length (body_at d u c i) ≤ length out → at + length (between u start (start + n)) ≤ length out
    room_new z h = rw (body_new d u c i start n s e z) h

    module _ (p : ℕ) (out' : List ℕ) where
      pub wrote_old : get_or c (7 * i + 3) 0 ≡ 0 → Wrote at (between d start (start + n)) out p out' → Wrote at (body_at d u c i) out p out'
      wrote_old z w = wrote_as (body_old d u c i start n s e z) w

      pub wrote_new : (get_or c (7 * i + 3) 0 ≡ 0 → ⊥) → Wrote at (between u start (start + n)) out p out' → Wrote at (body_at d u c i) out p out'
      wrote_new z w = wrote_as (body_new d u c i start n s e z) w

pub ruleset body_ways = (room_old, room_new, wrote_old, wrote_new)

-- ---- the bodies of cells

module _ (d u c : List ℕ) where
  pub bodies_more : (i n : ℕ) → i < n → bodies_left d u c i n ≡ body_at d u c i ∷ bodies_left d u c (i + 1) n
  unfolding bodies_left bodies_from
  bodies_more i n h = let k : n - i ≡ suc (n - (i + 1)) = omega arith in rw k

  pub bodies_done : (i n : ℕ) → n ≤ i → bodies_left d u c i n ≡ []
  unfolding bodies_left bodies_from
  bodies_done i n h = let k : n - i ≡ 0 = omega arith in rw k

  pub bodies_all : (n : ℕ) → bodies_of d u c n ≡ bodies_left d u c 0 n
  unfolding bodies_left
  bodies_all n = rw sub-zero

-- ---- `put_bodies`

pub record BodiesAt (d u c : List ℕ) (n : ℕ) (out₀ : List ℕ) (at : ℕ) (out : List ℕ) (p i : ℕ) : Type 0 where
  pub inside : i ≤ n
  pub left : Left at (joined (bodies_of d u c n)) out₀ p (joined (bodies_left d u c i n)) out

pub bodies_start : (d u c : List ℕ) (n : ℕ) (out : List ℕ) (at : ℕ) → BodiesAt d u c n out at out at 0
bodies_start d u c n out at = record { inside = omega arith; left = left_start _ (ap joined (bodies_all d u c n)) }

module _ (d u c : List ℕ) (n : ℕ) (out₀ : List ℕ) (at : ℕ) (out : List ℕ) (p i : ℕ) (inv : BodiesAt d u c n out₀ at out p i) where
  pub bodies_end : n ≤ i → Wrote at (joined (bodies_of d u c n)) out₀ p out
  unfolding joined gather
  bodies_end h = left_done inv.left (ap joined (bodies_done d u c i n h))

  module _ (h : i < n) where
    pub bodies_cell : 7 * n ≤ length c → 7 * i + 7 ≤ length c
    bodies_cell g = omega arith

    bodies_here : joined (bodies_left d u c i n) ≡ body_at d u c i ++ joined (bodies_left d u c (i + 1) n)
    unfolding joined gather
    bodies_here = ap joined (bodies_more d u c i n h)

    pub bodies_room : at + length (joined (bodies_of d u c n)) ≤ length out₀ → p + length (body_at d u c i) ≤ length out
    bodies_room g =
        omega (arith, left_room inv.left g, ap length bodies_here ∙ length-append (body_at d u c i) (joined (bodies_left d u c (i + 1) n)))

    pub bodies_turn : (p' : ℕ) (out' : List ℕ) → Wrote p (body_at d u c i) out p' out' → BodiesAt d u c n out₀ at out' p' (i + 1)
    bodies_turn p' out' w = record { inside = omega arith; left = left_more inv.left _ bodies_here w }

pub ruleset bodies_ways = (bodies_start, bodies_end, bodies_cell, bodies_room, bodies_turn)

-- ---- `put_inas_entries`

pub record EntriesAt (d u c : List ℕ) (n from : ℕ) (out₀ : List ℕ) (at : ℕ) (out : List ℕ) (p pos i : ℕ) : Type 0 where
  pub inside : i ≤ n
  pub place : p ≡ at + 14 * i
  pub small : pos ≤ from + 16777216 * i
  pub left : Left at (entries field_width field_width from (inas_fields (bodies_of d u c n))) out₀
      p (entries field_width field_width pos (inas_fields (bodies_left d u c i n))) out

pub entries_start : (d u c : List ℕ) (n from : ℕ) (out : List ℕ) (at : ℕ) → EntriesAt d u c n from out at out at from 0
entries_start d u c n from out at =
    record {
      inside = omega arith;
      place = omega arith;
      small = omega arith;
      left = left_start _ (ap (λ (bs : List (List ℕ)). entries field_width field_width from (inas_fields bs)) (bodies_all d u c n));
    }

module _ (d u c : List ℕ) (n from : ℕ) (out₀ : List ℕ) (at : ℕ) (out : List ℕ) (p pos i : ℕ) (inv : EntriesAt d u c n from out₀ at out p pos i) where
  pub entries_end : n ≤ i → (p ≡ at + 14 * n) × Wrote at (entries field_width field_width from (inas_fields (bodies_of d u c n))) out₀ p out
  unfolding inas_fields each entries
  entries_end h = (
    omega (arith, inv.place, inv.inside),
    left_done inv.left (ap (λ (bs : List (List ℕ)). entries field_width field_width pos (inas_fields bs)) (bodies_done d u c i n h)),
  )

  module _ (h : i < n) where
    pub entries_cell : 7 * n ≤ length c → 7 * i + 7 ≤ length c
    entries_cell g = omega arith

    pub entries_room : at + 14 * n ≤ length out₀ → p + 14 ≤ length out
    entries_room g = omega (arith, inv.place, inv.left.long)

    module _ (k : ℕ) (e : (k ≡ length (body_at d u c i)) × (k ≤ 16777215)) where
      pub entries_size : k + 1 < 2 ^ 64
      entries_size = omega (arith, e.1)

      pub entries_word : from ≤ 281474976710656 → length c ≤ 400000 → 7 * n ≤ length c → pos + (k + 1) < 2 ^ 64
      entries_word f g q = omega (arith, e.1, inv.small, inv.inside)

      entries_here : entries field_width field_width pos (inas_fields (bodies_left d u c i n))
          ≡ entry_bytes INAS (k + 1) pos ++ entries field_width field_width (pos + (k + 1)) (inas_fields (bodies_left d u c (i + 1) n))
      unfolding inas_fields each entries entry_bytes
      entries_here =
          ap (λ (bs : List (List ℕ)). entries field_width field_width pos (inas_fields bs)) (bodies_more d u c i n h)
          ∙ ap (λ (m : ℕ). entry_bytes INAS (m + 1) pos ++ entries field_width field_width (pos + (m + 1)) (inas_fields (bodies_left d u c (i + 1) n))) (sym e.0)

      pub entries_turn : (p' : ℕ) (out' : List ℕ) → (p' ≡ p + 14) × Wrote p (entry_bytes INAS (k + 1) pos) out p' out'
          → EntriesAt d u c n from out₀ at out' p' (pos + (k + 1)) (i + 1)
      entries_turn p' out' w =
          record {
            inside = omega arith;
            place = omega (arith, inv.place, w.0);
            small = omega (arith, inv.small, e.1);
            left = left_more inv.left _ entries_here w.1;
          }

pub ruleset entries_ways = (entries_start, entries_end, entries_cell, entries_room, entries_size, entries_word, entries_turn)

-- ---- `put_inas_fields`

pub record FieldsAt (d u c : List ℕ) (n : ℕ) (out₀ : List ℕ) (at : ℕ) (out : List ℕ) (p i : ℕ) : Type 0 where
  pub inside : i ≤ n
  pub left : Left at (contents (inas_fields (bodies_of d u c n))) out₀ p (contents (inas_fields (bodies_left d u c i n))) out

pub fields_start : (d u c : List ℕ) (n : ℕ) (out : List ℕ) (at : ℕ) → FieldsAt d u c n out at out at 0
fields_start d u c n out at =
    record { inside = omega arith; left = left_start _ (ap (λ (bs : List (List ℕ)). contents (inas_fields bs)) (bodies_all d u c n)) }

module _ (d u c : List ℕ) (n : ℕ) (out₀ : List ℕ) (at : ℕ) (out : List ℕ) (p i : ℕ) (inv : FieldsAt d u c n out₀ at out p i) where
  pub fields_end : n ≤ i → Wrote at (contents (inas_fields (bodies_of d u c n))) out₀ p out
  unfolding inas_fields each contents
  fields_end h = left_done inv.left (ap (λ (bs : List (List ℕ)). contents (inas_fields bs)) (bodies_done d u c i n h))

  module _ (h : i < n) where
    pub fields_cell : 7 * n ≤ length c → 7 * i + 7 ≤ length c
    fields_cell g = omega arith

    fields_here : contents (inas_fields (bodies_left d u c i n)) ≡ (body_at d u c i ++ (30 ∷ [])) ++ contents (inas_fields (bodies_left d u c (i + 1) n))
    unfolding inas_fields each contents
    fields_here =
        ap (λ (bs : List (List ℕ)). contents (inas_fields bs)) (bodies_more d u c i n h)
        ∙ sym (append_assoc (body_at d u c i) (30 ∷ []) (contents (inas_fields (bodies_left d u c (i + 1) n))))

    -- the room for the body and its 1E
    room_here : at + sizes (inas_fields (bodies_of d u c n)) ≤ length out₀ → p + length (body_at d u c i) + 1 ≤ length out
    room_here g =
        let r = left_room inv.left (rw (length_contents (inas_fields (bodies_of d u c n))) g) in
        let l = ap length fields_here ∙ length-append (body_at d u c i ++ (30 ∷ [])) (contents (inas_fields (bodies_left d u c (i + 1) n))) in
        omega (arith, length-append (body_at d u c i) (30 ∷ []))

    pub fields_room : at + sizes (inas_fields (bodies_of d u c n)) ≤ length out₀ → p + length (body_at d u c i) ≤ length out
    fields_room g = omega (arith, room_here g)

    module _ (q : ℕ) (out' : List ℕ) (w : Wrote p (body_at d u c i) out q out') where
      pub fields_mark : at + sizes (inas_fields (bodies_of d u c n)) ≤ length out₀ → q + 1 ≤ length out'
      fields_mark g = omega (arith, room_here g, w.next, wrote_length w)

      pub fields_turn : (p' : ℕ) (out'' : List ℕ) → (p' ≡ q + 1) × Wrote q (30 ∷ []) out' p' out'' → FieldsAt d u c n out₀ at out'' p' (i + 1)
      fields_turn p' out'' m = record { inside = omega arith; left = left_more inv.left _ fields_here (then m.1 w) }

pub ruleset fields_ways = (fields_start, fields_end, fields_cell, fields_room, fields_mark, fields_turn)
