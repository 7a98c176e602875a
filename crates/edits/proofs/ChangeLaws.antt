-- What becomes of the items when one is inserted, deleted or set. Assumes nothing.
use mathlib.Core.Path.{◌≡◌, refl, ◌∙◌}
use mathlib.Core.List.{List, [], ◌∷◌, ◌++◌}
use Prim.Native.Nat.{ℕ, ◌+◌, ◌-◌, ◌*◌, ◌≤◌, ◌<◌}
use native.Mathlib.Omega.{arith}
use lib.ListN.{length}
use Rattle.memory.specs.Put.{put}
use Rattle.memory.specs.Splice.{opened}
use Rattle.memory.proofs.PutLaws.{get_d_put_below, get_d_put_above}
use Rattle.memory.proofs.SpliceLaws.{spliced_in_before, spliced_in_after, length_opened, opened_before, opened_after}
use Rattle.forest.specs.Flat.{item}
use Rattle.items.specs.Items.{text_from, depth_of, code_of, source, item_at, its, ref_bytes, item_bytes, Same}
use Rattle.items.proofs.ItemLaws.{its_split, its_snoc, Moved, its_same, same_its, item_put, ref_put, ref_below, ref_above}
use Rattle.edits.specs.Search.{end_of, gone_count, gone_out}
use Rattle.edits.proofs.SearchLaws.{end_bound}

-- room was made at item j, and a new item stored there
module _ (w : List ℕ) (n j d c o x : ℕ) (hj : j ≤ n) (room : 8 * n + 8 ≤ length w) (hd : d < 65536) (hc : c < 65536) (ho : o < 16777216) where
  -- with the room
  abbrev wide : List ℕ
  wide = opened (8 * n) (8 * j) 8 w

  -- with the item
  abbrev grown : List ℕ
  grown = put (8 * j) (item_bytes d c o x) wide

  -- no byte more
  wide_length : length wide ≡ length w
  wide_length = length_opened (8 * n) (8 * j) 8 w

  -- what stands before it stays
  pub grown_same : Same w grown (8 * j)
  unfolding Same
  grown_same = λ k h. get_d_put_below (8 * j) k (item_bytes d c o x) wide h ∙ opened_before (8 * n) (8 * j) 8 k w h

  -- the item
  pub grown_item : (s u : List ℕ) → item_at s u grown j ≡ item d c (text_from (source x s u) o)
  grown_item s u = item_put wide j d c o x (omega (arith, wide_length)) hd hc ho s u

  -- what stood behind its place has moved
  grown_bytes : Moved w grown j (j + 1) (n - j)
  unfolding Moved item_bytes ref_bytes
  grown_bytes = λ k h.
      let p : 8 * (j + 1) + k ≡ 8 * j + 8 + k = omega arith in
      rw p (get_d_put_above (8 * j) (8 * j + 8 + k) (item_bytes d c o x) wide (omega arith) ∙ opened_after (8 * n) (8 * j) 8 k w (omega arith) room)

  -- the items behind it
  pub grown_after : (s u : List ℕ) → its s u grown (j + 1) (n + 1) ≡ its s u w j n
  grown_after s u = its_same s u w grown j n (j + 1) (n + 1) (n - j) (omega arith) (omega arith) grown_bytes

  -- the items up to it
  pub grown_before : (s u : List ℕ) (start : ℕ) → start ≤ j → its s u grown start (j + 1) ≡ its s u w start j ++ (item d c (text_from (source x s u) o) ∷ [])
  grown_before s u start h = its_snoc s u grown start j h ∙ rw (same_its s u w grown start j (8 * j) h (omega arith) grown_same, grown_item s u)

-- item i went, with what is below it
module _ (w : List ℕ) (n i d : ℕ) (hi : i < n) (room : 8 * n ≤ length w) where
  -- the first item that stays
  abbrev e₁ : ℕ
  e₁ = end_of w (i + 1) n (d + 1)

  -- it is among the items, or their end
  gone_end : (gone_count w n i d + i ≡ e₁) × (e₁ ≤ n)
  unfolding gone_count
  gone_end = let b = end_bound w (i + 1) n (d + 1) (omega arith) in (omega arith, omega arith)

  -- what stands before item i stays
  pub gone_same : Same w (gone_out w n i d) (8 * i)
  unfolding Same gone_out
  gone_same = λ k h. spliced_in_before (8 * n) (8 * i) (8 * gone_count w n i d) k [] w h

  -- what stands behind has moved
  gone_bytes : Moved w (gone_out w n i d) e₁ i (n - e₁)
  unfolding Moved gone_out
  gone_bytes = λ k h.
      let b = gone_end in
      let p : 8 * e₁ + k ≡ 8 * i + 8 * gone_count w n i d + k = omega arith in
      let z : 8 * i + k ≡ 8 * i + 0 + k = omega arith in
      rw (p, z) (spliced_in_after (8 * n) (8 * i) (8 * gone_count w n i d) 0 [] w refl (omega arith) room (omega arith) k (omega arith))

  -- the items that are left
  pub gone_its : (s u : List ℕ) (start : ℕ) → start ≤ i → its s u (gone_out w n i d) start (n - gone_count w n i d) ≡ its s u w start i ++ its s u w e₁ n
  gone_its s u start h =
      let b = gone_end in
      its_split s u (gone_out w n i d) start i (n - gone_count w n i d) h (omega arith)
      ∙ rw (same_its s u w (gone_out w n i d) start i (8 * i) h (omega arith) gone_same, its_same s u w (gone_out w n i d) e₁ n i (n - gone_count w n i d) (n - e₁) (omega arith) (omega arith) gone_bytes)

-- item i has a new value
module _ (w : List ℕ) (n i o x : ℕ) (hi : i < n) (room : 8 * n ≤ length w) (ho : o < 16777216) where
  -- the bytes afterwards
  abbrev turned : List ℕ
  turned = put (8 * i + 4) (ref_bytes o x) w

  -- what stands behind it stays
  turned_bytes : Moved w turned (i + 1) (i + 1) (n - (i + 1))
  unfolding Moved
  turned_bytes = λ k h. ref_above w i o x (omega arith) ho (8 * (i + 1) + k) (omega arith)

  -- the items behind it
  pub turned_after : (s u : List ℕ) → its s u turned (i + 1) n ≡ its s u w (i + 1) n
  turned_after s u = its_same s u w turned (i + 1) n (i + 1) n (n - (i + 1)) (omega arith) (omega arith) turned_bytes

  -- the items up to it
  pub turned_before : (s u : List ℕ) (start : ℕ) → start ≤ i → its s u turned start (i + 1) ≡ its s u w start i ++ (item (depth_of w i) (code_of w i) (text_from (source x s u) o) ∷ [])
  turned_before s u start h =
      its_snoc s u turned start i h
      ∙ rw (same_its s u w turned start i (8 * i) h (omega arith) (ref_below w i o x (omega arith) ho), ref_put w i o x (omega arith) ho s u)
