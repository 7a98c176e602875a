-- Coordinate tuples in bytes. Assumes nothing.
use Prim.Native.Nat.{ℕ, ◌+◌, ◌-◌, ◌*◌, ◌/◌, ◌%◌, ◌≤◌}
use mathlib.Core.Path.{◌≡◌, refl, sym, ap, ap₂, ◌∙◌}
use mathlib.Core.List.{List, [], ◌++◌, append_assoc}
use native.Mathlib.Nat.{add-zero}
use native.Mathlib.Omega.{arith}
use lib.ListN.{length, take, drop, length-take, length-drop}
use Rattle.base.specs.Lists.{each}
use Rattle.base.proofs.ListLaws.{each_append, each_take, each_drop}
use Rattle.fields.specs.Table.{tuple_of}
use Rattle.fields.specs.Content.{many, tuples}
use Rattle.fields.specs.Places.{ending_at, all_raw}
use Rattle.fields.specs.declared.Format.TheVariants.{C2il}
use Rattle.fields.proofs.EvenLaws.{raw_fill, even_length, raw_take, raw_drop}
use Rattle.fields.proofs.FieldLaws.{fill_list}
use Rattle.fields.proofs.JoinLaws.{many_join}
use Rattle.rules.specs.Coordinates.{Coord, coord_of, coords_in}
use Rattle.rules.proofs.CoordinateLaws.{coords_none}
use Rattle.memory.specs.Put.{part}
use Rattle.memory.specs.Splice.{spliced, spliced_in}
use Rattle.memory.proofs.SpliceLaws.{take_spliced_in, take_closed}
use Rattle.skeleton.specs.Place.{between}
use Rattle.coords.specs.Tuples.{tuples_of}

-- bytes that are whole tuples
even_whole : (b : List ℕ) (n : ℕ) → length b ≡ 8 * n → (tuples (tuple_of C2il) b).ending ≡ 0
unfolding tuple_of ending_at all_raw
even_whole b n e = let z : length b % 8 ≡ 0 = omega arith in fill_list (tuple_of C2il) b (raw_fill (tuple_of C2il) refl (omega arith) b z)

-- how many they are
even_count : (b : List ℕ) (n : ℕ) → length b ≡ 8 * n → length (many (tuple_of C2il) b) ≡ n
unfolding tuple_of
even_count b n e = let a = even_length (tuple_of C2il) refl b (even_whole b n e) in omega arith

-- ---- tuples in bytes

pub coords_join : (a b : List ℕ) (n : ℕ) → length a ≡ 8 * n → coords_in (a ++ b) ≡ coords_in a ++ coords_in b
unfolding coords_in
coords_join a b n e = ap (each coord_of) (many_join (tuple_of C2il) b a (even_whole a n e)) ∙ each_append coord_of (many (tuple_of C2il) a) (many (tuple_of C2il) b)

module _ (b : List ℕ) (n : ℕ) (e : length b ≡ 8 * n) (i : ℕ) (h : i ≤ n) where
  few : i ≤ length (many (tuple_of C2il) b)
  few = rw (even_count b n e) h

  pub coords_take : coords_in (take (8 * i) b) ≡ take i (coords_in b)
  unfolding coords_in tuple_of all_raw
  coords_take = ap (each coord_of) (raw_take (tuple_of C2il) refl (omega arith) b (even_whole b n e) i few) ∙ each_take coord_of i (many (tuple_of C2il) b)

  pub coords_drop : coords_in (drop (8 * i) b) ≡ drop i (coords_in b)
  unfolding coords_in tuple_of all_raw
  coords_drop = ap (each coord_of) (raw_drop (tuple_of C2il) refl (omega arith) b (even_whole b n e) i few) ∙ sym (each_drop coord_of i (many (tuple_of C2il) b))

-- ---- spliced

-- tuples for others
coords_spliced : (b ys : List ℕ) (n i del m : ℕ) → length b ≡ 8 * n → length ys ≡ 8 * m → i + del ≤ n
    → coords_in (spliced (8 * i) (8 * del) ys b) ≡ take i (coords_in b) ++ (coords_in ys ++ drop (i + del) (coords_in b))
unfolding spliced
coords_spliced b ys n i del m e f h =
    let t : length (take (8 * i) b) ≡ 8 * i = simp length-take (omega arith) in
    let c : 8 * i + 8 * del ≡ 8 * (i + del) = omega arith in
    ap coords_in (append_assoc (take (8 * i) b) ys (drop (8 * i + 8 * del) b))
    ∙ coords_join (take (8 * i) b) (ys ++ drop (8 * i + 8 * del) b) i t
    ∙ ap₂ (λ (x y : List Coord). x ++ y) (coords_take b n e i (omega arith))
    (coords_join ys (drop (8 * i + 8 * del) b) m f ∙ ap (λ (y : List Coord). coords_in ys ++ y) (rw c (coords_drop b n e (i + del) h)))

module _ (l : List ℕ) (n i : ℕ) where
  -- `put_tuples`
  pub tuples_put : (b : List ℕ) (at end : ℕ) {m r : ℕ} {v : List ℕ} → at ≤ end → end ≤ length b → (end - at) % 8 ≡ 0 → 8 * n + (end - at) ≤ length l → i ≤ n
      → m ≡ end - at → v ≡ spliced_in (8 * n) (8 * i) 0 (part at m b) l → r ≡ n + m / 8
      → (8 * r ≡ 8 * n + (end - at)) × (tuples_of v r ≡ take i (tuples_of l n) ++ (coords_in (between b at end) ++ drop i (tuples_of l n)))
  unfolding part
  tuples_put b at end {m} {r} {v} a c z f h em ev er =
      let s : 8 * r ≡ 8 * n - 0 + m = omega arith in
      let y : length (between b at end) ≡ 8 * ((end - at) / 8) = simp (length-take, length-drop) (omega arith) in
      let g : length (part at m b) ≡ m = rw em (simp (length-take, length-drop) (omega arith)) in
      let t : take (8 * r) v ≡ spliced (8 * i) 0 (part at m b) (take (8 * n) l)
      = take_spliced_in (8 * n) (8 * i) 0 m (part at m b) l g (omega arith) (omega arith) (omega arith) s ev in
      let u : length (take (8 * n) l) ≡ 8 * n = simp length-take (omega arith) in
      (omega arith, ap coords_in t ∙ rw em (rw add-zero at (coords_spliced (take (8 * n) l) (between b at end) n i 0 ((end - at) / 8) u y (omega arith))))

  -- `cut_tuples`
  pub tuples_cut : (m : ℕ) {r : ℕ} {v : List ℕ} → i + m ≤ n → 8 * n ≤ length l → v ≡ spliced_in (8 * n) (8 * i) (8 * m) [] l → r ≡ n - m
      → (r ≡ n - m) × (tuples_of v r ≡ take i (tuples_of l n) ++ drop (i + m) (tuples_of l n))
  tuples_cut m {r} {v} h f ev er =
      let u : length (take (8 * n) l) ≡ 8 * n = simp length-take (omega arith) in
      let s : 8 * r ≡ 8 * n - 8 * m = omega arith in
      let t : take (8 * r) v ≡ spliced (8 * i) (8 * m) [] (take (8 * n) l) = take_closed (8 * n) (8 * i) (8 * m) l (omega arith) f s ev in
      (er, ap coords_in t ∙ rw coords_none at (coords_spliced (take (8 * n) l) [] n i m 0 u refl h))
