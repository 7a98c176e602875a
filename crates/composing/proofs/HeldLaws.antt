-- Laws of the associations that cells hold. Assumes nothing.
use Prim.Native.Nat.{ℕ, suc, ◌+◌, ◌-◌, ◌*◌, ◌≤◌, ◌<◌}
use mathlib.Core.Path.{◌≡◌, sym, ap, ◌∙◌}
use mathlib.Core.Bool.{Bool, true, false, not}
use mathlib.Core.List.{List, ◌∷◌}
use native.Mathlib.Omega.{arith}
use borrow.Author.Tests.{eq-eqb, ne_eqb, not-true, not-false}
use lib.ListN.{length, get_or, take, drop, length-take, length-drop}
use Rattle.base.specs.Lists.{each, Each}
use Rattle.base.proofs.EachLaws.{each_map}
use Rattle.items.specs.Items.{source}
use Rattle.cells.specs.Cells.{u24, body_at, bodies_from, bodies_of}
use Rattle.cells.proofs.SpasLaws.{tuple_key}
use Rattle.keys.specs.Key.{key_at}
use Rattle.keys.specs.Key.{KeyFits}
use Rattle.keys.specs.Numbered.{number_of}
use Rattle.keys.proofs.KeyLaws.{key_part}
use Rattle.keys.proofs.NamedLaws.{inas_names, spas_names}
use Rattle.fields.specs.Valid.{Bytes}
use Rattle.fields.proofs.ByteLaws.{bytes_drop, le_bound}
use Rattle.fields.proofs.WiderLaws.{spas, format_wider}
use Rattle.skeleton.specs.File.{records_from}
use Rattle.rules.specs.Associations.{inas_key, spas_key}
use Rattle.rules.specs.Record.{Rec, spatial_of}
use Rattle.sequence.specs.Stream.{standing}
use Rattle.updates.specs.Acts.{chart}
use Rattle.contents.proofs.SpatialLaws.{spas_next, spas_ends}
use Rattle.version.specs.Areas.{inas_area, spas_area}
use Rattle.version.specs.Held.{RightInas, RightSpas, Held}
use Rattle.version.specs.declared.Version.{Version}
use Rattle.composing.specs.Keys.{Begins, KeyOf}
use Rattle.composing.specs.Settled.{Tells, TellsAll, Alike, TellsOf}
use Rattle.composing.specs.Told.{TellsCells, TellsHeld}
use Rattle.composing.proofs.LinkedLaws.{held_linked}
use Rattle.composing.proofs.NamingLaws.{alike_same, alike_over, first_more, first_loose}

-- ---- the key of one cell

-- the key at the front of a part of b
part_key : (b : List ℕ) (s m k : ℕ) → k ≡ key_at b s → KeyOf (take m (drop s b)) k
unfolding KeyOf
part_key b s m k e h =
    let z : s + 0 ≡ s = omega arith in
    e ∙ ap (key_at b) (sym z) ∙ key_part b m s 0 h

module _ (d u c : List ℕ) (i at : ℕ) (ea : at ≡ u24 c (7 * i)) (k : ℕ) where
  pub cell_old : get_or c (7 * i + 3) 0 ≡ 0 → k ≡ key_at d at → KeyOf (body_at d u c i) k
  unfolding body_at source
  cell_old x e = rw (← ea, eq-eqb (get_or c (7 * i + 3) 0) 0 x) (part_key d at (at + u24 c (7 * i + 4) - at) k e)

  pub cell_new : (get_or c (7 * i + 3) 0 ≡ 0 → ⊥) → k ≡ key_at u at → KeyOf (body_at d u c i) k
  unfolding body_at source
  cell_new x e = rw (← ea, ne_eqb (get_or c (7 * i + 3) 0) 0 x) (part_key u at (at + u24 c (7 * i + 4) - at) k e)

pub ruleset cell_ways = (cell_old, cell_new)

-- ---- the loop over the cells: those from i on are left of m

pub record Left (d : List ℕ) (ds : ℕ) (u : List ℕ) (us : ℕ) (flags c : List ℕ) (m i : ℕ) : Type 0 where
  pub count : i ≤ m
  pub begins : (f : List ℕ → List ℕ) → Each (Begins f) (bodies_of d u c m) → Each (Begins f) (bodies_from d u c i (m - i))
  pub alike : (f : List ℕ → List ℕ) → Each (Begins f) (bodies_of d u c m) → Alike d ds u us flags (each f (bodies_from d u c i (m - i))) (each f (bodies_of d u c m))

module _ (d : List ℕ) (ds : ℕ) (u : List ℕ) (us : ℕ) (flags c : List ℕ) (m : ℕ) where
  pub left_start : Left d ds u us flags c m 0
  left_start =
      let z : m - 0 ≡ m = omega arith in
      record {
        count = omega arith;
        begins = λ f a. rw z a;
        alike = λ f a. rw z (alike_same d ds u us flags (each f (bodies_of d u c m)));
      }

  module _ (i : ℕ) (l : Left d ds u us flags c m i) where
    pub left_over : m ≤ i → TellsCells d ds u us flags (bodies_of d u c m) true
    unfolding TellsCells bodies_from each
    left_over h f a =
        let z : m - i ≡ 0 = omega arith in
        alike_over d ds u us flags (each f (bodies_of d u c m)) (rw z at (l.alike f a))

    module _ (g : i < m) (k : ℕ) (ek : KeyOf (body_at d u c i) k) (x : Bool) (t : Tells d ds u us flags k x) where
      one : m - i ≡ suc (m - (i + 1))
      one = omega arith

      here : (f : List ℕ → List ℕ) → Each (Begins f) (bodies_of d u c m) → Begins f (body_at d u c i) × Each (Begins f) (bodies_from d u c (i + 1) (m - (i + 1)))
      unfolding bodies_from Each
      here f a = rw one at (l.begins f a)

      split : (f : List ℕ → List ℕ) → Each (Begins f) (bodies_of d u c m)
          → Alike d ds u us flags (f (body_at d u c i) ∷ each f (bodies_from d u c (i + 1) (m - (i + 1)))) (each f (bodies_of d u c m))
      unfolding bodies_from each
      split f a = rw one at (l.alike f a)

      number : (f : List ℕ → List ℕ) → Begins f (body_at d u c i) → number_of (take 2 (f (body_at d u c i))) ≡ k
      unfolding KeyOf
      number f b = sym b.number ∙ sym (ek b.room)

      pub left_more : not x ≡ false → Left d ds u us flags c m (i + 1)
      left_more y =
          record {
            count = omega arith;
            begins = λ f a. (here f a).1;
            alike = λ f a.
                first_more d ds u us flags (f (body_at d u c i)) (each f (bodies_from d u c (i + 1) (m - (i + 1)))) (each f (bodies_of d u c m)) (split f a) k x t
                (here f a).0.ranged (number f (here f a).0) (not-false x y);
          }

      pub left_loose : not x ≡ true → TellsCells d ds u us flags (bodies_of d u c m) false
      unfolding TellsCells
      left_loose y f a =
          first_loose d ds u us flags (f (body_at d u c i)) (each f (bodies_from d u c (i + 1) (m - (i + 1)))) (each f (bodies_of d u c m)) (split f a) k x t
          (here f a).0.ranged (number f (here f a).0) (not-true x y)

pub ruleset cells_turn = (left_start, left_over, left_more, left_loose, arith)

-- ---- an area of the workspace

module _ (w : List ℕ) (long : 400000 ≤ length w) (from to : ℕ) (runs : from ≤ to) (inside : to ≤ 386000) where
  pub area_length : length (take (to - from) (drop from w)) ≡ to - from
  area_length = simp (length-take, length-drop) (omega arith)

  pub area_room : (m : ℕ) → 7 * m ≤ to - from → 7 * m ≤ length (take (to - from) (drop from w))
  area_room m h = omega (arith, area_length)

  pub area_small : length (take (to - from) (drop from w)) ≤ 16777216
  area_small = omega (arith, area_length)

  pub area_in : to ≤ length w
  area_in = omega arith

pub ruleset area_ways = (area_room, area_small, area_in)

-- ---- a record in the workspace

-- bytes that are long enough have a key
bytes_fit : (b : List ℕ) → Bytes b → KeyFits b 0
unfolding KeyFits
bytes_fit b h _ = le_bound 4 (drop 1 b) (bytes_drop b 1 h)

inas_begins : (b : List ℕ) → RightInas b → Begins inas_key b
inas_begins b r = let n = inas_names b r.filled (bytes_fit b r.bytes) in record { room = n.room; ranged = n.ranged; number = n.number }

spas_begins : (b : List ℕ) → RightSpas b → Begins tuple_key b
unfolding spatial_of spas_key
spas_begins b r =
    let e = spas_ends b (format_wider spas b r.filled).0 in
    let z : 0 < length b = omega (arith, r.long) in
    let n = spas_names b 0 15 (spas_next b 0 e z) (bytes_fit b r.bytes) in
    record { room = n.room; ranged = n.ranged; number = n.number }

module _ (d : List ℕ) (ds : ℕ) (u : List ℕ) (us : ℕ) (flags w : List ℕ) (v : Version) (x : Bool)
    (t : TellsCells d ds u us flags (bodies_of d u (inas_area w) v.inas) x) where
  inas_told : (r : Rec) → Held d u w v r → TellsAll d ds u us flags (each inas_key (bodies_of d u (inas_area w) v.inas)) x
  unfolding TellsCells
  inas_told r h = t inas_key (each_map (bodies_of d u (inas_area w) v.inas) inas_begins h.parts.inas_right)

  pub held_loose : x ≡ false → TellsHeld d ds u us flags w v x
  unfolding TellsHeld TellsOf TellsAll
  held_loose y r h recs s =
      let e = inas_told r h recs s in
      sym (held_linked (standing chart recs (records_from u us).items) d u w v r h ∙ rw (← e, y))

  pub held_told : x ≡ true → (z : Bool) → TellsCells d ds u us flags (bodies_of d u (spas_area w) v.spas) z → TellsHeld d ds u us flags w v z
  unfolding TellsHeld TellsOf TellsAll TellsCells
  held_told y z q r h recs s =
      let e = inas_told r h recs s in
      let g = q tuple_key (each_map (bodies_of d u (spas_area w) v.spas) spas_begins h.parts.spas_right) recs s in
      sym (held_linked (standing chart recs (records_from u us).items) d u w v r h ∙ rw (← e, y, ← g))
