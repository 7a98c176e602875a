-- Laws of loading the tuples of a stored SPAS into cells. Assumes nothing.
use Prim.Native.Nat.{ℕ, zero, suc, ◌+◌, ◌-◌, ◌*◌, ◌/◌, ◌%◌, ◌≤◌, ◌<◌}
use mathlib.Core.Path.{◌≡◌, refl, sym, ap, ◌∙◌}
use mathlib.Core.Bool.{true}
use mathlib.Core.List.{List, [], ◌∷◌, ◌++◌, append_assoc, append-nil}
use native.Mathlib.Omega.{arith}
use lib.ListN.{length}
use lib.Seq.{take-add, drop-drop}
use Rattle.base.specs.Lists.{each, gather, Each}
use Rattle.base.proofs.ListLaws.{each_append}
use Rattle.base.proofs.EachLaws.{each_join}
use Rattle.skeleton.specs.Place.{between}
use Rattle.fields.specs.Table.{head_of, tuple_of}
use Rattle.fields.specs.Content.{tuples, many, fill}
use Rattle.fields.specs.Places.{ending_at}
use Rattle.fields.specs.declared.Format.TheVariants.{Spas, SpasNew}
use Rattle.fields.specs.declared.Sub.{Sub}
use Rattle.fields.proofs.FieldLaws.{fill_list}
use Rattle.rules.specs.Record.{Spatial, spatial_of}
use Rattle.items.specs.Items.{source}
use Rattle.cells.specs.Cells.{bodies_of, spatial_in, tuple_bodies}
use Rattle.cells.specs.Keys.{SpasBody}
use Rattle.cells.specs.Acts.{SpasLoaded}
use Rattle.cells.proofs.TupleLaws.{step, step_fill, no_tuple}

-- ---- tuples one after the other

tuples_last : (s : List ℕ) (k at p : ℕ) → p ≡ at + 15 * k → tuple_bodies s at (suc k) ≡ tuple_bodies s at k ++ (between s p (p + 15) ∷ [])
unfolding tuple_bodies
tuples_last s zero at p e = let z : p ≡ at = omega arith in rw z
tuples_last s (suc k) at p e = ap (λ (bs : List (List ℕ)). between s at (at + 15) ∷ bs) (tuples_last s k (at + 15) p (omega arith))

-- their bytes are those of the field
tuples_bytes_lem : (s : List ℕ) (k at end : ℕ) → end ≡ at + 15 * k → gather (λ (b : List ℕ). b) (tuple_bodies s at k) ≡ between s at end
unfolding tuple_bodies gather
tuples_bytes_lem s zero at end e = let z : end - at ≡ 0 = omega arith in rw z
tuples_bytes_lem s (suc k) at end e =
    let x : at + 15 - at ≡ 15 = omega arith in
    let y : end - at ≡ 15 + (end - (at + 15)) = omega arith in
    rw (tuples_bytes_lem s k (at + 15) end (omega arith), x, y, take-add, drop-drop)

module _ (s : List ℕ) (end : ℕ) (l : end ≤ length s) where
  -- what they say is what the field says
  tuples_say : (k at : ℕ) → end ≡ at + 15 * k → (tuples (tuple_of Spas) (between s at end)).ending ≡ 0
      → each spatial_in (tuple_bodies s at k) ≡ each spatial_of (many (tuple_of Spas) (between s at end))
  unfolding tuple_bodies each tuple_of
  tuples_say zero at e z = rw (no_tuple (tuple_of Spas) refl refl s at end (omega arith))
  tuples_say (suc k) at e z =
      let f = step (tuple_of Spas) refl refl s at end (omega arith) l z in
      rw (f.first, tuples_say k (at + 15) (omega arith) f.rest)

  -- each is one of a stored SPAS where the field is
  tuples_right : (k at : ℕ) → end ≡ at + 15 * k → (tuples (tuple_of SpasNew) (between s at end)).ending ≡ 0 → Each SpasBody (tuple_bodies s at k)
  unfolding tuple_bodies head_of tuple_of Each
  tuples_right zero at e z = tt
  tuples_right (suc k) at e z =
      let f = step (tuple_of SpasNew) refl refl s at end (omega arith) l z in
      (step_fill (tuple_of SpasNew) refl refl s at end l f, tuples_right k (at + 15) (omega arith) f.rest)

gather_append : (bs cs : List (List ℕ)) → gather (λ (b : List ℕ). b) (bs ++ cs) ≡ gather (λ (b : List ℕ). b) bs ++ gather (λ (b : List ℕ). b) cs
unfolding gather
gather_append [] cs = refl
gather_append (b ∷ bs) cs = rw (gather_append bs cs, append_assoc)

-- tuples fill the bytes
listed : (t : List Sub) (b : List ℕ) → fill [] t b ≡ true → (tuples t b).ending ≡ 0
unfolding ending_at
listed t b e = fill_list t b e

-- ---- the loop: of the tuples from at to end those before p are loaded, and there are m cells

pub record LoadAt (at end x : ℕ) (c₀ : List ℕ) (n : ℕ) (c : List ℕ) (p m : ℕ) : Type 0 where
  pub place : p + 15 * n ≡ at + 15 * m
  pub more : n ≤ m
  pub even : (end - p) % 15 ≡ 0
  pub within : p ≤ end
  pub few : m + (end - p) / 15 ≡ n + (end - at) / 15
  pub long : length c ≡ length c₀
  pub bodies : (d u : List ℕ) → bodies_of d u c m ≡ bodies_of d u c₀ n ++ tuple_bodies (source x d u) at (m - n)

pub load_start : (at end x : ℕ) (c : List ℕ) (n : ℕ) → at ≤ end → (end - at) % 15 ≡ 0 → LoadAt at end x c n c at n
unfolding tuple_bodies
load_start at end x c n h e =
    let z : n - n ≡ 0 = omega arith in
    record { place = refl; more = omega arith; even = e; within = h; few = refl; long = refl; bodies = λ d u. sym (rw z (append-nil (bodies_of d u c n))) }

module _ (at end x : ℕ) (c₀ : List ℕ) (n : ℕ) (c : List ℕ) (p m : ℕ) (s : LoadAt at end x c₀ n c p m) where
  module _ (h : p < end) where
    pub load_inside : p + 15 ≤ end
    load_inside = omega (arith, s.even)

    pub load_room : 7 * (n + (end - at) / 15) ≤ length c₀ → 7 * m + 7 ≤ length c
    load_room r = omega (arith, s.even, s.few, s.long)

    pub load_turn : (e : List ℕ) → length e ≡ length c → (r : ℕ)
        → (r ≡ m + 1) × ((d u : List ℕ) → bodies_of d u e (m + 1) ≡ bodies_of d u c m ++ (between (source x d u) p (p + 15) ∷ []))
        → LoadAt at end x c₀ n e (p + 15) r
    load_turn e le r a =
        let inside = load_inside in
        let er : r ≡ m + 1 = a.0 in
        let few : m + (end - p) / 15 ≡ n + (end - at) / 15 = s.few in
        let even : (end - p) % 15 ≡ 0 = s.even in
        let more : n ≤ m = s.more in
        let place : p + 15 * n ≡ at + 15 * m = s.place in
        let next : m + 1 - n ≡ suc (m - n) = omega arith in
        rw er (record {
          place = omega arith;
          more = omega arith;
          even = omega arith;
          within = inside;
          few = omega arith;
          long = le ∙ s.long;
          bodies = λ d u.
              a.1 d u
              ∙ ap (λ (bs : List (List ℕ)). bs ++ (between (source x d u) p (p + 15) ∷ [])) (s.bodies d u)
              ∙ append_assoc (bodies_of d u c₀ n) (tuple_bodies (source x d u) at (m - n)) (between (source x d u) p (p + 15) ∷ [])
              ∙ ap (λ (bs : List (List ℕ)). bodies_of d u c₀ n ++ bs) (sym (rw next (tuples_last (source x d u) (m - n) at p (omega arith))));
        })

  module _ (h : end ≤ p) where
    pub load_count : m ≡ n + (end - at) / 15
    load_count = omega (arith, s.few, s.within)

    -- how many tuples there are
    tuples_of_lem : m - n ≡ (end - at) / 15
    tuples_of_lem = omega (arith, load_count)

    ends : end ≡ at + 15 * ((end - at) / 15)
    ends = omega (arith, s.place, s.more, s.within, load_count)

    pub load_done : (d u : List ℕ) → SpasLoaded d u at end x c₀ n c m
    unfolding head_of
    load_done d u =
        let k : ℕ = (end - at) / 15 in
        let src : List ℕ = source x d u in
        let old : List (List ℕ) = bodies_of d u c₀ n in
        let is : bodies_of d u c m ≡ old ++ tuple_bodies src at k = s.bodies d u ∙ ap (λ (i : ℕ). old ++ tuple_bodies src at i) tuples_of_lem in
        record {
          bodies = is;
          bytes = rw is (gather_append old (tuple_bodies src at k) ∙ ap (λ (b : List ℕ). gather (λ (y : List ℕ). y) old ++ b) (tuples_bytes_lem src k at end ends));
          is = λ e l. rw is (each_append spatial_in old (tuple_bodies src at k) ∙ ap (λ (b : List Spatial). each spatial_in old ++ b) (tuples_say src end l k at ends (listed (tuple_of Spas) (between src at end) e)));
          right = λ e l q. rw is (each_join SpasBody old (tuple_bodies src at k) q (tuples_right src end l k at ends (listed (tuple_of SpasNew) (between src at end) e)));
        }

pub ruleset load_turns = (load_start, load_inside, load_room, load_turn, load_count, load_done, arith)
