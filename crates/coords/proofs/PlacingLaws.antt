-- Laws of tuples put at a place. Assumes nothing.
use Prim.Native.Nat.{ℕ, ◌+◌, ◌-◌, ◌*◌, ◌/◌, ◌%◌, ◌^◌, ◌≤◌, ◌<◌}
use mathlib.Core.Path.{◌≡◌, refl, sym, ap, ap₂, ◌∙◌}
use mathlib.Core.List.{List, [], ◌∷◌, ◌++◌, append_assoc}
use native.Mathlib.Omega.{arith}
use borrow.Author.Tests.{eq-eqb, ne_eqb, le-leb, lt-leb}
use lib.ListN.{length, take, drop, length-take, length-drop, length-append, take-append-drop}
use lib.Seq.{take_at, drop_at, drop-drop}
use Rattle.std.specs.Prelude.{Option, Some, None}
use Rattle.base.specs.Check.{ok}
use Rattle.base.specs.Lists.{each, gather}
use Rattle.skeleton.specs.Emit.{sizes}
use Rattle.skeleton.specs.File.{Field}
use Rattle.skeleton.specs.Place.{between, place_at, fields_at}
use Rattle.skeleton.specs.declared.directory.Shape.{Shape}
use Rattle.skeleton.specs.declared.place.Place.{Place}
use Rattle.skeleton.proofs.PlaceLaws.{fields_more, fields_done, place_falls, place_runs, place_in_lem}
use Rattle.rules.specs.Tags.{C2IL}
use Rattle.rules.specs.ByTag.{with_tag, bodies}
use Rattle.rules.specs.Place.{placed, Place as Edit}
use Rattle.rules.specs.Coordinates.{Coord, coords_in, sent}
use Rattle.rules.proofs.CoordinateLaws.{coords_count}
use Rattle.coords.specs.Tuples.{tuples_of}
use Rattle.coords.specs.Placing.{EvenLists, Putting, PlacedAs}

-- the tuples sent, field by field
sent_here : (f : Field) (fs : List Field) → f.tag ≡ C2IL → sent (f ∷ fs) ≡ coords_in f.body ++ sent fs
unfolding sent bodies with_tag each gather
sent_here f fs e = simp (eq-eqb f.tag C2IL e)

sent_other : (f : Field) (fs : List Field) → (f.tag ≡ C2IL → ⊥) → sent (f ∷ fs) ≡ sent fs
unfolding sent bodies with_tag
sent_other f fs e = simp (ne_eqb f.tag C2IL e)

sent_none : sent [] ≡ []
unfolding sent bodies with_tag each gather
sent_none = refl

-- n tuples of l
count_of : (l : List ℕ) (n : ℕ) → 8 * n ≤ length l → length (tuples_of l n) ≡ n
count_of l n h = coords_count (take (8 * n) l) n (simp length-take (omega arith))

-- before the first field
pub putting_start : (fs : List Field) (l : List ℕ) (n i : ℕ) → EvenLists fs → 8 * n + sizes fs ≤ length l → i ≤ n
    → Putting fs l n i (take i (tuples_of l n) ++ (sent fs ++ drop i (tuples_of l n)))
putting_start fs l n i e r h =
    record {
      before = take i (tuples_of l n);
      behind = drop i (tuples_of l n);
      is = sym (take-append-drop i (tuples_of l n));
      place = let c = count_of l n (omega arith) in simp length-take (omega arith);
      rest = refl;
      even = e;
      room = r;
    }

module _ (r : List ℕ) (h : Shape) (p : ℕ) (e : Option Place) (en : e ≡ place_at r h p) (l : List ℕ) (n i : ℕ) (xs : List Coord) (s : Putting (fields_at r h p) l n i xs) where
  -- there are no more fields
  pub putting_done : e ≡ None → tuples_of l n ≡ xs
  putting_done x =
      s.is ∙ sym (ap (λ (z : List Coord). s.before ++ (z ++ s.behind)) (ap sent (fields_done r h p e en x) ∙ sent_none)) ∙ s.rest

  pub putting_kept : 8 * n ≤ length l
  putting_kept = let k = s.room in omega arith

  module _ (d : Place) (x : e ≡ Some d) where
    abbrev here : Field
    here = record { tag = d.tag; body = between r d.start d.end }

    g : fields_at r h p ≡ here ∷ fields_at r h d.next
    g = fields_more r h p e en d x

    body_long : length (between r d.start d.end) ≡ d.end - d.start
    body_long = let a = place_in_lem r h p e en d x in simp (length-take, length-drop) (omega arith)

    evens : EvenLists (here ∷ fields_at r h d.next)
    evens = rw g at s.even

    roomy : 8 * n + (length (between r d.start d.end) + 1 + sizes (fields_at r h d.next)) ≤ length l
    unfolding sizes
    roomy = rw g at s.room

    -- a field of another tag
    pub putting_skip : (d.tag ≡ C2IL → ⊥) → Putting (fields_at r h d.next) l n i xs
    unfolding EvenLists
    putting_skip z =
        record {
          before = s.before;
          behind = s.behind;
          is = s.is;
          place = s.place;
          rest = sym (ap (λ (y : List Coord). s.before ++ (y ++ s.behind)) (ap sent g ∙ sent_other here (fields_at r h d.next) z)) ∙ s.rest;
          even = evens.1;
          room = omega (arith, roomy);
        }

    module _ (z : d.tag ≡ C2IL) where
      pub putting_even : (d.end - d.start) % 8 ≡ 0
      unfolding EvenLists
      putting_even = let a = evens.0 z in omega (arith, body_long)

      pub putting_room : 8 * n + (d.end - d.start) ≤ length l
      putting_room = omega (arith, roomy, body_long)

      pub putting_place : i ≤ n
      putting_place =
          let c = count_of l n (omega (arith, roomy)) in
          let t : length (s.before ++ s.behind) ≡ n = sym (ap length s.is) ∙ c in
          let f = length-append s.before s.behind in
          let k = s.place in
          omega arith

      pub putting_word : (l₀ : List ℕ) → length l ≡ length l₀ → length l₀ < 524288 → i + (d.end - d.start) / 8 < 2 ^ 64
      putting_word l₀ a b = omega (arith, putting_place, putting_room)

      -- its tuples were put
      pub putting_turn : (v : List ℕ) (m j : ℕ) → length v ≡ length l → 8 * m ≡ 8 * n + (d.end - d.start)
          → tuples_of v m ≡ take i (tuples_of l n) ++ (coords_in (between r d.start d.end) ++ drop i (tuples_of l n))
          → j ≡ i + (d.end - d.start) / 8 → Putting (fields_at r h d.next) v m j xs
      unfolding EvenLists
      putting_turn v m j ev em et ej =
          let a : take i (tuples_of l n) ≡ s.before = ap (take i) s.is ∙ take_at s.before s.behind i s.place in
          let b : drop i (tuples_of l n) ≡ s.behind = ap (drop i) s.is ∙ drop_at s.before s.behind i s.place in
          let c : length (coords_in (between r d.start d.end)) ≡ (d.end - d.start) / 8 = coords_count (between r d.start d.end) ((d.end - d.start) / 8) (omega (arith, body_long, putting_even)) in
          let k = s.place in
          record {
            before = s.before ++ coords_in (between r d.start d.end);
            behind = s.behind;
            is = et ∙ ap₂ (λ (y w : List Coord). y ++ (coords_in (between r d.start d.end) ++ w)) a b ∙ sym (append_assoc s.before (coords_in (between r d.start d.end)) s.behind);
            place = length-append s.before (coords_in (between r d.start d.end)) ∙ omega arith;
            rest = append_assoc s.before (coords_in (between r d.start d.end)) (sent (fields_at r h d.next) ++ s.behind)
                ∙ ap (λ (y : List Coord). s.before ++ y) (sym (append_assoc (coords_in (between r d.start d.end)) (sent (fields_at r h d.next)) s.behind))
                ∙ sym (ap (λ (y : List Coord). s.before ++ (y ++ s.behind)) (ap sent g ∙ sent_here here (fields_at r h d.next) z))
                ∙ s.rest;
            even = evens.1;
            room = rw ev (omega (arith, roomy, body_long));
          }

pub ruleset putting_ways = (putting_start, putting_done, putting_kept, putting_skip, putting_even, putting_room, putting_place, putting_word, putting_turn, place_falls, place_runs, place_in_lem, arith)

-- ---- COCC

module _ (instruction index count : ℕ) (new xs : List Coord) (l : List ℕ) where
  abbrev at : Edit
  at = record { instruction = instruction; index = index; count = count }

  -- an insert behind the end
  far : instruction ≡ 1 → 0 < index → length xs < index - 1 → PlacedAs (placed at new xs) l None
  unfolding placed PlacedAs
  far i p h = simp (eq-eqb instruction 1 i, lt-leb index (length xs + 1) (omega arith))

  -- an insert
  insert : instruction ≡ 1 → 0 < index → index - 1 ≤ length xs → (m : ℕ) → 8 * m ≤ length l
      → tuples_of l m ≡ take (index - 1) xs ++ (new ++ drop (index - 1) xs) → PlacedAs (placed at new xs) l (Some m)
  unfolding placed PlacedAs
  insert i p h m r e = (simp (eq-eqb instruction 1 i, le-leb index (length xs + 1) (omega arith)) (ap (λ (z : List Coord). ok z) (sym e)), r)

  -- others that go beyond the end
  beyond : (instruction ≡ 1 → ⊥) → 0 < index → length xs < index - 1 + count → PlacedAs (placed at new xs) l None
  unfolding placed PlacedAs
  beyond i p h = simp (ne_eqb instruction 1 i, lt-leb (index + count - 1) (length xs) (omega arith))

  -- a delete
  delete : instruction ≡ 2 → 0 < index → index - 1 + count ≤ length xs → (m : ℕ) → 8 * m ≤ length l
      → tuples_of l m ≡ take (index - 1) xs ++ drop (index - 1 + count) xs → PlacedAs (placed at new xs) l (Some m)
  unfolding placed PlacedAs
  delete i p h m r e =
      let d : drop count (drop (index - 1) xs) ≡ drop (index - 1 + count) xs = drop-drop count (index - 1) xs in
      (simp (i, le-leb (index + count - 1) (length xs) (omega arith)) (ap (λ (z : List Coord). ok z) (ap (λ (z : List Coord). take (index - 1) xs ++ z) d ∙ sym e)), r)

  -- a modify
  modify : (instruction ≡ 1 → ⊥) → (instruction ≡ 2 → ⊥) → 0 < index → index - 1 + count ≤ length xs → (m : ℕ) → 8 * m ≤ length l → (ys : List Coord)
      → ys ≡ take (index - 1) xs ++ drop (index - 1 + count) xs → tuples_of l m ≡ take (index - 1) ys ++ (new ++ drop (index - 1) ys) → PlacedAs (placed at new xs) l (Some m)
  unfolding placed PlacedAs
  modify i j p h m r ys ey e =
      let n : length (take (index - 1) xs) ≡ index - 1 = simp length-take (omega arith) in
      let a : take (index - 1) ys ≡ take (index - 1) xs = ap (take (index - 1)) ey ∙ take_at (take (index - 1) xs) (drop (index - 1 + count) xs) (index - 1) n in
      let b : drop (index - 1) ys ≡ drop (index - 1 + count) xs = ap (drop (index - 1)) ey ∙ drop_at (take (index - 1) xs) (drop (index - 1 + count) xs) (index - 1) n in
      let d : drop count (drop (index - 1) xs) ≡ drop (index - 1 + count) xs = drop-drop count (index - 1) xs in
      let f : take (index - 1) xs ++ (new ++ drop count (drop (index - 1) xs)) ≡ tuples_of l m =
      ap (λ (z : List Coord). take (index - 1) xs ++ (new ++ z)) d ∙ sym (e ∙ ap₂ (λ (y z : List Coord). y ++ (new ++ z)) a b) in
      (simp (ne_eqb instruction 1 i, ne_eqb instruction 2 j, le-leb (index + count - 1) (length xs) (omega arith)) (ap (λ (z : List Coord). ok z) f), r)

-- the same by the number n of tuples in l₀
module _ (instruction index count : ℕ) (new : List Coord) (l₀ : List ℕ) (n q : ℕ) (h : 8 * n + q ≤ length l₀) (p : 0 < index) (l : List ℕ) where
  abbrev old : List Coord
  old = tuples_of l₀ n

  many_old : length old ≡ n
  many_old = count_of l₀ n (omega arith)

  pub cocc_far : instruction ≡ 1 → n < index - 1 → PlacedAs (placed (record { instruction = instruction; index = index; count = count }) new old) l None
  cocc_far i x = far instruction index count new old l i p (rw many_old x)

  pub cocc_insert : instruction ≡ 1 → index - 1 ≤ n → (m : ℕ) → 8 * m ≤ length l
      → tuples_of l m ≡ take (index - 1) old ++ (new ++ drop (index - 1) old) → PlacedAs (placed (record { instruction = instruction; index = index; count = count }) new old) l (Some m)
  cocc_insert i x m r e = insert instruction index count new old l i p (rw many_old x) m r e

  pub cocc_beyond : (instruction ≡ 1 → ⊥) → n < index - 1 + count → PlacedAs (placed (record { instruction = instruction; index = index; count = count }) new old) l None
  cocc_beyond i x = beyond instruction index count new old l i p (rw many_old x)

  module _ (x : index - 1 + count ≤ n) where
    pub cocc_delete : instruction ≡ 2 → (m : ℕ) → m ≡ n - count → length l ≡ length l₀
        → tuples_of l m ≡ take (index - 1) old ++ drop (index - 1 + count) old → PlacedAs (placed (record { instruction = instruction; index = index; count = count }) new old) l (Some m)
    cocc_delete i m em el e = delete instruction index count new old l i p (rw many_old x) m (omega arith) e

    pub cocc_modify : (instruction ≡ 1 → ⊥) → (instruction ≡ 2 → ⊥) → (l₁ : List ℕ) (m₁ m : ℕ) → 8 * m ≤ length l
        → tuples_of l₁ m₁ ≡ take (index - 1) old ++ drop (index - 1 + count) old
        → tuples_of l m ≡ take (index - 1) (tuples_of l₁ m₁) ++ (new ++ drop (index - 1) (tuples_of l₁ m₁))
        → PlacedAs (placed (record { instruction = instruction; index = index; count = count }) new old) l (Some m)
    cocc_modify i j l₁ m₁ m r ey e = modify instruction index count new old l i j p (rw many_old x) m r (tuples_of l₁ m₁) ey e

pub ruleset cocc_ways = (cocc_far, cocc_insert, cocc_beyond, cocc_delete, cocc_modify, arith)
