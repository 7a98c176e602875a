-- Laws of the step from field to field. Assumes nothing.
use mathlib.Core.Path.{◌≡◌, refl, ap, ◌∙◌}
use mathlib.Core.List.{List, [], ◌∷◌}
use mathlib.Core.Bool.{not}
use Prim.Native.Nat.{ℕ, zero, suc, ◌+◌, ◌-◌, ◌*◌, ◌^◌, ◌≤◌, ◌<◌}
use native.Mathlib.Nat.{zero-mul, add-zero}
use native.Mathlib.Omega.{arith}
use borrow.Author.Tests.{le-leb, lt-leb, eq-eqb, ne_eqb, leb-true, eqb-false, not-true}
use lib.ListN.{length, get_or, drop}
use lib.Dec.{eqb, leb}
use Rattle.base.specs.Choice.{both}
use Rattle.base.specs.Walk.{Step, Got, follow, walk, Lower}
use Rattle.base.specs.Lists.{each}
use Rattle.base.proofs.ChoiceLaws.{by_test, both_hold}
use Rattle.base.proofs.WalkLaws.{walk_step, walk_same, Agree}
use Rattle.skeleton.specs.Directory.{Body, tag_at, entry_at, lies, step_by, dir_step, fields_from, fields_of}
use Rattle.skeleton.specs.File.{Field, cut_out}
use Rattle.skeleton.specs.Place.{between, at_place, place_of, place_at, place_step, fields_at}
use Rattle.skeleton.specs.Shape.{Bounded}
use Rattle.skeleton.specs.declared.directory.Entry.{Entry}
use Rattle.skeleton.specs.declared.directory.Entry.TheVariants.{Field as FieldAt, End, Bad}
use Rattle.skeleton.specs.declared.directory.Shape.{Shape}
use Rattle.skeleton.specs.declared.place.Place.{Place}
use Rattle.std.specs.Prelude.{Option, Some, None}
use Rattle.skeleton.proofs.DirectoryLaws.{Entered, by_entry, lies_in, field_small}

-- ---- what holds of a place

-- where there is a field at p: the next place is one entry on, and the body and its 1E lie in the record
pub record Held (r : List ℕ) (h : Shape) (p : ℕ) (d : Place) : Type 0 where
  pub next_is : d.next ≡ p + (4 + h.a + h.b)
  pub next_in : d.next ≤ length r
  pub body_runs : d.start ≤ d.end
  pub body_in : d.end < length r
  pub tag_is : d.tag ≡ tag_at r p
  pub opens : get_or r p 0 ≡ 30 → ⊥

-- the same of any place: of none there is nothing to say
abbrev pub HeldAt : List ℕ → Shape → ℕ → Option Place → Type 0
HeldAt r h p (Some d) = Held r h p d
HeldAt r h p None = Unit {0}

held_of : (r : List ℕ) (h : Shape) (p pos len : ℕ) → Entered r h.a h.b p pos len
    → HeldAt r h p (place_of r h.base (FieldAt (tag_at r p) pos len (p + (4 + h.a + h.b))))
held_of r h p pos len e =
    by_test (HeldAt r h p) (both (not (eqb len 0)) (leb (h.base + pos + len) (length r))) _ _
    (λ x.
    let y = both_hold (not (eqb len 0)) _ x in
    let some : len ≡ 0 → ⊥ = eqb-false len 0 (not-true _ y.0) in
    let inside = leb-true (h.base + pos + len) (length r) y.1 in
    record { next_is = refl; next_in = e.fits; body_runs = omega arith; body_in = omega arith; tag_is = refl; opens = e.opens })
    (λ _. tt)

pub place_held : (r : List ℕ) (h : Shape) (p : ℕ) → HeldAt r h p (place_at r h p)
unfolding place_at
place_held r h p = by_entry (λ (e : Entry). HeldAt r h p (place_of r h.base e)) r h.a h.b p tt (λ _ _. tt) (held_of r h p)

-- by the place e that was read at p
module _ (r : List ℕ) (h : Shape) (p : ℕ) (e : Option Place) (en : e ≡ place_at r h p) (d : Place) (x : e ≡ Some d) where
  pub held : Held r h p d
  held = let k : HeldAt r h p e = rw en (place_held r h p) in rw x at k

  pub place_falls : length r - d.next < length r - p
  place_falls = let k = held in omega arith

  pub place_runs : d.start ≤ d.end
  place_runs = held.body_runs

  pub place_in_lem : d.end ≤ length r
  place_in_lem = let k = held in omega arith

-- what a caller's loop over fields wants besides the laws of its own definition
pub ruleset place_bounds = (place_falls, place_runs, place_in_lem)

-- ---- one after the other

-- a step leads further on
lower_of : (r : List ℕ) (h : Shape) (p : ℕ) (e : Option Place) → HeldAt r h p e → Lower (λ (q : ℕ). length r - q) p (place_step r e)
lower_of r h p (Some d) k = omega arith
lower_of r h p None k = tt

falls : (r : List ℕ) (h : Shape) (p : ℕ) → Lower (λ (q : ℕ). length r - q) p (place_step r (place_at r h p))
falls r h p = lower_of r h p (place_at r h p) (place_held r h p)

-- by the place e that was read at p
module _ (r : List ℕ) (h : Shape) (p : ℕ) (e : Option Place) (en : e ≡ place_at r h p) where
  step : fields_at r h p ≡ (follow (place_step r e) (walk (λ q. place_step r (place_at r h q)) (λ q. length r - q))).items
  unfolding fields_at
  step = rw en (ap (λ (g : Got Field). g.items) (walk_step (λ q. place_step r (place_at r h q)) (λ q. length r - q) (falls r h) p))

  pub fields_more : (d : Place) → e ≡ Some d
      → fields_at r h p ≡ record { tag = d.tag; body = between r d.start d.end } ∷ fields_at r h d.next
  unfolding fields_at
  fields_more d x = step ∙ simp x

  pub fields_done : e ≡ None → fields_at r h p ≡ []
  fields_done x = step ∙ simp x

-- ---- they are the fields of the record

pub body_size : (start len : ℕ) → start + len - 1 - start ≡ len - 1
body_size start len = omega arith

-- what the checked walk over a directory finds, the steps find
agree_of : (r : List ℕ) (base p at : ℕ) (e : Entry) → Agree (λ (s : ℕ × ℕ). s.0) (cut_out r) (step_by r base p at e) (place_step r (place_of r base e))
unfolding cut_out
agree_of r base p at (FieldAt tag pos len next) =
    let there = place_step r (place_of r base (FieldAt tag pos len next)) in
    by_test (λ (x : Step (ℕ × ℕ) Body). Agree (λ (s : ℕ × ℕ). s.0) (cut_out r) x there) (lies r base at pos len) _ _
    (λ x.
    let l = lies_in r base at pos len x in
    simp (ne_eqb len 0 l.not_empty, le-leb (base + pos + len) (length r) l.inside, body_size (base + pos) len))
    (λ _ z. absurd (omega arith))
agree_of r base p at End = λ z. refl
agree_of r base p at Bad = λ z. refl

same_from_lem : (r : List ℕ) (h : Shape) (p at : ℕ) → (fields_from r h.base h.a h.b p at).ending ≡ 0
    → fields_at r h p ≡ each (cut_out r) (fields_from r h.base h.a h.b p at).items
unfolding fields_at fields_from place_at
same_from_lem r h p at z =
    ap (λ (g : Got Field). g.items)
    (walk_same (dir_step r h.base h.a h.b) (λ q. place_step r (place_at r h q)) (λ q. length r - q) (falls r h) (λ s. s.0) (cut_out r)
    (λ s. agree_of r h.base s.0 s.1 (entry_at r h.a h.b s.0)) (λ s. length r - s.0) (p, at) z)

-- where the directory is right, the steps from 24 on pass the record's fields
pub fields_same : (r : List ℕ) (h : Shape) → (fields_of r h.base h.a h.b).ending ≡ 0
    → fields_at r h 24 ≡ each (cut_out r) (fields_of r h.base h.a h.b).items
fields_same r h z = same_from_lem r h 24 0 z

-- ---- by number

-- i fields on from p
abbrev Ith : List ℕ → Shape → ℕ → ℕ → Type 0
Ith r h i p = i ≤ length (fields_at r h p) → drop i (fields_at r h p) ≡ fields_at r h (p + i * (4 + h.a + h.b))

ith_more : (r : List ℕ) (h : Shape) (i p : ℕ) (e : Option Place) → e ≡ place_at r h p → ((q : ℕ) → Ith r h i q) → Ith r h (suc i) p
ith_more r h i p (Some d) en ih l =
    let m = fields_more r h p _ en d refl in
    let k = held r h p _ en d refl in
    let g : suc i ≤ suc (length (fields_at r h d.next)) = rw m at l in
    rw m (ih d.next (omega arith) ∙ ap (fields_at r h) (omega arith))
ith_more r h i p None en ih l = let g : suc i ≤ 0 = rw (fields_done r h p _ en refl) at l in absurd (omega arith)

-- its place is p + i * (4 + a + b)
pub fields_ith : (r : List ℕ) (h : Shape) (i p : ℕ) → Ith r h i p
fields_ith r h zero p l = rw (zero-mul, add-zero) refl
fields_ith r h (suc i) p l = ith_more r h i p (place_at r h p) refl (fields_ith r h i) l

-- ---- `place_at`

-- what it returns, by the entry e that it read
module _ (r : List ℕ) (h : Shape) (p : ℕ) (e : Entry) (en : e ≡ entry_at r h.a h.b p) where
  pub place_end : e ≡ End → None ≡ place_at r h p
  unfolding place_at
  place_end x = simp (← en, x)

  pub place_bad : e ≡ Bad → None ≡ place_at r h p
  unfolding place_at
  place_bad x = simp (← en, x)

  module _ (tag pos len next : ℕ) (x : e ≡ FieldAt tag pos len next) where
    pub place_empty : len ≡ 0 → None ≡ place_at r h p
    unfolding place_at
    place_empty z = simp (← en, x, eq-eqb len 0 z)

    module _ (n : len ≡ 0 → ⊥) where
      pub place_past : length r < h.base + pos + len → None ≡ place_at r h p
      unfolding place_at
      place_past l = simp (← en, x, ne_eqb len 0 n, lt-leb _ _ l)

      pub place_there : h.base + pos + len ≤ length r → at_place tag (h.base + pos) (h.base + pos + len - 1) next ≡ place_at r h p
      unfolding place_at
      place_there l = simp (← en, x, ne_eqb len 0 n, le-leb _ _ l)

    module _ (k : Bounded h) where
      pub start_word : h.base + pos < 2 ^ 64
      start_word = omega (arith, field_small r h.a h.b p e en tag pos len next x k.a_small k.b_small)

      pub after_word : h.base + pos + len < 2 ^ 64
      after_word = omega (arith, field_small r h.a h.b p e en tag pos len next x k.a_small k.b_small)

pub ruleset place_ways = (place_end, place_bad, place_empty, place_past, place_there, start_word, after_word)
