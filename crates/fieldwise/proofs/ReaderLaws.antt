-- Laws of a reader's step, and of the fields that it passes. Assumes nothing.
use mathlib.Core.Path.{◌≡◌, refl, sym, ap, ◌∙◌, subst}
use mathlib.Core.List.{List, [], ◌∷◌}
use mathlib.Core.Bool.{Bool, true, false}
use Prim.Native.Nat.{ℕ, ◌+◌, ◌-◌, ◌≤◌, ◌<◌}
use native.Mathlib.Omega.{arith}
use borrow.Author.Tests.{le-leb, ne_eqb}
use lib.ListN.{length, take, drop}
use Rattle.std.specs.Prelude.{Option, Some, None, Result, Ok, Err}
use Rattle.base.specs.Lists.{each}
use Rattle.base.specs.Walk.{Step, Got, follow, walk, Lower}
use Rattle.base.proofs.ChoiceLaws.{by_test}
use Rattle.base.proofs.WalkLaws.{walk_step, walk_same, Agree}
use Rattle.skeleton.specs.Directory.{Body, entry_at, lies, step_by, dir_step, fields_from, fields_of}
use Rattle.skeleton.specs.File.{cut_out}
use Rattle.skeleton.specs.Leader.{leader_of, stated_of}
use Rattle.skeleton.specs.Place.{place_of, place_at, fields_at}
use Rattle.skeleton.specs.Shape.{Bounded}
use Rattle.skeleton.specs.declared.directory.Entry.{Entry}
use Rattle.skeleton.specs.declared.directory.Entry.TheVariants.{Field as FieldAt, End, Bad}
use Rattle.skeleton.specs.declared.directory.Shape.{Shape}
use Rattle.skeleton.specs.declared.leader.Head.{Head}
use Rattle.skeleton.specs.declared.leader.Broken.{Broken}
use Rattle.skeleton.specs.declared.place.Place.{Place}
use Rattle.skeleton.proofs.DirectoryLaws.{lies_in}
use Rattle.skeleton.proofs.LeaderLaws.{Fitting, leader_fitting, Stated, leader_stated}
use Rattle.skeleton.proofs.PlaceLaws.{HeldAt, place_held, fields_same}
use Rattle.fieldwise.specs.Reader.{or_else, led_by, field_by, field_here, next_here, body_here, lying, lying_step, passed_from}

-- ---- the leader

module _ (r : List ℕ) (h : Result Head Broken) (e : h ≡ leader_of r true) where
  pub led_first : (d : Head) → h ≡ Ok d → Ok d ≡ led_by r
  unfolding led_by
  led_first d x = simp (← e, x)

  pub led_other : (n : Broken) → h ≡ Err n → (g : Result Head Broken) → g ≡ leader_of r false → g ≡ led_by r
  unfolding led_by
  led_other n x g y = simp (← e, x, y)

pub ruleset led_ways = (led_first, led_other)

fitting_else : (r : List ℕ) (h g : Result Head Broken) → Fitting r h → Fitting r g → Fitting r (or_else h g)
fitting_else r (Ok d) g x y = x
fitting_else r (Err n) g x y = y

led_fitting : (r : List ℕ) → Fitting r (led_by r)
unfolding led_by
led_fitting r = fitting_else r (leader_of r true) (leader_of r false) (leader_fitting r true) (leader_fitting r false)

-- ---- `field_here`

module _ (r : List ℕ) (at : ℕ) (h : Result Head Broken) (e : h ≡ led_by r) where
  pub field_none : (n : Broken) → h ≡ Err n → None ≡ field_here r at
  unfolding field_here
  field_none n x = simp (← e, x)

  module _ (d : Head) (x : h ≡ Ok d) where
    pub field_shape : Bounded d.shape
    field_shape =
        let g : Fitting r h = rw e (led_fitting r) in
        let k : Fitting r (Ok d) = rw x at g in
        record { base_small = k.1; a_small = k.2; b_small = k.3 }

    pub field_place : (p : Option Place) → p ≡ place_at r d.shape at → p ≡ field_here r at
    unfolding field_here
    field_place p y = simp (← e, x, y)

pub ruleset field_ways = (field_none, field_shape, field_place)

-- where there is a field, the reader's next place is further on, and the field lies in the record
pub record Stands (r : List ℕ) (at : ℕ) (p : Place) : Type 0 where
  pub further : length r - p.next < length r - at
  pub runs : p.start ≤ p.end
  pub inside : p.end < length r

abbrev StandsAt : List ℕ → ℕ → Option Place → Type 0
StandsAt r at (Some p) = Stands r at p
StandsAt r at None = Unit {0}

stands_of : (r : List ℕ) (at : ℕ) (s : Shape) (p : Option Place) → HeldAt r s at p → StandsAt r at p
stands_of r at s (Some p) k =
    let n = k.next_is in
    let i = k.next_in in
    record { further = omega arith; runs = k.body_runs; inside = k.body_in }
stands_of r at s None k = tt

stands_by : (r : List ℕ) (at : ℕ) (h : Result Head Broken) → StandsAt r at (field_by r at h)
stands_by r at (Ok d) = stands_of r at d.shape (place_at r d.shape at) (place_held r d.shape at)
stands_by r at (Err n) = tt

stands_here : (r : List ℕ) (at : ℕ) → StandsAt r at (field_here r at)
unfolding field_here
stands_here r at = stands_by r at (led_by r)

-- ---- `next_here` and `body_here`, by the place p that was read

module _ (r : List ℕ) (at : ℕ) (p : Option Place) (e : p ≡ field_here r at) where
  pub next_done : p ≡ None → at ≡ next_here r at
  unfolding next_here
  next_done x = simp (← e, x)

  pub body_done : p ≡ None → [] ≡ body_here r at
  unfolding body_here
  body_done x = simp (← e, x)

  module _ (d : Place) (x : p ≡ Some d) where
    pub next_more : d.next ≡ next_here r at
    unfolding next_here
    next_more = simp (← e, x)

    pub stands : Stands r at d
    stands = let k : StandsAt r at p = rw e (stands_here r at) in rw x at k

    pub body_runs : d.start ≤ d.end
    body_runs = stands.runs

    pub body_inside : d.end ≤ length r
    body_inside = let k = stands in omega arith

    pub body_there : take (d.end - d.start) (drop d.start r) ≡ body_here r at
    unfolding body_here
    body_there = simp (← e, x)

pub ruleset next_ways = (next_done, next_more)

pub ruleset body_ways = (body_done, body_runs, body_inside, body_there)

-- ---- the fields that a reader passes

lower_of : (r : List ℕ) (at : ℕ) (p : Option Place) → StandsAt r at p → Lower (λ (q : ℕ). length r - q) at (lying_step p)
lower_of r at (Some p) k = k.further
lower_of r at None k = tt

falls : (r : List ℕ) (at : ℕ) → Lower (λ (q : ℕ). length r - q) at (lying_step (field_here r at))
falls r at = lower_of r at (field_here r at) (stands_here r at)

-- by the place p that was read at at
module _ (r : List ℕ) (at : ℕ) (p : Option Place) (e : p ≡ field_here r at) where
  step : passed_from r at ≡ (follow (lying_step p) (walk (λ q. lying_step (field_here r q)) (λ q. length r - q))).items
  unfolding passed_from
  step = rw e (ap (λ (g : Got Body). g.items) (walk_step (λ q. lying_step (field_here r q)) (λ q. length r - q) (falls r) at))

  pub passed_more : (d : Place) → p ≡ Some d → passed_from r at ≡ lying d ∷ passed_from r d.next
  unfolding passed_from
  passed_more d x = step ∙ simp x

  pub passed_done : p ≡ None → passed_from r at ≡ []
  passed_done x = step ∙ simp x

-- ---- they are the fields of a record that is right

pub refused : {A : Type 0} (n : Broken) (d : Head) → Err n ≡ Ok d → A
refused n d e = let z : ◌≡◌ {A = ℕ} 0 1 = cc in absurd (omega arith)

-- two leaders that say something say the same
stated_is : (r : List ℕ) (first : Bool) (d : Head) → leader_of r first ≡ Ok d → stated_of r ≡ Ok d
stated_is r first d e = let k : Stated r (Ok d) = subst (Stated r) e (leader_stated r first) in k.1

led_by_lem : (r : List ℕ) (h g : Result Head Broken) → h ≡ leader_of r true → g ≡ leader_of r false → (first : Bool) (d : Head)
    → leader_of r first ≡ Ok d → or_else h g ≡ Ok d
led_by_lem r (Ok c) g x y first d e = sym (stated_is r true c (sym x)) ∙ stated_is r first d e
led_by_lem r (Err n) g x y true d e = refused n d (x ∙ e)
led_by_lem r (Err n) g x y false d e = y ∙ e

pub led_is : (r : List ℕ) (first : Bool) (d : Head) → leader_of r first ≡ Ok d → led_by r ≡ Ok d
unfolding led_by
led_is r first d e = led_by_lem r (leader_of r true) (leader_of r false) refl refl first d e

length_is : (start len : ℕ) → (len ≡ 0 → ⊥) → start + len - 1 - start + 1 ≡ len
length_is start len n = omega arith

-- what the checked walk over a directory finds, the reader finds
agree_of : (r : List ℕ) (base p at : ℕ) (e : Entry) → Agree (λ (s : ℕ × ℕ). s.0) (λ (x : Body). x) (step_by r base p at e) (lying_step (place_of r base e))
agree_of r base p at (FieldAt tag pos len next) =
    let there = lying_step (place_of r base (FieldAt tag pos len next)) in
    by_test (λ (x : Step (ℕ × ℕ) Body). Agree (λ (s : ℕ × ℕ). s.0) (λ (x : Body). x) x there) (lies r base at pos len) _ _
    (λ x.
    let l = lies_in r base at pos len x in
    simp (ne_eqb len 0 l.not_empty, le-leb (base + pos + len) (length r) l.inside, length_is (base + pos) len l.not_empty))
    (λ _ z. absurd (omega arith))
agree_of r base p at End = λ z. refl
agree_of r base p at Bad = λ z. refl

each_same : (l : List Body) → each (λ (x : Body). x) l ≡ l
unfolding each
each_same [] = refl
each_same (x ∷ l) = ap (λ (m : List Body). x ∷ m) (each_same l)

agree_by : (r : List ℕ) (d : Head) (p at : ℕ) → led_by r ≡ Ok d
    → Agree (λ (s : ℕ × ℕ). s.0) (λ (x : Body). x) (step_by r d.shape.base p at (entry_at r d.shape.a d.shape.b p)) (lying_step (field_here r p))
unfolding field_here place_at
agree_by r d p at e = rw e (agree_of r d.shape.base p at (entry_at r d.shape.a d.shape.b p))

passed_from_lem : (r : List ℕ) (d : Head) (p at : ℕ) → led_by r ≡ Ok d → (fields_from r d.shape.base d.shape.a d.shape.b p at).ending ≡ 0
    → passed_from r p ≡ (fields_from r d.shape.base d.shape.a d.shape.b p at).items
unfolding passed_from fields_from
passed_from_lem r d p at e z =
    ap (λ (g : Got Body). g.items)
    (walk_same (dir_step r d.shape.base d.shape.a d.shape.b) (λ q. lying_step (field_here r q)) (λ q. length r - q) (falls r) (λ s. s.0) (λ x. x)
    (λ s. agree_by r d s.0 s.1 e) (λ s. length r - s.0) (p, at) z)
    ∙ each_same (fields_from r d.shape.base d.shape.a d.shape.b p at).items

-- where the skeleton finds a record right, the reader from the start passes exactly its fields, in order
pub passed_same : (r : List ℕ) (first : Bool) (d : Head) → leader_of r first ≡ Ok d → (fields_of r d.shape.base d.shape.a d.shape.b).ending ≡ 0
    → passed_from r 24 ≡ (fields_of r d.shape.base d.shape.a d.shape.b).items
passed_same r first d e z = passed_from_lem r d 24 0 (led_is r first d e) z

-- the same by their tags and bytes
pub passed_fields : (r : List ℕ) (first : Bool) (d : Head) → leader_of r first ≡ Ok d → (fields_of r d.shape.base d.shape.a d.shape.b).ending ≡ 0
    → each (cut_out r) (passed_from r 24) ≡ fields_at r d.shape 24
passed_fields r first d e z = rw (passed_same r first d e z) (sym (fields_same r d.shape z))
