-- Laws of tuples that have their due index, and of the tallies that tell it. Assumes nothing.
use mathlib.Core.Path.{◌≡◌, refl, sym, ap, ◌∙◌}
use mathlib.Core.List.{List}
use mathlib.Core.Bool.{Bool, true, false, not}
use mathlib.Core.Logic.{◌⊎◌, inl, inr, ⊎_elim}
use Prim.Native.Nat.{ℕ, zero, suc, ◌+◌, ◌-◌, ◌≤◌, ◌<◌}
use native.Mathlib.Omega.{arith}
use borrow.Author.Tests.{eq-eqb, eqb-true, eqb-false, le-leb}
use lib.ListN.{length, get_or, set, replicate}
use lib.Seq.{get_or-set_same, get_or-set_other}
use lib.Dec.{eqb, leb}
use Rattle.forest.proofs.Numbers.{lt_or_le}
use Rattle.book.specs.Book.{page_of, written}
use Rattle.tree.specs.Source.{two, past, hit, count}
use Rattle.tree.specs.Known.{Whole, Reach, there, further}
use Rattle.tree.specs.Due.{Due, AllDue, keyed, Tallied, Joins, Blocked}
use Rattle.tree.specs.declared.due.Block.{Block}
use Rattle.tree.proofs.CountLaws.{past_above, whole_past, whole_next, whole_within, reach_on, reach_next, hit_both, hit_code, hit_parent, count_none, count_next}
use Rattle.tree.proofs.TestLaws.{asked as not_false, unasked}

-- ---- tuples that have their due index

-- a tuple before the end of another is not behind that one
reach_before : (f : List ℕ) (i a at : ℕ) → Reach f i a → Reach f i at → a < past f at → a ≤ at
reach_before f i a at (there e) r h = omega (arith, reach_on f i at r)
reach_before f i a at (further l q) (there e) h = absurd (omega (arith, reach_on f (past f i) a q, ap (past f) e))
reach_before f i a at (further l q) (further m r) h = reach_before f (past f i) a at q r h

-- none stands before the first
pub all_due_none : (f : List ℕ) → AllDue f 0
unfolding AllDue
all_due_none f a r l = absurd (omega arith)

-- those before an earlier offset
pub all_due_less : (f : List ℕ) (e a : ℕ) → AllDue f e → a ≤ e → AllDue f a
unfolding AllDue
all_due_less f e a d h at r l = d at r (omega arith)

-- one tuple more
all_due_more : (f : List ℕ) (at : ℕ) → Reach f 0 at → AllDue f at → Due f at → AllDue f (past f at)
unfolding AllDue
all_due_more f at r d this a q l =
    ⊎_elim
    (λ (h : a < at). d a q h)
    (λ (h : at ≤ a). let s : a ≡ at = omega (arith, reach_before f 0 a at q r l) in rw s this)
    (lt_or_le a at)

-- one tuple more, which was asked for where it was not known
pub held_more : (f b t : List ℕ) (x at : ℕ) → Reach f 0 at → AllDue f x → AllDue f at → Joins f b t at (leb x at ≡ true) → AllDue f (past f at)
unfolding AllDue
held_more f b t x at r d e j =
    all_due_more f at r e (⊎_elim (λ (h : at < x). d at r h) (λ (h : x ≤ at). j.due (le-leb x at h)) (lt_or_le at x))

-- ---- the tallies

-- code and parent are told from their number
keyed_same : (c p d q : ℕ) → c < 65536 → d < 65536 → keyed c p ≡ keyed d q → (c ≡ d) × (p ≡ q)
keyed_same c p d q h l e = (omega arith, omega arith)

-- a tuple has a code and parent, or it does not count
hit_ways : (f : List ℕ) (at c p : ℕ) → ((two f at ≡ c) × (two f (at + 4) ≡ p)) ⊎ (hit f at c p ≡ 0)
hit_ways f at c p = go (eqb (two f at) c) refl (eqb (two f (at + 4)) p) refl
  where
    go : (s : Bool) → eqb (two f at) c ≡ s → (t : Bool) → eqb (two f (at + 4)) p ≡ t → ((two f at ≡ c) × (two f (at + 4) ≡ p)) ⊎ (hit f at c p ≡ 0)
    go true x true y = inl (eqb-true (two f at) c x, eqb-true (two f (at + 4)) p y)
    go true x false y = inr (hit_parent f at c p (eqb-false (two f (at + 4)) p y))
    go false x t y = inr (hit_code f at c p (eqb-false (two f at) c x))

-- zeros alone
zero_each : (n i : ℕ) → ◌≡◌ {A = ℕ} (get_or (replicate n 0) i 0) 0
zero_each zero i = refl
zero_each (suc n) zero = refl
zero_each (suc n) (suc i) = zero_each n i

-- none before the first tuple
pub tallied_none : (f b t : List ℕ) (n : ℕ) → t ≡ replicate n 0 → Tallied f b t 0
unfolding Tallied
tallied_none f b t n e c p l w = rw e (zero_each n (page_of b (keyed c p))) ∙ sym (count_none f 0 0 c p (omega arith))

module _ (f b t : List ℕ) (at : ℕ) (reached : Reach f 0 at) (ts : Tallied f b t at) (key : ℕ) (ek : key ≡ keyed (two f at) (two f (at + 4)))
    (small : two f at < 65536) (j : ℕ) (ej : j ≡ page_of b key) where
  -- a tuple that the book does not have
  stray : (get_or b j 0 ≡ key → ⊥) → Tallied f b t (past f at)
  unfolding Tallied written
  stray n c p l w =
      ⊎_elim
      (λ (s : (two f at ≡ c) × (two f (at + 4) ≡ p)).
      let k : key ≡ keyed c p = ek ∙ rw (s.0, s.1) refl in
      absurd (n (rw (ej, k) (eqb-true (get_or b (page_of b (keyed c p)) 0) (keyed c p) w))))
      (λ (z : hit f at c p ≡ 0). omega (arith, ts c p l w, count_next f 0 at c p reached))
      (hit_ways f at c p)

  -- it may stand, if its index is not asked for
  pub join_stray : (asked : Bool) → (get_or b j 0 ≡ key → ⊥) → not asked ≡ true → Joins f b t at (asked ≡ true)
  join_stray asked n e = record { tallied = stray n; due = λ z. unasked asked e z }

  module _ (there : get_or b j 0 ≡ key) where
    -- the tally of a tuple that the book has
    now : get_or t j 0 ≡ count f 0 at (two f at) (two f (at + 4))
    unfolding Tallied written
    now = rw (ej, ek) (ts (two f at) (two f (at + 4)) small (eq-eqb (get_or b (page_of b (keyed (two f at) (two f (at + 4)))) 0) (keyed (two f at) (two f (at + 4))) (rw (ej, ek) at there)))

    -- one more
    counted : j < length t → (index : ℕ) → index ≡ get_or t j 0 + 1 → Tallied f b (set t j index) (past f at)
    unfolding Tallied written
    counted h index e c p l w =
        ⊎_elim
        (λ (s : (two f at ≡ c) × (two f (at + 4) ≡ p)).
        let k : page_of b (keyed c p) ≡ j = sym (ej ∙ ap (page_of b) (ek ∙ rw (s.0, s.1) refl)) in
        let m = now in
        let v = rw (s.0, s.1) at m in
        rw (k, get_or-set_same t j index 0 h) (omega (arith, e, v, count_next f 0 at c p reached, hit_both f at c p s.0 s.1)))
        (λ (z : hit f at c p ≡ 0).
        let other : (page_of b (keyed c p) ≡ j → ⊥) = λ y.
        let a : get_or b (page_of b (keyed c p)) 0 ≡ keyed c p = eqb-true (get_or b (page_of b (keyed c p)) 0) (keyed c p) w in
        let same = keyed_same c p (two f at) (two f (at + 4)) l small (sym a ∙ rw y refl ∙ there ∙ ek) in
        omega (arith, z, hit_both f at c p (sym same.0) (sym same.1)) in
        rw (get_or-set_other t j (page_of b (keyed c p)) index 0 other) (omega (arith, ts c p l w, count_next f 0 at c p reached)))
        (hit_ways f at c p)

    -- its index is the next one
    pub join_counted : (asked : Bool) → j < length t → (index x y : ℕ) → index ≡ two f (at + 2) → x ≡ index → y ≡ get_or t j 0 → x ≡ y + 1
        → Joins f b (set t j index) at (asked ≡ true)
    join_counted asked h index x y i ex ey e =
        let s : index ≡ get_or t j 0 + 1 = omega arith in
        record { tallied = counted h index s; due = λ z. omega (arith, now, i, s) }

-- ---- a walk over the tuples

-- the tuple at an offset stands within the field
pub tuple_within : (f : List ℕ) (at : ℕ) → Whole f at → at < length f → at + 8 ≤ length f
tuple_within f at w h = omega (arith, past_above f at, whole_past f at w h)

-- whole tuples follow behind it
pub whole_on : (f : List ℕ) (at on : ℕ) → Whole f at → at < length f → on ≡ past f at → Whole f on
whole_on f at on w h e = rw e (whole_next f at w h)

-- further than it
pub on_above : (f : List ℕ) (at on : ℕ) → on ≡ past f at → at < on
on_above f at on e = omega (arith, past_above f at)

-- its code stands within the field
pub code_within : (f : List ℕ) (at : ℕ) → Whole f at → at < length f → at + 2 ≤ length f
code_within f at w h = omega (arith, tuple_within f at w h)

-- tuples lead to behind it
pub reach_behind : (f : List ℕ) (at on : ℕ) → Reach f 0 at → on ≡ past f at → Reach f 0 on
reach_behind f at on r e = rw e (reach_next f 0 at r)

-- less is left
pub on_less : (f : List ℕ) (at on : ℕ) → at < length f → on ≡ past f at → length f - on < length f - at
on_less f at on h e = omega (arith, past_above f at)

pub ruleset gather_turn = (tuple_within, code_within, whole_past, whole_on, on_above, on_less, arith)

-- ---- `held`

-- an offset before one within so many bytes is within them
pub before_end : (n at y : ℕ) → at < y → y ≤ n → at < n
before_end n at y l h = omega arith

module _ (f b t : List ℕ) (x at on : ℕ) (asked v : Bool) (e : on ≡ past f at) (told : v ≡ true → Joins f b t at (asked ≡ true)) (yes : not v ≡ false) where
  -- what the code learns of a tuple
  joined : Joins f b t at (asked ≡ true)
  joined = told (not_false v yes)

  -- the tallies behind it
  pub held_tallied : Tallied f b t on
  held_tallied = rw e joined.tallied

  -- the tuples up to there
  pub held_due : asked ≡ leb x at → Reach f 0 at → AllDue f x → AllDue f at → AllDue f on
  held_due s r d a = rw e (held_more f b t x at r d a (rw s at joined))

-- ---- `due_by`

-- the block ends within the field
pub block_within : (f : List ℕ) (x room : ℕ) (g : Block) → Blocked f x room g → g.behind ≤ length f
block_within f x room g e = whole_within f g.behind e.whole

pub ruleset by_turn = (all_due_none, all_due_less, block_within, arith)

-- ---- where all have it

-- a tuple's own index is the one that is due to it
pub own_due : (f : List ℕ) (at parent r : ℕ) → Reach f 0 at → at < length f → two f (at + 4) ≡ parent → AllDue f (length f) → r ≡ two f (at + 2)
    → r ≡ count f 0 at (two f at) parent + 1
unfolding AllDue
own_due f at parent r q h p d e = rw (← p) (e ∙ d at q h)
