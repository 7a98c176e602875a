-- What is known at an offset passes from an entry to its children, and from them back to its run. Assumes nothing.
use mathlib.Core.Path.{◌≡◌, refl, ap, ◌∙◌}
use mathlib.Core.List.{List}
use mathlib.Core.Logic.{⊎_elim}
use mathlib.Core.Bool.{Bool}
use Prim.Native.Nat.{ℕ, ◌+◌, ◌≤◌, ◌<◌}
use native.Mathlib.Omega.{arith}
use lib.ListN.{length}
use lib.Dec.{ltb}
use borrow.Author.Tests.{lt-ltb, le-ltb, ltb-true}
use Rattle.base.specs.Choice.{pick}
use Rattle.forest.proofs.Numbers.{lt_or_le}
use Rattle.base.specs.Check.{ok}
use Rattle.forest.specs.Reader.{Read, read_run, Falls}
use Rattle.forest.proofs.ReaderLaws.{read_keeps}
use Rattle.tree.specs.Source.{two, past, hit, count, Spot, spot, tuples_in}
use Rattle.tree.specs.Known.{Whole, Reach, there, Fresh, Known, Seen}
use Rattle.tree.proofs.CountLaws.{past_above, whole_next, reach_next, hit_parent, hit_code, hit_both, count_none, count_next, count_split}

-- behind a tuple less is left
pub tuples_fall : (b : List ℕ) (whole : Bool) → Falls (tuples_in b whole)
tuples_fall b whole s h = omega (arith, past_above b s.offset, ltb-true s.offset (length b) h)

-- a tuple that names another parent leaves the count as it was
pub fresh_past : (b : List ℕ) (at c q : ℕ) → Reach b 0 at → (two b (at + 4) ≡ q → ⊥) → count b 0 (past b at) c q ≡ count b 0 at c q
fresh_past b at c q r n = omega (arith, count_next b 0 at c q r, hit_parent b at c q n)

-- ---- what is known

-- at the first tuple
pub known_first : (b : List ℕ) → Whole b 0 → Known b 0 0 1
known_first b w = record { whole = w; reached = there refl; outer = omega arith; slow = omega arith; low = λ q h c. count_none b 0 0 c q (omega arith) }

-- at the first child of an entry
pub known_into : (b : List ℕ) (p at k : ℕ) → at < length b → two b (at + 4) ≡ p → Known b p at k → Known b k (past b at) (k + 1)
known_into b p at k h e i =
    record {
      whole = whole_next b at i.whole h;
      reached = reach_next b 0 at i.reached;
      outer = omega arith;
      slow = omega (arith, past_above b at, i.slow);
      low = λ q l c. fresh_past b at c q i.reached (λ x. omega (arith, i.outer)) ∙ i.low q (omega arith) c;
    }

-- behind the children of an entry
pub known_back : (b : List ℕ) (p k at m : ℕ) → p < k → Known b k at m → Known b p at m
known_back b p k at m h i = record { whole = i.whole; reached = i.reached; outer = omega (arith, i.outer); slow = i.slow; low = i.low }

-- no tuple before an entry's first child names the entry
pub fresh_into : (b : List ℕ) (p at k : ℕ) → two b (at + 4) ≡ p → Known b p at k → Fresh b (past b at) k
fresh_into b p at k e i c = fresh_past b at c k i.reached (λ x. omega (arith, i.outer)) ∙ i.low k (omega arith) c

-- behind a run that was read
pub known_run : (b : List ℕ) (whole : Bool) (p at k : ℕ) (shut : Bool) (r : Read Spot (Unit {0})) → read_run (tuples_in b whole) p shut (spot at k) ≡ ok r
    → Known b p at k → Known b p r.end.offset r.end.place
unfolding read_run
known_run b whole p at k shut r e i =
    read_keeps (tuples_in b whole) (λ q s. Known b q s.offset s.place)
    (λ q s h x j. known_into b q s.offset s.place (ltb-true s.offset (length b) h) x j)
    (λ q s t h x j l. known_back b q s.place t.offset t.place j.outer l)
    _ p shut (spot at k) r e i

-- ---- what a run remembers

-- a run of a parent further in leaves the count of this parent as it was
pub count_run : (b : List ℕ) (whole : Bool) (p q at k : ℕ) (shut : Bool) (r : Read Spot (Unit {0})) → read_run (tuples_in b whole) q shut (spot at k) ≡ ok r
    → p < q → Known b q at k → (c : ℕ) → count b 0 r.end.offset c p ≡ count b 0 at c p
unfolding read_run
count_run b whole p q at k shut r e l i c =
    (read_keeps (tuples_in b whole) (λ j s. (p < j) × Known b j s.offset s.place × (count b 0 s.offset c p ≡ count b 0 at c p))
    (λ j s h x y. (
      omega (arith, y.1.outer, y.0),
      known_into b j s.offset s.place (ltb-true s.offset (length b) h) x y.1,
      fresh_past b s.offset c p y.1.reached (λ z. omega (arith, y.0)) ∙ y.2,
    ))
    (λ j s t h x y z. (y.0, known_back b j s.place t.offset t.place y.1.outer z.1, z.2))
    _ q shut (spot at k) r e (l, i, refl)).2

-- nothing, before the first entry
pub seen_none : (b : List ℕ) (p at : ℕ) → Fresh b at p → Seen b p at 0 0
seen_none b p at f = record { none = λ c l. f c; some = f 0 }

-- one entry more, with its children: a is its offset, x the one behind them
pub seen_next : (b : List ℕ) (p a x code index top many : ℕ) → ((c : ℕ) → count b 0 x c p ≡ count b 0 a c p + hit b a c p) → two b a ≡ code → two b (a + 4) ≡ p
    → index ≡ count b 0 a code p + 1 → Seen b p a top many → Seen b p x (pick (ltb top code) code top) (pick (ltb code top) many index)
seen_next b p a x code index top many on e f g s =
    ⊎_elim
    (λ (l : top < code). rw (lt-ltb top code l, le-ltb code top (omega arith)) (record {
      none = λ c h. omega (arith, on c, s.none c (omega arith), hit_code b a c p (λ z. omega (arith, z)));
      some = omega (arith, on code, hit_both b a code p e f);
    }))
    (λ (l : code ≤ top). ⊎_elim
    (λ (m : code < top). rw (le-ltb top code l, lt-ltb code top m) (record {
      none = λ c h. omega (arith, on c, s.none c h, hit_code b a c p (λ z. omega (arith, z)));
      some = omega (arith, on top, s.some, hit_code b a top p (λ z. omega (arith, z)));
    }))
    (λ (m : top ≤ code). let same : code ≡ top = omega arith in
    rw (le-ltb top code l, le-ltb code top m) (record {
      none = λ c h. omega (arith, on c, s.none c h, hit_code b a c p (λ z. omega (arith, z)));
      some = omega (arith, on code, ap (λ (c : ℕ). count b 0 x c p) same, hit_both b a code p e f);
    }))
    (lt_or_le code top))
    (lt_or_le top code)

-- ---- the index that is due

-- to a code above all earlier ones
pub due_new : (b : List ℕ) (p at code top many : ℕ) → Seen b p at top many → top < code → 1 ≡ count b 0 at code p + 1
due_new b p at code top many s l = omega (arith, s.none code l)

-- to the largest code so far
pub due_top : (b : List ℕ) (p at code top many : ℕ) → Seen b p at top many → top ≡ code → many + 1 ≡ count b 0 at code p + 1
due_top b p at code top many s e = omega (arith, s.some, ap (λ (c : ℕ). count b 0 at c p) e)

-- to any code, from the entries of the run alone
pub due_counted : (b : List ℕ) (p start at code n : ℕ) → n ≡ count b start at code p → Reach b 0 start → start ≤ at → Fresh b start p → n + 1 ≡ count b 0 at code p + 1
due_counted b p start at code n e r h f = omega (arith, count_split b 0 start at code p r h, f code)
