-- How a run and an entry end, in the words of the code: one law for each way out. Assumes nothing.
use mathlib.Core.Path.{◌≡◌, refl, sym, ap, ◌∙◌}
use mathlib.Core.List.{List}
use mathlib.Core.Bool.{Bool, true, false}
use Prim.Native.Nat.{ℕ, ◌+◌, ◌≤◌, ◌<◌}
use native.Mathlib.Omega.{arith}
use lib.ListN.{length}
use lib.Dec.{ltb}
use borrow.Author.Tests.{lt-ltb, le-ltb, eq-eqb, ne_eqb}
use Rattle.base.specs.Choice.{both}
use Rattle.base.specs.Check.{Check, ok, no, bind, fault, refuse}
use Rattle.base.specs.declared.Fault.{Fault}
use Rattle.forest.specs.Reader.{Read, belongs, faulty, entry_then, read_run}
use Rattle.forest.proofs.ReaderLaws.{read_keeps, run_past, run_faulty, run_entry}
use Rattle.std.specs.Prelude.{Result, Ok, Err}
use Rattle.tree.specs.Source.{two, past, hit, count, closed, Spot, spot, tuples_in, said_by, run_at, entry_at, remains}
use Rattle.tree.specs.Known.{Reach, Known}
use Rattle.tree.proofs.CountLaws.{past_above, reach_next, count_next}
use Rattle.tree.proofs.KnownLaws.{tuples_fall, known_into, known_back, known_run, count_run}

-- a refusal is no end
no_ok : {X : Type 0} {f : Fault} {s : Spot} → no f ≡ ok s → X
no_ok e = absurd (let z : ◌≡◌ {A = ℕ} 0 1 = cc in omega arith)

-- ---- what an answer says: no two say the same

pub walk_once : (a b : Result (ℕ × ℕ) ℕ) → said_by a ≡ said_by b → a ≡ b
unfolding said_by remains
walk_once (Err j) (Err k) e = ap (λ (n : ℕ). Err n) (ap (remains 0) e)
walk_once (Err j) (Ok v) e = no_ok e
walk_once (Ok v) (Err k) e = no_ok (sym e)
walk_once (Ok v) (Ok w) e = let s : spot v.0 v.1 ≡ spot w.0 w.1 = cc in ap (λ (t : Spot). Ok (t.offset, t.place)) s

-- ---- the run

-- where a reading ended
abbrev ended : Check (Read Spot (Unit {0})) → Check Spot
ended c = bind c (λ r. ok r.end)

-- the end of the bytes
pub run_end : (b : List ℕ) (whole : Bool) (at p k : ℕ) (shut : Bool) → length b ≤ at → run_at b whole at p k shut ≡ said_by (Ok (at, k))
unfolding said_by run_at bind
run_end b whole at p k shut h = ap ended (run_past (tuples_in b whole) (tuples_fall b whole) p shut (spot at k) (rw (le-ltb at (length b) h)))

-- a tuple of another parent
pub run_other : (b : List ℕ) (whole : Bool) (at p k : ℕ) (shut : Bool) → (two b (at + 4) ≡ p → ⊥) → run_at b whole at p k shut ≡ said_by (Ok (at, k))
unfolding said_by run_at bind
run_other b whole at p k shut n = ap ended (run_past (tuples_in b whole) (tuples_fall b whole) p shut (spot at k) (rw (ne_eqb (two b (at + 4)) p n) (neither (ltb at (length b)))))
  where
    neither : (t : Bool) → both t false ≡ false
    neither true = refl
    neither false = refl

-- an entry of the run stands there
here : (b : List ℕ) (whole : Bool) (at p k : ℕ) → at < length b → two b (at + 4) ≡ p → belongs (tuples_in b whole) p (spot at k) ≡ true
here b whole at p k h e = rw (lt-ltb at (length b) h, eq-eqb (two b (at + 4)) p e)

-- ---- what a reading was

-- it was refused
ended_no : (c : Check (Read Spot (Unit {0}))) (f : Fault) → ended c ≡ no f → c ≡ no f
unfolding bind
ended_no (ok r) f e = no_ok (sym e)
ended_no (no g) f e = let z : g ≡ f = cc in ap no z

-- it came to a spot
ended_ok : (c : Check (Read Spot (Unit {0}))) (s : Spot) → ended c ≡ ok s → (r : Read Spot (Unit {0})) × (c ≡ ok r) × (r.end ≡ s)
unfolding bind
ended_ok (ok r) s e = (r, refl, cc)
ended_ok (no f) s e = no_ok e

-- the rest of a run counts, whatever was found before it
rest_ended : (c : Check (Read Spot (Unit {0}))) → ended (bind c (λ q. ok (record { found = tt; end = q.end }))) ≡ ended c
unfolding bind
rest_ended (ok q) = refl
rest_ended (no f) = refl

-- ---- an entry, and then the rest of its run

-- a faulty tuple among the children
then_bad : (b : List ℕ) (whole : Bool) (s : Spot) (kids : Check (Read Spot (Unit {0}))) (rest : Spot → Check (Read Spot (Unit {0}))) (f : Fault)
    → kids ≡ no f → ended (entry_then (tuples_in b whole) s kids rest) ≡ no f
unfolding entry_then bind
then_bad b whole s kids rest f e = rw e

-- the children, and then the rest
then_go : (b : List ℕ) (whole : Bool) (s : Spot) (kids : Check (Read Spot (Unit {0}))) (rest : Spot → Check (Read Spot (Unit {0}))) (r : Read Spot (Unit {0}))
    → kids ≡ ok r → ended (entry_then (tuples_in b whole) s kids rest) ≡ ended (rest r.end)
unfolding entry_then bind
then_go b whole s kids rest r e = rw e (rest_ended (rest r.end))

-- what an entry came to
data Entered (b : List ℕ) (whole : Bool) (at k : ℕ) (shut : Bool) (w : Check Spot) : Type 0 where
  broken : faulty (tuples_in b whole) shut (spot at k) ≡ true → w ≡ refuse 6 k → Entered b whole at k shut w
  entered : faulty (tuples_in b whole) shut (spot at k) ≡ false → run_at b whole (past b at) k (k + 1) (closed b whole at) ≡ w → Entered b whole at k shut w

-- which of the two it was
entry_case : (b : List ℕ) (whole : Bool) (at k : ℕ) (shut : Bool) (w : Check Spot) → entry_at b whole at k shut ≡ w → Entered b whole at k shut w
unfolding entry_at
entry_case b whole at k shut w e = go (faulty (tuples_in b whole) shut (spot at k)) refl
  where
    go : (t : Bool) → faulty (tuples_in b whole) shut (spot at k) ≡ t → Entered b whole at k shut w
    go true f = broken f (sym (rw f at e))
    go false f = entered f (rw f at e)

module _ (b : List ℕ) (whole : Bool) (at p k : ℕ) (shut : Bool) (h : at < length b) (e : two b (at + 4) ≡ p) where
  -- a faulty tuple in the entry is one in the run
  pub run_bad : (j : ℕ) → entry_at b whole at k shut ≡ said_by (Err j) → run_at b whole at p k shut ≡ said_by (Err j)
  unfolding said_by run_at bind
  run_bad j x = go (entry_case b whole at k shut (refuse 6 j) x)
    where
      go : Entered b whole at k shut (refuse 6 j) → run_at b whole at p k shut ≡ refuse 6 j
      go (broken f y) = ap ended (run_faulty (tuples_in b whole) (tuples_fall b whole) p shut (spot at k) (here b whole at p k h e) f) ∙ sym y
      go (entered f y) =
          ap ended (run_entry (tuples_in b whole) (tuples_fall b whole) p shut (spot at k) (here b whole at p k h e) f)
          ∙ then_bad b whole (spot at k) _ (read_run (tuples_in b whole) p shut) (fault 6 0 j) (ended_no _ (fault 6 0 j) y)

  -- the run goes on behind the entry
  pub run_go : (x y : ℕ) → entry_at b whole at k shut ≡ said_by (Ok (x, y)) → run_at b whole x p y shut ≡ run_at b whole at p k shut
  unfolding said_by run_at
  run_go x y z = go (entry_case b whole at k shut (ok (spot x y)) z)
    where
      go : Entered b whole at k shut (ok (spot x y)) → run_at b whole x p y shut ≡ run_at b whole at p k shut
      go (broken f g) = no_ok (sym g)
      go (entered f g) =
          let (r, kids, to) = ended_ok _ (spot x y) g in
          sym (ap ended (run_entry (tuples_in b whole) (tuples_fall b whole) p shut (spot at k) (here b whole at p k h e) f)
          ∙ then_go b whole (spot at k) _ (read_run (tuples_in b whole) p shut) r kids
          ∙ ap (λ (s : Spot). ended (read_run (tuples_in b whole) p shut s)) to)

  -- what is known behind the entry
  pub entry_known : (x y : ℕ) → entry_at b whole at k shut ≡ said_by (Ok (x, y)) → Known b p at k → Known b p x y
  unfolding said_by run_at
  entry_known x y z i = go (entry_case b whole at k shut (ok (spot x y)) z)
    where
      go : Entered b whole at k shut (ok (spot x y)) → Known b p x y
      go (broken f g) = no_ok (sym g)
      go (entered f g) =
          let (r, kids, to) = ended_ok _ (spot x y) g in
          let offset : r.end.offset ≡ x = ap (λ (s : Spot). s.offset) to in
          let place : r.end.place ≡ y = ap (λ (s : Spot). s.place) to in
          known_back b p k x y i.outer (rw (offset, place) at (known_run b whole k (past b at) (k + 1) (closed b whole at) r kids (known_into b p at k h e i)))

  -- the earlier entries of the run behind the entry: one more, if it has the code
  pub entry_count : (x y : ℕ) → entry_at b whole at k shut ≡ said_by (Ok (x, y)) → Known b p at k → (c : ℕ) → count b 0 x c p ≡ count b 0 at c p + hit b at c p
  unfolding said_by run_at
  entry_count x y z i c = go (entry_case b whole at k shut (ok (spot x y)) z)
    where
      go : Entered b whole at k shut (ok (spot x y)) → count b 0 x c p ≡ count b 0 at c p + hit b at c p
      go (broken f g) = no_ok (sym g)
      go (entered f g) =
          let (r, kids, to) = ended_ok _ (spot x y) g in
          ap (λ (s : Spot). count b 0 s.offset c p) (sym to)
          ∙ count_run b whole p k (past b at) (k + 1) (closed b whole at) r kids i.outer (known_into b p at k h e i) c
          ∙ count_next b 0 at c p i.reached

  -- the entry leads forward
  pub entry_reach : (x y : ℕ) → entry_at b whole at k shut ≡ said_by (Ok (x, y)) → (i : ℕ) → Reach b i at → Reach b i x
  unfolding said_by run_at read_run
  entry_reach x y z i r = go (entry_case b whole at k shut (ok (spot x y)) z)
    where
      go : Entered b whole at k shut (ok (spot x y)) → Reach b i x
      go (broken f g) = no_ok (sym g)
      go (entered f g) =
          let (q, kids, to) = ended_ok _ (spot x y) g in
          let offset : q.end.offset ≡ x = ap (λ (s : Spot). s.offset) to in
          rw offset at (read_keeps (tuples_in b whole) (λ j s. Reach b i s.offset) (λ j s t u v. reach_next b i s.offset v) (λ j s t u v m n. n) _ k (closed b whole at) (spot (past b at) (k + 1)) q kids (reach_next b i at r))

  -- by at least a tuple
  pub entry_on : (x y : ℕ) → entry_at b whole at k shut ≡ said_by (Ok (x, y)) → at + 8 ≤ x
  unfolding said_by run_at read_run
  entry_on x y z = go (entry_case b whole at k shut (ok (spot x y)) z)
    where
      go : Entered b whole at k shut (ok (spot x y)) → at + 8 ≤ x
      go (broken f g) = no_ok (sym g)
      go (entered f g) =
          let (q, kids, to) = ended_ok _ (spot x y) g in
          let offset : q.end.offset ≡ x = ap (λ (s : Spot). s.offset) to in
          let on = read_keeps (tuples_in b whole) (λ j s. past b at ≤ s.offset) (λ j s t u v. omega (arith, past_above b s.offset, v)) (λ j s t u v m n. n) _ k (closed b whole at) (spot (past b at) (k + 1)) q kids (omega arith) in
          omega (arith, on, past_above b at, offset)

-- ---- the entry

-- a tuple that breaks the rule
pub entry_bad : (b : List ℕ) (whole : Bool) (at k : ℕ) (shut : Bool) → faulty (tuples_in b whole) shut (spot at k) ≡ true → entry_at b whole at k shut ≡ said_by (Err k)
unfolding said_by entry_at
entry_bad b whole at k shut f = rw f

-- its children
pub entry_run : (b : List ℕ) (whole : Bool) (at k : ℕ) (shut : Bool) → faulty (tuples_in b whole) shut (spot at k) ≡ false
    → entry_at b whole at k shut ≡ run_at b whole (past b at) k (k + 1) (closed b whole at)
unfolding entry_at
entry_run b whole at k shut f = rw f

-- ---- the run at the top

-- a tuple that breaks the rule
pub remains_bad : (n k : ℕ) (w : Result (ℕ × ℕ) ℕ) (v : Check Spot) → w ≡ Err k → said_by w ≡ v → k ≡ remains n v
unfolding remains said_by
remains_bad n k w v e f = ap (remains n) (ap said_by (sym e) ∙ f)

-- a tuple is left
pub remains_left : (n at k : ℕ) (w : Result (ℕ × ℕ) ℕ) (v : Check Spot) → w ≡ Ok (at, k) → said_by w ≡ v → at < n → k ≡ remains n v
unfolding remains said_by
remains_left n at k w v e f h = sym (rw (lt-ltb at n h)) ∙ ap (remains n) (ap said_by (sym e) ∙ f)

-- none is
pub remains_none : (n at k : ℕ) (w : Result (ℕ × ℕ) ℕ) (v : Check Spot) → w ≡ Ok (at, k) → said_by w ≡ v → n ≤ at → 0 ≡ remains n v
unfolding remains said_by
remains_none n at k w v e f h = sym (rw (le-ltb at n h)) ∙ ap (remains n) (ap said_by (sym e) ∙ f)
