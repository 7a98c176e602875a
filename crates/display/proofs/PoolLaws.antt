-- Laws of a display's two pools. Assumes nothing.
use Prim.Native.Nat.{ℕ, min}
use mathlib.Core.Path.{◌≡◌, refl, sym, ap, subst, ◌∙◌}
use mathlib.Core.Bool.{Bool, true, false, not}
use mathlib.Core.List.{List, []}
use native.Mathlib.Omega.{arith}
use borrow.Author.Tests.{ltb-true, ltb-false, eq-eqb, ne_eqb}
use Rattle.std.proofs.Math.Nat.{min-eq_left, min-eq_right, min-le_right}
use lib.ListN.{length, take}
use lib.Seq.{take_all, length-take-le}
use lib.Dec.{ltb, eqb}
use Rattle.base.specs.Choice.{pick}
use Rattle.rules.specs.Outcome.{Outcome, done, refused}
use Rattle.rules.specs.Answers.{Output, Written, refusal, success, output_of, write_outcome, write}
use Rattle.rules.specs.declared.Answer.{Answer}
use Rattle.promises.specs.Promise.{Writes, Updates}
use Rattle.sequence.proofs.Tests.{by_bool}
use Rattle.displays.specs.Display.{taken}
use Rattle.updater.specs.Stages.{TestedIf}
use Rattle.display.specs.Pools.{pool, other, chart_in, next_chart, Begun, Followed}
use Rattle.display.specs.declared.Chart.{Chart}

-- ---- the chart at the front of a pool

-- what runs past the pool is not there
held_front : (n : ℕ) (l : List ℕ) (k : ℕ) → k ≡ min n (length l) → take k l ≡ take n l
held_front n l k e =
    by_bool (ltb n (length l))
    (λ h. let z : k ≡ n = e ∙ min-eq_left (let x = ltb-true n (length l) h in omega arith) in ap (λ (j : ℕ). take j l) z)
    (λ h. let x = ltb-false n (length l) h in
    let z : k ≡ length l = e ∙ min-eq_right x in
    take_all k l (omega arith) ∙ sym (take_all n l x))

pub held_inside : (n : ℕ) (l : List ℕ) (k : ℕ) → k ≡ min n (length l) → k ≡ length (take k l)
held_inside n l k e = let x = min-le_right n (length l) in sym (length-take-le k l (omega arith))

-- the updater's promise, at the front of a pool
pub handed_front : (n : ℕ) (from file : List ℕ) (room work k : ℕ) (a : Answer) (o w : List ℕ) → k ≡ min n (length from)
    → Updates (take k from) file room work a o w → Updates (take n from) file room work a o w
handed_front n from file room work k a o w e u = subst (λ (c : List ℕ). Updates c file room work a o w) (held_front n from k e) u

-- what is known of the front of a pool is known of what is lent of it
pub tested_front : (t : Bool) (n : ℕ) (from : List ℕ) (k : ℕ) → k ≡ min n (length from) → TestedIf t (take n from) → TestedIf t (take k from)
tested_front t n from k e p h = rw (held_front n from k e) (p h)

-- and what is known of the chart, of its pool's front
module _ (t : Bool) (c : Chart) (first second : List ℕ) (p : TestedIf t (chart_in c first second)) where
  pub tested_second : c.second ≡ true → TestedIf t (take c.length second)
  unfolding chart_in pool
  tested_second h e = let z = p e in rw h at z

  pub tested_first : c.second ≡ false → TestedIf t (take c.length first)
  unfolding chart_in pool
  tested_first h e = let z = p e in rw h at z

-- ---- where the chart stands next

pub chart_stays : (c : Chart) (a : Answer) → (a.number ≡ 0 → ⊥) → c ≡ next_chart c a
unfolding next_chart
chart_stays c a h = rw (ne_eqb a.number 0 h)

pub chart_moves : (c : Chart) (a : Answer) → a.number ≡ 0 → record { second = not c.second; length = a.length } ≡ next_chart c a
unfolding next_chart
chart_moves c a h = rw (eq-eqb a.number 0 h)

-- ---- a file

-- what a display takes of an answer and what was built
answered : (c : List ℕ) (o : Output) (a : Answer) (b : List ℕ) → a ≡ o.answer → b ≡ o.out → pick (eqb a.number 0) (take a.length b) c ≡ taken c o
unfolding taken
answered c o a b x y = rw (x, y)

-- the chart stood in the first pool, or in the second
module _ (n : ℕ) (first second file : List ℕ) (work : ℕ) (a : Answer) (w' : List ℕ) where
  next_first : (s' : List ℕ) → chart_in (next_chart (record { second = false; length = n }) a) first s' ≡ pick (eqb a.number 0) (take a.length s') (take n first)
  unfolding pool chart_in next_chart
  next_first s' = by_bool (eqb a.number 0) (λ t. rw t) (λ t. rw t)

  next_second : (f' : List ℕ) → chart_in (next_chart (record { second = true; length = n }) a) f' second ≡ pick (eqb a.number 0) (take a.length f') (take n second)
  unfolding pool chart_in next_chart
  next_second f' = by_bool (eqb a.number 0) (λ t. rw t) (λ t. rw t)

  in_first_lem : (s' : List ℕ) → Updates (take n first) file (length second) work a s' w'
      → Followed (record { second = false; length = n }) first second file work (record { answer = a; chart = next_chart (record { second = false; length = n }) a }) first s' w'
  unfolding pool other chart_in
  in_first_lem s' h = record { said = h.answers; stands = refl; holds = next_first s' ∙ answered (take n first) _ a s' h.answers h.fills; in_use = refl; built = h.fills; zero = h.clears }

  in_second_lem : (f' : List ℕ) → Updates (take n second) file (length first) work a f' w'
      → Followed (record { second = true; length = n }) first second file work (record { answer = a; chart = next_chart (record { second = true; length = n }) a }) f' second w'
  unfolding pool other chart_in
  in_second_lem f' h = record { said = h.answers; stands = refl; holds = next_second f' ∙ answered (take n second) _ a f' h.answers h.fills; in_use = refl; built = h.fills; zero = h.clears }

module _ (c : Chart) (first second file : List ℕ) (work : ℕ) (a : Answer) (w' : List ℕ) (to : Chart) (e : to ≡ next_chart c a) where
  pub followed_first : c.second ≡ false → (s' : List ℕ) → Updates (take c.length first) file (length second) work a s' w'
      → Followed c first second file work (record { answer = a; chart = to }) first s' w'
  followed_first h s' g = rw e (let z = in_first_lem c.length first second file work a w' s' g in rw (← h) at z)

  pub followed_second : c.second ≡ true → (f' : List ℕ) → Updates (take c.length second) file (length first) work a f' w'
      → Followed c first second file work (record { answer = a; chart = to }) f' second w'
  followed_second h f' g = rw e (let z = in_second_lem c.length first second file work a w' f' g in rw (← h) at z)

-- ---- the beginning

-- a refused dataset leaves no chart
as_taken : (room : ℕ) (c : Outcome Written) → take (output_of room c).answer.length (output_of room c).out ≡ taken [] (output_of room c)
unfolding output_of taken success refusal
as_taken room (done w) = refl
as_taken room (refused file n x) = by_bool (eqb x.number 0) (λ h. rw h) (λ h. rw h)

pub begun : (dataset : List ℕ) (room : ℕ) (a : Answer) (first : List ℕ) → Writes dataset room a first
    → Begun dataset room (record { answer = a; chart = record { second = false; length = a.length } }) first
unfolding pool chart_in write
begun dataset room a first w = record { said = w.answers; wrote = w.fills; stands = refl; holds = λ second. rw (w.answers, w.fills) (as_taken room (write_outcome room dataset)) }
