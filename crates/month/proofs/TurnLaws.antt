-- The turns of a month. Assumes nothing.
use Prim.Native.Nat.{ℕ, ◌+◌, ◌-◌, ◌≤◌, ◌<◌}
use mathlib.Core.Path.{◌≡◌, refl, sym, ap, ◌∙◌}
use mathlib.Core.Bool.{Bool, true, false, not}
use mathlib.Core.List.{List, ◌∷◌}
use native.Mathlib.Omega.{arith}
use borrow.Author.Tests.{ltb-true, lt-ltb, le-ltb, eq-eqb, ne_eqb}
use lib.ListN.{length, take, drop}
use lib.Dec.{ltb}
use Rattle.std.specs.Prelude.{Option, Some, None}
use Rattle.base.specs.Choice.{pick}
use Rattle.base.specs.Check.{fault}
use Rattle.base.specs.Walk.{Got}
use Rattle.memory.specs.Hold.{zeros}
use Rattle.rules.specs.Answers.{refusal, success, enough_work, work_after}
use Rattle.rules.specs.declared.Answer.{Answer}
use Rattle.fields.specs.Valid.{Bytes}
use Rattle.fields.proofs.ByteLaws.{bytes_drop, bytes_take}
use Rattle.updater.specs.Stages.{Tested, TestedIf}
use Rattle.display.specs.Pools.{pool, other, chart_in, next_chart, Followed}
use Rattle.display.specs.declared.Chart.{Chart}
use Rattle.display.specs.declared.Shown.{Shown}
use Rattle.month.specs.Month.{files_from, Stand, start, stop, apply, made, turns, with_work, month_of, Left}
use Rattle.month.specs.Run.{Ran}
use Rattle.month.specs.Next.{next_at}
use Rattle.month.specs.declared.turns.Month.{Month}
use Rattle.month.specs.declared.files.Next.{Next}
use Rattle.month.proofs.FileLaws.{files_over, files_cut, files_whole, whole_placed}
use Rattle.month.proofs.OwnLaws.{given_tested}

-- ---- answers

pub begun_so : (a : Answer) (n : ℕ) → a ≡ refusal 0 0 (fault 0 0 0)
    → ◌≡◌ {A = Month} (record { answer = a; applied = 0; second = false; length = n }) (record { answer = success 0 0; applied = 0; second = false; length = n })
unfolding refusal success
begun_so a n e = rw e

-- ---- a turn

module _ (work : ℕ) (s : Stand) (f : List ℕ) (fs : List (List ℕ)) (e : ℕ) where
  pub turn_long : length s.pool < s.says.length → turns work (f ∷ fs) e s ≡ stop (refusal 1 0 (fault 1 0 0)) s
  unfolding turns
  turn_long h = rw (lt-ltb (length s.pool) s.says.length h)

  module _ (h : s.says.length ≤ length s.pool) where
    pub turn_refused : ((made work s f).answer.number ≡ 0 → ⊥) → turns work (f ∷ fs) e s ≡ stop (made work s f).answer s
    unfolding turns
    turn_refused n = rw (le-ltb (length s.pool) s.says.length h, ne_eqb (made work s f).answer.number 0 n)

    pub turn_done : (made work s f).answer.number ≡ 0 → turns work (f ∷ fs) e s ≡ turns work fs e (apply (made work s f) s)
    unfolding turns
    turn_done n = rw (le-ltb (length s.pool) s.says.length h, eq-eqb (made work s f).answer.number 0 n)

-- ---- the turns from a place in the list on

abbrev pub from : ℕ → List ℕ → ℕ → Stand → Stand
from work l at s = turns work (files_from l at).items (files_from l at).ending s

-- where code stands
abbrev pub standing : Month → List ℕ → List ℕ → Stand
standing m first second = record { says = m; pool = pick m.second second first; room = length (pick m.second first second) }

-- the chart as a display has it
abbrev pub chart_of : Month → Chart
chart_of m = record { second = m.second; length = m.length }

module _ (work : ℕ) (l : List ℕ) (at : ℕ) (s : Stand) where
  found : (g : Got (List ℕ)) → files_from l at ≡ g → from work l at s ≡ turns work g.items g.ending s
  found g e = ap (λ (x : Got (List ℕ)). turns work x.items x.ending s) e

  pub from_over : length l ≤ at → from work l at s ≡ s
  unfolding turns
  from_over h = found _ (files_over l at h)

  module _ (h : at < length l) (x : Option Next) (is : x ≡ next_at l at) where
    pub from_cut : x ≡ None → from work l at s ≡ stop (refusal 2 0 (fault 1 0 0)) s
    unfolding turns
    from_cut c = found _ (files_cut l at h x is c)

    module _ (i : Next) (w : x ≡ Some i) where
      pub from_long : length s.pool < s.says.length → from work l at s ≡ stop (refusal 1 0 (fault 1 0 0)) s
      from_long g = found _ (files_whole l at h x is i w) ∙ turn_long work s _ _ _ g

      module _ (g : s.says.length ≤ length s.pool) where
        pub from_refused : ((made work s (take (i.end - i.start) (drop i.start l))).answer.number ≡ 0 → ⊥) → from work l at s ≡ stop (made work s (take (i.end - i.start) (drop i.start l))).answer s
        from_refused n = found _ (files_whole l at h x is i w) ∙ turn_refused work s _ _ _ g n

        pub from_done : (made work s (take (i.end - i.start) (drop i.start l))).answer.number ≡ 0 → from work l at s ≡ from work l i.end (apply (made work s (take (i.end - i.start) (drop i.start l))) s)
        from_done n = found _ (files_whole l at h x is i w) ∙ turn_done work s _ _ _ g n

-- ---- what a display's step says of a stand

pick_not : {A : Type 0} (b : Bool) (x y : A) → pick (not b) x y ≡ pick b y x
pick_not true x y = refl
pick_not false x y = refl

pick_length : (b : Bool) (x y : List ℕ) → pick b (length x) (length y) ≡ length (pick b x y)
pick_length true x y = refl
pick_length false x y = refl

-- the pools as they were: the stand's own
module _ (m : Month) (first second file : List ℕ) (work : ℕ) (r : Shown) (first' second' w' : List ℕ) (d : Followed (chart_of m) first second file work r first' second' w') where
  pub shown_made : r.answer ≡ (made work (standing m first second) file).answer
  unfolding made chart_in pool other
  shown_made = d.said

  pub shown_built : pick m.second first' second' ≡ (made work (standing m first second) file).out
  unfolding made chart_in pool other
  shown_built = d.built

  pub shown_kept : pick m.second second' first' ≡ pick m.second second first
  unfolding pool
  shown_kept = d.in_use

  module _ (z : r.answer.number ≡ 0) where
    shown_chart : r.chart ≡ record { second = not m.second; length = r.answer.length }
    unfolding next_chart
    shown_chart = d.stands ∙ rw (eq-eqb r.answer.number 0 z)

    shown_says : record { answer = r.answer; applied = m.applied + 1; second = r.chart.second; length = r.chart.length } ≡ (apply (made work (standing m first second) file) (standing m first second)).says
    unfolding apply
    shown_says = rw (shown_chart, shown_made)

    pub shown_applied : (n : Month) → n ≡ record { answer = r.answer; applied = m.applied + 1; second = r.chart.second; length = r.chart.length }
        → standing n first' second' ≡ apply (made work (standing m first second) file) (standing m first second)
    unfolding apply
    shown_applied n e = rw (e ∙ shown_says, pick_not m.second second' first', pick_not m.second first' second', shown_built, shown_kept)

-- ---- a month that goes on

-- from here it comes to e; the chart is made of bytes, and one that it wrote itself has passed its tests
pub record Going (work : ℕ) (l : List ℕ) (e : Stand) (at : ℕ) (m : Month) (first second : List ℕ) : Type 0 where
  pub comes : from work l at (standing m first second) ≡ e
  pub inside : at ≤ length l
  pub few : m.applied ≤ at
  pub bytes : Bytes (chart_in (chart_of m) first second)
  pub own : 0 < m.applied → Tested (chart_in (chart_of m) first second)

-- so the updater may be told
pub own_tested : (work : ℕ) (l : List ℕ) (e : Stand) (at : ℕ) (m : Month) (first second : List ℕ) → Going work l e at m first second → TestedIf (ltb 0 m.applied) (chart_in (chart_of m) first second)
own_tested work l e at m first second g t = g.own (ltb-true 0 m.applied t)

-- it stops: the outcome, and the chart's pool as it was
stops : (e : Stand) (m r : Month) (a b : Answer) (first second first' second' : List ℕ) → stop b (standing m first second) ≡ e → a ≡ b
    → r ≡ record { answer = a; applied = m.applied; second = m.second; length = m.length } → pick m.second second' first' ≡ pick m.second second first → Ran e r first' second'
unfolding stop
stops e m r a b first second first' second' x y z k = rw (← x, z, y) (record { said = refl; holds = k })

-- 15
pub ran_little : (list first : List ℕ) (n : ℕ) (second work : List ℕ) (m r : Month) (a : Answer) → length work < 400000
    → m ≡ record { answer = success 0 0; applied = 0; second = false; length = n } → a ≡ refusal 0 0 (fault 15 0 0)
    → r ≡ record { answer = a; applied = m.applied; second = m.second; length = m.length } → Ran (month_of list first n second work) r first second
unfolding month_of enough_work with_work start
ran_little list first n second work m r a h b x y = stops _ m r a _ first second first second (rw (lt-ltb (length work) 400000 h, b)) x y refl

-- the first turn
pub going_start : (list first : List ℕ) (n : ℕ) (second work : List ℕ) (m : Month) → 400000 ≤ length work
    → m ≡ record { answer = success 0 0; applied = 0; second = false; length = n } → Bytes first → Going (length work) list (month_of list first n second work) 0 m first second
unfolding month_of enough_work with_work start chart_in pool
going_start list first n second work m h b k = rw b (record { comes = rw (le-ltb (length work) 400000 h); inside = omega arith; few = omega arith; bytes = bytes_take n first k; own = λ z. absurd (omega (arith, z)) })

module _ (work : ℕ) (l : List ℕ) (e : Stand) (at : ℕ) (m : Month) (first second : List ℕ) (g : Going work l e at m first second) where
  -- the list is at its end
  pub ran_over : length l ≤ at → Ran e m first second
  ran_over h = rw (← g.comes, from_over work l at (standing m first second) h) (record { said = refl; holds = refl })

  module _ (h : at < length l) (x : Option Next) (is : x ≡ next_at l at) (r : Month) (a : Answer) (put : r ≡ record { answer = a; applied = m.applied; second = m.second; length = m.length }) where
    pub ran_cut : x ≡ None → a ≡ refusal 2 0 (fault 1 0 0) → Ran e r first second
    ran_cut c y = stops e m r a _ first second first second (sym (from_cut work l at (standing m first second) h x is c) ∙ g.comes) y put refl

    module _ (i : Next) (w : x ≡ Some i) (n : ℕ) (long : n ≡ pick m.second (length second) (length first)) where
      pub ran_long : n < m.length → a ≡ refusal 1 0 (fault 1 0 0) → Ran e r first second
      ran_long t y =
          let z = long ∙ pick_length m.second second first in
          stops e m r a _ first second first second (sym (from_long work l at (standing m first second) h x is i w (omega arith)) ∙ g.comes) y put refl

      module _ (t : m.length ≤ n) (d : Shown) (first' second' w' : List ℕ) (v : ℕ) (same : v ≡ work) (h' : Followed (chart_of m) first second (take (i.end - i.start) (drop i.start l)) v d first' second' w') where
        pub ran_refused : a ≡ d.answer → (a.number ≡ 0 → ⊥) → Ran e r first' second'
        ran_refused y nz =
            let f : Followed (chart_of m) first second (take (i.end - i.start) (drop i.start l)) work d first' second' w' = rw same at h' in
            let z = long ∙ pick_length m.second second first in
            let q : a ≡ (made work (standing m first second) (take (i.end - i.start) (drop i.start l))).answer = y ∙ shown_made m first second _ work d first' second' w' f in
            stops e m r a _ first second first' second'
            (sym (from_refused work l at (standing m first second) h x is i w (omega arith) (rw q at nz)) ∙ g.comes) q put (shown_kept m first second _ work d first' second' w' f)

  -- a file more is applied
  module _ (h : at < length l) (x : Option Next) (is : x ≡ next_at l at) (i : Next) (w : x ≡ Some i) (n : ℕ) (long : n ≡ pick m.second (length second) (length first)) (t : m.length ≤ n)
      (d : Shown) (first' second' w' : List ℕ) (v : ℕ) (same : v ≡ work) (h' : Followed (chart_of m) first second (take (i.end - i.start) (drop i.start l)) v d first' second' w') (z : d.answer.number ≡ 0)
      (m' : Month) (u : m' ≡ record { answer = d.answer; applied = m.applied + 1; second = d.chart.second; length = d.chart.length })
      (byte : Bytes l) where
    own_chart : Followed (chart_of m) first second (take (i.end - i.start) (drop i.start l)) work d first' second' w' → Tested (chart_in (chart_of m') first' second') × Bytes (chart_in (chart_of m') first' second')
    own_chart f =
        let same : chart_in (chart_of m') first' second' ≡ chart_in d.chart first' second' = rw u in
        let given = given_tested _ _ _ work g.bytes (bytes_take (i.end - i.start) (drop i.start l) (bytes_drop l i.start byte)) (sym (ap (λ (a : Answer). a.number) f.said) ∙ z) in
        rw (same, f.holds) given

    pub going_on : Going work l e i.end m' first' second'
    going_on =
        let f : Followed (chart_of m) first second (take (i.end - i.start) (drop i.start l)) work d first' second' w' = rw same at h' in
        let y = long ∙ pick_length m.second second first in
        let p = whole_placed l at h x i w is in
        let k : m'.applied ≡ m.applied + 1 = rw u in
        let nz : (made work (standing m first second) (take (i.end - i.start) (drop i.start l))).answer.number ≡ 0 = rw (shown_made m first second _ work d first' second' w' f) at z in
        record {
          comes = rw (shown_applied m first second _ work d first' second' w' f z m' u) (sym (from_done work l at (standing m first second) h x is i w (omega arith) nz) ∙ g.comes);
          inside = p.2;
          few = let q = g.few in omega (arith, p.0, p.1);
          bytes = (own_chart f).1;
          own = λ _. (own_chart f).0;
        }

-- ---- the pool without the chart is cleared, and the workspace

module _ (list first : List ℕ) (n : ℕ) (second work : List ℕ) (r : Month) (f s w : List ℕ) (ran : Ran (month_of list first n second work) r f s) (w' : List ℕ) (ew : w' ≡ zeros (length w)) (lw : length w ≡ length work) where
  work_left : w' ≡ work_after (length work)
  unfolding work_after zeros
  work_left = ew ∙ ap zeros lw

  pub left_second : length f ≡ length first → r.second ≡ true → (f' : List ℕ) → f' ≡ zeros (length f) → Left list first n second work r f' s w'
  left_second e t f' z =
      let h = ran.holds in
      record { said = ran.said; in_first = rw t (z ∙ ap zeros e); in_second = rw t (rw t at h); zero = work_left }

  pub left_first : length s ≡ length second → r.second ≡ false → (s' : List ℕ) → s' ≡ zeros (length s) → Left list first n second work r f s' w'
  left_first e t s' z =
      let h = ran.holds in
      record { said = ran.said; in_first = rw t (rw t at h); in_second = rw t (z ∙ ap zeros e); zero = work_left }
