-- Laws of the walk over the fields as they are written. Assumes nothing.
use Prim.Native.Nat.{ℕ, ◌+◌, ◌-◌, ◌*◌, ◌^◌, ◌≤◌, ◌<◌}
use mathlib.Core.Path.{◌≡◌, refl, sym, ap, ◌∙◌}
use mathlib.Core.Bool.{Bool, true, false, not}
use mathlib.Core.List.{List, [], ◌∷◌, ◌++◌}
use native.Mathlib.Nat.{zero-add}
use native.Mathlib.Omega.{arith}
use borrow.Author.Tests.{eq-eqb, ne_eqb, not-true, not-false}
use lib.Dec.{eqb}
use lib.ListN.{length, length-append}
use Rattle.std.specs.Prelude.{Option, Some, None}
use Rattle.skeleton.specs.File.{Field}
use Rattle.skeleton.specs.Place.{between, place_at, fields_at}
use Rattle.skeleton.specs.declared.directory.Shape.{Shape}
use Rattle.skeleton.specs.declared.place.Place.{Place}
use Rattle.skeleton.proofs.PlaceLaws.{held, place_falls, place_runs, fields_more, fields_done}
use Rattle.skeleton.proofs.BetweenLaws.{length_between}
use Rattle.rules.specs.Written.{field_as}
use Rattle.writing.specs.House.{is_list, in_house_form}
use Rattle.writing.specs.Runs.{empty_list, goes_on, run_body, run_rest, more_body, more_rest}
use Rattle.writing.specs.Found.{house_at, joined_at, Ran, Next}
use Rattle.writing.specs.declared.joining.Run.{Run}
use Rattle.writing.proofs.HouseLaws.{house_empty, house_first}

-- ---- tests of one field

module _ (joins : Bool) (t : ℕ) where
  pub list_off : joins ≡ false → false ≡ is_list joins t
  unfolding is_list
  list_off e = rw e

  module _ (on : joins ≡ true) where
    pub list_attr : t ≡ 0x41545452 → eqb t 0x41545452 ≡ is_list joins t
    unfolding is_list
    list_attr e = rw (on, eq-eqb t 0x41545452 e)

    module _ (a : t ≡ 0x41545452 → ⊥) where
      pub list_spas : t ≡ 0x53504153 → eqb t 0x53504153 ≡ is_list joins t
      unfolding is_list
      list_spas e = rw (on, ne_eqb t 0x41545452 a, eq-eqb t 0x53504153 e)

      pub list_c2il : (t ≡ 0x53504153 → ⊥) → eqb t 0x4332494c ≡ is_list joins t
      unfolding is_list
      list_c2il s = rw (on, ne_eqb t 0x41545452 a, ne_eqb t 0x53504153 s)

pub ruleset list_ways = (list_off, list_attr, list_spas, list_c2il)

module _ (joins : Bool) (t n : ℕ) (b : Bool) (eb : b ≡ is_list joins t) where
  pub empty_list_lem : b ≡ true → eqb n 0 ≡ empty_list joins t n
  unfolding empty_list
  empty_list_lem e = rw (← eb, e)

  pub empty_not : b ≡ false → b ≡ empty_list joins t n
  unfolding empty_list
  empty_not e = rw (← eb, e)

pub ruleset empty_ways = (empty_list_lem, empty_not)

module _ (joins : Bool) (t u n : ℕ) where
  pub on_same : t ≡ u → eqb t u ≡ goes_on joins t u n
  unfolding goes_on
  on_same e = rw (eq-eqb t u e)

  pub on_empty : (t ≡ u → ⊥) → (b : Bool) → b ≡ empty_list joins u n → b ≡ goes_on joins t u n
  unfolding goes_on
  on_empty d b e = rw (ne_eqb t u d, e)

pub ruleset on_ways = (on_same, on_empty)

-- ---- bodies

module _ (r : List ℕ) (h : Shape) (q : ℕ) (e : Option Place) (en : e ≡ place_at r h q) (d : Place) (x : e ≡ Some d) where
  pub body_at : length (between r d.start d.end) ≡ d.end - d.start
  body_at = let k = held r h q e en d x in length_between r d.start d.end (omega arith)

  -- the body there, whether a list goes on over it or not
  module _ (joins : Bool) (t : ℕ) (b : Bool) (eb : b ≡ goes_on joins t d.tag (d.end - d.start)) where
    on_there : goes_on joins t d.tag (length (between r d.start d.end)) ≡ b
    on_there = ap (goes_on joins t d.tag) body_at ∙ sym eb

    pub run_more : b ≡ true → (run_body joins t (fields_at r h q) ≡ between r d.start d.end ++ run_body joins t (fields_at r h d.next))
        × (run_rest joins t (fields_at r h q) ≡ run_rest joins t (fields_at r h d.next))
    unfolding run_body run_rest
    run_more y = let m = fields_more r h q e en d x in (
      rw (m, on_there, y),
      rw (m, on_there, y),
    )

    pub run_ends : b ≡ false → (run_body joins t (fields_at r h q) ≡ []) × (run_rest joins t (fields_at r h q) ≡ fields_at r h q)
    unfolding run_body run_rest
    run_ends y = let m = fields_more r h q e en d x in (
      rw (m, on_there, y),
      rw (m, on_there, y),
    )

-- at the end of the directory
pub run_none : (joins : Bool) (t : ℕ) (r : List ℕ) (h : Shape) (q : ℕ) (e : Option Place) → e ≡ place_at r h q → e ≡ None
    → (run_body joins t (fields_at r h q) ≡ []) × (run_rest joins t (fields_at r h q) ≡ fields_at r h q)
unfolding run_body run_rest
run_none joins t r h q e en x = let m = fields_done r h q e en x in (rw m, rw m)

-- ---- `run_from`

-- the loop of a list from p on, at q, where it went over bodies of `size` bytes
pub record RunsOn (joins : Bool) (r : List ℕ) (h : Shape) (t p q size : ℕ) : Type 0 where
  pub listed : is_list joins t ≡ true
  pub total : size + length (run_body joins t (fields_at r h q)) ≡ length (run_body joins t (fields_at r h p))
  pub rest : run_rest joins t (fields_at r h q) ≡ run_rest joins t (fields_at r h p)
  pub further : p ≤ q
  pub inside : q ≤ length r
  pub small : size + 16777217 * p ≤ 16777217 * q

pub run_start : (joins : Bool) (r : List ℕ) (h : Shape) (t p : ℕ) (b : Bool) → b ≡ is_list joins t → not b ≡ false → p ≤ length r
    → RunsOn joins r h t p p 0
run_start joins r h t p b eb y g =
    record { listed = sym eb ∙ not-false b y; total = zero-add _; rest = refl; further = omega arith; inside = g; small = omega arith }

-- a field that is no list is alone
pub run_alone : (joins : Bool) (r : List ℕ) (h : Shape) (t p : ℕ) (b : Bool) → b ≡ is_list joins t → not b ≡ true → p ≤ length r
    → Ran joins r h t p (record { size = 0; after = p })
unfolding more_body more_rest
run_alone joins r h t p b eb y g =
    let l : is_list joins t ≡ false = sym eb ∙ not-true b y in
    record { size_is = rw l; rest = rw l; further = omega arith; inside = g; small = omega arith }

module _ (joins : Bool) (r : List ℕ) (h : Shape) (t p q size : ℕ) (inv : RunsOn joins r h t p q size) where
  -- nothing more
  ran : run_body joins t (fields_at r h q) ≡ [] → run_rest joins t (fields_at r h q) ≡ fields_at r h q → Ran joins r h t p (record { size = size; after = q })
  unfolding more_body more_rest
  ran u v =
      let l = inv.listed in
      let z : length (run_body joins t (fields_at r h q)) ≡ 0 = ap length u in
      record {
        size_is = rw l (omega (arith, inv.total));
        rest = rw l (sym v ∙ inv.rest);
        further = inv.further;
        inside = inv.inside;
        small = inv.small;
      }

  module _ (e : Option Place) (en : e ≡ place_at r h q) where
    pub run_done : e ≡ None → Ran joins r h t p (record { size = size; after = q })
    run_done x = let n = run_none joins t r h q e en x in ran n.0 n.1

    module _ (d : Place) (x : e ≡ Some d) where
      pub run_word : length r ≤ 16777216 → size + (d.end - d.start) < 2 ^ 64
      run_word g = let k = held r h q e en d x in let s = inv.small in let i = inv.inside in omega arith

      module _ (b : Bool) (eb : b ≡ goes_on joins t d.tag (d.end - d.start)) where
        pub run_stop : not b ≡ true → Ran joins r h t p (record { size = size; after = q })
        run_stop y = let n = run_ends r h q e en d x joins t b eb (not-true b y) in ran n.0 n.1

        pub run_again : not b ≡ false → length r ≤ 16777216 → RunsOn joins r h t p d.next (size + (d.end - d.start))
        run_again y g =
            let k = held r h q e en d x in
            let n = run_more r h q e en d x joins t b eb (not-false b y) in
            let w : length (run_body joins t (fields_at r h q)) ≡ d.end - d.start + length (run_body joins t (fields_at r h d.next)) =
            ap length n.0 ∙ length-append (between r d.start d.end) (run_body joins t (fields_at r h d.next))
            ∙ ap (λ (m : ℕ). m + length (run_body joins t (fields_at r h d.next))) (body_at r h q e en d x) in
            let s = inv.small in
            let d = inv.further in
            record {
              listed = inv.listed;
              total = omega (arith, inv.total, w);
              rest = sym n.1 ∙ inv.rest;
              further = omega (arith, k.next_is);
              inside = k.next_in;
              small = omega (arith, k.next_is, k.body_in);
            }

pub ruleset run_turn = (run_start, run_alone, run_done, run_word, run_stop, run_again, place_falls, place_runs)

-- ---- `next_written`

module _ (joins : Bool) (r : List ℕ) (h : Shape) (p q : ℕ) (inv : house_at joins r h q ≡ house_at joins r h p) (e : Option Place) (en : e ≡ place_at r h q) where
  pub next_done : e ≡ None → Next joins r h p None
  unfolding Next in_house_form
  next_done x = sym inv ∙ ap (in_house_form joins) (fields_done r h q e en x)

  module _ (d : Place) (x : e ≡ Some d) where
    pub next_in : d.next ≤ length r
    next_in = (held r h q e en d x).next_in

    pub next_further : p ≤ q → p ≤ d.next
    next_further g = let k = held r h q e en d x in omega (arith, k.next_is)

    module _ (b : Bool) (eb : b ≡ empty_list joins d.tag (d.end - d.start)) where
      empty_there : empty_list joins d.tag (length (between r d.start d.end)) ≡ b
      empty_there = ap (empty_list joins d.tag) (body_at r h q e en d x) ∙ sym eb

      pub next_skips : not b ≡ false → house_at joins r h d.next ≡ house_at joins r h p
      next_skips y =
          sym (house_empty joins (field_as d.tag (between r d.start d.end)) (fields_at r h d.next) (empty_there ∙ not-false b y))
          ∙ sym (ap (in_house_form joins) (fields_more r h q e en d x)) ∙ inv

      module _ (y : not b ≡ true) (run : Run) (ran : Ran joins r h d.tag d.next run) where
        pub next_word : length r ≤ 16777216 → d.end - d.start + run.size < 2 ^ 64
        next_word g =
            let k = held r h q e en d x in
            let i = ran.inside in let s = ran.small in omega (arith, k.body_in)

        pub next_found : p ≤ q → length r ≤ 16777216 → Next joins r h p (Some (record { tag = d.tag; start = d.start; end = d.end; size = d.end - d.start + run.size; next = d.next; after = run.after }))
        unfolding Next
        next_found f g =
            let k = held r h q e en d x in
            let s = ran.small in
            let u = ran.further in
            let z = ran.size_is in
            record {
              fields = sym inv ∙ ap (in_house_form joins) (fields_more r h q e en d x)
                  ∙ house_first joins (field_as d.tag (between r d.start d.end)) (fields_at r h d.next) (empty_there ∙ not-true b y)
                  ∙ ap (λ (fs : List Field). field_as d.tag (between r d.start d.end ++ more_body joins d.tag (fields_at r h d.next)) ∷ in_house_form joins fs) (sym ran.rest);
              size_is = sym (length-append (between r d.start d.end) (joined_at joins r h d.tag d.next) ∙ ap (λ (m : ℕ). m + length (joined_at joins r h d.tag d.next)) (body_at r h q e en d x) ∙ ap (λ (m : ℕ). d.end - d.start + m) (sym z));
              body_runs = k.body_runs;
              body_in = omega (arith, k.body_in);
              further = omega (arith, k.next_is);
              inside = ran.inside;
              small = omega (arith, k.next_is, k.body_in);
            }

pub ruleset next_turn = (next_done, next_in, next_further, next_skips, next_word, next_found, place_falls, place_runs)
