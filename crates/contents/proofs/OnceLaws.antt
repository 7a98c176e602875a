-- Number 7 field by field. Assumes nothing.
use mathlib.Core.Path.{◌≡◌, refl, sym, ap, ◌∙◌}
use mathlib.Core.Bool.{Bool, true, false}
use mathlib.Core.List.{List, ◌∷◌, ◌++◌, append-nil}
use Prim.Native.Nat.{ℕ, ◌+◌, ◌^◌, ◌≤◌, ◌<◌}
use native.Mathlib.Omega.{arith}
use borrow.Author.Tests.{eq-eqb, ne_eqb}
use lib.Dec.{eqb}
use lib.ListN.{length, get_or, take, drop}
use Rattle.std.specs.Prelude.{Option, Some, None, Result, Ok, Err}
use Rattle.base.specs.Choice.{either}
use Rattle.base.specs.Check.{Check, ok, no, bind, fault, Passed, pass}
use Rattle.base.specs.Lists.{empty, gather}
use Rattle.base.specs.Verdict.{verdict_of}
use Rattle.base.specs.declared.Fault.{Fault}
use Rattle.skeleton.specs.File.{Field}
use Rattle.skeleton.specs.Directory.{tag_at}
use Rattle.skeleton.specs.Place.{between, at_place, place_at, fields_at}
use Rattle.skeleton.specs.RightFrom.{RightFrom}
use Rattle.skeleton.specs.declared.directory.Shape.{Shape}
use Rattle.skeleton.specs.declared.place.Place.{Place}
use Rattle.skeleton.proofs.PlaceLaws.{held, fields_more, fields_done}
use Rattle.skeleton.proofs.RightLaws.{Next, right_next, right_done, right_in, right_tag, right_on, right_word, right_falls}
use Rattle.rules.specs.Tags.{INAS}
use Rattle.rules.specs.ByTag.{with_tag, front, has}
use Rattle.rules.specs.Associations.{field_marks, marks, keys_once, field_keys}
use Rattle.rules.proofs.MarkLaws.{field_marked}
use Rattle.contents.specs.Fit.{all_fit}
use Rattle.contents.specs.Keys.{keys_in, seen_before, top_with, said_by, spas_from, inas_once, field_once, once_from}
use Rattle.contents.proofs.StepLaws.{step_bounds}
use Rattle.contents.proofs.FitLaws.{fit_here, fit_next}
use Rattle.contents.proofs.KeyLaws.{once_apart, top_append}
use Rattle.contents.proofs.EarlierLaws.{inas_filled, spas_filled}
use Rattle.contents.proofs.NewLaws.{has_last}
use Rattle.contents.proofs.ListLaws.{one_taken, gather_last}

-- ---- one field

-- behind no tuple of it, what is seen are the keys of the fields before it
before_none : (r : List ℕ) (h : Shape) (p n : ℕ) (b : List ℕ) → seen_before r h p n b 0 ≡ keys_in (take n (fields_at r h p))
unfolding seen_before
before_none r h p n b = append-nil (keys_in (take n (fields_at r h p)))

module _ (r : List ℕ) (h : Shape) (p n tag : ℕ) (b : List ℕ) (top : ℕ) where
  pub once_inas : tag ≡ 0x494e4153 → (e : Check ℕ) → e ≡ inas_once r h p n b top → e ≡ field_once r h p n tag b top
  unfolding inas_once field_once field_keys field_marks
  once_inas z e x = simp (eq-eqb tag 0x494e4153 z) x

  module _ (m : tag ≡ 0x494e4153 → ⊥) where
    pub once_spas : tag ≡ 0x53504153 → (e : Check ℕ) → e ≡ spas_from r h p n b 0 top → e ≡ field_once r h p n tag b top
    unfolding spas_from field_once field_keys field_marks
    once_spas z e x = simp (ne_eqb tag 0x494e4153 m, eq-eqb tag 0x53504153 z) (rw (before_none r h p n b) at x)

    pub once_other : (tag ≡ 0x53504153 → ⊥) → said_by (n + 2) (Ok top) ≡ field_once r h p n tag b top
    unfolding said_by bind field_once field_keys field_marks keys_once top_with
    once_other z = simp (ne_eqb tag 0x494e4153 m, ne_eqb tag 0x53504153 z)

pub ruleset field_once_ways = (once_inas, once_spas, once_other, inas_filled, spas_filled)

-- ---- the loop over the fields: behind n fields, at place q, where the whole comes to A

-- a test that goes on to a value alone
refused_first : (c : Passed) (t : ℕ) (x : Fault) → no x ≡ bind c (λ _. ok t) → c ≡ no x
unfolding bind
refused_first (ok u) t x e = absurd (let z : ◌≡◌ {A = ℕ} 0 1 = cc in omega arith)
refused_first (no y) t x e = let z : y ≡ x = cc in ap no z

passed_first : (c : Passed) (v t : ℕ) → ok t ≡ bind c (λ _. ok v) → (c ≡ pass) × (t ≡ v)
unfolding bind
passed_first (ok tt) v t e = (refl, cc)
passed_first (no x) v t e = absurd (let z : ◌≡◌ {A = ℕ} 0 1 = cc in omega arith)

module _ (r : List ℕ) (h : Shape) (p n q : ℕ) (ed : drop n (fields_at r h p) ≡ fields_at r h q) (e : Option Place) (en : e ≡ place_at r h q) where
  all_done : (A : Result (Unit {0}) Fault) → once_from r h p n ≡ A → e ≡ None → Ok tt ≡ A
  unfolding once_from marks keys_once verdict_of
  all_done A inv x = rw (ed, fields_done r h q e en x) at inv

  module _ (u : Place) (x : e ≡ Some u) where
    abbrev field : Field
    field = record { tag = u.tag; body = between r u.start u.end }

    abbrev earlier : List (List ℕ)
    earlier = keys_in (take n (fields_at r h p))

    one : drop n (fields_at r h p) ≡ field ∷ fields_at r h u.next
    one = ed ∙ fields_more r h q e en u x

    one_place : drop (n + 1) (fields_at r h p) ≡ fields_at r h u.next
    one_place = (one_taken (fields_at r h p) _ _ n one).1

    keys_next : keys_in (take (n + 1) (fields_at r h p)) ≡ earlier ++ field_keys field
    unfolding keys_in
    keys_next = ap (gather field_keys) (one_taken (fields_at r h p) _ _ n one).0 ∙ gather_last field_keys (take n (fields_at r h p)) field

    one_informed : (c : Bool) → c ≡ has INAS (take n (fields_at r h p)) → (d : Bool) → d ≡ either c (eqb u.tag INAS) → d ≡ has INAS (take (n + 1) (fields_at r h p))
    one_informed c ec d ed = rw (one_taken (fields_at r h p) _ _ n one).0 (rw (has_last INAS (take n (fields_at r h p)) field, ← ec) ed)

    module _ (top : ℕ) (k : Result ℕ ℕ) (ek : said_by (n + 2) k ≡ field_once r h p n u.tag (between r u.start u.end) top) where
      -- the field's test, and then those behind it
      turn_of : (A : Result (Unit {0}) Fault) → once_from r h p n ≡ A
          → verdict_of (bind (keys_once earlier (field_marks (n + 2) field)) (λ _. keys_once (earlier ++ field_keys field) (marks (n + 2 + 1) (fields_at r h u.next)))) ≡ A
      unfolding once_from marks
      turn_of A inv =
          rw (← field_marked (n + 2) field, ← once_apart (field_marks (n + 2) field) (marks (n + 2 + 1) (fields_at r h u.next)) earlier) (rw one at inv)

      one_twice : (A : Result (Unit {0}) Fault) → once_from r h p n ≡ A → (j : ℕ) → k ≡ Err j → Err (fault 7 (n + 2) j) ≡ A
      unfolding said_by field_once bind verdict_of
      one_twice A inv j z =
          let w = refused_first (keys_once earlier (field_marks (n + 2) field)) (top_with top (field_keys field)) (fault 7 (n + 2) j)
          (ap (said_by (n + 2)) (sym z) ∙ ek) in
          rw w at (turn_of A inv)

      one_more : (A : Result (Unit {0}) Fault) → once_from r h p n ≡ A → (t : ℕ) → k ≡ Ok t → once_from r h p (n + 1) ≡ A
      unfolding said_by field_once once_from bind
      one_more A inv t z =
          let w = passed_first (keys_once earlier (field_marks (n + 2) field)) (top_with top (field_keys field)) t (ap (said_by (n + 2)) (sym z) ∙ ek) in
          let m : n + 1 + 2 ≡ n + 2 + 1 = omega arith in
          rw (one_place, keys_next, m) (rw w.0 at (turn_of A inv))

      one_top : top ≡ top_with 0 earlier → (t : ℕ) → k ≡ Ok t → t ≡ top_with 0 (keys_in (take (n + 1) (fields_at r h p)))
      unfolding said_by field_once
      one_top et t z =
          let w = passed_first (keys_once earlier (field_marks (n + 2) field)) (top_with top (field_keys field)) t (ap (said_by (n + 2)) (sym z) ∙ ek) in
          rw (keys_next, top_append earlier (field_keys field) 0, ← et) w.1

-- ---- by the entry at q, in a directory that is right from there on

module _ (r : List ℕ) (h : Shape) (p n q tag top : ℕ) (et : tag ≡ tag_at r q) (e : Option Place) (en : e ≡ place_at r h q) where
  pub entry_there : (d : Place) → e ≡ Some d → (k : Check ℕ) → k ≡ field_once r h p n d.tag (between r d.start d.end) top
      → k ≡ field_once r h p n tag (front (fields_at r h q)) top
  unfolding front
  entry_there d x k ek =
      let l = held r h q e en d x in
      let z : tag ≡ d.tag = et ∙ sym l.tag_is in
      rw (fields_more r h q e en d x, z) ek

  pub entry_not : RightFrom r h q → (get_or r q 0 ≡ 30 → ⊥) → e ≡ None → (k : Check ℕ) → k ≡ field_once r h p n tag (front (fields_at r h q)) top
  entry_not w o x k = absurd (let z = (right_next r h q w o).place in let y : ◌≡◌ {A = ℕ} 0 1 = cc in omega arith)

-- before any tuple of the next field
pub keys_before : (r : List ℕ) (h : Shape) (p n top : ℕ) (b : List ℕ) → top ≡ top_with 0 (keys_in (take n (fields_at r h p))) → top ≡ top_with 0 (seen_before r h p n b 0)
keys_before r h p n top b e = rw (before_none r h p n b) e

pub ruleset entry_ways = (once_other, entry_there, entry_not, keys_before, fit_here, step_bounds)

module _ (r : List ℕ) (h : Shape) (p n q : ℕ) (ed : drop n (fields_at r h p) ≡ fields_at r h q) (w : RightFrom r h q) where
  pub keys_end : (A : Result (Unit {0}) Fault) → once_from r h p n ≡ A → get_or r q 0 ≡ 30 → Ok tt ≡ A
  keys_end A inv y = all_done r h p n q ed None (right_done r h q w y) A inv refl

  module _ (o : get_or r q 0 ≡ 30 → ⊥) where
    next : Next r h q
    next = right_next r h q w o

    pub keys_counts : n + 2 ≤ q → n + 1 + 2 ≤ q + (4 + h.a + h.b)
    keys_counts l = omega arith

    pub keys_word : n + 2 ≤ q → length r < 2 ^ 64 → n + 1 < 2 ^ 64
    keys_word l g = let f = next.fits in omega arith

    pub keys_number : n + 2 ≤ q → length r < 2 ^ 64 → n + 2 < 2 ^ 64
    keys_number l g = let f = next.fits in omega arith

    pub keys_fit : all_fit false (fields_at r h q) ≡ true → all_fit false (fields_at r h (q + (4 + h.a + h.b))) ≡ true
    keys_fit = fit_next r h q _ next.place _ refl false

    pub keys_place : drop (n + 1) (fields_at r h p) ≡ fields_at r h (q + (4 + h.a + h.b))
    keys_place = one_place r h p n q ed _ next.place _ refl

    module _ (tag : ℕ) (et : tag ≡ tag_at r q) where
      here : at_place tag next.start next.end (q + (4 + h.a + h.b)) ≡ place_at r h q
      here = rw et next.place

      pub keys_informed : (c : Bool) → c ≡ has INAS (take n (fields_at r h p)) → (d : Bool) → d ≡ either c (eqb tag INAS) → d ≡ has INAS (take (n + 1) (fields_at r h p))
      keys_informed = one_informed r h p n q ed _ here _ refl

      module _ (top : ℕ) (k : Result ℕ ℕ) (ek : said_by (n + 2) k ≡ field_once r h p n tag (front (fields_at r h q)) top) where
        found : said_by (n + 2) k ≡ field_once r h p n tag (between r next.start next.end) top
        unfolding front
        found = rw (fields_more r h q _ here _ refl) at ek

        pub keys_twice : (A : Result (Unit {0}) Fault) → once_from r h p n ≡ A → (j : ℕ) → k ≡ Err j → Err (fault 7 (n + 2) j) ≡ A
        keys_twice = one_twice r h p n q ed _ here _ refl top k found

        pub keys_more : (A : Result (Unit {0}) Fault) → once_from r h p n ≡ A → (t : ℕ) → k ≡ Ok t → once_from r h p (n + 1) ≡ A
        keys_more = one_more r h p n q ed _ here _ refl top k found

        pub keys_top : top ≡ top_with 0 (keys_in (take n (fields_at r h p))) → (t : ℕ) → k ≡ Ok t → t ≡ top_with 0 (keys_in (take (n + 1) (fields_at r h p)))
        keys_top = one_top r h p n q ed _ here _ refl top k found

-- before the first field
pub keys_start : (r : List ℕ) (h : Shape) (p : ℕ) → 0 ≡ top_with 0 (keys_in (take 0 (fields_at r h p)))
unfolding top_with keys_in gather
keys_start r h p = refl

pub informed_start : (r : List ℕ) (h : Shape) (p : ℕ) → false ≡ has INAS (take 0 (fields_at r h p))
unfolding has with_tag empty
informed_start r h p = refl

pub ruleset keys_turn = (keys_end, keys_counts, keys_word, keys_number, keys_fit, keys_place, keys_informed, keys_twice, keys_more, keys_top, right_in, right_tag, right_on, right_word, right_falls)
