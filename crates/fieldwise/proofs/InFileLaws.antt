-- Laws of the search for a record and for a field in it. Assumes nothing.
use mathlib.Core.Path.{◌≡◌, refl, sym, ap, ◌∙◌}
use mathlib.Core.List.{List, [], ◌∷◌}
use Prim.Native.Nat.{ℕ, ◌+◌, ◌-◌, ◌^◌, ◌≤◌, ◌<◌}
use native.Mathlib.Omega.{arith}
use borrow.Author.Tests.{lt-ltb, le-ltb}
use lib.Dec.{ltb}
use lib.ListN.{length, take, drop, length-take, length-drop}
use Rattle.std.specs.Prelude.{Option as StdOption, Some, None, Result, Ok, Err}
use Rattle.base.specs.Walk.{Got, follow, walk, Lower}
use Rattle.base.proofs.ChoiceLaws.{by_test}
use Rattle.base.proofs.WalkLaws.{walk_step}
use Rattle.skeleton.specs.Record.{record_at}
use Rattle.skeleton.specs.declared.leader.Head.{Head}
use Rattle.skeleton.specs.declared.leader.Broken.{Broken}
use Rattle.skeleton.proofs.RecordLaws.{record_in_lem, record_falls, record_word}
use Rattle.fieldwise.specs.Numbered.{numbered, found_at, field_numbered}
use Rattle.fieldwise.specs.InFile.{Lot, lot_step, lots_step, lots_from, field_within, within_lot, field_from}
use Rattle.fieldwise.specs.declared.numbered.Found.{Found}
use Rattle.fieldwise.proofs.NumberedLaws.{numbered_empty, numbered_none, numbered_here, numbered_later, found_inside}

-- ---- `field_within`, by the field e of the record

module _ (f : List ℕ) (start end n : ℕ) (e : StdOption Found) (x : e ≡ field_numbered (take (end - start) (drop start f)) n) where
  pub within_none : e ≡ None → None ≡ field_within f start end n
  unfolding field_within
  within_none y = simp (← x, y)

  module _ (d : Found) (y : e ≡ Some d) where
    pub within_there : found_at d.tag (start + d.start) (start + d.end) ≡ field_within f start end n
    unfolding field_within
    within_there = simp (← x, y)

    module _ (l : start ≤ end) (i : end ≤ length f) (w : length f < 2 ^ 64) where
      pub start_word : start + d.start < 2 ^ 64
      start_word = omega (arith, found_inside (take (end - start) (drop start f)) n e x d y, length-take (end - start) (drop start f), length-drop start f)

      pub end_word : start + d.end < 2 ^ 64
      end_word = omega (arith, found_inside (take (end - start) (drop start f)) n e x d y, length-take (end - start) (drop start f), length-drop start f)

pub ruleset within_ways = (within_none, within_there, start_word, end_word)

-- ---- the records

lower_of : (f : List ℕ) (at : ℕ) (h : Result Head Broken) → h ≡ record_at f at → Lower (λ (q : ℕ). length f - q) at (lot_step at h)
lower_of f at (Ok d) e = record_falls f at _ e d refl
lower_of f at (Err n) e = tt

falls : (f : List ℕ) (at : ℕ) → Lower (λ (q : ℕ). length f - q) at (lots_step f at)
falls f at = by_test (Lower (λ (q : ℕ). length f - q) at) (ltb at (length f)) _ _ (λ _. lower_of f at (record_at f at) refl) (λ _. tt)

lots_step_lem : (f : List ℕ) (at : ℕ) → lots_from f at ≡ (follow (lots_step f at) (walk (lots_step f) (λ q. length f - q))).items
unfolding lots_from
lots_step_lem f at = ap (λ (g : Got Lot). g.items) (walk_step (lots_step f) (λ q. length f - q) (falls f) at)

pub lots_over : (f : List ℕ) (at : ℕ) → length f ≤ at → lots_from f at ≡ []
lots_over f at l = lots_step_lem f at ∙ simp (le-ltb at (length f) l)

-- by the record h that was read at at
module _ (f : List ℕ) (at : ℕ) (l : at < length f) (h : Result Head Broken) (eh : h ≡ record_at f at) where
  pub lots_refused : (n : Broken) → h ≡ Err n → lots_from f at ≡ []
  lots_refused n x = lots_step_lem f at ∙ simp (lt-ltb at (length f) l, ← eh, x)

  pub lots_more : (d : Head) → h ≡ Ok d → lots_from f at ≡ record { start = at; end = at + d.len } ∷ lots_from f (at + d.len)
  unfolding lots_from
  lots_more d x = lots_step_lem f at ∙ simp (lt-ltb at (length f) l, ← eh, x)

-- ---- `field_of_record`: each law takes `inv`, what the answer has to be, one way out

none_of : (f : List ℕ) (m n : ℕ) (ls : List Lot) → m ≡ 0 → within_lot f n (numbered m ls) ≡ None
none_of f m n [] e = ap (within_lot f n) (numbered_empty m)
none_of f m n (x ∷ ls) e = ap (within_lot f n) (numbered_none m x ls e)

module _ (f : List ℕ) (at m n : ℕ) (r : StdOption Found) (inv : field_from f at m n ≡ r) where
  pub search_none : m ≡ 0 → None ≡ r
  unfolding field_from
  search_none e = sym (none_of f m n (lots_from f at) e) ∙ inv

  none_left : lots_from f at ≡ [] → None ≡ r
  unfolding field_from
  none_left e = sym (ap (λ (ls : List Lot). within_lot f n (numbered m ls)) e ∙ ap (within_lot f n) (numbered_empty m)) ∙ inv

  pub search_over : length f ≤ at → None ≡ r
  search_over l = none_left (lots_over f at l)

  module _ (l : at < length f) (h : Result Head Broken) (eh : h ≡ record_at f at) where
    pub search_refused : (k : Broken) → h ≡ Err k → None ≡ r
    search_refused k x = none_left (lots_refused f at l h eh k x)

    module _ (d : Head) (x : h ≡ Ok d) where
      cons : within_lot f n (numbered m (record { start = at; end = at + d.len } ∷ lots_from f (at + d.len))) ≡ r
      unfolding field_from
      cons = sym (ap (λ (ls : List Lot). within_lot f n (numbered m ls)) (lots_more f at l h eh d x)) ∙ inv

      pub search_found : m ≡ 1 → (e : StdOption Found) → e ≡ field_within f at (at + d.len) n → e ≡ r
      search_found o e y = y ∙ (sym (ap (within_lot f n) (numbered_here m (record { start = at; end = at + d.len }) (lots_from f (at + d.len)) o)) ∙ cons)

      pub search_on : (m ≡ 0 → ⊥) → (m ≡ 1 → ⊥) → field_from f (at + d.len) (m - 1) n ≡ r
      unfolding field_from
      search_on z o = sym (ap (within_lot f n) (numbered_later m (record { start = at; end = at + d.len }) (lots_from f (at + d.len)) (omega arith))) ∙ cons

pub ruleset search_turn = (search_none, search_over, search_refused, search_found, search_on, record_in_lem, record_falls, record_word, arith)
