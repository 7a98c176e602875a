-- Laws of a directory that was found right: a walk that wants tags alone reads no number. Assumes nothing.
use mathlib.Core.Path.{◌≡◌, refl, sym}
use mathlib.Core.List.{List}
use mathlib.Core.Bool.{Bool, true, false}
use Prim.Native.Nat.{ℕ, ◌+◌, ◌-◌, ◌^◌, ◌≤◌, ◌<◌}
use native.Mathlib.Omega.{arith}
use lib.ListN.{length, get_or}
use Rattle.skeleton.specs.Leader.{good}
use Rattle.skeleton.specs.Directory.{tag_at, entry_at, lies}
use Rattle.skeleton.specs.Place.{between, at_place, place_at}
use Rattle.skeleton.specs.Record.{record_at}
use Rattle.skeleton.specs.RightFrom.{RightFrom}
use Rattle.skeleton.specs.declared.directory.Entry.TheVariants.{Field, End, Bad}
use Rattle.skeleton.specs.declared.directory.Shape.{Shape}
use Rattle.skeleton.specs.declared.place.Place.{Place}
use Rattle.std.specs.Prelude.{Option, Some, None}
use Rattle.skeleton.proofs.DirectoryLaws.{Entered, by_entry, lies_in, dir_bad, dir_not, dir_more, entry_end}
use Rattle.skeleton.proofs.PlaceLaws.{held, place_end, place_there}
use Rattle.skeleton.proofs.RecordLaws.{right}

-- a record that is right has a directory that is right from its first entry on
pub right_start : (f : List ℕ) (p len : ℕ) (h : Shape) → record_at f p ≡ good len h → RightFrom (between f p (p + len)) h 24
right_start f p len h e = record { at = 0; found = (right f p _ refl (record { len = len; shape = h }) e).walked }

-- a field whose entry stands at q, and the directory behind it
pub record Next (r : List ℕ) (h : Shape) (q : ℕ) : Type 0 where
  pub start : ℕ
  pub end : ℕ
  pub place : at_place (tag_at r q) start end (q + (4 + h.a + h.b)) ≡ place_at r h q
  pub fits : q + (4 + h.a + h.b) ≤ length r
  pub on : RightFrom r h (q + (4 + h.a + h.b))

module _ (r : List ℕ) (h : Shape) (q : ℕ) (k : RightFrom r h q) where
  no_bad : Bad ≡ entry_at r h.a h.b q → ⊥
  no_bad en = omega (arith, dir_bad r h.base h.a h.b q k.at 0 k.found _ en refl)

  pub right_in : q < length r
  right_in =
      by_entry (λ e. e ≡ entry_at r h.a h.b q → q < length r) r h.a h.b q
      (λ en. absurd (no_bad en)) (λ l _ _. l) (λ pos len e _. let f = e.fits in omega arith) refl

  pub right_done : get_or r q 0 ≡ 30 → None ≡ place_at r h q
  right_done y = place_end r h q End (entry_end r h.a h.b q right_in y) refl

  module _ (n : get_or r q 0 ≡ 30 → ⊥) where
    next_by : (pos len : ℕ) → Entered r h.a h.b q pos len
        → Field (tag_at r q) pos len (q + (4 + h.a + h.b)) ≡ entry_at r h.a h.b q
        → (t : Bool) → t ≡ lies r h.base k.at pos len → Next r h q
    next_by pos len e en false y =
        absurd (omega (arith, dir_not r h.base h.a h.b q k.at 0 k.found _ en _ pos len _ refl false y refl))
    next_by pos len e en true y =
        let l = lies_in r h.base k.at pos len (sym y) in
        record {
          start = h.base + pos;
          end = h.base + pos + len - 1;
          place = place_there r h q _ en _ pos len _ refl l.not_empty l.inside;
          fits = e.fits;
          on = record { at = k.at + len; found = dir_more r h.base h.a h.b q k.at 0 k.found _ en _ pos len _ refl true y refl };
        }

    pub right_next : Next r h q
    right_next =
        by_entry (λ e. e ≡ entry_at r h.a h.b q → Next r h q) r h.a h.b q
        (λ en. absurd (no_bad en)) (λ _ y _. absurd (n y)) (λ pos len e en. next_by pos len e en _ refl) refl

    pub right_tag : q + 4 ≤ length r
    right_tag = let f = right_next.fits in omega arith

    pub right_on : RightFrom r h (q + (4 + h.a + h.b))
    right_on = right_next.on

    pub right_word : length r < 2 ^ 64 → q + (4 + h.a + h.b) < 2 ^ 64
    right_word w = let f = right_next.fits in omega arith

    pub right_falls : length r - (q + (4 + h.a + h.b)) < length r - q
    right_falls = let f = right_next.fits in omega arith

-- behind a field that was read
pub right_after : (r : List ℕ) (h : Shape) (q : ℕ) → RightFrom r h q → (e : Option Place) → e ≡ place_at r h q → (d : Place)
    → e ≡ Some d → RightFrom r h d.next
right_after r h q k e en d x =
    let l = held r h q e en d x in
    rw l.next_is (right_on r h q k l.opens)

-- what a walk over the tags of a right directory wants besides the laws of its own definition
pub ruleset right_bounds = (right_in, right_tag, right_on, right_word, right_falls)
