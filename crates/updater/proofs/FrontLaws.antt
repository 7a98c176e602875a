-- Laws of the functions over the first three records. Assumes nothing.
use Prim.Native.Nat.{ℕ, ◌+◌, ◌^◌, ◌≤◌, ◌<◌}
use mathlib.Core.Path.{◌≡◌, refl, sym, ap, ◌∙◌}
use mathlib.Core.Bool.{Bool, true, false, not}
use mathlib.Core.List.{List, ◌++◌}
use native.Mathlib.Omega.{arith}
use borrow.Author.Tests.{lt-ltb, le-ltb}
use lib.ListN.{length, length-take, length-drop}
use Rattle.std.specs.Prelude.{Result, Ok, Err}
use Rattle.base.specs.Choice.{pick}
use Rattle.base.specs.Check.{no, bind, fault, pass}
use Rattle.memory.specs.Wrote.{Wrote}
use Rattle.memory.proofs.WroteLaws.{then, wrote_length}
use Rattle.skeleton.specs.File.{Field}
use Rattle.skeleton.specs.Emit.{emit}
use Rattle.skeleton.specs.Leader.{good}
use Rattle.skeleton.specs.Place.{between}
use Rattle.skeleton.specs.Record.{record_at}
use Rattle.skeleton.specs.Shape.{Bounded}
use Rattle.skeleton.specs.declared.leader.Head.{Head}
use Rattle.skeleton.specs.declared.leader.Broken.{Broken}
use Rattle.skeleton.proofs.RecordLaws.{record_word}
use Rattle.rules.specs.General.{number8, merged}
use Rattle.rules.specs.Written.{field_width, written_length, number12}
use Rattle.rules.specs.Update.{general}
use Rattle.writing.specs.House.{in_house_form}
use Rattle.writing.proofs.HouseLaws.{house_carried}
use Rattle.updater.specs.Pieces.{There, Cut, Lies}
use Rattle.updater.specs.Told.{general_by}
use Rattle.updater.specs.declared.front.Piece.{Piece}

-- ---- a record found again

module _ (f : List ℕ) (p : ℕ) (q : Result Head Broken) (e : q ≡ record_at f p) where
  pub cut_good : (head : Head) → q ≡ Ok head → Cut f p (record { start = p; end = p + head.len; shape = head.shape })
  cut_good head x = record { long = head.len; there = sym e ∙ x; start = refl; behind = refl }

  pub cut_never : There f p → (n : Broken) → q ≡ Err n → (r : Piece) → Cut f p r
  cut_never t n x r = absurd (let y : Err n ≡ good t.0 t.1 = sym x ∙ e ∙ t.2 in let z : ◌≡◌ {A = ℕ} 0 1 = cc in omega arith)

pub ruleset found_ways = (cut_good, cut_never, record_word, arith)

-- ---- a piece that lies in its file

module _ (f : List ℕ) (r : Piece) (k : Lies f r) where
  pub lies_bounded : Bounded r.shape
  lies_bounded = k.bounded

  pub lies_runs : r.start ≤ r.end
  lies_runs = k.runs

  pub lies_in : r.end ≤ length f
  lies_in = k.inside

  pub lies_short : length (between f r.start r.end) ≤ 16777216
  lies_short = let s = k.short in simp (length-take, length-drop) (omega arith)

pub ruleset lies = (lies_bounded, lies_runs, lies_in, lies_short, arith)

-- ---- the general record: 8 and 12

module _ (old new : List Field) (b : Bool) (e : number8 old new ≡ pick b pass (no (fault 8 1 0))) where
  pub general_unlike : not b ≡ true → Err (fault 8 0 0) ≡ general_by (general old new)
  unfolding general_by general bind
  general_unlike x = go b e x
    where
      go : (c : Bool) → number8 old new ≡ pick c pass (no (fault 8 1 0)) → not c ≡ true → Err (fault 8 0 0) ≡ general_by (general old new)
      go true y z = absurd (let w : ◌≡◌ {A = ℕ} 0 1 = cc in omega arith)
      go false y z = rw y

  module _ (x : not b ≡ false) (n : ℕ) (en : n ≡ written_length (merged old new)) where
    eight : number8 old new ≡ pass
    eight = go b e x
      where
        go : (c : Bool) → number8 old new ≡ pick c pass (no (fault 8 1 0)) → not c ≡ false → number8 old new ≡ pass
        go true y z = y
        go false y z = absurd (let w : ◌≡◌ {A = ℕ} 0 1 = cc in omega arith)

    pub general_too_long : 99999 < n → Err (fault 12 0 0) ≡ general_by (general old new)
    unfolding general_by general bind number12
    general_too_long h = rw eight (rw (← en, lt-ltb 99999 n h))

    pub general_stands : n ≤ 99999 → Ok n ≡ general_by (general old new)
    unfolding general_by general bind number12
    general_stands h = rw eight (rw (← en, le-ltb 99999 n h) (ap Ok en))

pub ruleset general_ways = (general_unlike, general_too_long, general_stands)

-- ---- the lengths of the three

module _ (fs : List Field) (small : written_length fs ≤ 99999) (c : ℕ) (ec : c ≡ written_length (in_house_form false fs)) (n : ℕ) (h : n ≤ 99999) where
  short : c ≤ 99999
  short = omega (arith, ap written_length (house_carried fs))

  pub third_word : n + c < 2 ^ 64
  third_word = let s = short in omega arith

  module _ (gs : List Field) (less : written_length gs ≤ 99999) (a : ℕ) (ea : a ≡ written_length (in_house_form false gs)) where
    pub front_word : a + (n + c) < 2 ^ 64
    front_word = let s = short in omega (arith, ap written_length (house_carried gs))

    pub front_is : a + (n + c) ≡ written_length gs + (n + written_length fs)
    front_is = omega (arith, ap written_length (house_carried gs), ap written_length (house_carried fs))

pub ruleset front_ways = (third_word, front_word, front_is)

-- ---- written one behind the other

module _ (fs : List Field) (at : ℕ) (o : List ℕ) where
  pub carried_room : at + written_length fs ≤ length o → at + written_length (in_house_form false fs) ≤ length o
  carried_room h = omega (arith, ap written_length (house_carried fs))

  pub carried_wrote : (first : Bool) (n : ℕ) (o' : List ℕ)
      → (n ≡ at + written_length (in_house_form false fs)) × Wrote at (emit field_width field_width first (in_house_form false fs)) o n o'
      → (n ≡ at + written_length fs) × Wrote at (emit field_width field_width first fs) o n o'
  carried_wrote first n o' w = rw (house_carried fs) at w

pub ruleset carried_ways = (carried_room, carried_wrote, lies_bounded, lies_short)

module _ (gs ms fs : List Field) (o : List ℕ) (room : written_length gs + (written_length ms + written_length fs) ≤ length o) where
  pub room_first : 0 + written_length gs ≤ length o
  room_first = omega arith

  module _ (p : ℕ) (o' : List ℕ) (w : (p ≡ 0 + written_length gs) × Wrote 0 (emit field_width field_width true gs) o p o') where
    pub room_second : p + written_length ms ≤ length o'
    room_second = omega (arith, w.0, wrote_length w.1)

    module _ (q : ℕ) (o'' : List ℕ) (v : (q ≡ p + written_length ms) × Wrote p (emit field_width field_width false ms) o' q o'') where
      pub room_third : q + written_length fs ≤ length o''
      room_third = omega (arith, w.0, v.0, wrote_length w.1, wrote_length v.1)

      pub put_three : (r : ℕ) (e : List ℕ) → (r ≡ q + written_length fs) × Wrote q (emit field_width field_width false fs) o'' r e
          → Wrote 0 (emit field_width field_width true gs ++ (emit field_width field_width false ms ++ emit field_width field_width false fs)) o r e
      put_three r e x = then (then x.1 v.1) w.1

pub ruleset three_ways = (room_first, room_second, room_third, put_three)
