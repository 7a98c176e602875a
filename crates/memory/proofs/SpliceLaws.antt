-- Laws of splices. Assumes nothing.
use mathlib.Core.Path.{◌≡◌, refl, sym, ◌∙◌}
use mathlib.Core.List.{List, [], ◌++◌, append_assoc}
use Prim.Native.Nat.{ℕ, ◌+◌, ◌-◌, ◌≤◌, ◌<◌}
use native.Mathlib.Nat.{add-zero}
use native.Mathlib.Omega.{arith}
use lib.ListN.{length, take, drop, get_or, length-append, length-take, length-drop}
use lib.Seq.{take-take, take_at, length-take-le, get_or-append-add}
use Rattle.base.proofs.ListLaws.{drop_take}
use Rattle.memory.specs.Put.{part, put}
use Rattle.memory.specs.Splice.{spliced, spliced_in, opened}
use Rattle.memory.proofs.PutLaws.{length_put, put_is, put_put_last_first, length_part, get_d_part, get_d_put_below, get_d_put_in}

-- ---- on the list in use

-- the length afterwards
pub length_spliced : (at del : ℕ) (ys xs : List ℕ) → at + del ≤ length xs → length (spliced at del ys xs) ≡ length xs - del + length ys
unfolding spliced
length_spliced at del ys xs h = simp (length-append, length-take, length-drop) (omega arith)

-- ---- in place

-- the slice's length stays
pub length_spliced_in : (used at del : ℕ) (ys w : List ℕ) → length (spliced_in used at del ys w) ≡ length w
unfolding spliced_in
length_spliced_in used at del ys w = length_put at (ys ++ part (at + del) (used - (at + del)) w) w

-- the tail is moved, then ys are stored before it
pub spliced_in_stored : (used at del n : ℕ) (ys w : List ℕ) {v e : List ℕ} → length ys ≡ n → v ≡ put (at + n) (part (at + del) (used - (at + del)) w) w → e ≡ put at ys v
    → e ≡ spliced_in used at del ys w
unfolding spliced_in
spliced_in_stored used at del n ys w {v} {e} size moved stored =
    stored ∙ rw (moved, ← size) (put_put_last_first at ys (part (at + del) (used - (at + del)) w) w)

-- a gap that is opened, then filled
pub opened_put : (used at n : ℕ) (ys w : List ℕ) → length ys ≡ n → put at ys (opened used at n w) ≡ spliced_in used at 0 ys w
unfolding opened
opened_put used at n ys w size = spliced_in_stored used at 0 n ys w size (rw add-zero) refl

-- a splice in place of n elements ys for `del` others, inside what is in use and with room
module _ (used at del n : ℕ) (ys w : List ℕ) (size : length ys ≡ n) (inside : at + del ≤ used) (fits : used ≤ length w) (room : used - del + n ≤ length w) where
  -- what is moved
  tail : List ℕ
  tail = part (at + del) (used - (at + del)) w

  -- how many that are
  length_tail : length tail ≡ used - (at + del)
  unfolding tail
  length_tail = length_part (at + del) (used - (at + del)) w (omega arith)

  -- what is in use afterwards is the spliced list
  pub take_spliced_in : {r : ℕ} {e : List ℕ} → r ≡ used - del + n → e ≡ spliced_in used at del ys w → take r e ≡ spliced at del ys (take used w)
  unfolding spliced_in spliced tail part
  take_spliced_in {r} {e} next is =
      let end : at + length (ys ++ tail) ≡ r = simp length-append (omega (arith, length_tail)) in
      let front : length (take at w ++ (ys ++ tail)) ≡ r = length-append (take at w) (ys ++ tail) ∙ omega (arith, length-take-le at w (omega arith)) in
      rw (is, put_is at (ys ++ tail) w (omega arith), take_at (take at w ++ (ys ++ tail)) (drop (at + length (ys ++ tail)) w) r front, take-take at used w (omega arith), drop_take)
      (sym (append_assoc (take at w) ys tail))

  -- an element behind the place stands behind ys
  pub spliced_in_after : (i : ℕ) → at + del + i < used → get_or (spliced_in used at del ys w) (at + n + i) 0 ≡ get_or w (at + del + i) 0
  unfolding spliced_in tail
  spliced_in_after i h =
      let end : length (ys ++ tail) ≡ n + (used - (at + del)) = simp length-append (omega (arith, length_tail)) in
      let place : at + n + i ≡ at + (length ys + i) = omega arith in
      rw place (get_d_put_in (length ys + i) at (ys ++ tail) w (omega arith) (omega arith))
      ∙ get_or-append-add ys tail i 0
      ∙ get_d_part (at + del) (used - (at + del)) i w (omega arith)

-- what is in use after elements were taken out
pub take_closed : (used at del : ℕ) (w : List ℕ) {r : ℕ} {e : List ℕ} → at + del ≤ used → used ≤ length w → r ≡ used - del → e ≡ spliced_in used at del [] w
    → take r e ≡ spliced at del [] (take used w)
take_closed used at del w {r} {e} inside fits next is =
    let grown : r ≡ used - del + 0 = omega arith in
    take_spliced_in used at del 0 [] w refl inside fits (omega arith) grown is

-- an element before the place stays
pub spliced_in_before : (used at del i : ℕ) (ys w : List ℕ) → i < at → get_or (spliced_in used at del ys w) i 0 ≡ get_or w i 0
unfolding spliced_in
spliced_in_before used at del i ys w h = get_d_put_below at i (ys ++ part (at + del) (used - (at + del)) w) w h

-- ---- a gap

-- the slice's length stays
pub length_opened : (used at n : ℕ) (w : List ℕ) → length (opened used at n w) ≡ length w
unfolding opened
length_opened used at n w = length_put (at + n) (part at (used - at) w) w

-- an element before the gap stays
pub opened_before : (used at n i : ℕ) (w : List ℕ) → i < at → get_or (opened used at n w) i 0 ≡ get_or w i 0
unfolding opened
opened_before used at n i w h = get_d_put_below (at + n) i (part at (used - at) w) w (omega arith)

-- an element behind the gap has moved up by its width
pub opened_after : (used at n i : ℕ) (w : List ℕ) → at + i < used → used + n ≤ length w → get_or (opened used at n w) (at + n + i) 0 ≡ get_or w (at + i) 0
unfolding opened
opened_after used at n i w h room =
    let size : length (part at (used - at) w) ≡ used - at = length_part at (used - at) w (omega arith) in
    get_d_put_in i (at + n) (part at (used - at) w) w (omega arith) (omega arith) ∙ get_d_part at (used - at) i w (omega arith)
