-- Laws of the first record whose key stood earlier. Assumes nothing.
use mathlib.Core.Path.{◌≡◌, refl, sym, ap, ◌∙◌}
use mathlib.Core.List.{List, [], ◌∷◌, ◌++◌}
use mathlib.Core.Bool.{Bool, true, false, true≢false}
use Prim.Native.Nat.{ℕ, zero, suc, ◌+◌, ◌-◌, ◌/◌, ◌^◌, ◌≤◌, ◌<◌}
use native.Mathlib.Omega.{arith}
use borrow.Author.Tests.{ne_eqb, eqb-true, eqb-false, ltb-true, ltb-false}
use lib.ListN.{length, get_or, take, drop, length-drop}
use lib.Seq.{drop-cons}
use lib.Dec.{eqb, ltb}
use Rattle.std.specs.Prelude.{Option, Some, None, Result, Ok, Err}
use Rattle.skeleton.specs.Place.{between, place_at, fields_at}
use Rattle.skeleton.specs.Record.{record_at}
use Rattle.skeleton.specs.declared.directory.Shape.{Shape}
use Rattle.skeleton.specs.declared.leader.Head.{Head}
use Rattle.skeleton.specs.declared.leader.Broken.{Broken}
use Rattle.skeleton.specs.declared.place.Place.{Place}
use Rattle.skeleton.proofs.PlaceLaws.{fields_more, fields_done, place_runs, place_in_lem}
use Rattle.skeleton.proofs.RecordLaws.{right, record_in_lem, record_falls, record_bounded}
use Rattle.rules.specs.ByTag.{front}
use Rattle.keys.specs.Bits.{flag_of}
use Rattle.keys.specs.Key.{key_at}
use Rattle.keys.specs.Listed.{key_of, keys_from, listed, seen_from}
use Rattle.keys.specs.Look.{look_at, Known}
use Rattle.keys.specs.Once.{Comes}
use Rattle.keys.specs.declared.look.Look.{Look}
use Rattle.keys.proofs.ListLaws.{listed_none, listed_later, listed_more, not_first, not_later, split_room, split_take, split_drop}
use Rattle.keys.proofs.LookLaws.{Found, FoundBy, found, keys_past, keys_refused, keys_good}
use Rattle.book.specs.Rcids.{spot_of, Noted, joined, Unmet}
use Rattle.book.specs.First.{Going, Fresh, Firstly, Reach, Foreseen, Sees, Ahead}
use Rattle.book.proofs.RcidLaws.{noted_none, noted_more, noted_says, unmet_zeros, unmet_sifted}

-- ---- lists

-- what is not among the first m is none of them, and not among fewer
none_of : (k m : ℕ) (l : List ℕ) (i : ℕ) → listed k (take m l) ≡ false → i < m → i < length l → get_or l i 0 ≡ k → ⊥
none_of k zero l i e h g x = absurd (omega arith)
none_of k (suc m) [] i e h g x = absurd (omega arith)
none_of k (suc m) (y ∷ ys) zero e h g x = not_first k y (take m ys) e x
none_of k (suc m) (y ∷ ys) (suc i) e h g x = none_of k m ys i (not_later k y (take m ys) e) (omega arith) (omega arith) x

none_fewer : (k m i : ℕ) (l : List ℕ) → listed k (take m l) ≡ false → i ≤ m → listed k (take i l) ≡ false
none_fewer k m zero l e h = listed_none k
none_fewer k zero (suc i) l e h = absurd (omega arith)
none_fewer k (suc m) (suc i) [] e h = listed_none k
none_fewer k (suc m) (suc i) (y ∷ ys) e h =
    listed_later k y (take i ys) (not_first k y (take m ys) e) ∙ none_fewer k m i ys (not_later k y (take m ys) e) (omega arith)

pub known_fewer : (f : List ℕ) (start m i : ℕ) → Known f start m → i ≤ m → Known f start i
unfolding seen_from
known_fewer f start m i k h = let e = k.enough in record { enough = omega arith; keyed = none_fewer 0 m i (keys_from f start) k.keyed h }

-- ---- none so far

pub fresh_none : (f : List ℕ) (start : ℕ) → Fresh f start 0
unfolding Fresh
fresh_none f start i h = absurd (omega arith)

pub fresh_more : (f : List ℕ) (start x key : ℕ) → Fresh f start x → get_or (keys_from f start) x 0 ≡ key → (b : Bool) → b ≡ seen_from f start x key → b ≡ false
    → Fresh f start (x + 1)
unfolding Fresh
fresh_more f start x key fr k b e z i h = go (ltb i x) refl
  where
    go : (c : Bool) → ltb i x ≡ c → seen_from f start i (get_or (keys_from f start) i 0) ≡ false
    go true y = fr i (ltb-true i x y)
    go false y =
        let l = ltb-false i x y in
        let s : i ≡ x = omega arith in
        rw (s, k) (sym e ∙ z)

pub until_end : (f : List ℕ) (start e y : ℕ) → Fresh f start y → y ≤ e → e ≤ y → Firstly f start e e
until_end f start e y fr h g = let s : y ≡ e = omega arith in record { below = omega arith; fresh = rw (← s) fr; again = λ z. absurd (omega arith) }

-- ---- a walk over records that have keys

module _ (f : List ℕ) (start m p x : ℕ) (g : Going f start m p x) where
  pub going_known : Known f start x
  going_known = known_fewer f start m x g.known g.below

  -- at a look before the record with the number z
  module _ (z : ℕ) (lz : x < z) (hz : z ≤ m) (e : Option Look) (en : e ≡ look_at f p) where
    h : x < m
    h = omega arith

    room : x < length (keys_from f start)
    room = let k = g.known.enough in omega arith

    parts : keys_from f p ≡ get_or (keys_from f start) x 0 ∷ drop (suc x) (keys_from f start)
    parts = sym g.rest ∙ drop-cons (keys_from f start) x 0 room

    some : get_or (keys_from f start) x 0 ≡ 0 → ⊥
    unfolding seen_from
    some = none_of 0 m (keys_from f start) x g.known.keyed h room

    here : FoundBy f p e
    here = rw en (found f p _ _ parts some)

    nothing : e ≡ None → ⊥
    nothing y = rw y at here

    pub gather_nothing : e ≡ None → (q j : ℕ) → Going f start m q j
    gather_nothing y q j = absurd (nothing y)

    pub mark_nothing : e ≡ None → (b l t : List ℕ) → Noted b l t
    mark_nothing y b l t = absurd (nothing y)

    pub until_nothing : e ≡ None → (j r : ℕ) → Firstly f start j r
    until_nothing y j r = absurd (nothing y)

    module _ (look : Look) (y : e ≡ Some look) where
      one : Found f p look.len look.key
      one = rw y at here

      onward : drop x (keys_from f start) ≡ look.key ∷ keys_from f (p + look.len)
      onward = g.rest ∙ one.keys

      pub going_key : get_or (keys_from f start) x 0 ≡ look.key
      going_key = let c = sym parts ∙ one.keys in cc

      pub going_in : p + look.len ≤ length f
      going_in = one.inside

      pub going_word : p + look.len < 2 ^ 64
      going_word = let i = one.inside in let s = g.small in omega arith

      pub going_count : x + 1 < 2 ^ 64
      going_count = let i = g.inside in let s = g.small in let c = g.counted in omega arith

      pub going_more : Going f start m (p + look.len) (x + 1)
      going_more =
          let l = one.long in
          let c = g.counted in
          record {
            small = g.small;
            known = g.known;
            below = omega arith;
            counted = omega arith;
            inside = one.inside;
            rest = split_drop (keys_from f start) x look.key (keys_from f (p + look.len)) onward;
          }

      pub going_taken : take (x + 1) (keys_from f start) ≡ take x (keys_from f start) ++ (look.key ∷ [])
      going_taken = split_take (keys_from f start) x look.key (keys_from f (p + look.len)) onward

      pub going_fresh : Fresh f start x → (b : Bool) → b ≡ seen_from f start x look.key → b ≡ false → Fresh f start (x + 1)
      going_fresh fr b eb w = fresh_more f start x look.key fr going_key b eb w

      pub going_again : Fresh f start x → (b : Bool) → b ≡ seen_from f start x look.key → b ≡ true → Firstly f start z x
      going_again fr b eb w = record { below = omega arith; fresh = fr; again = λ _. rw going_key (sym eb ∙ w) }

      pub going_met : (b t t' : List ℕ) → Noted b (take x (keys_from f start)) t → t' ≡ joined b t look.key → Noted b (take (x + 1) (keys_from f start)) t'
      going_met b t t' ms w = rw going_taken (noted_more b (take x (keys_from f start)) t t' look.key ms w)

pub gather_over : (f : List ℕ) (start m q y e : ℕ) → Going f start m q y → y ≤ e → e ≤ y → Going f start m q e
gather_over f start m q y e g h l = let s : y ≡ e = omega arith in rw s at g

pub mark_over : (b l t : List ℕ) (y x : ℕ) → Noted b (take y l) t → y ≤ x → x ≤ y → Noted b (take x l) t
mark_over b l t y x ms h g = let s : y ≡ x = omega arith in rw s at ms

pub met_start : (f : List ℕ) (start : ℕ) (b t : List ℕ) → Unmet t → Noted b (take 0 (keys_from f start)) t
met_start f start b t u = noted_none b t u

-- ---- `met`

pub met_flag : (f : List ℕ) (start x key : ℕ) (b t : List ℕ) (j : ℕ) → Noted b (take x (keys_from f start)) t → j ≡ spot_of b t key
    → 0 < j → j / 8 < length t → (r : Bool) → r ≡ flag_of t j → r ≡ seen_from f start x key
unfolding seen_from
met_flag f start x key b t j ms e y h r er = er ∙ noted_says b (take x (keys_from f start)) t key j ms e y h

-- ---- `first_repeat`

pub repeat_found : (f : List ℕ) (start m e r : ℕ) → e ≤ m → Firstly f start e r → r < e → Firstly f start m r
repeat_found f start m e r h s l = record { below = omega arith; fresh = s.fresh; again = λ _. s.again l }

pub repeat_none : (f : List ℕ) (start e r : ℕ) → Firstly f start e r → e ≤ r → Fresh f start e
repeat_none f start e r s l = let b = s.below in let q : r ≡ e = omega arith in rw q at s.fresh

pub repeat_over : (f : List ℕ) (start m x : ℕ) → Fresh f start x → x ≤ m → m ≤ x → Firstly f start m m
repeat_over f start m x = until_end f start m x

-- ---- `reach`

pub reach_start : (f : List ℕ) (start : ℕ) → length f ≤ 16777216 → start ≤ length f → Going f start 0 start 0
unfolding seen_from
reach_start f start s i = record {
  small = s;
  known = record { enough = omega arith; keyed = listed_none 0 };
  below = omega arith;
  counted = omega arith;
  inside = i;
  rest = refl;
}

module _ (f : List ℕ) (start p m : ℕ) (g : Going f start m p m) where
  few : m ≤ 16777216
  few = let s = g.small in let c = g.counted in let i = g.inside in omega arith

  ended : keys_from f p ≡ [] → Reach f start m
  ended e = record {
    known = g.known;
    few = few;
    ends = λ l. absurd (omega (arith, length-drop m (keys_from f start), ap length (g.rest ∙ e)));
  }

  module _ (h : Result Head Broken) (eh : h ≡ record_at f p) where
    -- no record: the file has ended, or one is refused
    pub reach_over : (n : Broken) → h ≡ Err n → Reach f start m
    reach_over n x = go (ltb p (length f)) refl
      where
        go : (t : Bool) → ltb p (length f) ≡ t → Reach f start m
        go true y = ended (keys_refused f p (ltb-true p (length f) y) h eh n x)
        go false y = ended (keys_past f p (ltb-false p (length f) y))

    pub reach_word : (d : Head) → h ≡ Ok d → p + d.len < 2 ^ 64
    reach_word d x = let i = record_in_lem f p h eh d x in let s = g.small in omega arith

    pub reach_count : m + 1 < 2 ^ 64
    reach_count = let c = few in omega arith

    module _ (d : Head) (x : h ≡ Ok d) (k : ℕ) (ek : k ≡ key_of (fields_at (between f p (p + d.len)) d.shape 24)) where
      before_end : p < length f
      before_end = let w = right f p h eh d x in let l = w.long in let i = w.inside in omega arith

      next : drop m (keys_from f start) ≡ k ∷ keys_from f (p + d.len)
      next = rw ek (g.rest ∙ keys_good f p before_end h eh d x)

      space : m < length (keys_from f start)
      space = split_room (keys_from f start) m k (keys_from f (p + d.len)) next

      pub reach_keyless : k ≡ 0 → Reach f start m
      reach_keyless z =
          let c = sym (drop-cons (keys_from f start) m 0 space) ∙ next in
          let s : get_or (keys_from f start) m 0 ≡ k = cc in
          record { known = g.known; few = few; ends = λ _. s ∙ z }

      pub reach_more : (k ≡ 0 → ⊥) → Going f start (m + 1) (p + d.len) (m + 1)
      unfolding seen_from
      reach_more n =
          let w = right f p h eh d x in
          let long = w.long in
          let c = g.counted in
          let s = space in
          let t = split_take (keys_from f start) m k (keys_from f (p + d.len)) next in
          record {
            small = g.small;
            known = record {
              enough = omega arith;
              keyed = rw (t, listed_more 0 k (take m (keys_from f start)), g.known.keyed, ne_eqb k 0 n) refl;
            };
            below = omega arith;
            counted = omega arith;
            inside = w.inside;
            rest = split_drop (keys_from f start) m k (keys_from f (p + d.len)) next;
          }

-- ---- `foresee`

pub foreseen_of : (f : List ℕ) (start m r : ℕ) → Reach f start m → Firstly f start m r → Foreseen f start r
foreseen_of f start m r c s =
    let b = s.below in
    let w = c.few in
    record { few = omega arith; fresh = s.fresh; again = go (ltb r m) refl }
  where
    go : (t : Bool) → ltb r m ≡ t → r < length (keys_from f start) → (get_or (keys_from f start) r 0 ≡ 0 → ⊥) → seen_from f start r (get_or (keys_from f start) r 0) ≡ true
    go true y l n = s.again (ltb-true r m y)
    go false y l n =
        let g = ltb-false r m y in
        let b = s.below in
        let q : m ≡ r = omega arith in
        absurd (n (rw (← q) (c.ends (omega arith))))

pub reach_going : (f : List ℕ) (start m : ℕ) → Reach f start m → length f ≤ 16777216 → start ≤ length f → Going f start m start 0
reach_going f start m c s i =
    record { small = s; known = c.known; below = omega arith; counted = omega arith; inside = i; rest = refl }

-- ---- `stood_by`

module _ (f : List ℕ) (start m k d : ℕ) (s : Foreseen f start d) (fr : Fresh f start m) (kn : Known f start m) (c : Comes f start m k) where
  pub foreseen_says : eqb d m ≡ seen_from f start m k
  unfolding Fresh seen_from
  foreseen_says = go (eqb d m) refl
    where
      go : (b : Bool) → eqb d m ≡ b → b ≡ listed k (take m (keys_from f start))
      go true y =
          let q : d ≡ m = eqb-true d m y in
          let a = rw (q, c.next) at s.again in
          sym (a c.there c.keyed)
      go false y = sym (later (ltb d m) refl)
        where
          later : (t : Bool) → ltb d m ≡ t → listed k (take m (keys_from f start)) ≡ false
          later true z =
              let l = ltb-true d m z in
              let e = kn.enough in
              let a = s.again (omega arith) (none_of 0 m (keys_from f start) d kn.keyed l (omega arith)) in
              absurd (true≢false (sym a ∙ fr d l))
          later false z =
              let l = ltb-false d m z in
              let n = eqb-false d m y in
              let o : m < d = omega (arith, n) in
              rw c.next at (s.fresh m o)

pub sees_not : (f : List ℕ) (start n : ℕ) → n < 7 → Sees f start (n + 1)
unfolding Sees
sees_not f start n h g = absurd (omega arith)

pub sees_now : (f : List ℕ) (start d : ℕ) → Foreseen f start d → Sees f start (d + 8)
unfolding Sees
sees_now f start d s g = let e : d + 8 - 8 ≡ d = omega arith in rw e s

pub sees_before : (f : List ℕ) (start n : ℕ) → Sees f start n → 8 ≤ n → Foreseen f start (n - 8)
unfolding Sees
sees_before f start n s h = s h

pub ahead_more : (f : List ℕ) (start m k w w' : ℕ) → Ahead f start m w → Comes f start m k → Sees f start w' → (b : Bool) → b ≡ seen_from f start m k → b ≡ false
    → Ahead f start (m + 1) w'
ahead_more f start m k w w' a c s b e z = record { fresh = fresh_more f start m k a.fresh c.next b e z; sees = s }

pub ahead_start : (f : List ℕ) (start : ℕ) → Ahead f start 0 0
unfolding Sees
ahead_start f start = record { fresh = fresh_none f start; sees = λ h. absurd (omega arith) }

pub by_foreseen : (f : List ℕ) (start m k n d : ℕ) → Ahead f start m n → Foreseen f start d → Known f start m → Comes f start m k → eqb d m ≡ seen_from f start m k
by_foreseen f start m k n d a s kn c = foreseen_says f start m k d s a.fresh kn c

pub by_ahead : (f : List ℕ) (start m k n : ℕ) → Ahead f start m n → 8 ≤ n → Known f start m → Comes f start m k → eqb (n - 8) m ≡ seen_from f start m k
by_ahead f start m k n a h kn c = foreseen_says f start m k (n - 8) (sees_before f start n a.sees h) a.fresh kn c

pub ahead_sees : (f : List ℕ) (start m n : ℕ) → Ahead f start m n → Sees f start n
ahead_sees f start m n a = a.sees

pub few_foreseen : (f : List ℕ) (start d : ℕ) → Foreseen f start d → d + 8 < 2 ^ 64
few_foreseen f start d s = let w = s.few in omega arith

-- ---- `first_key`

module _ (r : List ℕ) (h : Shape) (e : Option Place) (en : e ≡ place_at r h 24) where
  pub first_there : (p : Place) → e ≡ Some p → (k : ℕ) → k ≡ key_at (between r p.start p.end) 0 → k ≡ key_of (fields_at r h 24)
  unfolding key_of front
  first_there p x k z = rw (fields_more r h 24 e en p x) z

  pub first_none : e ≡ None → 0 ≡ key_of (fields_at r h 24)
  unfolding key_of front key_at
  first_none x = rw (fields_done r h 24 e en x) refl

-- ---- the ways of the code

pub ruleset first_key_ways = (first_there, first_none, place_runs, place_in_lem, arith)

pub ruleset reach_turn = (reach_over, reach_keyless, reach_more, reach_word, reach_count, record_in_lem, record_falls, record_bounded, arith)

pub ruleset gather_turn = (gather_nothing, gather_over, going_in, going_word, going_count, going_more, unmet_zeros, unmet_sifted, arith)

pub ruleset mark_turn = (mark_nothing, mark_over, going_in, going_word, going_count, going_more, going_met, arith)

pub ruleset met_ways = (met_flag, arith)

pub ruleset until_turn = (going_known, until_nothing, going_in, going_word, going_count, going_more, going_met, going_fresh, going_again, until_end, arith)

pub ruleset repeat_turn = (repeat_found, repeat_none, repeat_over, met_start, arith)

pub ruleset stood_by_ways = (by_foreseen, by_ahead, ahead_sees, sees_not, sees_now, few_foreseen, arith)
