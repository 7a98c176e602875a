-- Laws of the table of places. Assumes nothing.
use mathlib.Core.Path.{◌≡◌, refl, sym, ap, ◌∙◌}
use mathlib.Core.List.{List, ◌∷◌}
use mathlib.Core.Bool.{Bool, true, false}
use Prim.Native.Nat.{ℕ, ◌+◌, ◌-◌, ◌^◌, ◌≤◌, ◌<◌}
use native.Mathlib.Omega.{arith}
use borrow.Author.Tests.{eqb-true, eqb-false}
use lib.ListN.{length, get_or, take, drop, set, length-set, length-drop, replicate, length-replicate, get_or-replicate}
use lib.Seq.{take_all, get_or-set_same, get_or-set_other, set_out}
use lib.Dec.{eqb, ltb}
use Rattle.std.specs.Prelude.{Option, Some, None}
use Rattle.memory.specs.Hold.{zeros}
use Rattle.memory.proofs.HoldLaws.{length_zeros}
use Rattle.keys.specs.Listed.{keys_from}
use Rattle.keys.specs.Look.{look_at, Sound}
use Rattle.keys.specs.Bits.{flag_of}
use Rattle.keys.specs.Order.{ascends, Ascending, ascended_to, sealed}
use Rattle.keys.specs.Slots.{Slots, noted}
use Rattle.keys.specs.Places.{here, over}
use Rattle.keys.specs.Table.{Tail, Tails, Laid}
use Rattle.keys.specs.declared.look.Look.{Look}
use Rattle.keys.proofs.ListLaws.{split_take, split_drop}
use Rattle.keys.proofs.LookLaws.{keys_past}
use Rattle.keys.proofs.SoundLaws.{Next, sound_next, sound_over, sound_word, sound_falls, sound_bounds}
use Rattle.keys.proofs.PlaceLaws.{leads_sound, leads_then}
use Rattle.keys.proofs.SlotLaws.{slots_none, slots_more, noted_long}
use Rattle.keys.proofs.OrderLaws.{ascended_still, sealed_long, slots_sealed, unsealed_none, unsealed_more, sealed_so}

-- ---- places of records

pub tail_start : (f : List ℕ) (start : ℕ) → Sound f start → Tail f start start
tail_start f start s = record { sound = s; leads = here }

pub tail_sound : (f : List ℕ) (start p : ℕ) → Tail f start p → Sound f p
tail_sound f start p l = leads_sound l.leads l.sound

-- a table that names one place everywhere
pub tails_same : (f : List ℕ) (start n : ℕ) → Sound f start → Tails f start (replicate n start)
unfolding Tails
tails_same f start n s j h =
    let g : j < n = omega (arith, length-replicate n start) in
    rw (get_or-replicate n j start 0 g) (tail_start f start s)

-- a table in which one entry is another such place
tails_set_at : (f : List ℕ) (start : ℕ) (t : List ℕ) (j p i : ℕ) (b : Bool) → eqb i j ≡ b
    → Tails f start t → Tail f start p → i < length t → Tail f start (get_or (set t j p) i 0)
unfolding Tails
tails_set_at f start t j p i true e ts l h =
    let z : i ≡ j = eqb-true i j e in
    let g : j < length t = omega arith in
    rw (z, get_or-set_same t j p 0 g) l
tails_set_at f start t j p i false e ts l h = rw (get_or-set_other t j i p 0 (eqb-false i j e)) (ts i h)

pub tails_set : (f : List ℕ) (start : ℕ) (t u : List ℕ) (j p : ℕ) → Tails f start t → Tail f start p → u ≡ set t j p → Tails f start u
unfolding Tails
tails_set f start t u j p ts l e =
    rw e (λ i h. tails_set_at f start t j p i (eqb i j) refl ts l (omega (arith, length-set t j p)))

pub set_long : (t u : List ℕ) (j p n : ℕ) → u ≡ set t j p → length t ≡ n → length u ≡ n
set_long t u j p n e h = ap length e ∙ length-set t j p ∙ h

-- ---- `put`

pub put_past : (t : List ℕ) (i v : ℕ) → length t ≤ i → t ≡ set t i v
put_past t i v h = sym (set_out t i v h)

-- ---- `spread`: i records were passed, the next begins at p, and the map has the keys of those, and not yet the flag that says that they ascend

pub record Passed (f : List ℕ) (start i p : ℕ) (map : List ℕ) : Type 0 where
  pub tail : Tail f start p
  pub counted : i ≤ p
  pub rest : drop i (keys_from f start) ≡ keys_from f p
  pub slots : Slots (take i (keys_from f start)) map
  pub unsealed : flag_of map 262144 ≡ false

pub passed_none : (f : List ℕ) (start : ℕ) (map : List ℕ) (n : ℕ) → Sound f start → map ≡ zeros n → Passed f start 0 start map
passed_none f start map n s e = record { tail = tail_start f start s; counted = omega arith; rest = refl; slots = rw e (slots_none n); unsealed = rw e (unsealed_none n) }

pub passed_sound : (f : List ℕ) (start i p : ℕ) (map : List ℕ) → Passed f start i p map → Sound f p
passed_sound f start i p map s = tail_sound f start p s.tail

pub passed_tail : (f : List ℕ) (start i p : ℕ) (map : List ℕ) → Passed f start i p map → Tail f start p
passed_tail f start i p map s = s.tail

pub passed_count : (f : List ℕ) (start i p : ℕ) (map : List ℕ) → Passed f start i p map → i ≤ 16777216
passed_count f start i p map s = let a = s.counted in let b = passed_sound f start i p map s in let c = b.inside in let d = b.small in omega arith

pub passed_word : (f : List ℕ) (start i p : ℕ) (map : List ℕ) → Passed f start i p map → i + 1 < 2 ^ 64
passed_word f start i p map s = let a = passed_count f start i p map s in omega arith

pub passed_place : (f : List ℕ) (start i p : ℕ) (map : List ℕ) → Passed f start i p map → p < 2 ^ 32
passed_place f start i p map s = let b = passed_sound f start i p map s in let c = b.inside in let d = b.small in omega arith

module _ (f : List ℕ) (start i p : ℕ) (map : List ℕ) (s : Passed f start i p map) (e : Option Look) (en : e ≡ look_at f p) where
  pub passed_more : (look : Look) → e ≡ Some look → (map' : List ℕ) → map' ≡ noted map look.key → Passed f start (i + 1) (p + look.len) map'
  passed_more look x map' em =
      let n = sound_next f p (passed_sound f start i p map s) e en look x in
      let k : drop i (keys_from f start) ≡ look.key ∷ keys_from f (p + look.len) = s.rest ∙ n.found.keys in
      let c = s.counted in
      let l = n.found.long in
      record {
        tail = record { sound = s.tail.sound; leads = leads_then s.tail.leads (over (sym en ∙ x) here) };
        counted = omega arith;
        rest = split_drop (keys_from f start) i look.key (keys_from f (p + look.len)) k;
        slots = rw (split_take (keys_from f start) i look.key (keys_from f (p + look.len)) k) (slots_more (take i (keys_from f start)) map map' look.key s.slots em);
        unsealed = rw em (unsealed_more map look.key s.unsealed);
      }

  pub passed_fits : (look : Look) → e ≡ Some look → p + look.len < 2 ^ 64
  passed_fits look x = sound_word f p (passed_sound f start i p map s) e en look x

  pub passed_falls : (look : Look) → e ≡ Some look → length f - (p + look.len) < length f - p
  passed_falls look x = sound_falls f p (passed_sound f start i p map s) e en look x

  pub passed_over : e ≡ None → length f ≤ p
  passed_over x = sound_over f p (passed_sound f start i p map s) e en x

-- the keys ascended up to last: then they all ascend where the others go on so
pub record Climbing (f : List ℕ) (start p last : ℕ) (so : Bool) : Type 0 where
  pub rest : so ≡ true → ascends last (keys_from f p) ≡ ascends 0 (keys_from f start)

pub climbing_none : (f : List ℕ) (start : ℕ) → Climbing f start start 0 true
climbing_none f start = record { rest = λ _. refl }

ascends_on : (last key : ℕ) (l : List ℕ) → ltb last key ≡ true → ascends last (key ∷ l) ≡ ascends key l
unfolding ascends
ascends_on last key l h = simp h

pub climbing_more : (f : List ℕ) (start i p : ℕ) (map : List ℕ) → Passed f start i p map → (e : Option Look) → e ≡ look_at f p → (look : Look) → e ≡ Some look
    → (last : ℕ) (so so' : Bool) → Climbing f start p last so → so' ≡ ascended_to so last look.key → Climbing f start (p + look.len) look.key so'
climbing_more f start i p map s e en look x last so so' c z = record {
  rest = λ h.
      let b = ascended_still last look.key so (sym z ∙ h) in
      let k = (sound_next f p (passed_sound f start i p map s) e en look x).found.keys in
      sym (ap (ascends last) k ∙ ascends_on last look.key (keys_from f (p + look.len)) b.1) ∙ c.rest b.0;
}

climbed : (f : List ℕ) (start p last : ℕ) (so : Bool) → Climbing f start p last so → length f ≤ p → so ≡ true → Ascending (keys_from f start)
unfolding Ascending ascends
climbed f start p last so c h e = sym (c.rest e) ∙ ap (ascends last) (keys_past f p h)

pub sealed_length : (t t' : List ℕ) (so : Bool) (n : ℕ) → t' ≡ sealed t so → length t ≡ n → length t' ≡ n
sealed_length t t' so n e h = ap length e ∙ sealed_long t so ∙ h

pub laid_done : (f : List ℕ) (start i p last : ℕ) (so : Bool) (t map map' : List ℕ) (n : ℕ) → Passed f start i p map → Climbing f start p last so → Sound f start
    → Tails f start t → length f ≤ p → map' ≡ sealed map so → n ≤ length t → Laid f start t n map'
laid_done f start i p last so t map map' n s c g ts h em r =
    let z : length (drop i (keys_from f start)) ≡ 0 = rw (s.rest, keys_past f p h) refl in
    let a : take i (keys_from f start) ≡ keys_from f start = take_all i (keys_from f start) (omega (arith, length-drop i (keys_from f start))) in
    record {
      sound = g;
      tails = ts;
      room = r;
      slots = rw em (slots_sealed (keys_from f start) map so (rw a at s.slots));
      ordered = λ z. climbed f start p last so c h (sealed_so map so s.unsealed (rw em at z));
    }

pub ruleset spread_turn = (
  passed_none,
  passed_sound,
  passed_tail,
  passed_count,
  passed_word,
  passed_place,
  passed_more,
  passed_fits,
  passed_falls,
  climbing_none,
  climbing_more,
  passed_over,
  laid_done,
  tails_set,
  set_long,
  noted_long,
  sealed_length,
  length_zeros,
  sound_bounds,
)
