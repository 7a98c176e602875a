-- Laws of the place of a key's record, as it is looked for. Assumes nothing.
use mathlib.Core.Path.{◌≡◌, refl, sym, ap, ◌∙◌}
use mathlib.Core.List.{List}
use mathlib.Core.Bool.{Bool, false}
use Prim.Native.Nat.{ℕ, ◌+◌, ◌-◌, ◌/◌, ◌^◌, ◌≤◌, ◌<◌}
use native.Mathlib.Omega.{arith}
use lib.ListN.{length}
use Rattle.std.specs.Prelude.{Option, Some, None, IfSome}
use Rattle.keys.specs.Bits.{flag_of}
use Rattle.keys.specs.Listed.{keys_from, EachOnce}
use Rattle.keys.specs.Look.{looked, look_at, Sound}
use Rattle.keys.specs.Slots.{slot_in}
use Rattle.keys.specs.Order.{Ascending}
use Rattle.keys.specs.Places.{Names, site_of, site_in}
use Rattle.keys.specs.Table.{Tail, Close, Laid}
use Rattle.keys.specs.declared.look.Look.{Look}
use Rattle.keys.proofs.SoundLaws.{sound_more, sound_word, sound_over, sound_falls}
use Rattle.keys.proofs.PlaceLaws.{site_here, site_over, site_end, site_gone, site_once, site_at, site_none, leads_sound, look_inside, none_behind}
use Rattle.keys.proofs.TableLaws.{tail_sound}
use Rattle.keys.proofs.PresentLaws.{near_on, near_word, near_in, near_small, close_near, close_tail, has_flag, laid_small, laid_sound, laid_ascends}

-- ---- `site_plain`: the key is looked for from p on as from start on

pub record Sought (f : List ℕ) (start key p : ℕ) : Type 0 where
  pub sound : Sound f p
  pub same : site_of f p key ≡ site_of f start key

pub sought_start : (f : List ℕ) (start key : ℕ) → Sound f start → Sought f start key start
sought_start f start key s = record { sound = s; same = refl }

module _ (f : List ℕ) (start k p : ℕ) (c : Sought f start k p) where
  module _ (e : Option Look) (en : e ≡ look_at f p) where
    module _ (look : Look) (x : e ≡ Some look) where
      pub sought_here : look.key ≡ k → Some p ≡ site_in f start k
      sought_here y =
          site_at f start k p (sym (site_here f p look.len look.key c.sound (sym en ∙ x) k y) ∙ c.same)
          (look_inside f p look.len look.key c.sound (sym en ∙ x))

      pub sought_on : (look.key ≡ k → ⊥) → Sought f start k (p + look.len)
      sought_on y = record { sound = sound_more f p c.sound e en look x; same = sym (site_over f p look.len look.key c.sound (sym en ∙ x) k y) ∙ c.same }

      pub sought_word : p + look.len < 2 ^ 64
      sought_word = sound_word f p c.sound e en look x

      pub sought_falls : length f - (p + look.len) < length f - p
      sought_falls = sound_falls f p c.sound e en look x

    pub sought_over : e ≡ None → None ≡ site_in f start k
    sought_over x = site_none f start k (sym (site_end f p k (sound_over f p c.sound e en x)) ∙ c.same)

  pub sought_in : p ≤ length f
  sought_in = c.sound.inside

  pub sought_small : length f ≤ 16777216
  sought_small = c.sound.small

pub ruleset plain_turn = (sought_start, sought_here, sought_on, sought_word, sought_falls, sought_over, sought_in, sought_small, arith)

-- ---- `site_near`, by the look e at p

pub near_names : (f : List ℕ) (start p : ℕ) (l : Tail f start p) (e : Option Look) (en : e ≡ look_at f p) (look : Look) (x : e ≡ Some look) (k : ℕ) → look.key ≡ k → Names f start k p
near_names f start p l e en look x k y = record { leads = l.leads; len = look.len; look = sym en ∙ x ∙ ap (looked look.len) y }

pub ruleset near_site = (near_names, near_on, near_word, near_in, near_small, arith)

-- ---- `site_ordered`

module _ (f : List ℕ) (start k p : ℕ) (c : Close f start k p) where
  close_sound : Sound f p
  close_sound = tail_sound f start p c.tail

  close_sought : Ascending (keys_from f start) → Sought f start k p
  close_sought a = record { sound = close_sound; same = c.kept a }

  module _ (e : Option Look) (en : e ≡ look_at f p) where
    module _ (look : Look) (x : e ≡ Some look) where
      pub ordered_here : Ascending (keys_from f start) → look.key ≡ k → Some p ≡ site_in f start k
      ordered_here a y = sought_here f start k p (close_sought a) e en look x y

      pub ordered_passed : Ascending (keys_from f start) → k < look.key → None ≡ site_in f start k
      unfolding Ascending
      ordered_passed a h = site_none f start k (sym (none_behind c.tail.sound c.tail.leads 0 a look.len look.key (sym en ∙ x) k h) ∙ c.kept a)

      pub close_on : (look.key ≡ k → ⊥) → Close f start k (p + look.len)
      close_on y = record {
        tail = near_on f start p c.tail e en look x;
        kept = λ a. (sought_on f start k p (close_sought a) e en look x y).same;
      }

      pub close_word : p + look.len < 2 ^ 64
      close_word = near_word f start p c.tail e en look x

      pub close_falls : length f - (p + look.len) < length f - p
      close_falls = sound_falls f p close_sound e en look x

    pub ordered_over : Ascending (keys_from f start) → e ≡ None → None ≡ site_in f start k
    ordered_over a x = sought_over f start k p (close_sought a) e en x

  pub close_in : p ≤ length f
  close_in = close_sound.inside

  pub close_small : length f ≤ 16777216
  close_small = c.tail.sound.small

pub ruleset ordered_turn =
    (ordered_here, ordered_passed, close_on, close_word, close_falls, ordered_over, close_in, close_small, arith)

-- ---- `site`

module _ (f : List ℕ) (start : ℕ) (t : List ℕ) (n : ℕ) (map : List ℕ) (r : Laid f start t n map) where
  module _ (k : ℕ) where
    pub site_flag : (e : Option ℕ) → e ≡ slot_in k → (s : ℕ) → e ≡ Some s → s / 8 < length map → (b : Bool) → b ≡ flag_of map s → b ≡ false → None ≡ site_in f start k
    site_flag e es s x g b y z = site_none f start k (sym (site_gone f start k (sym (has_flag f start t n map r k e es s x g b y) ∙ z)))

    pub site_found : EachOnce (keys_from f start) → (q : Option ℕ) → IfSome q (Names f start k) → (p : ℕ) → q ≡ Some p → Some p ≡ site_in f start k
    site_found o q m p x =
        let n : Names f start k p = rw x at m in
        site_at f start k p (sym (site_once r.sound n.leads o n.len k n.look)) (look_inside f p n.len k (leads_sound n.leads r.sound) n.look)

pub ruleset site_ways = (site_found, close_near, close_tail, laid_small, laid_sound, laid_ascends, arith)

pub ruleset flag_site = (site_flag, arith)
