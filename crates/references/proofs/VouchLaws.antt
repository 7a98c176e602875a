-- Laws of what helps to find a record that is named. Assumes nothing.
use mathlib.Core.Path.{◌≡◌, refl, sym, ◌∙◌}
use mathlib.Core.List.{List}
use mathlib.Core.Bool.{Bool, true, false, true≢false}
use Prim.Native.Nat.{ℕ, ◌+◌, ◌-◌, ◌/◌, ◌<◌}
use native.Mathlib.Omega.{arith}
use lib.ListN.{length, replicate}
use Rattle.std.specs.Prelude.{Option, Some, is_some}
use Rattle.skeleton.proofs.PlaceLaws.{place_bounds}
use Rattle.skeleton.proofs.RecordLaws.{record_bounds}
use Rattle.memory.specs.Hold.{zeros}
use Rattle.keys.specs.Bits.{flag_of}
use Rattle.keys.specs.Listed.{keys_from, has_from}
use Rattle.keys.specs.Look.{look_at, Sound}
use Rattle.keys.specs.Places.{site_in}
use Rattle.keys.specs.Slots.{slot_in}
use Rattle.keys.specs.Table.{Tail, Laid}
use Rattle.keys.specs.declared.look.Look.{Look}
use Rattle.keys.proofs.PlaceLaws.{site_says}
use Rattle.keys.proofs.SlotLaws.{slots_say}
use Rattle.keys.proofs.SoundLaws.{sound_falls}
use Rattle.keys.proofs.TableLaws.{tail_start, tail_sound}
use Rattle.keys.proofs.PresentLaws.{near_on, near_word, near_found, near_in, near_small}
use Rattle.book.specs.Rcids.{spot_of, joined, Unmet}
use Rattle.book.proofs.RcidLaws.{means_unmet, means_spot, means_joined, unmet_zeros, unmet_sifted}
use Rattle.references.specs.Vouched.{Vouches, Vouched, Aided}

-- ---- `vouched`

module _ (f : List ℕ) (start : ℕ) (b k : List ℕ) (v : Vouched f start b k) where
  pub vouched_there : (key j : ℕ) → j ≡ spot_of b k key → 0 < j → (r : Bool) → r ≡ flag_of k j → r ≡ true → has_from f start key ≡ true
  unfolding Vouches
  vouched_there key j e h r x y = means_spot (λ key'. has_from f start key' ≡ true) b k v.vouches key j e h (sym x ∙ y)

pub vouched_not : (b : Bool) → false ≡ true → b ≡ true
vouched_not b e = absurd (true≢false (sym e))

-- ---- `vouch_all`

pub all_start : (f : List ℕ) (start : ℕ) → Sound f start → Tail f start start
all_start = tail_start

module _ (f : List ℕ) (start p : ℕ) (l : Tail f start p) (e : Option Look) (en : e ≡ look_at f p) (look : Look) (x : e ≡ Some look) where
  pub all_vouched : (b k k' : List ℕ) → Vouched f start b k → k' ≡ joined b k look.key → Vouched f start b k'
  unfolding Vouches
  all_vouched b k k' v y =
      let h = near_found f start p l e en look x look.key refl in
      record { some = v.some; vouches = means_joined (λ key'. has_from f start key' ≡ true) b k v.vouches look.key h k' y }

  pub all_falls : length f - (p + look.len) < length f - p
  all_falls = sound_falls f p (tail_sound f start p l) e en look x

pub vouched_some : (f : List ℕ) (start : ℕ) (b k : List ℕ) → Vouched f start b k → 0 < length b
vouched_some f start b k v = v.some

pub ruleset all_turn = (all_vouched, all_falls, vouched_some, near_on, near_word, near_in, near_small, arith)

-- ---- `refill`

pub unmet_vouched : (f : List ℕ) (start : ℕ) (b k : List ℕ) → Unmet k → 0 < length b → Vouched f start b k
unfolding Vouches
unmet_vouched f start b k u s = record { some = s; vouches = means_unmet (λ key. has_from f start key ≡ true) b k u }

pub ruleset sift_ways = (unmet_zeros, unmet_sifted, arith)

-- ---- `found` and `exists`

pub found_there : (b h : Bool) → (b ≡ true → h ≡ true) → b ≡ true → true ≡ h
found_there b h g e = sym (g e)

pub found_site : (f : List ℕ) (start key : ℕ) → Sound f start → (r : Option ℕ) → r ≡ site_in f start key → (b : Bool) → b ≡ is_some r → b ≡ has_from f start key
found_site f start key s r e b x = x ∙ site_says f start key s r e

pub ruleset found_ways = (found_there, found_site, vouched_some, arith)

module _ (f : List ℕ) (start : ℕ) (t : List ℕ) (n : ℕ) (map k : List ℕ) (a : Aided f start t n map k) where
  pub aided_sound : Sound f start
  aided_sound = a.sound

  pub aided_flag : (key : ℕ) (r : Option ℕ) → r ≡ slot_in key → (s : ℕ) → r ≡ Some s → s / 8 < length map → (b : Bool) → b ≡ flag_of map s → b ≡ has_from f start key
  unfolding has_from
  aided_flag key r e s h g b x = x ∙ slots_say (keys_from f start) map key a.slots r e s h g

  module _ (o : Bool) (eo : o ≡ flag_of map 262144) where
    pub aided_table : o ≡ true → Laid f start t n map
    aided_table x = a.table (sym eo ∙ x)

    pub aided_book : o ≡ false → Vouched f start t k
    aided_book x = a.book (sym eo ∙ x)

    pub aided_anew : o ≡ false → (t' k' : List ℕ) → Vouched f start t' k' → Aided f start t' n map k'
    aided_anew x t' k' v =
        record { sound = a.sound; slots = a.slots; table = λ y. absurd (true≢false (sym y ∙ sym eo ∙ x)); book = λ _. v }

pub ruleset exists_ways = (aided_flag, aided_table, aided_book, aided_sound, aided_anew, arith)

-- ---- before a record is looked at

pub aided_start : (f : List ℕ) (start : ℕ) (t : List ℕ) (n : ℕ) (map : List ℕ) → Laid f start t n map → 0 < length t → (m : ℕ)
    → Aided f start t n map (replicate m 0)
unfolding zeros
aided_start f start t n map l s m =
    record {
      sound = l.sound;
      slots = l.slots;
      table = λ _. l;
      book = λ _. unmet_vouched f start t (replicate m 0) (unmet_zeros m (replicate m 0) refl) s;
    }

pub ruleset place_turn = (place_bounds, arith)

pub ruleset collect_turn = (record_bounds, arith)
