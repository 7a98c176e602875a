-- Laws of what stands under a key in the end. Assumes nothing.
use Prim.Native.Nat.{ℕ, ◌%◌}
use mathlib.Core.Path.{◌≡◌, sym, ap, subst, ◌∙◌}
use mathlib.Core.Bool.{Bool, true, false, true≢false}
use mathlib.Core.List.{List}
use lib.ListN.{drop}
use Rattle.base.specs.Check.{ok}
use Rattle.skeleton.specs.File.{Field, records_from}
use Rattle.skeleton.specs.Place.{between}
use Rattle.rules.specs.Record.{Rec}
use Rattle.sequence.specs.Keyed.{find}
use Rattle.sequence.specs.Stream.{stands, standing}
use Rattle.sequence.proofs.Tests.{by_bool}
use Rattle.sequence.proofs.Stream.{among_find}
use Rattle.updates.specs.Acts.{chart}
use Rattle.updates.proofs.Acted.{lawful}
use Rattle.keys.specs.Bits.{flag_of}
use Rattle.keys.specs.Listed.{keys_from, listed, has_from}
use Rattle.keys.specs.Look.{Sound}
use Rattle.keys.specs.Numbered.{number_of, Ranged, Numbered}
use Rattle.keys.specs.Table.{Laid}
use Rattle.sorting.specs.Places.{Indexed}
use Rattle.sorting.specs.declared.limits.Limits.{Limits}
use Rattle.composing.specs.Acts.{fate_of, fate_from}
use Rattle.composing.specs.Fate.{fate}
use Rattle.composing.specs.Settled.{Asks, Settled, Tells}
use Rattle.composing.specs.Tied.{Noted, Stays}
use Rattle.composing.proofs.FateLaws.{standing_fate}
use Rattle.composing.proofs.KnownLaws.{fate_known, fate_unlisted}

-- ---- a key, whether the dataset has it (x), and whether its flag is raised

module _ (d : List ℕ) (ds : ℕ) (u : List ℕ) (us : ℕ) (flags : List ℕ) (key : ℕ) (x : Bool) (ex : x ≡ has_from d ds key) where
  -- the update's records
  abbrev items : List (List Field)
  items = (records_from u us).items

  stood : (recs : List Rec) → Settled recs d ds u us flags → (k : List ℕ) → Ranged k → number_of k ≡ key → x ≡ stands (ok (find chart k recs))
  unfolding has_from Numbered
  stood recs s k r e = ex ∙ ap (λ (j : ℕ). listed j (keys_from d ds)) (sym e) ∙ sym (s.numbered k r) ∙ among_find chart k recs

  told : (recs : List Rec) → Settled recs d ds u us flags → (k : List ℕ) → Ranged k → number_of k ≡ key → standing chart recs items k ≡ fate_of key items x
  told recs s k r e =
      standing_fate chart lawful 3 recs items s.once s.fine k
      ∙ ap (fate chart k items) (sym (stood recs s k r e))
      ∙ fate_known key k r e items s.known x

  pub stands_raised : (b : Bool) → b ≡ fate_from u us key x → Tells d ds u us flags key b
  unfolding Tells fate_from
  stands_raised b eb recs s k r e = eb ∙ sym (told recs s k r e)

  module _ (f : Bool) (ef : f ≡ flag_of flags (key % 111997)) (z : f ≡ false) where
    unlisted : (recs : List Rec) → Settled recs d ds u us flags → listed key (keys_from u us) ≡ false
    unlisted recs s =
        by_bool (listed key (keys_from u us))
        (λ h. absurd (true≢false (sym (s.flagged key h) ∙ sym ef ∙ z)))
        (λ h. h)

    pub stands_clear : Tells d ds u us flags key x
    unfolding Tells
    stands_clear recs s k r e = sym (told recs s k r e ∙ fate_unlisted key items x (unfold keys_from in unlisted recs s))

-- a key that the dataset has
module _ (u : List ℕ) (us : ℕ) (flags : List ℕ) (key : ℕ) where
  pub stays_raised : (b : Bool) → b ≡ fate_from u us key true → Stays u us flags key b
  unfolding Stays
  stays_raised b eb d ds h = stands_raised d ds u us flags key true (sym h) b eb

  pub stays_clear : (f : Bool) → f ≡ flag_of flags (key % 111997) → f ≡ false → Stays u us flags key true
  unfolding Stays
  stays_clear f ef z d ds h = stands_clear d ds u us flags key true (sym h) f ef z

-- ---- what is asked is where it can be found

pub noted_new : (u : List ℕ) (us : ℕ) (lim : Limits) (out : List ℕ) → Noted u us lim out → (s : List ℕ) → s ≡ drop lim.new out → Sound u us × Indexed u us s
noted_new u us lim out a s e = (a.sound, subst (Indexed u us) (sym e) a.new)

module _ (d : List ℕ) (ds : ℕ) (t : List ℕ) (n : ℕ) (map u : List ℕ) (us : ℕ) (flags : List ℕ) (lim : Limits) (out : List ℕ) (a : Asks d ds t n map u us flags lim out) where
  pub asks_noted : Noted u us lim out
  asks_noted = record { sound = a.sound; inside = a.indices.inside; new = a.indices.new }

  pub asks_old : (s : List ℕ) → s ≡ between out lim.old lim.new → Laid d ds t n map × Indexed d ds s
  asks_old s e = (a.laid, subst (Indexed d ds) (sym e) a.indices.old)

pub ruleset stands_ways = (stands_raised, stands_clear)

pub ruleset stays_ways = (stays_raised, stays_clear)
