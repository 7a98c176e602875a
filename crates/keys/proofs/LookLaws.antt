-- Laws of a quick look at a record. Assumes nothing.
use mathlib.Core.Path.{◌≡◌, refl, sym, ap, ◌∙◌}
use mathlib.Core.List.{List, [], ◌∷◌}
use mathlib.Core.Bool.{Bool, true, false}
use Prim.Native.Nat.{ℕ, ◌+◌, ◌-◌, ◌^◌, ◌≤◌, ◌<◌}
use native.Mathlib.Omega.{arith}
use borrow.Author.Tests.{ltb-true, ltb-false}
use lib.ListN.{length, drop}
use lib.Dec.{ltb}
use Rattle.std.specs.Prelude.{Option, Some, None, Result, Ok, Err}
use Rattle.base.specs.Lists.{each}
use Rattle.base.specs.Walk.{Got}
use Rattle.base.proofs.ChoiceLaws.{by_test}
use Rattle.skeleton.specs.Digits.{number_at, value_of}
use Rattle.skeleton.specs.Leader.{within, stated_of}
use Rattle.skeleton.proofs.DigitsLaws.{number_small}
use Rattle.skeleton.specs.File.{Field, records_from}
use Rattle.skeleton.specs.Place.{between, fields_at}
use Rattle.skeleton.specs.Record.{record_at, stated_at}
use Rattle.skeleton.specs.declared.leader.Head.{Head}
use Rattle.skeleton.specs.declared.leader.Broken.{Broken}
use Rattle.skeleton.proofs.RecordLaws.{right}
use Rattle.skeleton.proofs.FileLaws.{records_over, records_refused, records_more}
use Rattle.keys.specs.Key.{key_at}
use Rattle.keys.specs.Listed.{key_of, keys_from}
use Rattle.keys.specs.Look.{looked, look_at}
use Rattle.keys.specs.declared.look.Look.{Look}
use Rattle.keys.proofs.FirstLaws.{first_key}

-- ---- what `look_at` returns, by what the leader says

module _ (f : List ℕ) (p : ℕ) (h : Result Head Broken) (eh : h ≡ stated_at f p) where
  pub look_nothing : (n : Broken) → h ≡ Err n → None ≡ look_at f p
  unfolding look_at
  look_nothing n x = simp (← eh, x)

  module _ (d : Head) (x : h ≡ Ok d) where
    pub look_good : (k : ℕ) → k ≡ key_at f (p + d.shape.base) → looked d.len k ≡ look_at f p
    unfolding look_at
    look_good k z = simp (← eh, x, z)

-- ---- the keys from p on

-- past the end of the file, and at a record that is refused, there are none
module _ (f : List ℕ) (p : ℕ) where
  pub keys_past : length f ≤ p → keys_from f p ≡ []
  unfolding keys_from each
  keys_past h = rw (records_over f p h) refl

  module _ (l : p < length f) (h : Result Head Broken) (eh : h ≡ record_at f p) where
    pub keys_refused : (n : Broken) → h ≡ Err n → keys_from f p ≡ []
    unfolding keys_from each
    keys_refused n x = rw (records_refused f p l h eh n x) refl

    -- at a record that is right, its key and those of the records after it
    pub keys_good : (d : Head) → h ≡ Ok d → keys_from f p ≡ key_of (fields_at (between f p (p + d.len)) d.shape 24) ∷ keys_from f (p + d.len)
    unfolding keys_from each
    keys_good d x = rw (records_more f p l h eh d x) refl

-- ---- where there is a key, a quick look finds it

-- the bridge: at a record that is right and has a key, a look finds its length and its key
module _ (f : List ℕ) (p : ℕ) (l : p < length f) (h : Result Head Broken) (eh : h ≡ record_at f p) (d : Head) (x : h ≡ Ok d) where
  pub look_is : (key_of (fields_at (between f p (p + d.len)) d.shape 24) ≡ 0 → ⊥)
      → look_at f p ≡ looked d.len (key_of (fields_at (between f p (p + d.len)) d.shape 24))
  unfolding look_at
  look_is n = let w = right f p h eh d x in rw (w.again, first_key f p d.len d.shape w.walked n) refl

-- the keys from p on are this one, and then those from p + len on, and so it is with the records
pub record Found (f : List ℕ) (p len key : ℕ) : Type 0 where
  pub keys : keys_from f p ≡ key ∷ keys_from f (p + len)
  pub later : drop 1 (records_from f p).items ≡ (records_from f (p + len)).items
  pub long : 0 < len
  pub inside : p + len ≤ length f

-- so it is with what a look has found
abbrev pub FoundBy : List ℕ → ℕ → Option Look → Type 0
FoundBy f p (Some look) = Found f p look.len look.key
FoundBy f p None = ⊥

found_of_lem : (f : List ℕ) (p k : ℕ) (ks : List ℕ) → keys_from f p ≡ k ∷ ks → (k ≡ 0 → ⊥) → p < length f → (h : Result Head Broken) → h ≡ record_at f p → FoundBy f p (look_at f p)
found_of_lem f p k ks e n l (Ok d) eh =
    let w = right f p _ eh d refl in
    let g = keys_good f p l _ eh d refl in
    let same : key_of (fields_at (between f p (p + d.len)) d.shape 24) ≡ k = let c = sym g ∙ e in cc in
    rw (look_is f p l _ eh d refl (λ z. n (sym same ∙ z)))
    (record {
      keys = g;
      later = ap (λ (m : Got (List Field)). drop 1 m.items) (records_more f p l _ eh d refl);
      long = let x = w.long in omega arith;
      inside = w.inside;
    })
found_of_lem f p k ks e n l (Err j) eh = absurd (omega (arith, ap length e, ap length (keys_refused f p l _ eh j refl)))

pub found : (f : List ℕ) (p k : ℕ) (ks : List ℕ) → keys_from f p ≡ k ∷ ks → (k ≡ 0 → ⊥) → FoundBy f p (look_at f p)
found f p k ks e n = go (ltb p (length f)) refl
  where
    go : (t : Bool) → ltb p (length f) ≡ t → FoundBy f p (look_at f p)
    go true x = found_of_lem f p k ks e n (ltb-true p (length f) x) (record_at f p) refl
    go false x = absurd (omega (arith, ap length e, ap length (keys_past f p (ltb-false p (length f) x))))

-- ---- the bounds of `look_at`

-- a base address is of five digits
abbrev Small : Result Head Broken → Type 0
Small (Ok d) = d.shape.base < 10 ^ 9
Small (Err n) = Unit {0}

small_within : (s : List ℕ) (n m : Option ℕ) → value_of m < 10 ^ 9 → Small (within s n m)
small_within s (Some len) (Some base) h = by_test Small (ltb (length s) len) _ _ (λ _. tt) (λ _. h)
small_within s (Some len) None h = tt
small_within s None m h = tt

small_stated : (f : List ℕ) (p : ℕ) → Small (stated_at f p)
unfolding stated_at stated_of
small_stated f p =
    by_test Small (ltb (length f - p) 24) _ _ (λ _. tt)
    (λ _. small_within (drop p f) (number_at (drop p f) 0 5) (number_at (drop p f) 12 5) (number_small (drop p f) 12 5 (omega arith)))

module _ (f : List ℕ) (p : ℕ) (h : Result Head Broken) (eh : h ≡ stated_at f p) (d : Head) (x : h ≡ Ok d) where
  stated_base : d.shape.base < 10 ^ 9
  stated_base = let s : Small h = rw eh (small_stated f p) in rw x at s

  pub look_word : p ≤ length f → length f ≤ 16777216 → p + d.shape.base < 2 ^ 63
  look_word i s = omega (arith, stated_base)

  pub look_fits : p ≤ length f → length f ≤ 16777216 → p + d.shape.base < 2 ^ 64
  look_fits i s = omega (arith, stated_base)

pub ruleset look_ways = (look_nothing, look_good, look_word, look_fits, arith)
