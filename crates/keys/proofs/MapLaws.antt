-- Laws of a map of keys in flags. Assumes nothing.
use mathlib.Core.Path.{◌≡◌, refl, sym, ap, ◌∙◌}
use mathlib.Core.List.{List, [], ◌∷◌, ◌++◌}
use mathlib.Core.Bool.{Bool, true, false, true≢false}
use Prim.Native.Nat.{ℕ, ◌/◌, ◌<◌}
use native.Mathlib.Omega.{arith}
use borrow.Author.Tests.{ne_eqb, ltb-true, ltb-false, eqb-true, eqb-false}
use lib.ListN.{length, get_or, get_or-eq_default}
use lib.Dec.{ltb, eqb}
use Rattle.memory.specs.Hold.{zeros}
use Rattle.memory.proofs.HoldLaws.{length_zeros, get_d_zeros}
use Rattle.base.proofs.ChoiceLaws.{either_true, either_false}
use Rattle.keys.specs.Listed.{listed}
use Rattle.keys.specs.Bits.{flag_of, raised}
use Rattle.keys.specs.Map.{Mapped}
use Rattle.keys.proofs.ListLaws.{listed_none, listed_more}
use Rattle.keys.proofs.BitLaws.{flag_none, flag_same, flag_other, raised_long}

-- zeroes everywhere, also past their end
pub zeros_all : (n i : ℕ) → get_or (zeros n) i 0 ≡ 0
zeros_all n i = go (ltb i n) refl
  where
    go : (b : Bool) → ltb i n ≡ b → get_or (zeros n) i 0 ≡ 0
    go true e = get_d_zeros n i (ltb-true i n e)
    go false e = get_or-eq_default (zeros n) 0 (omega (arith, length_zeros n, ltb-false i n e))

-- a map with places from which the keys can be told
module _ (has : ℕ → Bool) (place : ℕ → ℕ) (back : ℕ → ℕ) (told : (k : ℕ) → has k ≡ true → back (place k) ≡ k) where
  -- an empty map is that of no keys
  pub mapped_none : (t : List ℕ) → ((i : ℕ) → get_or t i 0 ≡ 0) → Mapped has place [] t
  unfolding Mapped
  mapped_none t z k e h = flag_none t (place k) (z (place k / 8)) ∙ sym (listed_none k)

  -- one key more, and its flag
  module _ (l : List ℕ) (t : List ℕ) (ms : Mapped has place l t) (k : ℕ) where
    here_or_not : has k ≡ true → (j : ℕ) (b : Bool) → eqb k j ≡ b → has j ≡ true → place j / 8 < length t
        → flag_of (raised t (place k)) (place j) ≡ listed j (l ++ (k ∷ []))
    unfolding Mapped
    here_or_not e j true x g h =
        let z : k ≡ j = eqb-true k j x in
        let p : flag_of (raised t (place k)) (place j) ≡ true = rw z (flag_same t (place j) h) in
        rw (listed_more, x) (p ∙ sym (either_true (listed j l)))
    here_or_not e j false x g h =
        let n : place j ≡ place k → ⊥ = λ y. eqb-false k j x (sym (told k e) ∙ ap back (sym y) ∙ told j g) in
        rw (listed_more, x) (flag_other t (place j) (place k) n ∙ ms j g h ∙ sym (either_false (listed j l)))

    pub mapped_more : has k ≡ true → Mapped has place (l ++ (k ∷ [])) (raised t (place k))
    unfolding Mapped
    mapped_more e j g h = here_or_not e j (eqb k j) refl g (omega (arith, raised_long t (place k)))

    -- a key that has no place
    pub mapped_out : has k ≡ false → Mapped has place (l ++ (k ∷ [])) t
    unfolding Mapped
    mapped_out e j g h =
        let n : k ≡ j → ⊥ = λ y. true≢false (sym g ∙ ap has (sym y) ∙ e) in
        rw (listed_more, ne_eqb k j n) (ms j g h ∙ sym (either_false (listed j l)))
