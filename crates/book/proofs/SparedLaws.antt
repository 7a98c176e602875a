-- Laws of flags of which none is lowered. Assumes nothing.
use mathlib.Core.Path.{◌≡◌, refl, ap, ◌∙◌}
use mathlib.Core.Bool.{Bool, true, false, true≢false}
use mathlib.Core.List.{List}
use Prim.Native.Nat.{ℕ, zero, suc, ◌/◌, ◌%◌, ◌≤◌, ◌<◌}
use native.Mathlib.Omega.{arith}
use lib.ListN.{length, replicate, length-replicate, get_or-replicate}
use Rattle.keys.specs.Bits.{bit_of, flag_of, raised}
use Rattle.keys.specs.Listed.{seen_from}
use Rattle.keys.specs.Map.{kind_in, Marks}
use Rattle.keys.specs.Once.{Renewed, Once, Comes, Told}
use Rattle.keys.proofs.OnceLaws.{told_false}
use Rattle.book.specs.Spared.{Full, Spared}

-- ---- `raise_all`

ones : (i : ℕ) → i < 8 → bit_of i 255 ≡ 1
unfolding bit_of
ones zero h = refl
ones (suc zero) h = refl
ones (suc (suc zero)) h = refl
ones (suc (suc (suc zero))) h = refl
ones (suc (suc (suc (suc zero)))) h = refl
ones (suc (suc (suc (suc (suc zero))))) h = refl
ones (suc (suc (suc (suc (suc (suc zero)))))) h = refl
ones (suc (suc (suc (suc (suc (suc (suc zero))))))) h = refl
ones (suc (suc (suc (suc (suc (suc (suc (suc i)))))))) h = absurd (omega arith)

pub full_ones : (n : ℕ) (t : List ℕ) → t ≡ replicate n 255 → Full t (length t)
unfolding Full flag_of
full_ones n t e j h =
    let g : j / 8 < n = omega (arith, ap length e, length-replicate {A = ℕ} n 255) in
    rw (e, get_or-replicate {A = ℕ} n (j / 8) 255 0 g, ones (j % 8) (omega arith)) refl

-- ---- `stood_by` and `stood`

pub spared_same : (t : List ℕ) → Spared t t
spared_same t = record { long = refl; kept = λ j h e. e }

pub spared_full : (t t' : List ℕ) → Full t' (length t') → length t' ≡ length t → Spared t t'
unfolding Full
spared_full t t' u e = record { long = e; kept = λ j h x. u j (omega arith) }

pub ruleset spared_ways = (spared_same, spared_full, arith)

-- ---- `repeats`

once_spared : (f : List ℕ) (start m top : ℕ) (t t' : List ℕ) → Once f start m top t → Spared t t' → Once f start m top t'
unfolding Marks
once_spared f start m top t t' o s =
    let n = s.long in
    record {
      known = o.known;
      none_above = o.none_above;
      marks = λ k x y h. s.kept _ (omega arith) (o.marks k x y (omega arith));
    }

module _ (f : List ℕ) (start m top k : ℕ) (t t' : List ℕ) (s : Spared t t') (b : Bool) (eb : b ≡ seen_from f start m k) where
  pub repeats_true : b ≡ true → Told f start m top k t t' true
  repeats_true x = record { told = rw (← x) eb; long = s.long; once = λ z. absurd (true≢false z) }

  pub repeats_false : Once f start m top t → Comes f start m k → kind_in top ≤ kind_in k → b ≡ false
      → (u : List ℕ) → Renewed (top / 4294967296) (k / 4294967296) t' u → (u' : List ℕ) → u' ≡ raised u (k % 262144) → Told f start m top k t u' false
  repeats_false o c h x u rn u' e =
      let w = told_false f start m top k t' (once_spared f start m top t t' o s) c h b eb x u rn u' e in
      record { told = w.told; long = w.long ∙ s.long; once = w.once }

pub ruleset repeats_turn = (repeats_true, repeats_false, arith)
