-- Laws of the leader and of the directory's entries as they are written. Assumes nothing.
use Prim.Native.Nat.{ℕ, zero, suc, ◌/◌, ◌%◌}
use native.Mathlib.Nat.{add_comm}
use mathlib.Core.Path.{◌≡◌, refl, ap₂, ◌∙◌, subst}
use mathlib.Core.Bool.{Bool, true, false}
use mathlib.Core.List.{List, [], ◌∷◌, ◌++◌, append_assoc}
use Rattle.base.specs.Text.{ascii}
use Rattle.memory.specs.Put.{part}
use Rattle.memory.specs.Digits.{digits, decimal}
use Rattle.memory.specs.Wrote.{Wrote}
use Rattle.memory.proofs.DigitLaws.{decimal_snoc}
use Rattle.memory.proofs.WroteLaws.{then}
use Rattle.skeleton.specs.Digits.{in_digits}
use Rattle.skeleton.specs.Emit.{tag_bytes, middle, leading}
use Rattle.rules.specs.Written.{field_width}
use Rattle.writing.specs.Parts.{entry_bytes, last_of_leader}

-- a number that is written is the number that is read
pub same_digits : (w x : ℕ) → decimal w x ≡ in_digits w x
unfolding decimal digits in_digits
same_digits zero x = refl
same_digits (suc w) x = decimal_snoc w x ∙ ap₂ (λ (a : List ℕ) (d : ℕ). a ++ (d ∷ [])) (same_digits w (x / 10)) (add_comm 48 (x % 10))

-- the same bytes in other words
pub wrote_as : {at p : ℕ} {xs ys d e : List ℕ} → xs ≡ ys → Wrote at xs d p e → Wrote at ys d p e
wrote_as {at} {p} {xs} {ys} {d} {e} q w = subst (λ (l : List ℕ). Wrote at l d p e) q w

-- an entry
pub wrote_entry : {at p₁ p₂ p₃ : ℕ} {o o₁ o₂ o₃ : List ℕ} (tag size pos : ℕ)
    → Wrote p₂ (decimal 5 pos) o₂ p₃ o₃ → Wrote p₁ (decimal 5 size) o₁ p₂ o₂ → Wrote at (tag_bytes tag) o p₁ o₁ → Wrote at (entry_bytes tag size pos) o p₃ o₃
unfolding entry_bytes
wrote_entry tag size pos w₃ w₂ w₁ =
    wrote_as (append_assoc (tag_bytes tag) (decimal 5 size) (decimal 5 pos)
    ∙ ap₂ (λ (a b : List ℕ). tag_bytes tag ++ (a ++ b)) (same_digits 5 size) (same_digits 5 pos)) (then w₃ (then w₂ w₁))

-- ---- the leader

module _ {at p : ℕ} {d e : List ℕ} (first : Bool) where
  pub middle_first : first ≡ true → Wrote at (part 0 7 (ascii "3LE1 09")) d p e → Wrote at (middle first) d p e
  unfolding part
  middle_first x w = rw x w

  pub middle_other : first ≡ false → Wrote at (part 0 7 (ascii " D     ")) d p e → Wrote at (middle first) d p e
  unfolding part
  middle_other x w = rw x w

  pub last_first : first ≡ true → Wrote at (part 0 7 (ascii " ! 5504")) d p e → Wrote at (last_of_leader first) d p e
  unfolding part last_of_leader
  last_first x w = rw x w

  pub last_other : first ≡ false → Wrote at (part 0 7 (ascii "   5504")) d p e → Wrote at (last_of_leader first) d p e
  unfolding part last_of_leader
  last_other x w = rw x w

pub wrote_leader : {at p₁ p₂ p₃ p₄ : ℕ} {o o₁ o₂ o₃ o₄ : List ℕ} (first : Bool) (total base : ℕ)
    → Wrote p₃ (last_of_leader first) o₃ p₄ o₄ → Wrote p₂ (decimal 5 base) o₂ p₃ o₃ → Wrote p₁ (middle first) o₁ p₂ o₂ → Wrote at (decimal 5 total) o p₁ o₁
    → Wrote at (leading field_width field_width first total base) o p₄ o₄
unfolding leading last_of_leader in_digits
wrote_leader first total base w₄ w₃ w₂ w₁ =
    wrote_as
    (append_assoc (decimal 5 total ++ middle first) (decimal 5 base) (last_of_leader first)
    ∙ append_assoc (decimal 5 total) (middle first) (decimal 5 base ++ last_of_leader first)
    ∙ ap₂ (λ (a b : List ℕ). a ++ (middle first ++ (b ++ last_of_leader first))) (same_digits 5 total) (same_digits 5 base))
    (then w₄ (then w₃ (then w₂ w₁)))
