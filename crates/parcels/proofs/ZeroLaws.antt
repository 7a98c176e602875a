-- Number 0 is for done alone, where a holding is told too. Assumes nothing.
use Prim.Native.Nat.{ℕ, ◌≤◌}
use mathlib.Core.Path.{◌≡◌, refl}
use mathlib.Core.Bool.{false}
use mathlib.Core.List.{List}
use native.Mathlib.Omega.{arith}
use borrow.Author.Tests.{eqb-false, ltb-false}
use lib.Dec.{ltb}
use lib.ListN.{length}
use Rattle.sequence.proofs.Tests.{by_bool}
use Rattle.rules.specs.Outcome.{Outcome, done, refused, and_then}
use Rattle.rules.specs.Answers.{refusal, output_of}
use Rattle.numbers.specs.Refusals.{is_in}
use Rattle.numbers.specs.Limited.{LimitedOutcome, limited_refused}
use Rattle.numbers.proofs.Lists.{in_nonzero}
use Rattle.numbers.proofs.Answers.{no_zero}
use Rattle.parcels.specs.Holding.{told, told_in, tell}
use Rattle.parcels.specs.Refusals.{of_tell}
use Rattle.parcels.proofs.RefusalLaws.{limited_told}

-- 0 is no number of refusal
tell_nonzero : (file : ℕ) → is_in 0 (of_tell file) ≡ false
unfolding of_tell is_in
tell_nonzero = no_zero _ _ _ _ refl refl refl refl

-- where the answer is 0 a holding was told, and there was room for it
pub tell_done : (c : List ℕ) (room : ℕ) → (tell c room).answer.number ≡ 0 → (h : List ℕ) × (told c ≡ done h) × (length h ≤ room)
unfolding tell
tell_done c room z = go (told c) refl (limited_told c) z
  where
    go : (o : Outcome (List ℕ)) → told c ≡ o → LimitedOutcome of_tell o → (output_of room (and_then o (λ h. told_in room h))).answer.number ≡ 0
        → (h : List ℕ) × (told c ≡ done h) × (length h ≤ room)
    go (done h) x f e =
        by_bool (ltb room (length h))
        (λ y. unfold and_then told_in output_of refusal in absurd (let w : 13 ≡ 0 = rw y at e in omega arith))
        (λ y. (h, x, ltb-false room (length h) y))
    go (refused file n q) x (limited_refused f _) e =
        unfold and_then output_of refusal in absurd (eqb-false q.number 0 (in_nonzero q.number (of_tell file) (tell_nonzero file) f) e)
