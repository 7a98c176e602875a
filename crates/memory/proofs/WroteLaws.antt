-- Laws of `Wrote`: runs of writes. Assumes nothing.
use mathlib.Core.Path.{◌≡◌, sym, ap, ◌∙◌}
use mathlib.Core.List.{List, [], ◌++◌}
use Prim.Native.Nat.{ℕ, ◌+◌, ◌≤◌}
use native.Mathlib.Nat.{add-zero}
use native.Mathlib.Omega.{arith}
use lib.ListN.{length, take, drop, length-append}
use lib.Seq.{take_at}
use Rattle.memory.specs.Put.{put}
use Rattle.memory.specs.Hold.{zeros, hold}
use Rattle.memory.specs.Wrote.{Wrote}
use Rattle.memory.proofs.HoldLaws.{put_on_zeros}
use Rattle.memory.proofs.PutLaws.{length_put, put_nil, put_put, put_is}

-- what a writer of n elements ensures
pub wrote : {at n r : ℕ} {ys d e : List ℕ} → length ys ≡ n → r ≡ at + n → e ≡ put at ys d → (r ≡ at + n) × Wrote at ys d r e
wrote {at} {n} {r} {ys} {d} {e} size next is = (next, record { next = omega arith; is = is })

-- nothing written
pub wrote_none : (at : ℕ) (d : List ℕ) → Wrote at [] d at d
wrote_none at d = record { next = sym (add-zero at); is = sym (put_nil at d) }

-- one write after another. The last comes first, so that a search knows the middle when it comes to those before
pub then : {at r r' : ℕ} {xs ys d e e' : List ℕ} → Wrote r ys e r' e' → Wrote at xs d r e → Wrote at (xs ++ ys) d r' e'
then {at} {r} {r'} {xs} {ys} {d} {e} {e'} q p =
    record { next = simp length-append (omega arith); is = q.is ∙ rw (p.is, p.next) (put_put at xs ys d) }

-- the length stays
pub wrote_length : {at r : ℕ} {ys d e : List ℕ} → Wrote at ys d r e → length e ≡ length d
wrote_length {at} {r} {ys} {d} {e} p = ap length p.is ∙ length_put at ys d

-- what was written at the front stands there
pub wrote_take : {r : ℕ} {ys d e : List ℕ} → Wrote 0 ys d r e → length ys ≤ length d → take r e ≡ ys
wrote_take {r} {ys} {d} {e} p h =
    ap (take r) (p.is ∙ put_is 0 ys d (omega arith)) ∙ take_at ys (drop (0 + length ys) d) r (omega (arith, p.next))

-- what was written at the front of a cleared place is held there
pub wrote_hold : {n r : ℕ} {ys d e : List ℕ} → Wrote 0 ys d r e → d ≡ zeros n → length ys ≤ n → e ≡ hold n ys
wrote_hold {n} {r} {ys} {d} {e} p cleared h = p.is ∙ rw cleared (put_on_zeros n ys h)
