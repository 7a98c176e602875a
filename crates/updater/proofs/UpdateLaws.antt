-- The output and the workspace at the end. Assumes nothing.
use Prim.Native.Nat.{ℕ, ◌≤◌}
use mathlib.Core.Path.{◌≡◌, refl, sym, ap, ◌∙◌}
use mathlib.Core.List.{List}
use native.Mathlib.Omega.{arith}
use lib.ListN.{length, take, length-take}
use Rattle.memory.specs.Hold.{zeros, hold}
use Rattle.rules.specs.Outcome.{Outcome, done, refused}
use Rattle.rules.specs.Answers.{Written, success, output_of, update_outcome, update, work_after}
use Rattle.rules.specs.declared.Answer.{Answer}
use Rattle.promises.specs.Promise.{Updates}
use Rattle.numbers.specs.Zero.{Done}
use Rattle.numbers.proofs.Answers.{zero_is_done}
use Rattle.updater.specs.Stages.{Built}

module _ (f u : List ℕ) (room size : ℕ) (r : Answer) (o : List ℕ) (b : Built f u room size r o) where
  -- a refusal leaves the output wholly zero
  pub ended_refused : (r.number ≡ 0 → ⊥) → (o' : List ℕ) → o' ≡ zeros room → o' ≡ (update f u room size).out
  unfolding update output_of zeros
  ended_refused nz o' e = go (update_outcome room size f u) refl
    where
      go : (c : Outcome Written) → update_outcome room size f u ≡ c → o' ≡ (output_of room (update_outcome room size f u)).out
      go (done w) h = absurd (nz (ap (λ (y : Answer). y.number) b.said ∙ (zero_is_done.updates f u room size).1 (w, h)))
      go (refused file n x) h = e ∙ sym (ap (λ (c : Outcome Written). (output_of room c).out) h)

  module _ (z : r.number ≡ 0) where
    is_done : Done (update_outcome room size f u)
    is_done = (zero_is_done.updates f u room size).0 (sym (ap (λ (y : Answer). y.number) b.said) ∙ z)

    long : r.length ≡ length is_done.0.bytes
    unfolding update output_of success
    long = ap (λ (y : Answer). y.length) b.said ∙ ap (λ (c : Outcome Written). (output_of room c).answer.length) is_done.1

    front : take r.length o ≡ is_done.0.bytes
    front = ap (λ (n : ℕ). take n o) long ∙ b.stands is_done.0 is_done.1

    -- the written length lies in the output
    pub ended_in : r.length ≤ length o
    ended_in = let e = length-take r.length o in omega (arith, ap length front, long)

    -- else it is zero behind the written length
    pub ended_done : length o ≡ room → (o' : List ℕ) → o' ≡ hold (length o) (take r.length o) → o' ≡ (update f u room size).out
    unfolding update output_of hold zeros
    ended_done same o' e = e ∙ ap (λ (l : List ℕ). hold (length o) l) front ∙ ap (λ (n : ℕ). hold n is_done.0.bytes) same ∙ sym (ap (λ (c : Outcome Written). (output_of room c).out) is_done.1)

-- the workspace is zero
pub ended_work : (size : ℕ) (w : List ℕ) → w ≡ zeros size → w ≡ work_after size
unfolding work_after zeros
ended_work size w e = e

-- ---- all three at once: the answer, the output and the workspace

module _ (f u : List ℕ) (room size : ℕ) (r : Answer) (o : List ℕ) (b : Built f u room size r o) (same : length o ≡ room)
    (w : List ℕ) (wide : length w ≡ size) (w' : List ℕ) (ew : w' ≡ zeros (length w)) where
  work_left : w' ≡ work_after size
  work_left = ended_work size w' (ew ∙ ap zeros wide)

  pub left_refused : (r.number ≡ 0 → ⊥) → (o' : List ℕ) → o' ≡ zeros (length o)
      → Updates f u room size r o' w'
  left_refused nz o' e = record { answers = b.said; fills = ended_refused f u room size r o b nz o' (e ∙ ap zeros same); clears = work_left }

  pub left_done : r.number ≡ 0 → (o' : List ℕ) → o' ≡ hold (length o) (take r.length o)
      → Updates f u room size r o' w'
  left_done z o' e = record { answers = b.said; fills = ended_done f u room size r o b z same o' e; clears = work_left }
