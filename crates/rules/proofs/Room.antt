-- The room of the output slice: it decides 13 and nothing else, and the slice keeps its length. Assumes nothing.
use mathlib.Core.Path.{◌≡◌, refl, ap, ◌∙◌}
use mathlib.Core.List.{List}
use mathlib.Core.Bool.{Bool, true, false}
use Prim.Native.Nat.{ℕ, ◌+◌, ◌-◌, ◌≤◌}
use native.Mathlib.Omega.{arith}
use borrow.Author.Tests.{ltb-false, le-ltb}
use lib.ListN.{length, replicate, length-append, length-replicate}
use lib.Dec.{ltb}
use Rattle.base.specs.Choice.{pick}
use Rattle.base.specs.Check.{fault}
use Rattle.rules.specs.Written.{Dataset, written_bytes, count}
use Rattle.rules.specs.Outcome.{Outcome, done, refused, and_then}
use Rattle.rules.specs.File.{read_dataset, writable, read_update}
use Rattle.rules.specs.Update.{updated}
use Rattle.rules.specs.Answers.{Written, not_too_long, read_outcome, room_for, output_of, write_outcome, write, enough_work, update_outcome, update}
use Rattle.rules.proofs.OutcomeLaws.{and_then_inv}

-- what is written fits
unfoldable pub Fits : ℕ → Outcome Written → Type 0
Fits room (done w) = length w.bytes ≤ room
Fits room (refused file n x) = Unit {0}

-- one after the other
fits_then : {A : Type 0} (room : ℕ) (m : Outcome A) (k : A → Outcome Written) → ((a : A) → Fits room (k a)) → Fits room (and_then m k)
unfolding and_then Fits
fits_then room (done a) k p = p a
fits_then room (refused file n x) k p = tt

-- a choice by 13
fits_pick : (room : ℕ) (b : List ℕ) (c t : ℕ) (s : Bool) → ltb room (length b) ≡ s
    → Fits room (pick s (refused 3 0 (fault t 0 0)) (done (record { bytes = b; records = c })))
unfolding Fits
fits_pick room b c t true e = tt
fits_pick room b c t false e = ltb-false room (length b) e

-- a written dataset fits its room
pub room_fits : (room : ℕ) (d : Dataset) → Fits room (room_for room d)
unfolding room_for
room_fits room d = fits_then room (not_too_long 3 (written_bytes d)) _ (λ _. fits_pick room (written_bytes d) (count d) 13 (ltb room (length (written_bytes d))) refl)

-- what fits leaves a slice of its length
out_length : (room : ℕ) (o : Outcome Written) → Fits room o → length (output_of room o).out ≡ room
unfolding Fits output_of
out_length room (done w) h =
    let n = length w.bytes in
    length-append w.bytes (replicate (room - n) 0) ∙ ap (λ k. n + k) (length-replicate (room - n) 0) ∙ (let z : n + (room - n) ≡ room = omega (arith, h) in z)
out_length room (refused file n x) h = length-replicate room 0

-- the writer's slice keeps its length
pub write_length : (f : List ℕ) (room : ℕ) → length (write f room).out ≡ room
unfolding write write_outcome
write_length f room = out_length room (write_outcome room f) (fits_then room (read_outcome f) _ (λ d. fits_then room (writable d) _ (λ w. room_fits room w)))

-- the updater's slice keeps its length
pub update_length : (f u : List ℕ) (room work : ℕ) → length (update f u room work).out ≡ room
unfolding update update_outcome
update_length f u room work =
    out_length room (update_outcome room work f u)
    (fits_then room (enough_work work) _ (λ _. fits_then room (not_too_long 1 f) _ (λ _. fits_then room (not_too_long 2 u) _ (λ _.
    fits_then room (read_dataset f) _ (λ d. fits_then room (writable d) _ (λ w. fits_then room (read_update u) _ (λ s. fits_then room (updated w s) _ (λ r. room_fits room r))))))))

-- ---- two rooms

-- a choice by 13 in two rooms
same_pick : (room₁ room₂ : ℕ) (b : List ℕ) (c : ℕ) (w : Written) (s : Bool)
    → pick s (refused 3 0 (fault 13 0 0)) (done (record { bytes = b; records = c })) ≡ done w
    → length w.bytes ≤ room₂ → pick (ltb room₂ (length b)) (refused 3 0 (fault 13 0 0)) (done (record { bytes = b; records = c })) ≡ done w
same_pick room₁ room₂ b c w true e h = absurd (let z : ◌≡◌ {A = ℕ} 0 1 = cc in omega arith)
same_pick room₁ room₂ b c w false e h =
    let z : record { bytes = b; records = c } ≡ w = cc in
    let l : length b ≤ room₂ = rw (ap (λ (v : Written). v.bytes) z) h in
    rw (le-ltb room₂ (length b) l) e

-- a dataset written in one room is written alike in any that holds it
pub room_only : (room₁ room₂ : ℕ) (d : Dataset) (w : Written) → room_for room₁ d ≡ done w → length w.bytes ≤ room₂ → room_for room₂ d ≡ done w
unfolding room_for
room_only room₁ room₂ d w e h =
    let a = and_then_inv (not_too_long 3 (written_bytes d)) _ w e in
    ap (λ (m : Outcome (Unit {0})). and_then m (λ _. pick (ltb room₂ (length (written_bytes d))) (refused 3 0 (fault 13 0 0)) (done (record { bytes = written_bytes d; records = count d })))) a.1
    ∙ (unfold and_then in same_pick room₁ room₂ (written_bytes d) (count d) w (ltb room₁ (length (written_bytes d))) a.2 h)
