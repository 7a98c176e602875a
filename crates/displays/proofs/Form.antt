-- A chart in the written form is given back by the writer. Assumes nothing.
use Prim.Native.Nat.{ℕ, ◌≤◌}
use mathlib.Core.Path.{◌≡◌, refl}
use mathlib.Core.List.{List, []}
use borrow.Author.Tests.{le-ltb}
use lib.ListN.{length}
use lib.Dec.{ltb}
use Rattle.rules.specs.Written.{Dataset, written_bytes, count}
use Rattle.rules.specs.Outcome.{done, and_then}
use Rattle.rules.specs.File.{read_dataset, writable}
use Rattle.rules.specs.Answers.{success, not_too_long, read_outcome, room_for, output_of, write_outcome, write}
use Rattle.rules.proofs.OutcomeLaws.{refuses}
use Rattle.sequence.proofs.Tests.{by_bool}
use Rattle.displays.specs.Display.{taken}
use Rattle.displays.proofs.Room.{takes}

-- a file that is not too long is not too long in any place
pub short_file : (m n : ℕ) (b : List ℕ) → not_too_long m b ≡ done tt → not_too_long n b ≡ done tt
unfolding not_too_long
short_file m n b e = by_bool (ltb 16777216 (length b)) (λ h. refuses (rw h at e)) (λ h. rw h)

-- what the writer finds and writes of a chart that is the written form of what it says
pub written_as : (room : ℕ) (c : List ℕ) (d : Dataset) → c ≡ written_bytes d → length c ≤ room → not_too_long 1 c ≡ done tt → read_dataset c ≡ done d → writable d ≡ done d
    → write_outcome room c ≡ done (record { bytes = c; records = count d })
unfolding write_outcome read_outcome room_for and_then
written_as room c d f l s r w = rw (s, r, w, ← f, short_file 1 3 c s, le-ltb room (length c) l)

-- so it answers 0, and what a display would take is the chart
pub gives_back : (room : ℕ) (c : List ℕ) (n : ℕ) → write_outcome room c ≡ done (record { bytes = c; records = n }) → ((write c room).answer.number ≡ 0) × (taken [] (write c room) ≡ c)
unfolding write output_of success
gives_back room c n e = rw e (refl, takes [] room (record { bytes = c; records = n }))
