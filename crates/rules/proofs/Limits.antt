-- What is tested before all else: 14 in the reader, 15 in the updater. Assumes nothing.
use mathlib.Core.Path.{◌≡◌}
use mathlib.Core.List.{List}
use Prim.Native.Nat.{ℕ, ◌<◌}
use borrow.Author.Tests.{lt-ltb}
use lib.ListN.{length, replicate}
use Rattle.base.specs.Check.{fault}
use Rattle.rules.specs.Outcome.{and_then}
use Rattle.rules.specs.Answers.{refusal, not_too_long, read_outcome, read_answer, read, enough_work, update_outcome, output_of, update}

-- a file of more than 16,777,216 bytes is 14, whatever it holds
pub read_long : (f : List ℕ) → 16777216 < length f → read f ≡ refusal 1 0 (fault 14 0 0)
unfolding read read_outcome not_too_long read_answer and_then
read_long f h = rw (lt-ltb 16777216 (length f) h)

-- a workspace of less than 400,000 bytes is 15, whatever the files hold
pub update_work : (f u : List ℕ) (room work : ℕ) → work < 400000
    → update f u room work ≡ record { answer = refusal 0 0 (fault 15 0 0); out = replicate room 0 }
unfolding update update_outcome enough_work and_then output_of
update_work f u room work h = rw (lt-ltb work 400000 h)
