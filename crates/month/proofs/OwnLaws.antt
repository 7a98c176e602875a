-- What the updater gives has passed all that is tested of a dataset alone, so a month does not test it again. Assumes nothing.
use Prim.Native.Nat.{ℕ}
use mathlib.Core.Path.{◌≡◌}
use mathlib.Core.List.{List}
use Rattle.fields.specs.Valid.{Bytes}
use Rattle.rules.specs.Written.{Dataset}
use Rattle.rules.specs.Answers.{Written, update}
use Rattle.numbers.proofs.Answers.{zero_is_done}
use Rattle.roundtrip.specs.Form.{Form}
use Rattle.roundtrip.proofs.Answers.{form_reads, form_bytes, update_form, outcome_inv}
use Rattle.displays.specs.Display.{taken}
use Rattle.displays.proofs.Room.{takes}
use Rattle.updater.specs.Stages.{Tested}

-- a written form passes
form_tested : (w : Written) (d : Dataset) → Form w d → Tested w.bytes
form_tested w d f = record { short = f.is_short; dataset = d; is_read = outcome_inv w.bytes d (form_reads w d f); is_writable = f.is_writable }

-- so does the chart that a display takes of an update that is done; and it is made of bytes
pub given_tested : (c file : List ℕ) (room work : ℕ) → Bytes c → Bytes file → (update c file room work).answer.number ≡ 0
    → Tested (taken c (update c file room work)) × Bytes (taken c (update c file room work))
unfolding update
given_tested c file room work b g z =
    let (w, e) = (zero_is_done.updates c file room work).0 z in
    let (d, u, r, x, y, v, f) = update_form room work c file w b g e in
    rw (e, takes c room w) (form_tested w r f, form_bytes w r f)
