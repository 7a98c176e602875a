use Rattle.std.proofs.Common.{◌≡◌, ◌+◌, ◌-◌}
use Rattle.fieldwise.specs.Reader.{passed_from}
use Rattle.fieldwise.specs.Numbered.{numbered, found_of, field_numbered}
use Rattle.fieldwise.proofs.numbered.field_at.Given as goal

-- of what the reader passes from where it stands on, the field of the number that is left is the one that is wanted
abbrev pub invariant-loop : goal.invariant-loop
invariant-loop l = (l.reader.rec.now ≡ l.rec) × (found_of (numbered (l.n + 1 - l.counter) (passed_from l.rec l.reader.at)) ≡ field_numbered l.rec l.n)
