-- The answers to a dataset that is not too long.
use Rattle.std.specs.Prelude.{ℕ}
use Rattle.base.specs.declared.Refusal.{Refusal}
use Rattle.rules.specs.declared.Answer.{Answer}

-- it stands, with so many records
abbrev pub counted : ℕ → Answer
counted n = record { number = 0; file = 0; rec = 0; length = 0; count = n }

-- it is refused
abbrev pub refused : Refusal → Answer
refused x = record { number = x.fault.number; file = 1; rec = x.rec; length = 0; count = 0 }
