use mathlib.Core.Bool.{true≢false}
use Rattle.book.proofs.FirstLaws.{ahead_more}
use Rattle.book.proofs.SparedLaws.{repeats_turn}
use native.Mathlib.Omega.{arith}
use Rattle.book.proofs.once.repeats.Goals as goal

pub returns-then-stood : goal.returns-then-stood
returns-then-stood c = record { told = search repeats_turn; ahead = λ z. absurd (true≢false z) }

pub returns : goal.returns
returns c = record { told = search repeats_turn; ahead = λ _. search (ahead_more, arith) }
