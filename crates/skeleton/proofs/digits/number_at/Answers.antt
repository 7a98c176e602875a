-- `digits::number_at` meets its contract. The invariant: the number from here on is the number asked for, and the digits to come have room.
-- Assumes nothing.
use Rattle.skeleton.proofs.DigitsLaws.{number_turn}
use Rattle.skeleton.proofs.digits.number_at.Goals as goal

pub returns-then-b-lt48 : goal.returns-then-b-lt48
returns-then-b-lt48 c = search number_turn

pub returns-then-b-gt57 : goal.returns-then-b-gt57
returns-then-b-gt57 c = search number_turn

pub overflow_mul-acc : goal.overflow_mul-acc
overflow_mul-acc c = search number_turn

pub overflow_add-acc : goal.overflow_add-acc
overflow_add-acc c = search number_turn

pub loop-i-preserved : goal.loop-i-preserved
loop-i-preserved c = search number_turn

pub returns : goal.returns
returns c = search number_turn
