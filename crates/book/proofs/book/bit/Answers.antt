use Rattle.book.proofs.BookLaws.{bit_there, bit_past}
use Rattle.book.proofs.book.bit.Goals.{then-j-b, else-j-b}
use Rattle.book.proofs.book.bit.Goals as goal

pub returns : goal.returns
returns c = elim c.if-j-b.branch [
  | then-j-b w ↦ bit_there _ _ _ _ _ c.from.ensures w.if-j-b.true w.from-is
  | else-j-b w ↦ bit_past _ _ _ _ _ c.from.ensures w.if-j-b.false w.from-is
]
