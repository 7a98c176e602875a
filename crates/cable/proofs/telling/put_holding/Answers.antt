-- `put_holding` meets its contract. Assumes nothing.
use Rattle.cable.proofs.TellingLaws.{put_all, put_ways}
use borrow.Author.Rules.{rules}
use Rattle.cable.proofs.telling.put_holding.Goals as goal

pub put_part-requires : goal.put_part-requires
put_part-requires c = (search rules, search put_ways)

pub returns : goal.returns
returns c = let g = c.requires in
    put_all _ g.0 _ g.1.0 _ g.1.1 _ _ _ _ _ _ _ _ _ _ _ _ _
    c.put_part.ensures.1
    c.put_little_endian-l.ensures.1
    c.put_little_endian-k.ensures.1
    c.put_little_endian-j.ensures.1
    c.put_little_endian-i.ensures.1
    c.number_in-edition.ensures
    c.number_in-number.ensures
