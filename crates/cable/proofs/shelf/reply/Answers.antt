-- `reply` meets its contract. Assumes nothing.
use Rattle.cable.proofs.ShelfLaws.{reply_ways}
use Rattle.cable.proofs.shelf.reply.Goals as goal

pub returns-then-not-tells_holding : goal.returns-then-not-tells_holding
returns-then-not-tells_holding c = search reply_ways

pub search-requires : goal.search-requires
search-requires c = search reply_ways

pub returns : goal.returns
returns c = search reply_ways
