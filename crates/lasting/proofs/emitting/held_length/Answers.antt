use Rattle.composing.proofs.KeptLaws.{lasts_ways}
use borrow.Author.Rules.{rules}
use Rattle.lasting.proofs.emitting.held_length.Goals as goal

pub version_length-requires : goal.version_length-requires
version_length-requires c = record { d_len_bound = search rules; held = search lasts_ways }

pub returns : goal.returns
returns c = search lasts_ways
