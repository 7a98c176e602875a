use Rattle.listing.proofs.CountLaws.{tuples_of_ways}
use Rattle.listing.proofs.counts.tuples_of.Goals as goal

pub returns-then-tag-eq-C2IT : goal.returns-then-tag-eq-C2IT
returns-then-tag-eq-C2IT c = search tuples_of_ways

pub returns : goal.returns
returns c = search tuples_of_ways
