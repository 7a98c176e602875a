use Rattle.contents.proofs.SevenLaws.{seven_ways}
use native.Mathlib.Omega.{arith}
use borrow.Author.Rules.{rules}
use Rattle.contents.proofs.associations.check_keys.Goals as goal

pub surely_once-requires : goal.surely_once-requires
surely_once-requires c = (search rules, omega arith, search seven_ways, search seven_ways)

pub returns-then-surely_once : goal.returns-then-surely_once
returns-then-surely_once c = search seven_ways

pub keys_once-requires : goal.keys_once-requires
keys_once-requires c = (search rules, omega arith, search seven_ways, search seven_ways)

pub returns : goal.returns
returns c = search seven_ways
