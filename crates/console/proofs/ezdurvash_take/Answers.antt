-- `ezdurvash_take` meets its contract. Assumes nothing.
use Rattle.console.proofs.CabledLaws.{says_take}
use Rattle.console.proofs.ezdurvash_take.Goals as goal

pub returns : goal.returns
returns c = search says_take
