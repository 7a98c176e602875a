-- `ezdurvash_hand` meets its contract. Assumes nothing.
use Rattle.console.proofs.ShownLaws.{says_hand}
use Rattle.console.proofs.ezdurvash_hand.Goals as goal

pub returns : goal.returns
returns c = search says_hand
