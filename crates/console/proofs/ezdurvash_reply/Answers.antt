-- `ezdurvash_reply` meets its contract. Assumes nothing.
use Rattle.console.proofs.CabledLaws.{says_reply}
use Rattle.console.proofs.ezdurvash_reply.Goals as goal

pub returns : goal.returns
returns c = search says_reply
