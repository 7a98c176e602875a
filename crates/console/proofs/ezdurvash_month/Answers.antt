-- `ezdurvash_month` meets its contract. Assumes nothing.
use Rattle.console.proofs.MonthLaws.{says_month}
use Rattle.console.proofs.ezdurvash_month.Goals as goal

pub returns : goal.returns
returns c = search says_month
