use Rattle.following.proofs.NamingLaws.{dsid_ways}
use Rattle.following.proofs.naming.dsid_follows.Goals as goal

pub returns-then-not-same_names : goal.returns-then-not-same_names
returns-then-not-same_names c = search dsid_ways

pub returns-then-number_in : goal.returns-then-number_in
returns-then-number_in c = search dsid_ways

pub returns : goal.returns
returns c = search dsid_ways
