use Rattle.records.proofs.GrammarLaws.{fields_ways}
use Rattle.records.proofs.grammar.fields_stand.Goals as goal
use Rattle.records.proofs.grammar.fields_stand.Goals.{else-as_stored-via-then-as_stored+else-not-is_complete, else-as_stored-via-else-as_stored}

pub returns-in-Err : goal.returns-in-Err
returns-in-Err c = search fields_ways

pub returns-then-not-is_complete : goal.returns-then-not-is_complete
returns-then-not-is_complete c = search fields_ways

pub returns : goal.returns
returns c = elim c.else-as_stored.branch [ else-as_stored-via-then-as_stored+else-not-is_complete w ↦ search fields_ways | else-as_stored-via-else-as_stored w ↦ search fields_ways ]
