use Rattle.records.proofs.OrderLaws.{shut_out_ways}
use Rattle.records.proofs.order.shut_out.Goals as goal

pub returns-then-s : goal.returns-then-s
returns-then-s c = search shut_out_ways

pub returns-in-InDataset : goal.returns-in-InDataset
returns-in-InDataset c = search shut_out_ways

pub returns-in-InUpdate : goal.returns-in-InUpdate
returns-in-InUpdate c = search shut_out_ways
