use Rattle.records.proofs.GrammarLaws.{order_kinds}
use Rattle.records.proofs.grammar.kind_order.Goals as goal

pub returns-in-Info : goal.returns-in-Info
returns-in-Info c = search order_kinds

pub returns-in-Point : goal.returns-in-Point
returns-in-Point c = search order_kinds

pub returns-in-Multi : goal.returns-in-Multi
returns-in-Multi c = search order_kinds

pub returns-in-Feature : goal.returns-in-Feature
returns-in-Feature c = search order_kinds
