use Rattle.edits.proofs.single.perform.Goals as goal

pub returns : goal.returns
returns c = λ s q. c.alter.ensures s q _
