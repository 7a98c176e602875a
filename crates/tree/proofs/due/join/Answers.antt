use Rattle.tree.proofs.DueLaws.{join_stray, join_counted}
use Rattle.tree.proofs.due.join.Goals as goal

pub returns-then-b-j : goal.returns-then-b-j
returns-then-b-j c = λ z. join_stray _ _ _ _ c.requires.1 c.requires.3 _ c.key_at-key.ensures.0 c.key_at-key.ensures.1 _ c.page-j.ensures.0 _ c.if-b-j.true z

pub returns : goal.returns
returns c = λ z. join_counted _ _ _ _ c.requires.1 c.requires.3 _ c.key_at-key.ensures.0 c.key_at-key.ensures.1 _ c.page-j.ensures.0 c.if-b-j.false _ c.if-t-j.false _ _ _ c.le16-index.ensures c.from.ensures c.from-2.ensures c.if-from.false
