use Rattle.updater.proofs.PlacedLaws.{there_first, there_old, there_third, there_sent, there_new}
use Rattle.updater.proofs.ApplyLaws.{general_lies, front_lies, front_begun, front_stands, front_whole, front_not, general_refused}
use Rattle.updater.proofs.apply.Goals as goal

pub found-first-requires : goal.found-first-requires
found-first-requires c = there_first _ _ _ c.requires.0

pub found-old-requires : goal.found-old-requires
found-old-requires c = there_old _ _ _ c.requires.0 _ c.found-first.ensures

pub found-third-requires : goal.found-third-requires
found-third-requires c = there_third _ _ _ c.requires.0 _ c.found-first.ensures _ c.found-old.ensures

pub found-sent-requires : goal.found-sent-requires
found-sent-requires c = there_sent _ _ _ c.requires.0

pub found-new-requires : goal.found-new-requires
found-new-requires c = there_new _ _ _ c.requires.0 _ c.found-sent.ensures

pub general-requires : goal.general-requires
general-requires c = let k = general_lies _ _ _ c.requires.0 _ c.found-first.ensures _ c.found-old.ensures _ c.found-third.ensures _ c.found-sent.ensures _ c.found-new.ensures in record { lies = k.0; passed = k.1 }

pub front_length-front-requires : goal.front_length-front-requires
front_length-front-requires c = let k = front_lies _ _ _ c.requires.0 _ c.found-first.ensures _ c.found-old.ensures _ c.found-third.ensures _ c.found-sent.ensures _ c.found-new.ensures _ c.general.ensures _ c.in-Ok.is in record { lies = k.0; short = k.1 }

pub act-a-requires : goal.act-a-requires
act-a-requires c = (front_begun _ _ _ c.requires.0 _ c.found-first.ensures _ c.found-old.ensures _ c.found-third.ensures _ c.found-sent.ensures _ c.found-new.ensures _ c.general.ensures _ c.in-Ok.is _ c.front_length-front.ensures, c.requires.1)

pub put_front-requires : goal.put_front-requires
put_front-requires c = let k = front_stands _ _ _ c.requires.0 _ c.found-first.ensures _ c.found-old.ensures _ c.found-third.ensures _ c.found-sent.ensures _ c.found-new.ensures _ c.general.ensures _ c.in-Ok.is _ c.front_length-front.ensures _ _ c.requires.1 _ _ c.act-a.ensures c.if-a-eq0.true in record { lies = k.0; passed = k.1.0; room = k.1.1 }

pub returns-then-a-eq0 : goal.returns-then-a-eq0
returns-then-a-eq0 c = front_whole _ _ _ c.requires.0 _ c.found-first.ensures _ c.found-old.ensures _ c.found-third.ensures _ c.found-sent.ensures _ c.found-new.ensures _ c.general.ensures _ c.in-Ok.is _ c.front_length-front.ensures _ _ c.requires.1 _ _ c.act-a.ensures c.if-a-eq0.true _ _ c.put_front.ensures

pub returns-else-a-eq0 : goal.returns-else-a-eq0
returns-else-a-eq0 c = front_not _ _ _ c.requires.0 _ c.found-first.ensures _ c.found-old.ensures _ c.found-third.ensures _ c.found-sent.ensures _ c.found-new.ensures _ c.general.ensures _ c.in-Ok.is _ c.front_length-front.ensures _ _ c.requires.1 _ _ c.act-a.ensures c.if-a-eq0.false

pub returns-in-Err : goal.returns-in-Err
returns-in-Err c = general_refused _ _ _ c.requires.0 _ c.found-first.ensures _ c.found-old.ensures _ c.found-third.ensures _ c.found-sent.ensures _ c.found-new.ensures _ c.general.ensures _ c.in-Err.is _ _ c.requires.1 _ _ c.refused.ensures
