use mathlib.Core.Path.{refl, ap, ◌∙◌}
use Rattle.memory.specs.Put.{put}
use Rattle.edits.proofs.WalkLaws.{seat_none, seat_some}
use Rattle.edits.proofs.DeedLaws.{insert_6, insert_9, insert_lead}
use Rattle.edits.proofs.SearchLaws.{found_at, found_none}
use native.Mathlib.Omega.{arith}
use Rattle.edits.proofs.single.insert.Goals as goal

pub returns-then-barren : goal.returns-then-barren
returns-then-barren c = λ s q. insert_6 s _ _ q _ _ _ _ c.requires.5 _ c.requires.0 _ c.if-barren.true

pub returns-in_default : goal.returns-in_default
returns-in_default c = let p = c.requires in
    let none = seat_none _ _ _ _ _ _ _ p.5 refl (omega (arith, found_none _ _ c.in_default.ensures.0)) in
    λ s q. insert_9 s _ _ q _ _ _ _ p.5 _ p.0 c.if-barren.false _ _ _ c.number-code.ensures.0 c.number-k.ensures.0 refl _ none

pub returns : goal.returns
returns c = let p = c.requires in
    let code = c.number-code.ensures in
    let i = c.in-Some.ensures in
    let some = seat_some _ _ _ _ _ _ _ (found_at _ _ _ i.0).1 i.1.1 in
    let stored = c.put_item.ensures ∙ ap (put _ _) c.open_gap.ensures.1 in
    λ s q. insert_lead s _ _ q _ _ _ _ p.5 _ p.0 c.if-barren.false _ _ _ code.0 c.number-k.ensures.0 refl _ _ p.2 p.3 (omega arith) code.1 some.0 some.1 stored
