use mathlib.Core.Path.{sym, ◌∙◌}
use Rattle.edits.proofs.DeedLaws.{alter_absent, alter_gone, alter_beside, alter_led}
use Rattle.edits.proofs.SearchLaws.{found_at, found_none}
use Rattle.edits.proofs.single.alter.Goals as goal

pub returns-in_default : goal.returns-in_default
returns-in_default c = let p = c.requires in
    λ s q barren. alter_absent s _ _ q _ _ _ _ p.6 barren _ p.0 (found_none _ _ c.in_default.ensures.0)

pub returns-then-u-at-eq2 : goal.returns-then-u-at-eq2
returns-then-u-at-eq2 c = let p = c.requires in
    let i = c.in-Some.ensures in
    let left = c.remove.ensures in
    λ s q barren. alter_gone s _ _ q _ _ _ _ p.6 _ (found_at _ _ _ i.0).1 i.1.1 p.4 barren _ _ c.if-u-at-eq2.true left.0 left.1

pub returns-then-is_beside : goal.returns-then-is_beside
returns-then-is_beside c = let p = c.requires in
    let i = c.in-Some.ensures in
    λ s q barren. alter_beside s _ _ q _ _ _ _ p.6 _ (found_at _ _ _ i.0).1 i.1.1 p.4 barren _ p.0 c.if-u-at-eq2.false (rw (← p.1) (sym c.is_beside.ensures ∙ c.if-is_beside.true))

pub returns : goal.returns
returns c = let p = c.requires in
    let i = c.in-Some.ensures in
    λ s q barren. alter_led s _ _ q _ _ _ _ p.6 _ (found_at _ _ _ i.0).1 i.1.1 p.4 barren _ p.0 c.if-u-at-eq2.false p.3 (rw (← p.1) (sym c.is_beside.ensures ∙ c.if-is_beside.false)) c.put_ref.ensures
