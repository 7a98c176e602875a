-- `load_at` meets its contract. Assumes nothing.
use Rattle.history.proofs.FindingLaws.{load_fields, load_held, load_refused, flags_stay, load_ways}
use Rattle.stock.specs.Stored.{stored}
use mathlib.Core.Path.{sym, ◌∙◌}
use borrow.Author.Rules.{rules}
use Rattle.history.proofs.finding.load_at.Goals as goal

pub overflow_add-at : goal.overflow_add-at
overflow_add-at c = search load_ways

pub key_at-requires : goal.key_at-requires
key_at-requires c = search load_ways

pub load_record-requires : goal.load_record-requires
load_record-requires c = (sym c.record_at.ensures ∙ c.in-Ok.is, c.requires.2, search rules, stored (load_fields _ _ c.requires.0 c.requires.1 _ c.record_at.ensures _ c.in-Ok.is _ c.key_at.ensures.0 _ c.kind_of-k.ensures))

pub returns : goal.returns
returns c = let at = c.record_at.ensures in
    let good = c.in-Ok.is in
    let v = c.load_record in
    (load_held c.args.d.now c.args.at c.requires.0 c.requires.1 _ at _ good _ (load_fields c.args.d.now c.args.at c.requires.0 c.requires.1 _ at _ good _ c.key_at.ensures.0 _ c.kind_of-k.ensures) v.new.work v.result v.ensures.0, flags_stay c.args.work.now v.new.work v.ensures.1)

pub returns-in_default : goal.returns-in_default
returns-in_default c = load_refused _ _ c.requires.0 c.requires.1 _ c.record_at.ensures _ c.in_default.is
