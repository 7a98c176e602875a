use Rattle.lasting.proofs.WholeLaws.{whole_noted}
use Rattle.lasting.proofs.NewLaws.{new_other, new_word, new_inside, new_bounded, new_not, new_behind, new_gone, new_lasting, new_joined}
use mathlib.Core.Path.{sym, ◌∙◌}
use native.Mathlib.Omega.{arith}
use mathlib.Core.Path.{ap}
use mathlib.Core.Bool.{not}
use Rattle.lasting.proofs.new.make_new.Goals as goal

pub returns-then-key-q : goal.returns-then-key-q
returns-then-key-q c = new_other _ _ _ _ _ _ _ c.args.work.now c.requires.0 _ _ _ _ c.requires.1 _ _ _ _ c.if-key-q.true

pub overflow_add-p : goal.overflow_add-p
overflow_add-p c = omega (arith, new_word _ _ _ _ _ _ _ _ c.requires.0 _ _ _ _ c.requires.1)

pub slice_bounds-inserts-end : goal.slice_bounds-inserts-end
slice_bounds-inserts-end c = new_inside _ _ _ _ _ _ _ _ c.requires.0 _ _ _ _ c.requires.1

pub inserts-requires : goal.inserts-requires
inserts-requires c = new_bounded _ _ _ _ _ _ _ _ c.requires.0 _ _ _ _ c.requires.1

pub returns-then-not-inserts : goal.returns-then-not-inserts
returns-then-not-inserts c = new_not _ _ _ _ _ _ _ c.args.work.now c.requires.0 _ _ _ _ c.requires.1 _ _ _ _ _ c.inserts.ensures (ap not c.if-not-inserts.true)

pub overflow_add-p-2 : goal.overflow_add-p-2
overflow_add-p-2 c = omega (arith, new_word _ _ _ _ _ _ _ _ c.requires.0 _ _ _ _ c.requires.1)

pub deleted-requires : goal.deleted-requires
deleted-requires c = (whole_noted _ _ _ _ _ _ _ _ c.requires.0 _ _ c.requires.3, new_behind _ _ _ _ _ _ _ _ c.requires.0 _ _ _ _ c.requires.1)

pub returns-then-deleted : goal.returns-then-deleted
returns-then-deleted c = new_gone _ _ _ _ _ _ _ c.args.work.now c.requires.0 _ _ _ _ c.requires.1 _ _ _ _ _ c.deleted.ensures c.if-deleted.true

pub joined-requires : goal.joined-requires
joined-requires c = (c.requires.0, new_lasting _ _ _ _ _ _ _ _ c.requires.0 _ _ _ _ c.requires.1 (sym c.inserts.ensures ∙ c.if-not-inserts.false, sym c.deleted.ensures ∙ c.if-deleted.false), c.requires.2, c.requires.3)

pub returns : goal.returns
returns c = new_joined _ _ _ _ _ _ _ c.args.work.now c.requires.0 _ _ _ _ c.requires.1 _ _ _ _ c.if-key-q.false (sym c.inserts.ensures ∙ c.if-not-inserts.false, sym c.deleted.ensures ∙ c.if-deleted.false) _ _ c.joined.new.work c.joined.ensures
