-- `same_key` meets its contract. Assumes nothing.
use mathlib.Core.Path.{sym, ap, ◌∙◌}
use mathlib.Core.Bool.{not, true≢false}
use borrow.Author.Tests.{ne_eqb, eqb-true, eqb-false}
use Rattle.cells.proofs.KeyLaws.{first_differs, second_differs, short_same, third_differs, fourth_decides, key_ways}
use Rattle.cells.proofs.search.same_key.Goals as goal
use Rattle.cells.proofs.search.same_key.Goals.{then-le8, else-le8}

pub le8-requires : goal.le8-requires
le8-requires c = search key_ways

pub le8-requires-2 : goal.le8-requires-2
le8-requires-2 c = search key_ways

-- a key of two numbers
pub returns-then-not-inas : goal.returns-then-not-inas
returns-then-not-inas c =
    elim c.if-le8.branch [
      | then-le8 w ↦ ap not c.if-not-inas.true ∙ short_same c.args.a.now c.args.b.now c.args.i c.args.j _ _ c.le8.ensures c.le8-2.ensures w.if-le8.true _ _ w.le32.ensures w.le32-then-le8.ensures (eqb-true _ _ (sym w.value-is ∙ c.if-le32.true)) _ c.if-not-inas.true
      | else-le8 w ↦ absurd (true≢false (sym c.if-le32.true ∙ w.value-is ∙ ne_eqb _ _ w.if-le8.false))
    ]

-- a key of four
pub returns-then-le16 : goal.returns-then-le16
returns-then-le16 c =
    elim c.if-le8.branch [
      | then-le8 w ↦ fourth_decides c.args.a.now c.args.b.now c.args.i c.args.j _ _ c.le8.ensures c.le8-2.ensures w.if-le8.true _ _ w.le32.ensures w.le32-then-le8.ensures (eqb-true _ _ (sym w.value-is ∙ c.if-le32.true)) _ c.if-not-inas.false _ _ c.le16.ensures c.le16-else-not-inas.ensures c.if-le16.true _ _ c.le16-then-le16.ensures c.le16-then-le16-2.ensures
      | else-le8 w ↦ absurd (true≢false (sym c.if-le32.true ∙ w.value-is ∙ ne_eqb _ _ w.if-le8.false))
    ]

pub returns-else-le16 : goal.returns-else-le16
returns-else-le16 c =
    elim c.if-le8.branch [
      | then-le8 w ↦ ne_eqb _ _ c.if-le16.false ∙ third_differs c.args.a.now c.args.b.now c.args.i c.args.j _ _ c.le8.ensures c.le8-2.ensures w.if-le8.true _ _ w.le32.ensures w.le32-then-le8.ensures (eqb-true _ _ (sym w.value-is ∙ c.if-le32.true)) _ c.if-not-inas.false _ _ c.le16.ensures c.le16-else-not-inas.ensures c.if-le16.false
      | else-le8 w ↦ absurd (true≢false (sym c.if-le32.true ∙ w.value-is ∙ ne_eqb _ _ w.if-le8.false))
    ]

-- the first or the second number differs
pub returns-else-le32 : goal.returns-else-le32
returns-else-le32 c =
    elim c.if-le8.branch [
      | then-le8 w ↦ c.if-le32.false ∙ second_differs c.args.a.now c.args.b.now c.args.i c.args.j _ _ c.le8.ensures c.le8-2.ensures w.if-le8.true _ _ w.le32.ensures w.le32-then-le8.ensures _ (eqb-false _ _ (sym w.value-is ∙ c.if-le32.false))
      | else-le8 w ↦ c.if-le32.false ∙ first_differs c.args.a.now c.args.b.now c.args.i c.args.j _ _ c.le8.ensures c.le8-2.ensures _ w.if-le8.false
    ]
