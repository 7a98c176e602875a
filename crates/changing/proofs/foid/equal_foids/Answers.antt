-- `equal_foids` meets its contract. Assumes nothing.
use Rattle.changing.proofs.FoidLaws.{equal_room_a, equal_room_b, same_fids, other_fidn, other_agen}
use mathlib.Core.Path.{sym, ◌∙◌}
use mathlib.Core.Bool.{true≢false}
use borrow.Author.Tests.{ne_eqb, eqb-true, eqb-false}
use native.Mathlib.Omega.{arith}
use Rattle.changing.proofs.foid.equal_foids.Goals.{then-le16, else-le16}
use Rattle.changing.proofs.foid.equal_foids.Goals as goal

pub le16-requires : goal.le16-requires
le16-requires c = omega (arith, equal_room_a _ _ c.requires)

pub le16-requires-2 : goal.le16-requires-2
le16-requires-2 c = omega (arith, equal_room_b _ _ c.requires)

pub le32-requires : goal.le32-requires
le32-requires c = omega (arith, equal_room_a _ _ c.requires)

pub le32-requires-then-le16 : goal.le32-requires-then-le16
le32-requires-then-le16 c = omega (arith, equal_room_b _ _ c.requires)

pub le16-requires-then-le32 : goal.le16-requires-then-le32
le16-requires-then-le32 c = omega (arith, equal_room_a _ _ c.requires)

pub le16-requires-then-le32-2 : goal.le16-requires-then-le32-2
le16-requires-then-le32-2 c = omega (arith, equal_room_b _ _ c.requires)

pub returns-then-le32 : goal.returns-then-le32
returns-then-le32 c =
    elim c.if-le16.branch [
      | then-le16 w ↦ same_fids _ _ c.requires _ _ c.le16.ensures c.le16-2.ensures w.if-le16.true _ _ w.le32.ensures w.le32-then-le16.ensures (eqb-true _ _ (sym w.value-is ∙ c.if-le32.true)) _ _ c.le16-then-le32.ensures c.le16-then-le32-2.ensures
      | else-le16 w ↦ absurd (true≢false (sym c.if-le32.true ∙ w.value-is ∙ ne_eqb _ _ w.if-le16.false))
    ]

pub returns-else-le32 : goal.returns-else-le32
returns-else-le32 c =
    elim c.if-le16.branch [
      | then-le16 w ↦ c.if-le32.false ∙ other_fidn _ _ c.requires _ _ c.le16.ensures c.le16-2.ensures w.if-le16.true _ _ w.le32.ensures w.le32-then-le16.ensures (eqb-false _ _ (sym w.value-is ∙ c.if-le32.false))
      | else-le16 w ↦ c.if-le32.false ∙ other_agen _ _ c.requires _ _ c.le16.ensures c.le16-2.ensures w.if-le16.false
    ]
