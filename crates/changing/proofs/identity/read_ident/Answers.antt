-- `read_ident` meets its contract. Assumes nothing.
use Rattle.changing.proofs.PassedLaws.{ident_inside, ident_word, ident_bounded, ident_ready, ident_says, ident_some}
use native.Mathlib.Omega.{arith}
use Rattle.changing.proofs.identity.read_ident.Goals as goal

pub overflow_add-r : goal.overflow_add-r
overflow_add-r c = omega (arith, ident_word _ _ _ _ _ c.requires)

pub slice_bounds-r-end : goal.slice_bounds-r-end
slice_bounds-r-end c = ident_inside _ _ _ _ _ c.requires

pub place_at-requires : goal.place_at-requires
place_at-requires c = ident_bounded _ _ _ _ _ c.requires

pub code-requires : goal.code-requires
code-requires c = ident_ready _ _ _ _ _ c.requires _ c.place_at.ensures _ c.in-Some.is

pub rver-requires : goal.rver-requires
rver-requires c = ident_ready _ _ _ _ _ c.requires _ c.place_at.ensures _ c.in-Some.is

pub ruin-requires : goal.ruin-requires
ruin-requires c = ident_ready _ _ _ _ _ c.requires _ c.place_at.ensures _ c.in-Some.is

pub returns : goal.returns
returns c = ident_says _ _ _ _ _ c.requires _ c.place_at.ensures _ c.in-Some.is _ _ _ c.code.ensures c.rver.ensures c.ruin.ensures

pub unreachable-requires : goal.unreachable-requires
unreachable-requires c = ident_some _ _ _ _ _ c.requires _ c.place_at.ensures c.in_default.is
