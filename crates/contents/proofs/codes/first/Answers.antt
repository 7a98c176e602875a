use Rattle.contents.proofs.CodeLaws.{first_turn}
use Rattle.contents.proofs.codes.first.Goals as goal

pub slice_bounds-inas_code-count : goal.slice_bounds-inas_code-count
slice_bounds-inas_code-count c = search first_turn

pub slice_bounds-inas_code-start : goal.slice_bounds-inas_code-start
slice_bounds-inas_code-start c = search first_turn

pub slice_bounds-inas_code-end : goal.slice_bounds-inas_code-end
slice_bounds-inas_code-end c = search first_turn

pub inas_code-requires : goal.inas_code-requires
inas_code-requires c = search first_turn

pub returns-then-field-eq-INAS : goal.returns-then-field-eq-INAS
returns-then-field-eq-INAS c = search first_turn

pub tuple-requires : goal.tuple-requires
tuple-requires c = search first_turn

pub returns-then-field : goal.returns-then-field
returns-then-field c = search first_turn

pub loop-field-smaller : goal.loop-field-smaller
loop-field-smaller c = search first_turn

pub loop-field-preserved : goal.loop-field-preserved
loop-field-preserved c = (search first_turn, search first_turn)

pub returns : goal.returns
returns c = search first_turn
