use mathlib.Core.Path.{refl, ◌∙◌}
use Rattle.coords.proofs.PlacingLaws.{putting_ways}
use Rattle.coords.proofs.placing.put_sent.Goals as goal

pub loop-field-init : goal.loop-field-init
loop-field-init c = (search putting_ways, refl)

pub put_tuples-m-requires : goal.put_tuples-m-requires
put_tuples-m-requires c = search putting_ways

pub overflow_sub-j : goal.overflow_sub-j
overflow_sub-j c = search putting_ways

pub overflow_add-j : goal.overflow_add-j
overflow_add-j c = search putting_ways

pub loop-field-smaller-then-field-eq-C2IL : goal.loop-field-smaller-then-field-eq-C2IL
loop-field-smaller-then-field-eq-C2IL c = search putting_ways

pub loop-field-preserved-then-field-eq-C2IL : goal.loop-field-preserved-then-field-eq-C2IL
loop-field-preserved-then-field-eq-C2IL c = (search (putting_ways, c.put_tuples-m.auto.l), c.put_tuples-m.auto.l ∙ c.loop-field.invariant.1)

pub loop-field-smaller : goal.loop-field-smaller
loop-field-smaller c = search putting_ways

pub loop-field-preserved : goal.loop-field-preserved
loop-field-preserved c = (search putting_ways, search putting_ways)

pub returns : goal.returns
returns c = (search putting_ways, search putting_ways)
