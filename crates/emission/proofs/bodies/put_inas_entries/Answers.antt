use Rattle.emission.proofs.BodiesLaws.{entries_end}
use Rattle.emission.proofs.BodiesLaws.{entries_ways}
use Rattle.emission.proofs.bodies.put_inas_entries.Goals as goal

pub loop-i-init : goal.loop-i-init
loop-i-init c = search entries_ways

pub body_length-size-requires : goal.body_length-size-requires
body_length-size-requires c = search entries_ways

pub overflow_add-size : goal.overflow_add-size
overflow_add-size c = search entries_ways

pub put_entry-p-requires : goal.put_entry-p-requires
put_entry-p-requires c = search entries_ways

pub overflow_add-pos : goal.overflow_add-pos
overflow_add-pos c = search entries_ways

pub loop-i-preserved : goal.loop-i-preserved
loop-i-preserved c = search entries_ways

pub shape_of-out : goal.shape_of-out
shape_of-out c = search entries_ways

pub returns : goal.returns
returns c = entries_end _ _ _ _ _ _ _ _ _ _ _ c.loop-i.invariant c.loop-i-test.false
