-- `act_field` meets its contract. Assumes nothing.
use Rattle.rules.specs.Tags.{ATTR, INAS, COCC, C2IT, SPAS}
use Rattle.acting.proofs.FieldsLaws.{ready_as, acts_as, acts_not}
use Rattle.acting.proofs.part.act_field.Goals as goal

pub act_attr-requires : goal.act_attr-requires
act_attr-requires c = (ready_as _ _ _ _ _ _ c.requires.0 ATTR c.if-tag-eq-ATTR.true, c.requires.6)

pub shape_of-work-then-tag-eq-ATTR : goal.shape_of-work-then-tag-eq-ATTR
shape_of-work-then-tag-eq-ATTR c = c.act_attr.auto.work

pub returns-then-tag-eq-ATTR : goal.returns-then-tag-eq-ATTR
returns-then-tag-eq-ATTR c = acts_as _ _ _ _ _ _ _ _ _ ATTR c.if-tag-eq-ATTR.true (c.act_attr.ensures _)

pub act_inas-requires : goal.act_inas-requires
act_inas-requires c = (ready_as _ _ _ _ _ _ c.requires.0 INAS c.if-tag-eq-INAS.true, c.requires.3, c.requires.5)

pub shape_of-work-then-tag-eq-INAS : goal.shape_of-work-then-tag-eq-INAS
shape_of-work-then-tag-eq-INAS c = c.act_inas.auto.work

pub returns-then-tag-eq-INAS : goal.returns-then-tag-eq-INAS
returns-then-tag-eq-INAS c = acts_as _ _ _ _ _ _ _ _ _ INAS c.if-tag-eq-INAS.true (c.act_inas.ensures _)

pub act_cocc-requires : goal.act_cocc-requires
act_cocc-requires c = (ready_as _ _ _ _ _ _ c.requires.0 COCC c.if-tag-eq-COCC.true, c.requires.1, c.requires.4 c.if-tag-eq-COCC.true)

pub shape_of-work-then-tag-eq-COCC : goal.shape_of-work-then-tag-eq-COCC
shape_of-work-then-tag-eq-COCC c = c.act_cocc.auto.work

pub returns-then-tag-eq-COCC : goal.returns-then-tag-eq-COCC
returns-then-tag-eq-COCC c = acts_as _ _ _ _ _ _ _ _ _ COCC c.if-tag-eq-COCC.true (c.act_cocc.ensures _)

pub act_c2it-requires : goal.act_c2it-requires
act_c2it-requires c = ready_as _ _ _ _ _ _ c.requires.0 C2IT c.if-tag-eq-C2IT.true

pub shape_of-work-then-tag-eq-C2IT : goal.shape_of-work-then-tag-eq-C2IT
shape_of-work-then-tag-eq-C2IT c = c.act_c2it.auto.work

pub returns-then-tag-eq-C2IT : goal.returns-then-tag-eq-C2IT
returns-then-tag-eq-C2IT c = acts_as _ _ _ _ _ _ _ _ _ C2IT c.if-tag-eq-C2IT.true (c.act_c2it.ensures _ _)

pub act_spas-requires : goal.act_spas-requires
act_spas-requires c = (ready_as _ _ _ _ _ _ c.requires.0 SPAS c.if-tag-eq-SPAS.true, c.requires.2, c.requires.3, c.requires.5)

pub shape_of-work-then-tag-eq-SPAS : goal.shape_of-work-then-tag-eq-SPAS
shape_of-work-then-tag-eq-SPAS c = c.act_spas.auto.work

pub returns-then-tag-eq-SPAS : goal.returns-then-tag-eq-SPAS
returns-then-tag-eq-SPAS c = acts_as _ _ _ _ _ _ _ _ _ SPAS c.if-tag-eq-SPAS.true (c.act_spas.ensures _)

pub returns : goal.returns
returns c = acts_not _ _ _ _ _ _ _ c.if-tag-eq-ATTR.false c.if-tag-eq-INAS.false c.if-tag-eq-COCC.false c.if-tag-eq-C2IT.false c.if-tag-eq-SPAS.false
