-- `load_field` meets its contract. Assumes nothing.
use Rattle.rules.specs.Tags.{FOID, ATTR, INAS, SPAS, C2IT, C2IL}
use mathlib.Core.Path.{refl}
use Rattle.rules.specs.Coordinates.{is_coordinates}
use Rattle.loading.proofs.CoordLaws.{point_ready, list_ready}
use Rattle.loading.proofs.FoidLaws.{foid_took, loads_as, took_as, other_took}
use Rattle.loading.proofs.part.load_field.Goals as goal

pub returns-then-tag-eq-FOID : goal.returns-then-tag-eq-FOID
returns-then-tag-eq-FOID c = took_as _ _ _ _ _ _ c.requires FOID c.if-tag-eq-FOID.true _ _ _ (foid_took _ _ _ _ _ (loads_as _ _ _ _ _ _ c.requires FOID c.if-tag-eq-FOID.true) _)

pub load_attr-requires : goal.load_attr-requires
load_attr-requires c = loads_as _ _ _ _ _ _ c.requires ATTR c.if-tag-eq-ATTR.true

pub returns-then-tag-eq-ATTR : goal.returns-then-tag-eq-ATTR
returns-then-tag-eq-ATTR c = took_as _ _ _ _ _ _ c.requires ATTR c.if-tag-eq-ATTR.true _ _ _ c.load_attr.ensures

pub load_inas-requires : goal.load_inas-requires
load_inas-requires c = loads_as _ _ _ _ _ _ c.requires INAS c.if-tag-eq-INAS.true

pub returns-then-tag-eq-INAS : goal.returns-then-tag-eq-INAS
returns-then-tag-eq-INAS c = took_as _ _ _ _ _ _ c.requires INAS c.if-tag-eq-INAS.true _ _ _ c.load_inas.ensures

pub load_spas-requires : goal.load_spas-requires
load_spas-requires c = loads_as _ _ _ _ _ _ c.requires SPAS c.if-tag-eq-SPAS.true

pub returns-then-tag-eq-SPAS : goal.returns-then-tag-eq-SPAS
returns-then-tag-eq-SPAS c = took_as _ _ _ _ _ _ c.requires SPAS c.if-tag-eq-SPAS.true _ _ _ c.load_spas.ensures

pub load_coords-requires : goal.load_coords-requires
load_coords-requires c = point_ready _ _ _ _ _ (loads_as _ _ _ _ _ _ c.requires C2IT c.if-tag-eq-C2IT.true)

pub returns-then-tag-eq-C2IT : goal.returns-then-tag-eq-C2IT
unfolding is_coordinates
returns-then-tag-eq-C2IT c = took_as _ _ _ _ _ _ c.requires C2IT c.if-tag-eq-C2IT.true _ _ _ (c.load_coords.ensures _ C2IT refl)

pub load_coords-requires-then-tag-eq-C2IL : goal.load_coords-requires-then-tag-eq-C2IL
load_coords-requires-then-tag-eq-C2IL c = list_ready _ _ _ _ _ (loads_as _ _ _ _ _ _ c.requires C2IL c.if-tag-eq-C2IL.true)

pub returns-then-tag-eq-C2IL : goal.returns-then-tag-eq-C2IL
unfolding is_coordinates
returns-then-tag-eq-C2IL c = took_as _ _ _ _ _ _ c.requires C2IL c.if-tag-eq-C2IL.true _ _ _ (c.load_coords-then-tag-eq-C2IL.ensures _ C2IL refl)

pub returns : goal.returns
returns c = other_took _ _ _ _ _ _ c.requires _ c.if-tag-eq-FOID.false c.if-tag-eq-ATTR.false c.if-tag-eq-INAS.false c.if-tag-eq-SPAS.false c.if-tag-eq-C2IT.false c.if-tag-eq-C2IL.false
