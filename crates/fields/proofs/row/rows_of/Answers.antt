use mathlib.Core.Path.{sym, ap}
use Rattle.fields.specs.Rows.{shape_of}
use Rattle.fields.proofs.row.rows_of.Goals as goal

pub returns-in-Dsid : goal.returns-in-Dsid
returns-in-Dsid c = ap shape_of (sym c.in-Dsid.is)

pub returns-in-DsidUpdate : goal.returns-in-DsidUpdate
returns-in-DsidUpdate c = ap shape_of (sym c.in-DsidUpdate.is)

pub returns-in-Irid : goal.returns-in-Irid
returns-in-Irid c = ap shape_of (sym c.in-Irid.is)

pub returns-in-IridNew : goal.returns-in-IridNew
returns-in-IridNew c = ap shape_of (sym c.in-IridNew.is)

pub returns-in-Frid : goal.returns-in-Frid
returns-in-Frid c = ap shape_of (sym c.in-Frid.is)

pub returns-in-FridNew : goal.returns-in-FridNew
returns-in-FridNew c = ap shape_of (sym c.in-FridNew.is)

pub returns-in-Prid : goal.returns-in-Prid
returns-in-Prid c = ap shape_of (sym c.in-Prid.is)

pub returns-in-PridNew : goal.returns-in-PridNew
returns-in-PridNew c = ap shape_of (sym c.in-PridNew.is)

pub returns-in-Mrid : goal.returns-in-Mrid
returns-in-Mrid c = ap shape_of (sym c.in-Mrid.is)

pub returns-in-MridNew : goal.returns-in-MridNew
returns-in-MridNew c = ap shape_of (sym c.in-MridNew.is)

pub returns-in-Attr : goal.returns-in-Attr
returns-in-Attr c = ap shape_of (sym c.in-Attr.is)

pub returns-in-InasNew : goal.returns-in-InasNew
returns-in-InasNew c = ap shape_of (sym c.in-InasNew.is)

pub returns-in-AttrNew : goal.returns-in-AttrNew
returns-in-AttrNew c = ap shape_of (sym c.in-AttrNew.is)

pub returns-in-InasGone : goal.returns-in-InasGone
returns-in-InasGone c = ap shape_of (sym c.in-InasGone.is)

pub returns-in-Foid : goal.returns-in-Foid
returns-in-Foid c = ap shape_of (sym c.in-Foid.is)

pub returns-in-Spas : goal.returns-in-Spas
returns-in-Spas c = ap shape_of (sym c.in-Spas.is)

pub returns-in-SpasNew : goal.returns-in-SpasNew
returns-in-SpasNew c = ap shape_of (sym c.in-SpasNew.is)

pub returns-in-Cocc : goal.returns-in-Cocc
returns-in-Cocc c = ap shape_of (sym c.in-Cocc.is)

pub returns-in-C2it : goal.returns-in-C2it
returns-in-C2it c = ap shape_of (sym c.in-C2it.is)

pub returns-in-C2il : goal.returns-in-C2il
returns-in-C2il c = ap shape_of (sym c.in-C2il.is)
