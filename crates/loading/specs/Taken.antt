-- What a stored record says, field by field: the record so far takes one field more.
use Rattle.std.specs.Prelude.{List, [], ◌∷◌, ◌++◌, eqb}
use Rattle.base.specs.Choice.{pick}
use Rattle.base.specs.Lists.{each}
use Rattle.skeleton.specs.File.{Field}
use Rattle.fields.specs.Table.{tuple_of}
use Rattle.fields.specs.Content.{many}
use Rattle.fields.specs.declared.Format.TheVariants.{Spas}
use Rattle.rules.specs.Tags.{FOID, ATTR, INAS, SPAS}
use Rattle.rules.specs.Coordinates.{is_coordinates, coords_in}
use Rattle.rules.specs.Trees.{attr_tree}
use Rattle.rules.specs.Record.{Rec, Parts, foid_of, standing, assoc_of, spatial_of}

-- the parts with those of one field more
unfoldable pub take_parts : Field → Parts → Parts
take_parts f p =
    record {
      attributes = pick (eqb f.tag ATTR) (standing (attr_tree f.body)) p.attributes;
      associations = pick (eqb f.tag INAS) (p.associations ++ (assoc_of f.body ∷ [])) p.associations;
      coordinates = pick (is_coordinates f.tag) (p.coordinates ++ coords_in f.body) p.coordinates;
      spatial = pick (eqb f.tag SPAS) (p.spatial ++ each spatial_of (many (tuple_of Spas) f.body)) p.spatial;
    }

-- the record with one field more
unfoldable pub take_field : Field → Rec → Rec
take_field f r =
    record {
      kind = r.kind;
      rcid = r.rcid;
      code = r.code;
      rver = r.rver;
      foid = pick (eqb f.tag FOID) (foid_of f.body) r.foid;
      parts = take_parts f r.parts;
    }

-- with all of these
unfoldable pub take_fields : List Field → Rec → Rec
take_fields [] r = r
take_fields (f ∷ fs) r = take_fields fs (take_field f r)
