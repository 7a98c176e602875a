use Rattle.listing.proofs.LineLaws.{tag_info, tag_point, tag_multi, tag_feature}
use Rattle.listing.proofs.lines.put_tag.Goals as goal

pub returns-in-Info : goal.returns-in-Info
returns-in-Info c = tag_info _ _ _ _ _ c.in-Info.is c.put_text.ensures

pub returns-in-Point : goal.returns-in-Point
returns-in-Point c = tag_point _ _ _ _ _ c.in-Point.is c.put_text-in-Point.ensures

pub returns-in-Multi : goal.returns-in-Multi
returns-in-Multi c = tag_multi _ _ _ _ _ c.in-Multi.is c.put_text-in-Multi.ensures

pub returns-in-Feature : goal.returns-in-Feature
returns-in-Feature c = tag_feature _ _ _ _ _ c.in-Feature.is c.put_text-in-Feature.ensures
