use Rattle.skeleton.proofs.PlaceLaws.{place_runs, place_in_lem}
use Rattle.listing.proofs.RecordLaws.{record_none, record_unknown, record_ident, record_wrote}
use Rattle.listing.proofs.walk.put_record.Goals as goal

pub rcid-id-requires : goal.rcid-id-requires
rcid-id-requires c = (place_runs _ _ _ _ c.place_at.ensures _ c.in-Some.is, place_in_lem _ _ _ _ c.place_at.ensures _ c.in-Some.is, record_ident _ _ c.requires.2 _ c.place_at.ensures _ c.in-Some.is _ c.kind_of.ensures _ c.in-Some-kind_of.is)

pub rver-version-requires : goal.rver-version-requires
rver-version-requires c = (place_runs _ _ _ _ c.place_at.ensures _ c.in-Some.is, place_in_lem _ _ _ _ c.place_at.ensures _ c.in-Some.is, record_ident _ _ c.requires.2 _ c.place_at.ensures _ c.in-Some.is _ c.kind_of.ensures _ c.in-Some-kind_of.is)

pub returns : goal.returns
returns c = record_wrote _ _ c.requires.2 _ c.place_at.ensures _ c.in-Some.is _ c.kind_of.ensures _ c.in-Some-kind_of.is _ _ _ _ _ _ _ _ _ c.rcid-id.ensures c.rver-version.ensures c.entries.ensures c.tuples.ensures c.put_line.ensures

pub returns-in_default-kind_of : goal.returns-in_default-kind_of
returns-in_default-kind_of c = absurd (record_unknown _ _ c.requires.2 _ c.place_at.ensures _ c.in-Some.is _ c.kind_of.ensures c.in_default-kind_of.is)

pub returns-in_default : goal.returns-in_default
returns-in_default c = absurd (record_none _ _ c.requires.2 _ c.place_at.ensures c.in_default.is)
