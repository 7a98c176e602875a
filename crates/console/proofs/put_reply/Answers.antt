-- `put_reply` meets its contract. Assumes nothing.
use Rattle.console.proofs.CabledLaws.{put_ways}
use Rattle.console.proofs.put_reply.Goals as goal

pub returns-in-Refused : goal.returns-in-Refused
returns-in-Refused c = search put_ways

pub returns-in-Silence : goal.returns-in-Silence
returns-in-Silence c = search put_ways

pub returns-in-Parcel : goal.returns-in-Parcel
returns-in-Parcel c = search put_ways
