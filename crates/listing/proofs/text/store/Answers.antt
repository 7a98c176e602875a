use Rattle.keys.proofs.TableLaws.{put_past}
use Rattle.listing.proofs.text.store.Goals as goal

pub returns-else-at-out : goal.returns-else-at-out
returns-else-at-out c = search put_past
