-- What came from reading and updating is read again from its written form; so demand 3 holds of every publisher. Assumes nothing.
use mathlib.Core.Path.{◌≡◌}
use Rattle.rules.specs.Written.{Dataset}
use Rattle.rules.specs.Outcome.{done}
use Rattle.rules.specs.File.{writable}
use Rattle.updates.proofs.Kept.{result_writable}
use Rattle.sound.specs.Sound.{Sound}
use Rattle.sound.proofs.Read.{read_sound}
use Rattle.sound.proofs.Updated.{updated_sound}
use Rattle.roundtrip.proofs.Dataset.{round_trip}
use Rattle.displays.specs.Publisher.{Publisher}
use Rattle.displays.specs.Demand.{Demand3}
use Rattle.displays.specs.RoundTrip.{Came, came_read, came_updated, RoundTrip}
use Rattle.displays.proofs.Demand.{demand3}

-- what came from reading and updating is sound
pub came_sound : (d : Dataset) → Came d → Sound d
came_sound d (came_read f b e w) = read_sound f d b e
came_sound r (came_updated g u d c b s e) = updated_sound g d u r b (came_sound d c) s e

-- and can be written
pub came_writable : (d : Dataset) → Came d → writable d ≡ done d
came_writable d (came_read f b e w) = w
came_writable r (came_updated g u d c b s e) = result_writable d u r (came_writable d c) e

-- so it is read again
pub trip : RoundTrip
trip = record { again = λ d c. round_trip d (came_sound d c) (came_writable d c) }

-- demand 3, of every publisher
pub demand_three : (P : Publisher) → Demand3 P
demand_three P = demand3 trip P
