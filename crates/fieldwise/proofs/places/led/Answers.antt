use Rattle.fieldwise.proofs.ReaderLaws.{led_ways}
use Rattle.fieldwise.proofs.places.led.Goals as goal

pub returns-in-Ok : goal.returns-in-Ok
returns-in-Ok c = search led_ways

pub returns-in-Err : goal.returns-in-Err
returns-in-Err c = search led_ways
