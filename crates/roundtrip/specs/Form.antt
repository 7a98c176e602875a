-- What writer and updater write out: the written form of a sound dataset.
use Rattle.std.specs.Prelude.{◌≤◌, ◌≡◌, length}
use Rattle.rules.specs.Written.{Dataset, written_bytes, count}
use Rattle.rules.specs.Outcome.{done}
use Rattle.rules.specs.File.{writable}
use Rattle.rules.specs.Answers.{Written}
use Rattle.sound.specs.Sound.{Sound}

-- the bytes of a dataset, and the count of its records
abbrev pub form_of : Dataset → Written
form_of d = record { bytes = written_bytes d; records = count d }

-- what was written out is the written form of a sound dataset that can be written, and is not too long for a reader
pub record Form (w : Written) (d : Dataset) : Type 0 where
  pub sound : Sound d
  pub is_writable : writable d ≡ done d
  pub is_form : w ≡ form_of d
  pub is_short : length w.bytes ≤ 16777216
