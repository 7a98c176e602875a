-- `fits` meets its contract. Assumes nothing.
use Rattle.changing.proofs.ActLaws.{too_long, long_fits}
use Rattle.changing.proofs.acts.fits.Goals as goal

pub returns-then-version_length-gt99999 : goal.returns-then-version_length-gt99999
returns-then-version_length-gt99999 c = too_long _ _ _ _ _ c.version_length.ensures c.if-version_length-gt99999.true

pub returns : goal.returns
returns c = long_fits _ _ _ _ _ c.version_length.ensures c.if-version_length-gt99999.false
