-- `play_all` meets its contract. Assumes nothing.
use Rattle.history.proofs.CourseLaws.{coursed_played}
use Rattle.history.proofs.playing.play_all.Goals as goal

pub returns : goal.returns
returns c = coursed_played _ _ _ _ _ _ _ _ c.follow-c.ensures
