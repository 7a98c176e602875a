use Rattle.composing.proofs.StandingLaws.{noted_new}
use Rattle.lasting.proofs.named.play_named.Goals as goal

pub play_all-requires : goal.play_all-requires
play_all-requires c = let i = noted_new _ _ _ _ c.requires.noted.0 _ c.new_index.ensures in
    record { short = c.requires.short; sound = (i.0, c.requires.noted.1, i.1); playing = c.requires.playing }
