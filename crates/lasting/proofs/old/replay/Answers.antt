use Rattle.lasting.proofs.OldLaws.{replay_playing, replayed}
use Rattle.keys.specs.Places.{here}
use borrow.Author.Rules.{rules}
use Rattle.lasting.proofs.old.replay.Goals as goal

pub play_named-requires : goal.play_named-requires
play_named-requires c = let r = c.requires.0 in
    record { short = (r.short, r.rest, r.start, search rules); noted = (c.requires.2, here); playing = replay_playing _ _ _ _ _ r _ _ c.load_at-first.ensures.0 }

pub returns : goal.returns
returns c = let l = c.load_at-first in
    replayed _ _ _ _ _ c.requires.0 _ _ l.ensures.0 c.args.work.now l.ensures.1 _ _ c.play_named.ensures
