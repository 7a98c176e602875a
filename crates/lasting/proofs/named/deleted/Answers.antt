use Rattle.composing.proofs.StandingLaws.{noted_new}
use Rattle.lasting.proofs.named.deleted.Goals as goal

pub deleted_from-requires : goal.deleted_from-requires
deleted_from-requires c = let i = noted_new _ _ _ _ c.requires.0 _ c.new_index.ensures in (i.0, c.requires.1, i.1)
