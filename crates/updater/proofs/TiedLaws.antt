-- Number 11 of a dataset: each association names a record that it has. Assumes nothing.
use Prim.Native.Nat.{ℕ}
use mathlib.Core.Path.{◌≡◌, sym, subst, ◌∙◌}
use mathlib.Core.List.{List}
use lib.ListN.{take}
use Rattle.base.specs.Lists.{each, gather, Each}
use Rattle.base.proofs.EachLaws.{each_map}
use Rattle.skeleton.specs.File.{records_from}
use Rattle.rules.specs.Associations.{field_keys, marks, number11}
use Rattle.rules.specs.Record.{Rec, key_of}
use Rattle.rules.specs.Outcome.{done}
use Rattle.rules.specs.File.{references}
use Rattle.updates.proofs.Kept.{every_inv}
use Rattle.sound.proofs.Marks.{Stands, eleven_each, marks_keys}
use Rattle.keys.specs.Listed.{keys_from, has_from}
use Rattle.keys.specs.Numbered.{Numbered}
use Rattle.composing.specs.Tied.{TiedIn, TiedFrom}

-- recs are what the records from start on say
pub references_tied : (f : List ℕ) (start : ℕ) (recs : List Rec) → Numbered recs (keys_from f start)
    → references 1 recs (records_from f start).items ≡ done tt → TiedFrom f start start
unfolding references Numbered has_from TiedIn TiedFrom
references_tied f start recs numbered e =
    each_map (records_from f start).items
    (λ fs passed.
    each_map (gather field_keys fs)
    (λ k stands ranged. sym (numbered (take 2 k) ranged) ∙ stands)
    (subst (Each (Stands (each key_of recs))) (marks_keys 1 fs) (eleven_each (each key_of recs) (marks 1 fs) passed)))
    (every_inv (λ fs. number11 (each key_of recs) (marks 1 fs)) 1 4 (records_from f start).items e)
