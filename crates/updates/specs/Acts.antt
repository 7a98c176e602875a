-- The rules' update records as acts on the records that they name: what makes their steps a run over records with keys.
use Rattle.std.specs.Prelude.{ℕ, List, [], ◌∷◌, eqb}
use Rattle.std.proofs.Math.Option.{Option, some, none}
use Rattle.base.specs.Choice.{pick}
use Rattle.base.specs.Check.{Check}
use Rattle.skeleton.specs.File.{Field}
use Rattle.rules.specs.ByTag.{first_tag, front}
use Rattle.rules.specs.Kind.{kind_of, rcnm, rank}
use Rattle.rules.specs.Grammar.{on_kind}
use Rattle.rules.specs.Record.{Rec, ident_of, key_named, key_of}
use Rattle.rules.specs.Outcome.{Outcome, done, refused}
use Rattle.rules.specs.Change.{change}
use Rattle.rules.specs.declared.Kind.{Kind}
use Rattle.rules.specs.declared.Kind.TheVariants.{Info, Point, Multi, Feature}
use Rattle.sequence.specs.Keyed.{Act, insert, delete, modify, Parts, Ran, done as ran, stop}

-- the kind of an update record, by its first tag
abbrev pub kind_in : List Field → Option Kind
kind_in fs = kind_of (first_tag fs)

-- the place of a key's kind in a dataset, by its RCNM; 0 where it is of no kind
unfoldable pub place_of : List ℕ → ℕ
place_of [] = 0
place_of (n ∷ k) =
    pick (eqb n (rcnm Info)) (rank Info) (pick (eqb n (rcnm Point)) (rank Point) (pick (eqb n (rcnm Multi)) (rank Multi) (pick (eqb n (rcnm Feature)) (rank Feature) 0)))

-- the key that an update record of this kind names
unfoldable pub named_by : Option Kind → List Field → List ℕ
named_by none fs = []
named_by (some k) fs = key_named k fs

-- what RUIN says
unfoldable pub act_of : ℕ → Act
act_of ruin = pick (eqb ruin 1) insert (pick (eqb ruin 2) delete modify)

-- what an update record of this kind does
unfoldable pub done_by : Option Kind → List Field → Act
done_by none fs = modify
done_by (some k) fs = act_of (ident_of k (front fs)).ruin

-- what an update record of this kind makes of the latest version of the record that it names
unfoldable pub changed_by : Option Kind → List Field → Option Rec → Check (Option Rec)
changed_by m fs old = on_kind m (λ k. change k fs old)

-- records and update records of the rules
abbrev pub chart : Parts
chart =
    record {
      Rec = Rec;
      Upd = List Field;
      key = key_of;
      place = place_of;
      names = λ fs. named_by (kind_in fs) fs;
      act = λ fs. done_by (kind_in fs) fs;
      change = λ fs old. changed_by (kind_in fs) fs old;
    }

-- how a run over an update's records ended, as an outcome
unfoldable pub in_update : {A : Type 0} → Ran A → Outcome A
in_update (ran a) = done a
in_update (stop n x) = refused 2 n x
