-- A publisher with two updates, and one of its displays, computed: files that come early, twice, late, in pieces, and without room. Assumes nothing.
use Prim.Native.Nat.{ℕ}
use mathlib.Core.Path.{◌≡◌, refl}
use mathlib.Core.Bool.{true}
use mathlib.Core.Option.{some, none}
use mathlib.Core.List.{List, [], ◌∷◌}
use lib.ListN.{take}
use lib.Dec.{eqb}
use Rattle.base.specs.Choice.{pick}
use Rattle.base.specs.Opened.{opened as base_opened}
use Rattle.skeleton.specs.Emit.{emits}
use Rattle.skeleton.specs.Opened.{opened as skeleton_opened}
use Rattle.fields.proofs.ByteLaws.{are_bytes, are_bytes_lem}
use Rattle.fields.specs.Opened.{opened as fields_opened}
use Rattle.fields.specs.declared.Format.TheVariants.{Prid}
use Rattle.forest.specs.Opened.{opened as forest_opened}
use Rattle.rules.specs.Tags.{CSID, PRID}
use Rattle.rules.specs.Written.{Dataset, written_bytes}
use Rattle.rules.specs.Opened.{opened as rules_opened}
use Rattle.rules.proofs.Builders.{numbered, prid, coordinates, c2it, at, general, filler, point_sent, point, only_coordinates}
use Rattle.displays.specs.Display.{Handed, taken, after, shown, number_read, number_shown, number_sent, bears}
use Rattle.displays.specs.Publisher.{Publisher}

-- every definition that the sample goes through
unfoldable pub opened : Unit {0}
unfolding base_opened skeleton_opened fields_opened forest_opened rules_opened numbered prid coordinates c2it general filler point_sent point only_coordinates taken after shown number_read number_shown number_sent bears
opened = tt

-- a dataset with update number 3 and one point, 7
unfoldable pub third : Dataset
third = record { descriptive = filler CSID 1 ∷ []; general = general 3 []; systems = filler CSID 2 ∷ []; records = point ∷ [] }

-- update 4 inserts point 8, and update 5 modifies it
unfoldable pub fourth : List ℕ
fourth = emits 5 5 true ((filler CSID 1 ∷ []) ∷ general 4 [] ∷ point_sent 8 ∷ [])

-- its RVER is 2
unfoldable pub fifth : List ℕ
fifth = emits 5 5 true ((filler CSID 1 ∷ []) ∷ general 5 [] ∷ (numbered PRID Prid (110 ∷ 8 ∷ 2 ∷ 3 ∷ []) ∷ c2it (at 3 4) ∷ []) ∷ [])

-- the publisher
publisher : Publisher
unfolding opened third are_bytes
publisher =
    record {
      source = written_bytes third;
      is_bytes = are_bytes_lem (written_bytes third) refl;
      dataset = third;
      is_read = refl;
      is_writable = refl;
      is_short = refl;
      issued = λ n. pick (eqb n 4) (some fourth) (pick (eqb n 5) (some fifth) none);
    }

-- a file, whole or cut short, with room for a result or for none, and a workspace
handed : (f : List ℕ) → are_bytes f ≡ true → ℕ → ℕ → Handed
handed f e room work = record { file = f; is_bytes = are_bytes_lem f e; room = room; work = work }

-- the numbers that a display shows, one after the other
unfoldable numbers : List ℕ → List Handed → List ℕ
numbers c [] = number_shown c ∷ []
numbers c (h ∷ hs) = number_shown c ∷ numbers (after c h) hs

-- what reaches it: 5 too early, half of 4, 4, 4 again, 5 without room, 5 without workspace, 5, and 4 late
came : List Handed
unfolding opened fourth fifth are_bytes
came =
    handed fifth refl 9999 400000
    ∷ handed (take 100 fourth) refl 9999 400000
    ∷ handed fourth refl 9999 400000
    ∷ handed fourth refl 9999 400000
    ∷ handed fifth refl 99 400000
    ∷ handed fifth refl 9999 399999
    ∷ handed fifth refl 9999 400000
    ∷ handed fourth refl 9999 400000
    ∷ []

-- the numbers
sample : numbers (written_bytes third) came ≡ 3 ∷ 3 ∷ 3 ∷ 4 ∷ 4 ∷ 4 ∷ 4 ∷ 5 ∷ 5 ∷ []
unfolding opened third fourth fifth came handed numbers
sample = refl
