-- A test that is looked at again as a whole only if something was noticed on the way. Assumes nothing.
use mathlib.Core.Path.{◌≡◌, refl, ◌∙◌}
use mathlib.Core.Bool.{Bool, true, false}
use Rattle.std.specs.Prelude.{Result, Ok}
use Rattle.base.specs.Choice.{either}
use Rattle.base.specs.declared.Fault.{Fault}
use Rattle.contents.specs.Answers.{since}

-- ---- on the way

pub since_start : (whole : Result (Unit {0}) Fault) → since false whole whole ≡ whole
unfolding since
since_start whole = refl

-- by a field of which t says whether it is to be noticed
pub since_by : (whole left rest : Result (Unit {0}) Fault) (t : Bool) → (t ≡ false → left ≡ whole → rest ≡ whole) → (c : Bool) → since c whole left ≡ whole
    → since (either c t) whole rest ≡ whole
unfolding since
since_by whole left rest t turn true k = refl
since_by whole left rest true turn false k = refl
since_by whole left rest false turn false k = turn refl k

-- ---- at the end, where nothing is left

pub again_noticed : (whole v : Result (Unit {0}) Fault) (c : Bool) → c ≡ true → v ≡ whole → v ≡ since c whole (Ok tt)
unfolding since
again_noticed whole v c z e = rw z e

pub again_plain : (whole : Result (Unit {0}) Fault) (c : Bool) → c ≡ false → Ok tt ≡ since c whole (Ok tt)
unfolding since
again_plain whole c z = rw z

pub ruleset again_ways = (again_noticed, again_plain)

pub again_whole : (whole left v : Result (Unit {0}) Fault) (c : Bool) → since c whole left ≡ whole → (left ≡ whole → Ok tt ≡ whole) → v ≡ since c whole (Ok tt) → v ≡ whole
unfolding since
again_whole whole left v true k done e = e
again_whole whole left v false k done e = e ∙ done k
